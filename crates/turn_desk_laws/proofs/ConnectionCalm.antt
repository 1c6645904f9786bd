-- If nothing that a client holds has expired, or is to be renewed, time changes nothing, whatever connections it
-- requested.
use Rattle.std.proofs.Common.{◌≡◌, ℕ, ◌<◌, ◌≤◌, ◌+◌, ◌-◌, ◌++◌, suc, arith, Bool, true, false, List, [], ◌∷◌, Option, Some, None, refl, ap, ◌∙◌, map as map_list}
use Rattle.std.specs.Prelude.{◌&&◌, ◌||◌, IfSome, filter, find, if◌then◌else◌, nat_le, not, option_to_list, take, drop}
use Rattle.std.specs.List.{list_any, prefix_len}
use Rattle.std.specs.Option.{option_and_then, option_map}
use Rattle.std.proofs.lemmas.Bool.{le-ltb, lt-leb, lt-ltb}
use Rattle.std.specs.declared.net.socket_addr.SocketAddr.{SocketAddr}
use Rattle.turn_client_proto_messages.specs.Allocation.Permissions.{are_none, has_expired, permission_renewal, polled_permission, polled_permissions, wants_renewal}
use Rattle.turn_client_proto_messages.specs.Allocation.Polling.{polled, stays}
use Rattle.turn_client_proto_messages.specs.Allocation.Refreshing.{ahead, renewal, wants_refresh}
use Rattle.turn_client_proto_messages.specs.Allocation.declared.allocation.Allocation.{Allocation}
use Rattle.turn_client_proto_messages.specs.Allocation.declared.connection.Binding.{Binding}
use Rattle.turn_client_proto_messages.specs.Allocation.declared.connection.Connecting.{Connecting}
use Rattle.turn_client_proto_messages.specs.Allocation.declared.connection.Connection.{Connection}
use Rattle.turn_client_proto_messages.specs.Allocation.declared.connection.Waiting.{Waiting}
use Rattle.turn_client_proto_messages.specs.Allocation.declared.permission.PendingPermission.{PendingPermission}
use Rattle.turn_client_proto_messages.specs.Allocation.declared.permission.Permission.{Permission}
use Rattle.turn_client_proto_step_laws.specs.Peers.Channel.Expiring as channels
use Rattle.turn_client_proto_step_laws.specs.Peers.Channel.Wanting as channels_wanted
use Rattle.turn_client_proto_step_laws.specs.Connection.Attempts.{is_lost, not_lost, peers_lost}
use Rattle.turn_client_proto_step_laws.specs.Connection.Expiring as joined
use Rattle.turn_client_proto_step_laws.specs.Connection.Reported.{given_up}
use Rattle.turn_client_proto_step_laws.specs.Connection.Waiting.{has_unasked, is_unasked, unasked, unasked_of}
use Rattle.turn_client_proto_step_laws.specs.Peers.Permission.Reporting as permissions_reported
use Rattle.turn_client_proto_step_laws.specs.Peers.Permission.Wanting as permissions_wanted
use Rattle.turn_client_proto_step_laws.specs.Timers.Reporting as reporting
use Rattle.turn_client_proto_step_laws.specs.Timers.Wanting.{want, wanted}
use Rattle.turn_client_proto_progress_laws.specs.Holders.{Holder}
use Rattle.turn_client_proto_progress_laws.specs.TcpBinding.{allocation_with}
use Rattle.turn_client_proto_progress_laws.specs.Resting.{AreStanding, IsResting}
use Rattle.turn_client_proto_progress_laws.proofs.TcpBinding.Calm.{all_pass, none_passes}
use Rattle.turn_client_proto_progress_laws.proofs.TcpBinding.Polled.{IsCalm}
use Rattle.turn_desk_laws.specs.ConnectionRequests.{AreRequestsMade, AreInTime}

abbrev nothing_of : (X : Type 0) → Option X
nothing_of X = None

either_none : {X : Type 0} (b : Bool) → (if b then nothing_of X else nothing_of X) ≡ nothing_of X
either_none true = refl
either_none false = refl

-- ---- permissions

module _ (now : ℕ) where
  not_expired : (x : Permission) → now < permission_renewal x → has_expired now x ≡ false
  not_expired x early = lt-leb x.expiry now (omega (arith, early))

  stored_on : (permissions : List Permission) → AreStanding now permissions → polled_permissions None now permissions ≡ permissions
  unfolding polled_permission
  stored_on [] standing = refl
  stored_on (x ∷ rest) standing =
      ap (λ (b : Bool). map_list (polled_permission None) (if not b then x ∷ filter (λ p. not (has_expired now p)) rest else filter (λ p. not (has_expired now p)) rest)) (not_expired x standing.1)
      ∙ ap (λ (l : List Permission). x ∷ l) (stored_on rest standing.2)

  none_expired : (permissions : List Permission) → AreStanding now permissions → filter (has_expired now) permissions ≡ []
  none_expired [] standing = refl
  none_expired (x ∷ rest) standing =
      ap (λ (b : Bool). if b then x ∷ filter (has_expired now) rest else filter (has_expired now) rest) (not_expired x standing.1) ∙ none_expired rest standing.2

  not_and : (a b : Bool) → (a && (b && false)) ≡ false
  not_and true true = refl
  not_and true false = refl
  not_and false b = refl

  unrenewed : (x : Permission) → now < permission_renewal x → wants_renewal now x ≡ false
  unrenewed x early =
      ap (λ (b : Bool). nat_le now x.expiry && (are_none x.renewals && b)) (lt-leb (permission_renewal x) now early)
      ∙ not_and (nat_le now x.expiry) (are_none x.renewals)

  none_renewed : (permissions : List Permission) → AreStanding now permissions → find (wants_renewal now) permissions ≡ None
  none_renewed [] standing = refl
  none_renewed (x ∷ rest) standing =
      ap (λ (b : Bool). if b then Some x else find (wants_renewal now) rest) (unrenewed x standing.1) ∙ none_renewed rest standing.2

  -- ---- connections that have a socket

  in_time_still : (o : Option Binding) → IfSome o (λ b. now ≤ b.expiry) → joined.is_unanswered None now o ≡ false
  in_time_still None early = refl
  in_time_still (Some b) early = le-ltb b.expiry now early

  none_gone : (connections : List Connection) → AreInTime now connections → filter (joined.has_gone None now) connections ≡ []
  none_gone [] early = refl
  none_gone (x ∷ rest) early =
      ap (λ (b : Bool). if b then x ∷ filter (joined.has_gone None now) rest else filter (joined.has_gone None now) rest) (in_time_still x.awaited early.0)
      ∙ none_gone rest early.1

  all_left : (connections : List Connection) → AreInTime now connections → joined.not_gone None now connections ≡ connections
  all_left [] early = refl
  all_left (x ∷ rest) early =
      ap (λ (b : Bool). if not b then x ∷ joined.not_gone None now rest else joined.not_gone None now rest) (in_time_still x.awaited early.0)
      ∙ ap (λ (l : List Connection). x ∷ l) (all_left rest early.1)

-- ---- connections that wait for one

all_wait : (waiting : List Waiting) → not_lost None waiting ≡ waiting
all_wait [] = refl
all_wait (x ∷ rest) =
    let m : ℕ = prefix_len (λ (y : Waiting). not (is_lost None y)) rest in
    let one : 1 + m ≡ suc m = omega arith in
    let two : (1 + m) + 1 ≡ suc (m + 1) = omega arith in
    ap (λ (j : ℕ). take j (x ∷ rest) ++ drop ((1 + m) + 1) (x ∷ rest)) one
    ∙ (ap (λ (j : ℕ). take (suc m) (x ∷ rest) ++ drop j (x ∷ rest)) two ∙ ap (λ (l : List Waiting). x ∷ l) (all_wait rest))

none_found : (waiting : List Waiting) → find (is_lost None) waiting ≡ None
none_found [] = refl
none_found (x ∷ rest) = none_found rest

none_lost : (waiting : List Waiting) → peers_lost None waiting ≡ []
none_lost waiting = ap (λ (o : Option Waiting). map_list (λ (w : Waiting). w.peer) (option_to_list o)) (none_found waiting)

all_asked : (waiting : List Waiting) → AreRequestsMade waiting → list_any is_unasked waiting ≡ false
all_asked [] request_made = refl
all_asked (x ∷ rest) request_made = ap (λ (b : Bool). not b || list_any is_unasked rest) request_made.0 ∙ all_asked rest request_made.1

module _ (h : Holder) (permissions : List Permission) (now : ℕ) (r : IsResting h permissions now) (pending : List PendingPermission) (connecting : List Connecting) (waiting : List Waiting) (connections : List Connection) where
  abbrev a : Allocation
  a = allocation_with h permissions pending connecting waiting connections

  before_end : now < a.expiry
  before_end = let early = r.before in omega (arith, early)

  stays_on : stays None now a ≡ true
  unfolding stays
  stays_on = ap (λ (b : Bool). b || (false && (false && true))) (lt-ltb now a.expiry before_end)

  as_it_was : polled None a ≡ a
  unfolding polled
  as_it_was = refl

  module _ (request_made : AreRequestsMade waiting) (early : AreInTime now connections) where
    same : reporting.polled None now a ≡ a
    unfolding permissions_reported.polled channels.polled channels.expired joined.polled given_up
    same =
        ap (λ (l : List Permission). allocation_with h l (filter (λ (x : PendingPermission). true) pending) (filter (λ (x : Connecting). true) connecting) (not_lost None waiting) (joined.not_gone None now connections)) (stored_on now permissions r.standing)
        ∙ (ap (λ (l : List PendingPermission). allocation_with h permissions l (filter (λ (x : Connecting). true) connecting) (not_lost None waiting) (joined.not_gone None now connections)) (all_pass pending)
        ∙ (ap (λ (l : List Connecting). allocation_with h permissions pending l (not_lost None waiting) (joined.not_gone None now connections)) (all_pass connecting)
        ∙ (ap (λ (l : List Waiting). allocation_with h permissions pending connecting l (joined.not_gone None now connections)) (all_wait waiting)
        ∙ ap (λ (l : List Connection). allocation_with h permissions pending connecting waiting l) (all_left now connections early))))

    silent : reporting.failures None now a ≡ []
    unfolding reporting.failures reporting.relay_failures reporting.connection_failures
    silent = rw (none_expired now permissions r.standing, none_passes pending, none_passes connecting, none_gone now connections early, none_found waiting) refl

    unasked_none : unasked (a ∷ []) ≡ None
    unasked_none = ap (λ (b : Bool). option_and_then unasked_of (if b then Some a else None)) (all_asked waiting request_made)

    pub calm : IsCalm now a
    calm = record {
      none_unasked = unasked_none;
      stays_on = stays_on;
      same = ap (reporting.polled None now) as_it_was ∙ same;
      as_it_was = as_it_was;
      silent = silent;
      none_gone = ap (λ (l : List Connection). map_list (λ (c : Connection). c.here) l) (none_gone now connections early);
    }

  -- ---- nothing is to be renewed

  no_refresh : wants_refresh now a ≡ false
  unfolding wants_refresh renewal
  no_refresh =
      ap (λ (b : Bool). nat_le now a.expiry && b) (lt-leb (a.expiry - ahead h.lifetime) now r.before) ∙ none (nat_le now a.expiry)
    where
      none : (b : Bool) → (b && false) ≡ false
      none true = refl
      none false = refl

  no_channel : channels_wanted.renewal_wanted now a ≡ None
  unfolding channels_wanted.renewal_wanted
  no_channel = either_none (nat_le now a.expiry)

  no_permission : permissions_wanted.renewal_wanted now a ≡ None
  unfolding permissions_wanted.renewal_wanted
  no_permission =
      ap (λ (o : Option Permission). if nat_le now a.expiry then option_map (λ (p : Permission). p.ip) o else None) (none_renewed now permissions r.standing)
      ∙ either_none (nat_le now a.expiry)

  wants_none : want now a ≡ None
  unfolding want
  wants_none = rw (no_refresh, no_channel, no_permission) refl

  pub none_wanted : wanted now (a ∷ []) ≡ None
  none_wanted = rw wants_none refl
