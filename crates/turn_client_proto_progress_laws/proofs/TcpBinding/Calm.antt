-- If nothing in a client's allocation has expired, or is to be renewed, time changes nothing.
use Rattle.std.proofs.Common.{◌≡◌, ℕ, ◌<◌, ◌-◌, arith, Bool, true, false, List, [], ◌∷◌, Option, Some, None, refl, ap, ◌∙◌, map as map_list}
use Rattle.std.specs.Prelude.{◌&&◌, ◌||◌, filter, find, if◌then◌else◌, nat_le, not}
use Rattle.std.specs.Option.{option_map}
use Rattle.std.proofs.lemmas.Bool.{lt-leb, lt-ltb}
use Rattle.turn_client_proto_messages.specs.Allocation.Permissions.{are_none, has_expired, permission_renewal, polled_permission, polled_permissions, wants_renewal}
use Rattle.turn_client_proto_messages.specs.Allocation.Polling.{polled, stays}
use Rattle.turn_client_proto_messages.specs.Allocation.Refreshing.{ahead, renewal, wants_refresh}
use Rattle.turn_client_proto_messages.specs.Allocation.declared.allocation.Allocation.{Allocation}
use Rattle.turn_client_proto_messages.specs.Allocation.declared.connection.Connecting.{Connecting}
use Rattle.turn_client_proto_messages.specs.Allocation.declared.permission.PendingPermission.{PendingPermission}
use Rattle.turn_client_proto_messages.specs.Allocation.declared.permission.Permission.{Permission}
use Rattle.turn_client_proto_step_laws.specs.Peers.Channel.Expiring as channels
use Rattle.turn_client_proto_step_laws.specs.Peers.Channel.Wanting as channels_wanted
use Rattle.turn_client_proto_step_laws.specs.Connection.Expiring as joined
use Rattle.turn_client_proto_step_laws.specs.Connection.Reported.{given_up}
use Rattle.turn_client_proto_step_laws.specs.Peers.Permission.Reporting as permissions_reported
use Rattle.turn_client_proto_step_laws.specs.Peers.Permission.Wanting as permissions_wanted
use Rattle.turn_client_proto_step_laws.specs.Timers.Reporting as reporting
use Rattle.turn_client_proto_step_laws.specs.Timers.Wanting.{want, wanted}
use Rattle.turn_client_proto_progress_laws.specs.Holders.{Holder}
use Rattle.turn_client_proto_progress_laws.specs.TcpBinding.{allocation_with}
use Rattle.turn_client_proto_progress_laws.specs.Resting.{AreStanding, IsResting}
use Rattle.turn_client_proto_progress_laws.proofs.TcpBinding.Polled.{IsCalm}

-- ---- lists

pub all_pass : {X : Type 0} (xs : List X) → filter (λ (x : X). true) xs ≡ xs
all_pass [] = refl
all_pass (x ∷ xs) = ap (λ (l : List _). x ∷ l) (all_pass xs)

pub none_passes : {X : Type 0} (xs : List X) → filter (λ (x : X). false) xs ≡ []
none_passes [] = refl
none_passes (x ∷ xs) = none_passes xs

-- Nothing, of either type.
abbrev nothing_of : (X : Type 0) → Option X
nothing_of X = None

either_none : {X : Type 0} (b : Bool) → (if b then nothing_of X else nothing_of X) ≡ nothing_of X
either_none true = refl
either_none false = refl

-- ---- permissions

module _ (now : ℕ) where
  not_expired : (x : Permission) → now < permission_renewal x → has_expired now x ≡ false
  not_expired x early = lt-leb x.expiry now (omega (arith, early))

  stored_on : (permissions : List Permission) → AreStanding now permissions → polled_permissions None now permissions ≡ permissions
  unfolding polled_permission
  stored_on [] standing = refl
  stored_on (x ∷ rest) standing =
      ap (λ (b : Bool). map_list (polled_permission None) (if not b then x ∷ filter (λ p. not (has_expired now p)) rest else filter (λ p. not (has_expired now p)) rest)) (not_expired x standing.1)
      ∙ ap (λ (l : List Permission). x ∷ l) (stored_on rest standing.2)

  none_expired : (permissions : List Permission) → AreStanding now permissions → filter (has_expired now) permissions ≡ []
  none_expired [] standing = refl
  none_expired (x ∷ rest) standing =
      ap (λ (b : Bool). if b then x ∷ filter (has_expired now) rest else filter (has_expired now) rest) (not_expired x standing.1) ∙ none_expired rest standing.2

  not_and : (a b : Bool) → (a && (b && false)) ≡ false
  not_and true true = refl
  not_and true false = refl
  not_and false b = refl

  unrenewed : (x : Permission) → now < permission_renewal x → wants_renewal now x ≡ false
  unrenewed x early =
      ap (λ (b : Bool). nat_le now x.expiry && (are_none x.renewals && b)) (lt-leb (permission_renewal x) now early)
      ∙ not_and (nat_le now x.expiry) (are_none x.renewals)

  none_renewed : (permissions : List Permission) → AreStanding now permissions → find (wants_renewal now) permissions ≡ None
  none_renewed [] standing = refl
  none_renewed (x ∷ rest) standing =
      ap (λ (b : Bool). if b then Some x else find (wants_renewal now) rest) (unrenewed x standing.1) ∙ none_renewed rest standing.2

module _ (h : Holder) (permissions : List Permission) (now : ℕ) (r : IsResting h permissions now) (pending : List PendingPermission) (connecting : List Connecting) where
  abbrev a : Allocation
  a = allocation_with h permissions pending connecting [] []

  before_end : now < a.expiry
  before_end = let early = r.before in omega (arith, early)

  stays_on : stays None now a ≡ true
  unfolding stays
  stays_on = ap (λ (b : Bool). b || (false && (false && true))) (lt-ltb now a.expiry before_end)

  as_it_was : polled None a ≡ a
  unfolding polled
  as_it_was = refl

  same : reporting.polled None now a ≡ a
  unfolding permissions_reported.polled channels.polled channels.expired joined.polled given_up
  same =
      ap (λ (l : List Permission). allocation_with h l (filter (λ (x : PendingPermission). true) pending) (filter (λ (x : Connecting). true) connecting) [] []) (stored_on now permissions r.standing)
      ∙ (ap (λ (l : List PendingPermission). allocation_with h permissions l (filter (λ (x : Connecting). true) connecting) [] []) (all_pass pending)
      ∙ ap (λ (l : List Connecting). allocation_with h permissions pending l [] []) (all_pass connecting))

  silent : reporting.failures None now a ≡ []
  unfolding reporting.failures reporting.relay_failures reporting.connection_failures
  silent = rw (none_expired now permissions r.standing, none_passes pending, none_passes connecting) refl

  pub calm : IsCalm now a
  calm = record {
    none_unasked = refl;
    stays_on = stays_on;
    same = ap (reporting.polled None now) as_it_was ∙ same;
    as_it_was = as_it_was;
    silent = silent;
    none_gone = refl;
  }

  -- ---- nothing is to be renewed

  no_refresh : wants_refresh now a ≡ false
  unfolding wants_refresh renewal
  no_refresh =
      ap (λ (b : Bool). nat_le now a.expiry && b) (lt-leb (a.expiry - ahead h.lifetime) now r.before) ∙ none (nat_le now a.expiry)
    where
      none : (b : Bool) → (b && false) ≡ false
      none true = refl
      none false = refl

  no_channel : channels_wanted.renewal_wanted now a ≡ None
  unfolding channels_wanted.renewal_wanted
  no_channel = either_none (nat_le now a.expiry)

  no_permission : permissions_wanted.renewal_wanted now a ≡ None
  unfolding permissions_wanted.renewal_wanted
  no_permission =
      ap (λ (o : Option Permission). if nat_le now a.expiry then option_map (λ (p : Permission). p.ip) o else None) (none_renewed now permissions r.standing)
      ∙ either_none (nat_le now a.expiry)

  wants_none : want now a ≡ None
  unfolding want
  wants_none = rw (no_refresh, no_channel, no_permission) refl

  pub none_wanted : wanted now (a ∷ []) ≡ None
  none_wanted = rw wants_none refl
