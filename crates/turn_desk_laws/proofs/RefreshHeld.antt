-- An allocation that awaits the response to a REFRESH, also after earlier ones were challenged.
use Rattle.std.proofs.Common.{◌≡◌, ℕ, ◌+◌, ◌<◌, Bool, true, false, List, [], ◌∷◌, ◌++◌, Option, Some, None, refl, ap, ◌∙◌, map as map_list}
use Rattle.std.specs.Prelude.{nat_le, not, ◌==◌, ◌&&◌, ◌||◌, if◌then◌else◌, is_some, find}
use Rattle.std.specs.Option.{option_and_then, option_map, option_or}
use Rattle.std.proofs.lemmas.Bool.{lt-ltb, eq-eqb}
use Rattle.std.specs.declared.net.ip_addr.IpAddr.{IpAddr}
use Rattle.std.specs.declared.net.socket_addr.SocketAddr.{SocketAddr}
use Rattle.turn_client_proto_messages.specs.Allocation.Channels.{wants_renewal as channel_wants}
use Rattle.turn_client_proto_step_laws.specs.Peers.Channel.Expiring as channels
use Rattle.turn_client_proto_step_laws.specs.Peers.Channel.Wanting as channel_wanting
use Rattle.turn_client_proto_step_laws.specs.Connection.Expiring as joined
use Rattle.turn_client_proto_step_laws.specs.Connection.Reported.{given_up}
use Rattle.turn_client_proto_step_laws.specs.Peers.Permission.Reporting as permissions
use Rattle.turn_client_proto_step_laws.specs.Peers.Permission.Wanting as permission_wanting
use Rattle.turn_client_proto_step_laws.specs.Timers.Reporting as reporting
use Rattle.turn_client_proto_step_laws.specs.Timers.Wanting.{channel_wanted, permission_wanted, want, wanted}
use Rattle.turn_client_proto_step_laws.specs.Timers.declared.wanting.Want.{Want}
use Rattle.turn_client_proto_step_laws.specs.Timers.declared.wanting.Want.TheVariants.{Channel, Permission, Refresh}
use Rattle.turn_client_proto_messages.specs.Allocation.Permissions.{wants_renewal}
use Rattle.turn_client_proto_messages.specs.Allocation.Polling.{has_ended, stored, polled, stays}
use Rattle.turn_client_proto_messages.specs.Allocation.Refreshing.{is_settled, lifetime_requested, renewal, wants_refresh}
use Rattle.turn_client_proto_messages.specs.Allocation.declared.allocation.Allocation.{Allocation}
use Rattle.turn_client_proto_messages.specs.Allocation.declared.channel.Channel.{Channel as OneChannel}
use Rattle.turn_client_proto_messages.specs.Allocation.declared.permission.Permission.{Permission as OnePermission}
use Rattle.turn_client_proto_messages.specs.Allocation.declared.refresh.PendingRefresh.{PendingRefresh}
use Rattle.turn_client_proto_messages.specs.Api.Options.{allocation_lifetime}
use Rattle.turn_client_proto_handshake_laws.specs.Sent.{Beginning}
use Rattle.turn_client_proto_progress_laws.specs.Keeping.{Term, held_for}
use Rattle.turn_client_proto_progress_laws.proofs.Renewing.Lasting.{expiry}
use Rattle.turn_desk_laws.specs.RefreshStages.{request_made_as, request_made_by}

-- ---- the REFRESHs

-- One is outstanding.
pub unsettled : (earlier : List ℕ) (number : ℕ) → is_settled (request_made_by (earlier ++ number ∷ [])) ≡ false
unsettled [] number = refl
unsettled (n ∷ rest) number = refl

-- Each requests the same lifetime.
pub lifetime_found : (earlier : List ℕ) (number sought : ℕ) → sought ≡ number → lifetime_requested sought (request_made_by (earlier ++ number ∷ [])) ≡ Some allocation_lifetime
lifetime_found [] number sought same =
    ap (λ (x : Bool). option_map (λ (r : PendingRefresh). r.lifetime) (if x then Some (request_made_as number) else None)) (eq-eqb number sought (sym_of sought number same))
  where
    sym_of : (a b : ℕ) → a ≡ b → b ≡ a
    sym_of a b is = Prim.cc is
lifetime_found (n ∷ rest) number sought same = by (n == sought) (lifetime_found rest number sought same)
  where
    by : (x : Bool) → lifetime_requested sought (request_made_by (rest ++ number ∷ [])) ≡ Some allocation_lifetime
        → option_map (λ (r : PendingRefresh). r.lifetime) (if x then Some (request_made_as n) else find (λ (r : PendingRefresh). r.number == sought) (request_made_by (rest ++ number ∷ []))) ≡ Some allocation_lifetime
    by true later = refl
    by false later = later

-- ---- the allocation

module _ (b : Beginning) (address : SocketAddr) (t : Term) (earlier : List ℕ) (number now : ℕ) where
  abbrev pub asking : List PendingRefresh
  asking = request_made_by (earlier ++ number ∷ [])

  abbrev pub pending : Allocation
  pending = held_for b address t asking

  unwanted : wants_refresh now pending ≡ false
  unfolding wants_refresh
  unwanted = ap (λ (x : Bool). nat_le now (expiry b address t) && (x && nat_le (renewal pending) now)) (unsettled earlier number) ∙ no_and (nat_le now (expiry b address t))
    where
      no_and : (x : Bool) → (x && false) ≡ false
      no_and true = refl
      no_and false = refl

  no_permission : permission_wanting.renewal_wanted now pending ≡ None
  unfolding permission_wanting.renewal_wanted
  no_permission = none_of (permission_wanting.occurs now pending)
    where
      none_of : (x : Bool) → (if x then option_map (λ (p : OnePermission). p.ip) (find (wants_renewal now) []) else None) ≡ None
      none_of true = refl
      none_of false = refl

  no_channel : channel_wanting.renewal_wanted now pending ≡ None
  unfolding channel_wanting.renewal_wanted
  no_channel = none_of (permission_wanting.occurs now pending)
    where
      none_of : (x : Bool) → (if x then option_map {U = ℕ × SocketAddr} (λ (c : OneChannel). (c.number, c.peer)) (find (channel_wants now) []) else None) ≡ None
      none_of true = refl
      none_of false = refl

  want_none : want now pending ≡ None
  unfolding want
  want_none =
      ap (λ (x : Bool). if x then Some Refresh else option_or (channel_wanted now pending) (permission_wanted now pending)) unwanted
      ∙ (ap (λ (o : Option (ℕ × SocketAddr)). option_or (option_map (λ (c : ℕ × SocketAddr). Channel c.0 c.1) o) (permission_wanted now pending)) no_channel
      ∙ ap (λ (o : Option IpAddr). option_map Permission o) no_permission)

  pub wanted_none : wanted now (pending ∷ []) ≡ None
  wanted_none = ap (λ (o : Option Want). option_and_then (want now) (if is_some o then Some pending else None)) want_none

  module _ (before : now < expiry b address t) where
    stays_on : stays None now pending ≡ true
    unfolding stays
    stays_on = ap (λ (x : Bool). x || (false && (not (is_settled asking) && not (has_ended None asking)))) (lt-ltb now (expiry b address t) before)

    stored_is : stored None now (pending ∷ []) ≡ pending ∷ []
    stored_is = ap (λ (x : Bool). if x then pending ∷ [] else []) stays_on

    polled_is : polled None pending ≡ pending
    unfolding polled
    polled_is = refl

    pub left_is : map_list (polled None) (stored None now (pending ∷ [])) ≡ pending ∷ []
    left_is = ap (λ (l : List Allocation). map_list (polled None) l) stored_is ∙ ap (λ (x : Allocation). x ∷ []) polled_is

    pub untouched : map_list (reporting.polled None now) (pending ∷ []) ≡ pending ∷ []
    unfolding joined.polled channels.polled channels.expired permissions.polled given_up
    untouched = refl

    pub none_decoded : reporting.all_failures None now (pending ∷ []) ≡ []
    unfolding reporting.failures reporting.relay_failures reporting.connection_failures
    none_decoded = refl
