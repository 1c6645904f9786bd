-- An allocation that lasts for a term: what is to be sent for it at a time, and what a poll does to it.
use Rattle.std.proofs.Common.{◌≡◌, ℕ, ◌+◌, ◌-◌, ◌*◌, ◌/◌, ◌<◌, ◌≤◌, arith, Bool, true, false, List, [], ◌∷◌, Option, Some, None, refl, ap, ◌∙◌, map as map_list}
use Rattle.std.specs.Prelude.{nat_le, ◌&&◌, ◌||◌, max, if◌then◌else◌, is_some, find}
use Rattle.std.specs.List.{cons_option}
use Rattle.std.specs.Option.{option_and_then, option_map, option_or}
use Rattle.std.proofs.lemmas.Bool.{le-leb, lt-leb, lt-ltb}
use Rattle.std.specs.declared.net.ip_addr.IpAddr.{IpAddr}
use Rattle.std.specs.declared.net.socket_addr.SocketAddr.{SocketAddr}
use Rattle.turn_client_proto_messages.specs.StunTypesBase.Times.{time_after}
use Rattle.turn_client_proto_step_laws.specs.Peers.Channel.Expiring as channels
use Rattle.turn_client_proto_messages.specs.Allocation.Channels.{wants_renewal as channel_wants}
use Rattle.turn_client_proto_step_laws.specs.Peers.Channel.Wanting as channel_wanting
use Rattle.turn_client_proto_step_laws.specs.Connection.Expiring as joined
use Rattle.turn_client_proto_step_laws.specs.Connection.Reported.{given_up}
use Rattle.turn_client_proto_step_laws.specs.Peers.Permission.Reporting as permissions
use Rattle.turn_client_proto_step_laws.specs.Peers.Permission.Wanting as permission_wanting
use Rattle.turn_client_proto_step_laws.specs.Timers.Reporting as reporting
use Rattle.turn_client_proto_step_laws.specs.Timers.Wanting.{channel_wanted, permission_wanted, refreshed_first, want, wanted}
use Rattle.turn_client_proto_step_laws.specs.Timers.declared.wanting.Want.{Want}
use Rattle.turn_client_proto_step_laws.specs.Timers.declared.wanting.Want.TheVariants.{Channel, Refresh, Permission}
use Rattle.turn_client_proto_messages.specs.Allocation.Permissions.{wants_renewal}
use Rattle.turn_client_proto_messages.specs.Allocation.Polling.{stored, next_of as next_of_allocation, nexts, polled, stays}
use Rattle.turn_client_proto_messages.specs.Allocation.Refreshing.{renewal, renewed_before, second, short_lifetime, wants_refresh}
use Rattle.turn_client_proto_messages.specs.Allocation.declared.allocation.Allocation.{Allocation}
use Rattle.turn_client_proto_messages.specs.Allocation.declared.channel.Channel.{Channel as OneChannel}
use Rattle.turn_client_proto_messages.specs.Allocation.declared.permission.Permission.{Permission as OnePermission}
use Rattle.turn_client_proto_messages.specs.Allocation.declared.refresh.PendingRefresh.{PendingRefresh}
use Rattle.turn_client_proto_handshake_laws.specs.Sent.{Beginning}
use Rattle.turn_client_proto_progress_laws.specs.Keeping.{IsTerm, Term, due_of, end_of, held_for}

module _ (b : Beginning) (address : SocketAddr) (t : Term) where
  abbrev pub lone : Allocation
  lone = held_for b address t []

  abbrev pub expiry : ℕ
  expiry = time_after t.from (t.lifetime * second)

  module _ (is : IsTerm t) where
    pub far : expiry ≡ t.from + t.lifetime * second
    far = let fits = is.fits in let early = is.early in omega (arith, fits, early)

    pub renewal_is : renewal lone ≡ due_of t
    unfolding renewal
    renewal_is =
        let long = is.long in
        ap (λ (x : Bool). expiry - (if x then t.first * second / 2 else renewed_before)) (lt-leb t.first short_lifetime (omega (arith, long)))
        ∙ ap (λ (n : ℕ). n - renewed_before) far

    -- ---- what it wants

    unwanted : (now : ℕ) → now < due_of t → wants_refresh now lone ≡ false
    unfolding wants_refresh
    unwanted now soon =
        ap (λ (m : ℕ). nat_le now expiry && nat_le m now) renewal_is
        ∙ (ap (λ (x : Bool). nat_le now expiry && x) (lt-leb (due_of t) now soon) ∙ no_and (nat_le now expiry))
      where
        no_and : (x : Bool) → (x && false) ≡ false
        no_and true = refl
        no_and false = refl

    is_wanted : (now : ℕ) → due_of t ≤ now → now ≤ end_of t → wants_refresh now lone ≡ true
    unfolding wants_refresh
    is_wanted now late reached =
        let long = far in
        ap (λ (m : ℕ). nat_le now expiry && nat_le m now) renewal_is
        ∙ (ap (λ (x : Bool). nat_le now expiry && x) (le-leb (due_of t) now late)
        ∙ ap (λ (x : Bool). x && true) (le-leb now expiry (omega (arith, long, reached))))

    no_permission : (now : ℕ) → permission_wanting.renewal_wanted now lone ≡ None
    unfolding permission_wanting.renewal_wanted
    no_permission now = none_of (permission_wanting.occurs now lone)
      where
        none_of : (x : Bool) → (if x then option_map (λ (p : OnePermission). p.ip) (find (wants_renewal now) []) else None) ≡ None
        none_of true = refl
        none_of false = refl

    no_channel : (now : ℕ) → channel_wanting.renewal_wanted now lone ≡ None
    unfolding channel_wanting.renewal_wanted
    no_channel now = none_of (permission_wanting.occurs now lone)
      where
        none_of : (x : Bool) → (if x then option_map {U = ℕ × SocketAddr} (λ (c : OneChannel). (c.number, c.peer)) (find (channel_wants now) []) else None) ≡ None
        none_of true = refl
        none_of false = refl

    want_none : (now : ℕ) → now < due_of t → want now lone ≡ None
    unfolding want
    want_none now soon =
        ap (λ (x : Bool). if x then Some Refresh else option_or (channel_wanted now lone) (permission_wanted now lone)) (unwanted now soon)
        ∙ (ap (λ (o : Option (ℕ × SocketAddr)). option_or (option_map (λ (c : ℕ × SocketAddr). Channel c.0 c.1) o) (permission_wanted now lone)) (no_channel now)
        ∙ ap (λ (o : Option IpAddr). option_map Permission o) (no_permission now))

    want_it : (now : ℕ) → due_of t ≤ now → now ≤ end_of t → want now lone ≡ Some Refresh
    unfolding want
    want_it now late reached = ap (λ (x : Bool). if x then Some Refresh else option_or (channel_wanted now lone) (permission_wanted now lone)) (is_wanted now late reached)

    pub wanted_none : (now : ℕ) → now < due_of t → wanted now (lone ∷ []) ≡ None
    wanted_none now soon = ap (λ (o : Option Want). option_and_then (want now) (if is_some o then Some lone else None)) (want_none now soon)

    pub wanted_it : (now : ℕ) → due_of t ≤ now → now ≤ end_of t → wanted now (lone ∷ []) ≡ Some Refresh
    wanted_it now late reached =
        ap (λ (o : Option Want). option_and_then (want now) (if is_some o then Some lone else None)) (want_it now late reached) ∙ want_it now late reached

    pub refreshed_it : (now : ℕ) → due_of t ≤ now → now ≤ end_of t → (r : PendingRefresh) → refreshed_first now r (lone ∷ []) ≡ held_for b address t (r ∷ []) ∷ []
    refreshed_it now late reached r = ap (λ (o : Option Want). if is_some o then held_for b address t (r ∷ []) ∷ [] else lone ∷ []) (want_it now late reached)

    -- ---- what a poll makes of it

    module _ (now : ℕ) (before : now < expiry) where
      stays_on : stays None now lone ≡ true
      unfolding stays
      stays_on = ap (λ (x : Bool). x || (false && false)) (lt-ltb now expiry before)

      next_is : (ready : ℕ) → next_of_allocation None ready now lone ≡ Some (max (due_of t) ready)
      unfolding next_of_allocation
      next_is ready = ap (λ (m : ℕ). Some (max m ready)) renewal_is

      stored_is : stored None now (lone ∷ []) ≡ lone ∷ []
      stored_is = ap (λ (x : Bool). if x then lone ∷ [] else []) stays_on

      pub nexts_are : (ready : ℕ) → nexts None ready now (stored None now (lone ∷ [])) ≡ max (due_of t) ready ∷ []
      nexts_are ready = ap (λ (l : List Allocation). nexts None ready now l) stored_is ∙ ap (λ (o : Option ℕ). cons_option o []) (next_is ready)

      polled_is : polled None lone ≡ lone
      unfolding polled
      polled_is = refl

      pub left_is : map_list (polled None) (stored None now (lone ∷ [])) ≡ lone ∷ []
      left_is = ap (λ (l : List Allocation). map_list (polled None) l) stored_is ∙ ap (λ (x : Allocation). x ∷ []) polled_is

      pub untouched : map_list (reporting.polled None now) (lone ∷ []) ≡ lone ∷ []
      unfolding joined.polled channels.polled channels.expired permissions.polled given_up
      untouched = refl

      pub none_decoded : reporting.all_failures None now (lone ∷ []) ≡ []
      unfolding reporting.failures reporting.relay_failures reporting.connection_failures
      none_decoded = refl

      pub no_permissions : (ready : ℕ) → permissions.all_nexts None ready now (lone ∷ []) ≡ []
      no_permissions ready = refl

      pub no_channels : (ready : ℕ) → channels.all_nexts None ready now (lone ∷ []) ≡ []
      no_channels ready = refl

      pub no_connections : joined.all_nexts (lone ∷ []) ≡ []
      no_connections = refl

      pub none_gone : joined.all_gone None now (lone ∷ []) ≡ []
      none_gone = refl
