-- What a request asks for belongs to the first allocation that awaits its response.
use Rattle.std.proofs.Common.{◌≡◌, ℕ, List, Option, Some, None, refl, sym, ap, ◌∙◌}
use Rattle.std.specs.List.{find}
use Rattle.std.specs.Option.{option_and_then, option_map, option_or}
use Rattle.turn_client_proto_timers.specs.Allocation.Awaited.{asks_for_channel, asks_for_permission, is_connecting, renews_channel, renews_permission}
use Rattle.turn_client_proto_timers.specs.Allocation.Refreshing.{lifetime_requested}
use Rattle.turn_client_proto_timers.specs.Allocation.PendingRequests.{pending_request, requested_of, awaits_reply}
use Rattle.turn_client_proto_timers.specs.Allocation.declared.pending.PendingRequest.{PendingRequest}
use Rattle.turn_client_proto_timers.specs.Allocation.declared.pending.PendingRequest.TheVariants.{ChannelRenewal, Lifetime, NewChannel, NewConnection, NewPermission, Renewal}
use Rattle.turn_client_proto_step_laws.specs.Held.{Allocation, Channel, Connecting, PendingChannel, PendingPermission, Permission}
use Rattle.turn_client_proto_step_laws.proofs.Lists.{inside}

-- What is requested of an allocation: a lifetime; a channel or its renewal; a permission or its renewal; or a
-- connection.
pub data IsRequestedOf (number : ℕ) (a : Allocation) (what : PendingRequest) : Type 0 where
  OfLifetime : (lifetime : ℕ) → lifetime_requested number a.pending_refreshes ≡ Some lifetime → what ≡ Lifetime lifetime
      → IsRequestedOf number a what
  OfRequestedChannel : (c : PendingChannel) → find (asks_for_channel number) a.pending_channels ≡ Some c
      → what ≡ NewChannel a.transport c.channel c.peer → IsRequestedOf number a what
  OfRenewedChannel : (c : Channel) → find (renews_channel number) a.channels ≡ Some c
      → what ≡ ChannelRenewal a.transport c.number c.peer → IsRequestedOf number a what
  OfNew : (p : PendingPermission) → find (asks_for_permission number) a.pending_permissions ≡ Some p
      → what ≡ NewPermission a.transport p.ip → IsRequestedOf number a what
  OfRenewal : (p : Permission) → find (renews_permission number) a.permissions ≡ Some p
      → what ≡ Renewal a.transport p.ip → IsRequestedOf number a what
  OfConnection : (c : Connecting) → find (is_connecting number) a.connecting ≡ Some c → what ≡ NewConnection c.peer → IsRequestedOf number a what

pub requested_of_is : (number : ℕ) (a : Allocation) (what : PendingRequest) → requested_of number a ≡ Some what → IsRequestedOf number a what
unfolding requested_of
requested_of_is number a what is =
    by (lifetime_requested number a.pending_refreshes) (find (asks_for_channel number) a.pending_channels) (find (renews_channel number) a.channels)
    (find (asks_for_permission number) a.pending_permissions) (find (renews_permission number) a.permissions) (find (is_connecting number) a.connecting) refl refl refl refl refl refl is
  where
    by : (l : Option ℕ) (b : Option PendingChannel) (s : Option Channel) (n : Option PendingPermission) (r : Option Permission) (k : Option Connecting)
        → lifetime_requested number a.pending_refreshes ≡ l
        → find (asks_for_channel number) a.pending_channels ≡ b
        → find (renews_channel number) a.channels ≡ s
        → find (asks_for_permission number) a.pending_permissions ≡ n
        → find (renews_permission number) a.permissions ≡ r
        → find (is_connecting number) a.connecting ≡ k
        → option_or (option_map Lifetime l) (option_or (option_map (λ c. NewChannel a.transport c.channel c.peer) b) (option_or (option_map (λ c. ChannelRenewal a.transport c.number c.peer) s)
        (option_or (option_map (λ p. NewPermission a.transport p.ip) n) (option_or (option_map (λ p. Renewal a.transport p.ip) r) (option_map (λ c. NewConnection c.peer) k))))) ≡ Some what
        → IsRequestedOf number a what
    by (Some l) b s n r k lifetime channel occurs new renewal connection h = OfLifetime l lifetime (sym (inside h))
    by None (Some c) s n r k lifetime channel occurs new renewal connection h = OfRequestedChannel c channel (sym (inside h))
    by None None (Some c) n r k lifetime channel occurs new renewal connection h = OfRenewedChannel c occurs (sym (inside h))
    by None None None (Some p) r k lifetime channel occurs new renewal connection h = OfNew p new (sym (inside h))
    by None None None None (Some p) k lifetime channel occurs new renewal connection h = OfRenewal p renewal (sym (inside h))
    by None None None None None (Some c) lifetime channel occurs new renewal connection h = OfConnection c connection (sym (inside h))
    by None None None None None None lifetime channel occurs new renewal connection h = absurd (Prim.cc h)

-- The first allocation that awaits the response to a request, and what that request asks for.
pub record IsFoundBy (number : ℕ) (all : List Allocation) (what : PendingRequest) : Type 0 where
  pub allocation : Allocation
  pub found : find (awaits_reply number) all ≡ Some allocation
  pub is : IsRequestedOf number allocation what

pub found_by : (number : ℕ) (all : List Allocation) (what : PendingRequest) → pending_request number all ≡ Some what → IsFoundBy number all what
found_by number all what h = by (find (awaits_reply number) all) refl
  where
    by : (o : Option Allocation) → find (awaits_reply number) all ≡ o → IsFoundBy number all what
    by None none = absurd (Prim.cc (sym (ap (option_and_then (requested_of number)) none) ∙ h))
    by (Some a) there = record {
      allocation = a;
      found = there;
      is = requested_of_is number a what (sym (ap (option_and_then (requested_of number)) there) ∙ h);
    }
