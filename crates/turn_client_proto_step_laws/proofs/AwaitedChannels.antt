-- A channel that a request asks for or renews: XOR-PEER-ADDRESS carries its peer completely, and the
-- outstanding request asks for it.
use Rattle.std.proofs.Common.{◌≡◌, ℕ, Some, sym, ap, ◌∙◌, subst}
use Rattle.std.specs.FinMap as map
use Rattle.std.specs.List.{find}
use Rattle.std.specs.declared.net.ip_addr.IpAddr.{IpAddr}
use Rattle.std.specs.declared.net.socket_addr.SocketAddr.{SocketAddr}
use Rattle.turn_client_proto_timers.specs.StunTypesBase.declared.transport.TransportType.{TransportType}
use Rattle.turn_client_proto_timers.specs.StunProtoTransaction.Agents.{Transaction}
use Rattle.turn_client_proto_timers.specs.TurnRuns.Members.{IsIn}
use Rattle.turn_client_proto_timers.specs.TurnRuns.Messages as run
use Rattle.turn_client_proto_timers.specs.TurnRuns.Names.{socket_ip}
use Rattle.turn_client_proto_timers.specs.TurnRuns.StunWire.{decoded_by}
use Rattle.turn_client_proto_timers.specs.Allocation.Awaited.{asks_for_channel, asks_for_permission, renews_channel}
use Rattle.turn_client_proto_timers.specs.Allocation.PendingRequests.{awaits_reply}
use Rattle.turn_client_proto_timers.specs.Allocation.Permissions.{addresses_of}
use Rattle.turn_client_proto_timers.specs.Allocation.declared.pending.PendingRequest.TheVariants.{ChannelRenewal, NewChannel}
use Rattle.turn_client_proto_step_laws.specs.Held.{Allocation, Channel, PendingChannel, PendingPermission}
use Rattle.turn_client_proto_step_laws.specs.RunClient.{Parts}
use Rattle.turn_client_proto_step_laws.specs.Sound.{AsksFor, IsOrderly, IsWhole}
use Rattle.turn_client_proto_step_laws.proofs.Awaited.{IsRequestedOf, IsFoundBy, OfRequestedChannel, OfConnection, OfLifetime, OfNew, OfRenewal, OfRenewedChannel}
use Rattle.turn_client_proto_step_laws.proofs.Lists.{found_in, found_passes, inside}
use Rattle.turn_client_proto_step_laws.proofs.Permits.{same_peer}
use Rattle.turn_client_proto_step_laws.proofs.Taken.{among}

-- The first allocation that awaits the response to a request, and the channel of that request.
pub record IsChannelOf (p : Parts) (number : ℕ) (transport : TransportType) (channel : ℕ) (peer : SocketAddr) : Type 0 where
  pub allocation : Allocation
  pub found : find (awaits_reply number) p.allocations ≡ Some allocation
  pub listed : IsIn allocation p.allocations
  pub is_transport : allocation.transport ≡ transport
  pub whole : IsWhole peer
  pub asks : AsksFor p.agent (run.Channel channel peer) number

module _ (p : Parts) (number : ℕ) (transport : TransportType) (channel : ℕ) (peer : SocketAddr) (orderly : IsOrderly p) where
  -- What holds of a channel holds of one with an equal number and peer.
  alike : (n : ℕ) (to : SocketAddr) → n ≡ channel → to ≡ peer → AsksFor p.agent (run.Channel n to) number → AsksFor p.agent (run.Channel channel peer) number
  alike n to same like asks =
      subst (λ (k : ℕ). AsksFor p.agent (run.Channel k peer) number) same (subst (λ (x : SocketAddr). AsksFor p.agent (run.Channel n x) number) like asks)

  module _ (a : Allocation) (found : find (awaits_reply number) p.allocations ≡ Some a) where
    there : IsIn a p.allocations
    there = found_in (awaits_reply number) p.allocations a found

    pub requested_channel : (c : PendingChannel) → find (asks_for_channel number) a.pending_channels ≡ Some c → a.transport ≡ transport → c.channel ≡ channel → c.peer ≡ peer → IsChannelOf p number transport channel peer
    requested_channel c at is_transport same like =
        let listed = found_in (asks_for_channel number) a.pending_channels c at in
        let has = among number c.numbers (found_passes (asks_for_channel number) a.pending_channels c at) in
        record {
          allocation = a;
          found = found;
          listed = there;
          is_transport = is_transport;
          whole = subst IsWhole like ((orderly.peers a there).requested c listed);
          asks = alike c.channel c.peer same like ((orderly.channels a there).requested c listed number has);
        }

    pub renewed_channel : (c : Channel) → find (renews_channel number) a.channels ≡ Some c → a.transport ≡ transport → c.number ≡ channel → c.peer ≡ peer → IsChannelOf p number transport channel peer
    renewed_channel c at is_transport same like =
        let listed = found_in (renews_channel number) a.channels c at in
        let has = among number c.renewals (found_passes (renews_channel number) a.channels c at) in
        record {
          allocation = a;
          found = found;
          listed = there;
          is_transport = is_transport;
          whole = subst IsWhole like ((orderly.peers a there).standing c listed);
          asks = alike c.number c.peer same like ((orderly.channels a there).renewed c listed number has);
        }

    requested_of_channel : IsRequestedOf number a (NewChannel transport channel peer) → IsChannelOf p number transport channel peer
    requested_of_channel (OfLifetime l at same) = absurd (Prim.cc same)
    requested_of_channel (OfRequestedChannel c at same) = requested_channel c at (Prim.cc same) (Prim.cc same) (Prim.cc same)
    requested_of_channel (OfRenewedChannel c at same) = absurd (Prim.cc same)
    requested_of_channel (OfNew q at same) = absurd (Prim.cc same)
    requested_of_channel (OfRenewal q at same) = absurd (Prim.cc same)
    requested_of_channel (OfConnection k at same) = absurd (Prim.cc same)

    renewed_of_channel : IsRequestedOf number a (ChannelRenewal transport channel peer) → IsChannelOf p number transport channel peer
    renewed_of_channel (OfLifetime l at same) = absurd (Prim.cc same)
    renewed_of_channel (OfRequestedChannel c at same) = absurd (Prim.cc same)
    renewed_of_channel (OfRenewedChannel c at same) = renewed_channel c at (Prim.cc same) (Prim.cc same) (Prim.cc same)
    renewed_of_channel (OfNew q at same) = absurd (Prim.cc same)
    renewed_of_channel (OfRenewal q at same) = absurd (Prim.cc same)
    renewed_of_channel (OfConnection k at same) = absurd (Prim.cc same)

  -- A channel that is requested.
  pub channel_of : IsFoundBy number p.allocations (NewChannel transport channel peer) → IsChannelOf p number transport channel peer
  channel_of first = requested_of_channel first.allocation first.found first.is

  -- A channel that is renewed.
  pub renewal_of : IsFoundBy number p.allocations (ChannelRenewal transport channel peer) → IsChannelOf p number transport channel peer
  renewal_of first = renewed_of_channel first.allocation first.found first.is

  -- A permission that the request also asks for is that of the channel's peer.
  pub permission_of : (is : IsChannelOf p number transport channel peer) (t : Transaction) → map.get p.agent.outstanding number ≡ Some t
      → (a : Allocation) → IsIn a p.allocations → (q : PendingPermission) → find (asks_for_permission number) a.pending_permissions ≡ Some q
      → (ip : IpAddr) → IsIn ip (addresses_of q) → socket_ip peer ≡ ip
  permission_of is t outstanding a listed q at ip named =
      let has = among number q.numbers (found_passes (asks_for_permission number) a.pending_permissions q at) in
      let member = found_in (asks_for_permission number) a.pending_permissions q at in
      same_peer (decoded_by t.bytes) channel peer a.transport ip (is.asks t outstanding) (orderly.permissions a listed q member number has ip named t outstanding)

-- ---- the channel that was found

module _ (number : ℕ) (a : Allocation) (transport : TransportType) (channel : ℕ) (peer : SocketAddr) where
  -- The first channel that the request asks for has the number and the peer of what is requested.
  pub first_requested : IsRequestedOf number a (NewChannel transport channel peer) → (c : PendingChannel) → find (asks_for_channel number) a.pending_channels ≡ Some c → (c.channel ≡ channel) × (c.peer ≡ peer)
  first_requested (OfLifetime l at same) c found = absurd (Prim.cc same)
  first_requested (OfRequestedChannel b at same) c found = let own : c ≡ b = inside (sym found ∙ at) in (ap (λ (x : PendingChannel). x.channel) own ∙ Prim.cc same, ap (λ (x : PendingChannel). x.peer) own ∙ Prim.cc same)
  first_requested (OfRenewedChannel b at same) c found = absurd (Prim.cc same)
  first_requested (OfNew q at same) c found = absurd (Prim.cc same)
  first_requested (OfRenewal q at same) c found = absurd (Prim.cc same)
  first_requested (OfConnection k at same) c found = absurd (Prim.cc same)

  -- So has the first channel that the request renews.
  pub first_renewed : IsRequestedOf number a (ChannelRenewal transport channel peer) → (c : Channel) → find (renews_channel number) a.channels ≡ Some c → (c.number ≡ channel) × (c.peer ≡ peer)
  first_renewed (OfLifetime l at same) c found = absurd (Prim.cc same)
  first_renewed (OfRequestedChannel b at same) c found = absurd (Prim.cc same)
  first_renewed (OfRenewedChannel b at same) c found = let own : c ≡ b = inside (sym found ∙ at) in (ap (λ (x : Channel). x.number) own ∙ Prim.cc same, ap (λ (x : Channel). x.peer) own ∙ Prim.cc same)
  first_renewed (OfNew q at same) c found = absurd (Prim.cc same)
  first_renewed (OfRenewal q at same) c found = absurd (Prim.cc same)
  first_renewed (OfConnection k at same) c found = absurd (Prim.cc same)
