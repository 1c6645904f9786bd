-- What the client's getters list is held.
use Rattle.std.proofs.Common.{◌≡◌, ℕ, Bool, true, List, filter, map, sym, subst}
use Rattle.std.specs.declared.net.ip_addr.IpAddr.{IpAddr}
use Rattle.std.specs.declared.net.socket_addr.SocketAddr.{SocketAddr}
use Rattle.stun_types_base.specs.declared.transport.TransportType.{TransportType}
use Rattle.turn_desk_world.specs.TurnClientProto.Getters.{has_permission}
use Rattle.turn_desk_step_laws.specs.TurnRuns.Members.{IsIn}
use Rattle.turn_desk_step_laws.specs.TurnRuns.Messages.{Held, Allocation, Channel, Connection, Permission}
use Rattle.turn_desk_step_laws.specs.TurnClientProtoAllocation.Listed.{relayed_listed}
use Rattle.turn_desk_world.specs.TurnClientProtoPeers.Channel.Visible.{channels_listed}
use Rattle.turn_desk_world.specs.TurnClientProtoConnection.Visible.{connections_listed}
use Rattle.turn_desk_world.specs.TurnClientProtoPeers.Permission.Visible.{addresses_of, permissions_at}
use Rattle.turn_client_proto_step_laws.specs.Recv.ClientState.{Protocol}
use Rattle.turn_client_proto_step_laws.specs.ClientWords.{IsHeld}
use Rattle.turn_client_proto_step_laws.proofs.Lists.{in_filter, in_map}
use Rattle.turn_client_proto_step_laws.proofs.ListedChannels.{channel_held}
use Rattle.turn_client_proto_step_laws.proofs.ListedConnections.{connection_held}
use Rattle.turn_client_proto_step_laws.proofs.Visible.{had_held, permission_held, listed_held}
use Rattle.turn_desk_event.specs.declared.answer.Answer.{Answer}
use Rattle.turn_desk_event.specs.declared.event.Event.{Event}
use Rattle.turn_desk_world_laws.specs.Reported.{connections_bound, listed_in}

-- A client with this core holds all that the result lists.
abbrev pub AreHeld : Event → Answer → Protocol → Type 0
AreHeld happening ret core = (h : Held) → IsIn h (listed_in happening ret) → IsHeld core.allocations h

module _ (core : Protocol) where
  pub relayed_held : (list : List (TransportType × SocketAddr)) → list ≡ relayed_listed core.allocations → (h : Held)
      → IsIn h (map (λ (p : TransportType × SocketAddr). Allocation p.0 p.1) list) → IsHeld core.allocations h
  relayed_held list is h listed =
      let image = in_map (λ (p : TransportType × SocketAddr). Allocation p.0 p.1) h list listed in
      subst (λ (x : Held). IsHeld core.allocations x) (sym image.is)
      (listed_held core.allocations image.source.0 image.source.1 (subst (λ (l : List (TransportType × SocketAddr)). IsIn image.source l) is image.listed))

  pub permissions_held : (transport : TransportType) (relayed : SocketAddr) (ips : List IpAddr) → ips ≡ addresses_of (permissions_at transport relayed core.allocations) → (h : Held)
      → IsIn h (map (λ ip. Permission transport ip) ips) → IsHeld core.allocations h
  permissions_held transport relayed ips is h listed =
      let image = in_map (λ (ip : IpAddr). Permission transport ip) h ips listed in
      subst (λ (x : Held). IsHeld core.allocations x) (sym image.is)
      (permission_held core.allocations transport relayed image.source (subst (λ (l : List IpAddr). IsIn image.source l) is image.listed))

  pub channels_held : (list : List (ℕ × SocketAddr)) → list ≡ channels_listed core.allocations → (h : Held)
      → IsIn h (map (λ (p : ℕ × SocketAddr). Channel p.0 p.1) list) → IsHeld core.allocations h
  channels_held list is h listed =
      let image = in_map (λ (p : ℕ × SocketAddr). Channel p.0 p.1) h list listed in
      subst (λ (x : Held). IsHeld core.allocations x) (sym image.is)
      (channel_held core.allocations image.source.0 image.source.1 (subst (λ (l : List (ℕ × SocketAddr)). IsIn image.source l) is image.listed))

  pub connections_held : (list : List (SocketAddr × SocketAddr × ℕ × Bool)) → list ≡ connections_listed core.allocations → (h : Held) → IsIn h (connections_bound list) → IsHeld core.allocations h
  connections_held list is h listed =
      let image = in_map (λ (r : SocketAddr × SocketAddr × ℕ × Bool). Connection r.0 r.1 r.2) h (filter (λ (r : SocketAddr × SocketAddr × ℕ × Bool). r.3) list) listed in
      let bound = in_filter (λ (r : SocketAddr × SocketAddr × ℕ × Bool). r.3) image.source list image.listed in
      let there = subst (λ (l : List (SocketAddr × SocketAddr × ℕ × Bool)). IsIn image.source l) is bound.0 in
      let row = subst (λ (b : Bool). IsIn (image.source.0, image.source.1, image.source.2, b) (connections_listed core.allocations)) bound.1 there in
      subst (λ (x : Held). IsHeld core.allocations x) (sym image.is) (connection_held core.allocations image.source.0 image.source.1 image.source.2 row)

  pub had_is_held : (transport : TransportType) (ip : IpAddr) → has_permission transport ip core ≡ true → IsHeld core.allocations (Permission transport ip)
  had_is_held transport ip is = had_held core.allocations transport ip is
