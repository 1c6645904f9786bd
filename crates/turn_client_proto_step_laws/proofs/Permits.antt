-- What a request that a client makes asks for.
use Rattle.std.proofs.Common.{◌≡◌, ℕ, List, [], ◌∷◌, Some, refl, sym, ap, ◌∙◌, subst, arith, inl, inr}
use Rattle.std.specs.FinMap as map
use Rattle.std.specs.declared.net.ip_addr.IpAddr.{IpAddr}
use Rattle.std.specs.declared.net.ip_addr.IpAddr.TheVariants.{V4, V6}
use Rattle.std.specs.declared.net.socket_addr.SocketAddr.{SocketAddr}
use Rattle.turn_client_proto_timers.specs.StunTypesBase.declared.transport.TransportType.{TransportType}
use Rattle.turn_client_proto_timers.specs.StunProtoTransaction.Agents.{Transaction}
use Rattle.turn_client_proto_timers.specs.StunProtoAgent.Sending.{with_request}
use Rattle.turn_client_proto_timers.specs.StunProtoAgent.State.{Agent}
use Rattle.turn_client_proto_timers.proofs.StunProtoAgent.Numbers.{sent}
use Rattle.turn_client_proto_recv.specs.TurnTypesAttributes.TurnRegistry.{channel_bind_method, create_permission_method}
use Rattle.turn_client_proto_timers.specs.TurnRuns.Members.{IsIn}
use Rattle.turn_client_proto_timers.specs.TurnRuns.Messages as run
use Rattle.turn_client_proto_timers.specs.TurnRuns.Names.{socket_ip}
use Rattle.turn_client_proto_timers.specs.TurnRuns.StunWire.{decoded_by}
use Rattle.turn_client_proto_timers.specs.Messages.Requests.{peer_of, request_text}
use Rattle.turn_client_proto_timers.specs.Messages.ReportedRequests.{reported_request}
use Rattle.turn_client_proto_timers.specs.Messages.declared.request.TurnRequest.{TurnRequest}
use Rattle.turn_client_proto_timers.specs.Messages.declared.request.TurnRequest.TheVariants.{ChannelBind, CreatePermission, FirstAllocate}
use Rattle.turn_client_proto_timers.specs.Core.declared.protocol.Protocol.{Protocol}
use Rattle.turn_client_proto_step_laws.specs.Sound.{AsksFor, IsWhole}
use Rattle.turn_client_proto_step_laws.proofs.Adding.{HasNumber}
use Rattle.turn_client_proto_step_laws.proofs.Asking.{IsMade}
use Rattle.turn_client_proto_step_laws.proofs.Firsts.{image_in}
use Rattle.turn_client_proto_step_laws.proofs.Fitting.{AreFit}
use Rattle.turn_client_proto_step_laws.proofs.Permitting.{Asking, none_gained, one_asks}
use Rattle.turn_client_proto_step_laws.proofs.Taken.{none_outstanding}

ip_of : (ip : IpAddr) → socket_ip (peer_of ip) ≡ ip
ip_of (V4 a) = refl
ip_of (V6 a) = refl

-- The items that a request with this transaction ID asks for.
abbrev pub asks_by : TurnRequest → ℕ → Asking
asks_by request number = one_asks (reported_request request number)

-- A CREATE_PERMISSION asks for a permission for each of its addresses, over any transport.
pub permits_ip : (ips : List IpAddr) (ip : IpAddr) → IsIn ip ips → (number : ℕ) (transport : TransportType) → asks_by (CreatePermission ips) number (run.Permission transport ip) number
permits_ip ips ip named number transport = (inl (refl, record { peer = peer_of ip; listed = image_in peer_of ip ips named; ip_is = ip_of ip }), refl)

-- A CHANNEL_BIND asks for that channel.
pub binds_channel : (channel : ℕ) (peer : SocketAddr) (number : ℕ) → asks_by (ChannelBind channel peer) number (run.Channel channel peer) number
binds_channel channel peer number = ((refl, refl, refl), refl)

-- A CHANNEL_BIND also asks for a permission for its peer's address, over any transport.
pub permits_peer : (channel : ℕ) (peer : SocketAddr) (ip : IpAddr) (number : ℕ) (transport : TransportType) → socket_ip peer ≡ ip → asks_by (ChannelBind channel peer) number (run.Permission transport ip) number
permits_peer channel peer ip number transport is = (inr (refl, (peer, refl, is)), refl)

-- A request that asks for a channel and for a permission asks for that of the channel's peer.
pub same_peer : (m : run.Message) (channel : ℕ) (peer : SocketAddr) (transport : TransportType) (ip : IpAddr) → run.Asks m (run.Holds (run.Channel channel peer)) → run.Asks m (run.Holds (run.Permission transport ip)) → socket_ip peer ≡ ip
same_peer m channel peer transport ip bind (inl create) = let method : create_permission_method ≡ channel_bind_method = sym create.0 ∙ bind.0 in absurd (omega (arith, method))
same_peer m channel peer transport ip bind (inr other) =
    let same : peer ≡ other.1.0 = Prim.cc (sym bind.2 ∙ other.1.1) in
    ap socket_ip same ∙ other.1.2

reported_number : (request : TurnRequest) (number : ℕ) → (reported_request request number).number ≡ number
reported_number (FirstAllocate transport families options) number = refl
reported_number _ number = refl

module _ (mid : Protocol) (request : TurnRequest) (number now : ℕ) (is : IsMade mid request number) where
  abbrev text : List ℕ
  text = request_text mid.auth request number

  abbrev sent_it : Agent
  sent_it = with_request mid.agent text mid.server now

  -- What is outstanding with its transaction ID is that request.
  own_asks : (held : run.Held) (n : ℕ) → asks_by request number held n → AsksFor sent_it held n
  own_asks held n asks t there =
      let same : n ≡ number = asks.1 ∙ reported_number request number in
      elim (sent mid.agent text mid.server now n t there) [
        | inl before ↦ absurd (Prim.cc (none_outstanding mid number (Some t) (ap (map.get mid.agent.outstanding) (sym same) ∙ before) is.is_next.free))
        | inr own ↦ subst (λ (m : run.Message). run.Asks m (run.Holds held)) (sym (ap (λ (x : Transaction). decoded_by x.bytes) own.1 ∙ is.reported)) asks.0
      ]

  -- Its transaction ID is that of a request that is made.
  pub made_number : (held : run.Held) (n : ℕ) → asks_by request number held n → HasNumber n (decoded_by text ∷ [])
  made_number held n asks = record { one = decoded_by text; listed = inl refl; is = is.number_is ∙ sym (asks.1 ∙ reported_number request number) }

pub permission_fit : (mid : Protocol) (ips : List IpAddr) (number now : ℕ) → IsMade mid (CreatePermission ips) number
    → AreFit none_gained (asks_by (CreatePermission ips) number) (with_request mid.agent (request_text mid.auth (CreatePermission ips) number) mid.server now)
permission_fit mid ips number now is = record {
  asks = own_asks mid (CreatePermission ips) number now is;
  requested = λ channel peer n h. let method : create_permission_method ≡ channel_bind_method = h.0.0 in absurd (omega (arith, method));
  gained = λ channel peer h. absurd h;
}

pub channel_fit : (mid : Protocol) (channel : ℕ) (peer : SocketAddr) (number now : ℕ) → IsWhole peer → IsMade mid (ChannelBind channel peer) number
    → AreFit none_gained (asks_by (ChannelBind channel peer) number) (with_request mid.agent (request_text mid.auth (ChannelBind channel peer) number) mid.server now)
channel_fit mid channel peer number now whole is = record {
  asks = own_asks mid (ChannelBind channel peer) number now is;
  requested = λ c to n h. let same : peer ≡ to = Prim.cc h.0.2 in subst IsWhole same whole;
  gained = λ c to h. absurd h;
}
