-- What carries bytes to a peer is a step of a run.
use Rattle.std.proofs.Common.{◌≡◌, ℕ, List, [], Option, Some, None, Err, sym, subst}
use Rattle.std.specs.Prelude.{MatchOption}
use Rattle.std.specs.declared.net.socket_addr.SocketAddr.{SocketAddr}
use Rattle.turn_client_proto_timers.specs.StunTypesBase.declared.transport.TransportType.{TransportType}
use Rattle.turn_client_proto_timers.specs.StunTypesBase.declared.transport.TransportType.TheVariants.{Tcp, Udp}
use Rattle.turn_client_proto_timers.specs.Api.declared.error.SendError.{SendError}
use Rattle.turn_client_proto_timers.specs.Core.declared.protocol.Protocol.{Protocol}
use Rattle.turn_client_proto_recv.specs.Payload.Sending.{Answer, IsPassedOn, IsSendAnswered, IsSentBy, IsSentOver, channel_to, connection_to, send_refusal, standing}
use Rattle.turn_client_proto_step_laws.specs.Held.{Channel, Connection}
use Rattle.turn_client_proto_step_laws.specs.RunClient.{Client}
use Rattle.turn_client_proto_step_laws.specs.RunSteps.{IsRunStep}
use Rattle.turn_client_proto_step_laws.specs.Sound.{IsSound}
use Rattle.turn_client_proto_step_laws.proofs.Ending.{still}
use Rattle.turn_client_proto_step_laws.proofs.Refreshing.{number_transmitted}

module _ (c : Client) (to : SocketAddr) (bytes : List ℕ) (now : ℕ) (answer : Answer) (new : Protocol) (sound : IsSound c) where
  -- A transaction ID is generated for an indication, and nothing else changes.
  sent_by : (found : Option Channel) → IsSentBy found c.core to bytes answer new → IsRunStep c [] None [] new
  sent_by None is = subst (λ (p : Protocol). IsRunStep c [] None [] p) (sym is.1) (number_transmitted c sound)
  sent_by (Some channel) is = still c [] new sound is.1

  passed_on : (found : Option Connection) → IsPassedOn found c.core bytes answer new → IsRunStep c [] None [] new
  passed_on None is = absurd is
  passed_on (Some connection) is = still c [] new sound is.1

  sent_over : (transport : TransportType) → IsSentOver transport c.core to bytes now answer new → IsRunStep c [] None [] new
  sent_over Tcp is = passed_on (connection_to Tcp to c.core.allocations) is
  sent_over Udp is = sent_by (standing now (channel_to Udp to c.core.allocations)) is

  answered : (transport : TransportType) (refusal : Option SendError)
      → MatchOption refusal (IsSentOver transport c.core to bytes now answer new) (λ error. (answer ≡ Err error) × (new ≡ c.core)) → IsRunStep c [] None [] new
  answered transport None is = sent_over transport is
  answered transport (Some error) is = still c [] new sound is.1

pub send_step : (c : Client) (transport : TransportType) (to : SocketAddr) (bytes : List ℕ) (now : ℕ) (answer : Answer) (new : Protocol) → IsSound c
    → IsSendAnswered c.core transport to bytes now answer new → IsRunStep c [] None [] new
send_step c transport to bytes now answer new sound is = answered c to bytes now answer new sound transport (send_refusal transport c.core to bytes) is
