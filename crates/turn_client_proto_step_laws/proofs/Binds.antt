-- What a CONNECTION_BIND asks for (RFC 6062, section 4.3).
use Rattle.std.proofs.Common.{ℕ, List, Some, refl, sym, ap, ◌∙◌, subst, inl, inr}
use Rattle.std.specs.declared.net.socket_addr.SocketAddr.{SocketAddr}
use Rattle.turn_client_proto_timers.specs.StunProtoTransaction.Agents.{Transaction}
use Rattle.turn_client_proto_timers.specs.StunProtoAgent.Sending.{with_request}
use Rattle.turn_client_proto_timers.proofs.StunProtoAgent.Numbers.{sent}
use Rattle.turn_client_proto_timers.specs.TurnRuns.Messages as run
use Rattle.turn_client_proto_timers.specs.TurnRuns.StunWire.{decoded_by}
use Rattle.turn_client_proto_timers.specs.Messages.Requests.{request_text}
use Rattle.turn_client_proto_timers.specs.Messages.declared.request.TurnRequest.TheVariants.{ConnectionBind}
use Rattle.turn_client_proto_timers.specs.Core.declared.protocol.Protocol.{Protocol}
use Rattle.turn_client_proto_step_laws.specs.Sound.{AsksFor}
use Rattle.turn_client_proto_step_laws.proofs.Asking.{IsMade}
use Rattle.turn_client_proto_step_laws.proofs.Taken.{none_outstanding}

module _ (mid : Protocol) (here peer : SocketAddr) (connection number now : ℕ) (is : IsMade mid (ConnectionBind connection) number) where
  abbrev text : List ℕ
  text = request_text mid.auth (ConnectionBind connection) number

  -- What is outstanding with its transaction ID is that request.
  pub asks_bind : AsksFor (with_request mid.agent text mid.server now) (run.Connection here peer connection) number
  asks_bind t there =
      elim (sent mid.agent text mid.server now number t there) [
        | inl before ↦ absurd (Prim.cc (none_outstanding mid number (Some t) before is.is_next.free))
        | inr own ↦
            subst (λ (m : run.Message). run.Asks m (run.Holds (run.Connection here peer connection))) (sym (ap (λ (x : Transaction). decoded_by x.bytes) own.1 ∙ is.reported))
            (refl, refl)
      ]
