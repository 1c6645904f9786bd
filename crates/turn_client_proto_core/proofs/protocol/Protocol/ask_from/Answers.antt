use Rattle.std.proofs.Common.{◌≡◌, ℕ, List, sym, ap, ◌∙◌, rules}
use Rattle.stun_proto_agent.specs.Sending.{request_refusal}
use Rattle.turn_client_proto_core.proofs.Sendable.{sendable}
use Rattle.turn_client_proto_core.proofs.protocol.Protocol.ask_from.Goals as goal

pub unreachable-requires-in_default-e : goal.unreachable-requires-in_default-e
unreachable-requires-in_default-e c =
    let refused = c.in-Err.ensures.cause.named c.in_default-e.not-NoMemory in
    let same : c.bytes.result.now ≡ c.in_ok-bytes.bytes.items = search rules in
    let is = c.in_ok-bytes.ensures.message in
    let fine = sendable c.args.self.now.agent c.in_ok-bytes.bytes.items c.args.transaction_id is.0 is.1 is.2 c.requires.unused in
    absurd (Prim.cc (sym (ap (λ (l : List ℕ). request_refusal c.args.self.now.agent l) same ∙ fine) ∙ refused))
