-- A request that was written can be sent if its transaction ID isn't outstanding.
use Rattle.std.proofs.Common.{◌≡◌, ℕ, true, List, None, refl, ap, ◌∙◌}
use Rattle.std.specs.FinMap as map
use Rattle.stun_types_wire.specs.Grammar.{number_at, refusal}
use Rattle.stun_proto_agent.specs.Sending.{is_request, request_refusal}
use Rattle.stun_proto_agent.specs.State.{Agent}
use Rattle.turn_client_proto_core.specs.Numbering.{IsUnused}

pub sendable : (agent : Agent) (bytes : List ℕ) (number : ℕ) → refusal bytes ≡ None → is_request bytes ≡ true → number_at bytes ≡ number → IsUnused agent number
    → request_refusal agent bytes ≡ None
unfolding request_refusal
sendable agent bytes number message request same unused =
    let none : map.get agent.outstanding (number_at bytes) ≡ None = ap (λ (n : ℕ). map.get agent.outstanding n) same ∙ unused.none in
    rw (message, request, none) refl
