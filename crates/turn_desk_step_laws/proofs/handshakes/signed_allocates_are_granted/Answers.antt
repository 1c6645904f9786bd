use Rattle.std.proofs.Common.{ap, refl, subst, sym}
use Rattle.turn_desk_core.specs.StunTypesWire.Types.{method_of}
use Rattle.turn_client_proto_messages.specs.Requests.{request_text}
use Rattle.turn_client_proto_messages.specs.declared.request.TurnRequest.TheVariants.{Allocate}
use Rattle.turn_desk_core.specs.declared.decision.Decision.TheVariants as decision
use Rattle.turn_desk_step_laws.specs.DeskRun.{AreReported}
use Rattle.turn_runs_laws.specs.TurnRuns.Messages.{Message}
use Rattle.turn_desk_step_laws.specs.Handshakes.{user_of}
use Rattle.turn_desk_step_laws.proofs.Requesting.{is_served}
use Rattle.turn_desk_step_laws.proofs.handshakes.signed_allocates_are_granted.Goals as goal

pub returns : goal.returns
returns c = λ old new from auth transport families options number now stream s relayed lifetime reply short reads few fits occurs own differ standing relayable reported lasts answer.
    let bytes = request_text auth (Allocate transport families options) number in
    let read = c.proof_requests_are_read.ensures.read auth (Allocate transport families options) number short few fits in
    let decodes = c.proof_requests_are_read.ensures.reported auth (Allocate transport families options) number short few fits tt in
    let served = is_served auth transport families options number read in
    let signed = c.signed_requests_are_of_users.ensures old.auth from auth (Allocate transport families options) number s short reads few fits refl occurs own in
    let answered = c.users_are_answered.ensures old new from bytes reply s.challenge.nonce now stream (decision.Allocate relayed lifetime) (user_of s) served standing own.nonce (λ hashed. differ) signed answer in
    c.allocations_are_granted.ensures old new from bytes reply (user_of s) transport relayed lifetime served (ap method_of read.kind) (ap (λ (m : Message). m.transport) decodes) relayable
    (subst (λ number. AreReported number relayed) (sym read.number) reported) lasts answered
