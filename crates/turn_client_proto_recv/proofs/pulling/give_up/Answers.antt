use Rattle.std.proofs.Common.{ap, subst, sym, ◌∙◌}
use Rattle.turn_client_proto_core.specs.Ending.{HasFailed, failed}
use Rattle.turn_client_proto_recv.proofs.Failing.{fails_at_once}
use Rattle.turn_client_proto_recv.proofs.pulling.give_up.Goals as goal

pub returns : goal.returns
returns c =
    subst (λ p. HasFailed c.args.protocol.now p) (sym (c.fail.ensures ∙ ap (λ n. failed n c.args.protocol.now) c.len-events.ensures)) (fails_at_once c.args.protocol.now)
