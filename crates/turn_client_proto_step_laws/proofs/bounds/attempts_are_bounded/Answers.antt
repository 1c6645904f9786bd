use Rattle.std.proofs.Common.{◌∙◌}
use Rattle.turn_client_proto_step_laws.proofs.Limits.{attempt_within}
use Rattle.turn_client_proto_step_laws.proofs.bounds.attempts_are_bounded.Goals as goal

pub returns-clause-limit : goal.returns-clause-limit
returns-clause-limit c = λ limit old new bytes handled is taken. (attempt_within limit old new bytes handled is taken).same ∙ is

pub returns-clause-waiting : goal.returns-clause-waiting
returns-clause-waiting c = λ limit old new bytes handled is taken. (attempt_within limit old new bytes handled is taken).waits

pub returns-clause-queued : goal.returns-clause-queued
returns-clause-queued c = λ limit old new bytes handled is taken. (attempt_within limit old new bytes handled is taken).queued
