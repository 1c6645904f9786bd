use Rattle.stun_proto_agent.proofs.Quiet.{quiet, slots_apart}
use Rattle.stun_proto_agent.proofs.laws.agent_laws.Goals as goal

pub returns-clause-apart : goal.returns-clause-apart
returns-clause-apart c = λ sent index waits. slots_apart sent index waits

pub returns-clause-quiet : goal.returns-clause-quiet
returns-clause-quiet c = λ agent now until time number t none next from_now before there.
    quiet agent now until time number t none next from_now before there
