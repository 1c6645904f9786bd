use Rattle.stun_proto_agent.proofs.Numbers.{answered_without, ended_without, sent}
use Rattle.stun_proto_agent.proofs.laws.numbers_come_and_go.Goals as goal

pub returns-clause-answered : goal.returns-clause-answered
returns-clause-answered c = λ agent bytes from ends. answered_without agent bytes from ends

pub returns-clause-ended : goal.returns-clause-ended
returns-clause-ended c = λ old new now number over end. ended_without old new now number over end

pub returns-clause-sent : goal.returns-clause-sent
returns-clause-sent c = λ agent bytes to now number t there. sent agent bytes to now number t there
