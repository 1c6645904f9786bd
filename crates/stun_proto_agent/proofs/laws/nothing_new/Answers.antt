use Rattle.stun_proto_agent.proofs.Numbers.{changed_new, handled_new, polled_new, transmitted_new}
use Rattle.stun_proto_agent.proofs.laws.nothing_new.Goals as goal

pub returns-clause-handled : goal.returns-clause-handled
returns-clause-handled c = λ agent bytes from. handled_new agent bytes from

pub returns-clause-polled : goal.returns-clause-polled
returns-clause-polled c = λ old new now answer is. polled_new old new now answer is

pub returns-clause-transmitted : goal.returns-clause-transmitted
returns-clause-transmitted c = λ old new now is. transmitted_new old new now is

pub returns-clause-changed : goal.returns-clause-changed
returns-clause-changed c = λ old new number change is. changed_new old new number change is
