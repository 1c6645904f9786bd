use Rattle.stun_proto_agent.specs.Handling.{after_message}
use Rattle.stun_proto_agent.proofs.Numbers.{changed_new, fresh_shows, handled_new, polled_new, sent_shows, still_shows, transmitted_new}
use Rattle.stun_proto_agent.proofs.laws.numbers_are_listed.Goals as goal

pub returns-clause-fresh : goal.returns-clause-fresh
returns-clause-fresh c = λ agent is. fresh_shows agent is

pub returns-clause-sent : goal.returns-clause-sent
returns-clause-sent c = λ agent bytes to now shows. sent_shows agent bytes to now shows

pub returns-clause-handled : goal.returns-clause-handled
returns-clause-handled c = λ agent bytes from. still_shows agent (after_message agent bytes from) (handled_new agent bytes from)

pub returns-clause-polled : goal.returns-clause-polled
returns-clause-polled c = λ old new now answer is. still_shows old new (polled_new old new now answer is)

pub returns-clause-transmitted : goal.returns-clause-transmitted
returns-clause-transmitted c = λ old new now is. still_shows old new (transmitted_new old new now is)

pub returns-clause-changed : goal.returns-clause-changed
returns-clause-changed c = λ old new number change is. still_shows old new (changed_new old new number change is)
