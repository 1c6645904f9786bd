use Rattle.stun_proto_server.proofs.Isolated.{answers_alike, leaves_alike, leaves_alone, sets_alike}
use Rattle.stun_proto_server.proofs.laws.addresses_are_apart.Goals as goal

pub returns-clause-answers : goal.returns-clause-answers
returns-clause-answers c = λ client a b same. answers_alike client a b same

pub returns-clause-leaves : goal.returns-clause-leaves
returns-clause-leaves c = λ client a b same. leaves_alike client a b same

pub returns-clause-settings : goal.returns-clause-settings
returns-clause-settings c = λ client a b same. sets_alike client a b same

pub returns-clause-others : goal.returns-clause-others
returns-clause-others c = λ client other server different. leaves_alone client other server different
