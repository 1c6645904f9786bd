use Rattle.stun_types_wire.proofs.HeaderLaws.{not_stun_means, truncated_means, accepted_means}
use Rattle.stun_types_wire.proofs.grammar_laws.header_refusals.Goals as goal

pub returns-clause-not_stun : goal.returns-clause-not_stun
returns-clause-not_stun c = not_stun_means

pub returns-clause-truncated : goal.returns-clause-truncated
returns-clause-truncated c = truncated_means

pub returns-clause-accepted : goal.returns-clause-accepted
returns-clause-accepted c = accepted_means
