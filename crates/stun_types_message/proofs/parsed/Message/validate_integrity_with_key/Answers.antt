use Rattle.stun_types_message.proofs.Validating.{accepts, answers}
use Rattle.stun_types_message.proofs.parsed.Message.validate_integrity_with_key.Goals as goal

pub returns-clause-valid : goal.returns-clause-valid
returns-clause-valid c = answers _ _ _ c.integrity_by.result c.integrity_by.ensures.message c.integrity_by.ensures.algorithm c.integrity_by.ensures.passed

pub returns-clause-accepted : goal.returns-clause-accepted
returns-clause-accepted c text signed = accepts _ _ _ text c.integrity_by.result c.integrity_by.ensures.algorithm c.integrity_by.ensures.refused signed
