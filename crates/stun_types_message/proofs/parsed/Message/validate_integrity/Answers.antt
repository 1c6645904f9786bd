use Rattle.std.proofs.Common.{sym}
use Rattle.stun_types_message.proofs.Validating.{valid_by, accepted_by, none_validates}
use Rattle.stun_types_message.proofs.parsed.Message.validate_integrity.Goals as goal

pub returns-in_default-clause-accepted : goal.returns-in_default-clause-accepted
returns-in_default-clause-accepted c algorithm text validates = absurd (none_validates _ _ algorithm text (sym c.in_default.ensures) validates)

pub returns-clause-valid : goal.returns-clause-valid
returns-clause-valid c = valid_by _ c.args.credentials.now _ c.in-Some.algorithm _ (sym c.in-Some.ensures) c.make_key-key.ensures c.validate_integrity_with_key.ensures.valid

pub returns-clause-accepted : goal.returns-clause-accepted
returns-clause-accepted c = accepted_by _ c.args.credentials.now _ c.in-Some.algorithm _ (sym c.in-Some.ensures) c.make_key-key.ensures c.validate_integrity_with_key.ensures.accepted
