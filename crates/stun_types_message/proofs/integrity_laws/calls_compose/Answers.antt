use Rattle.stun_types_message.proofs.Composed.{calls_read, calls_validate, written_text}
use Rattle.stun_types_message.proofs.integrity_laws.calls_compose.Goals as goal

pub returns-clause-text : goal.returns-clause-text
returns-clause-text c = written_text

pub returns-clause-read : goal.returns-clause-read
returns-clause-read c = calls_read

pub returns-clause-validates : goal.returns-clause-validates
returns-clause-validates c = calls_validate
