use Rattle.stun_types_wire.proofs.Converse.{has_right_fingerprint, has_text}
use Rattle.stun_types_wire.proofs.grammar_laws.message_is_text.Goals as goal

pub returns-clause-text : goal.returns-clause-text
returns-clause-text c = has_text

pub returns-clause-fingerprint : goal.returns-clause-fingerprint
returns-clause-fingerprint c = has_right_fingerprint
