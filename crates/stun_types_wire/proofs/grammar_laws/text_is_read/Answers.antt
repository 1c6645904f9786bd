use Rattle.stun_types_wire.proofs.Texts.{text_read}
use Rattle.stun_types_wire.proofs.grammar_laws.text_is_read.Goals as goal

pub returns : goal.returns
returns c = text_read
