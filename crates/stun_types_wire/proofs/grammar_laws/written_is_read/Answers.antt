use Rattle.stun_types_wire.proofs.Written.{written_read}
use Rattle.stun_types_wire.proofs.grammar_laws.written_is_read.Goals as goal

pub returns : goal.returns
returns c = written_read
