use Rattle.std.proofs.Common.{rules}
use Rattle.stun_types_wire.specs.Covered.{with_length}
use Rattle.stun_types_write.proofs.text.write_length.Goals as goal

pub returns : goal.returns
unfolding with_length
returns c = search rules
