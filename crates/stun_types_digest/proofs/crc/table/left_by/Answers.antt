use Rattle.std.proofs.Common.{arith, ◌∙◌, ap, get_or, ◌+◌, ◌*◌}
use Rattle.stun_types_digest.specs.declared.crc.table.TheConstants.{TABLE}
use Rattle.stun_types_digest.proofs.Table.{entry}
use Rattle.stun_types_digest.proofs.crc.table.left_by.Goals as goal

pub returns : goal.returns
returns c = ap (λ b. get_or TABLE (256 * c.args.zeros + b) 0) c.from.ensures ∙ entry c.args.zeros c.args.byte c.requires (omega arith)
