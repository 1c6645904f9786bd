use Rattle.std.proofs.Common.{rules}
use Rattle.stun_types_wire.proofs.Headers.{number_in_words}
use Rattle.stun_types_wire.specs.Text.{header_text}
use Rattle.stun_types_wire.proofs.header.MessageHeader.to_bytes.Goals as goal

pub returns-clause-text : goal.returns-clause-text
unfolding header_text
returns-clause-text c =
    let words = number_in_words c.args.self.number in
    rw (c.write_u16.ensures, c.write_u16-2.ensures, c.write_u32.ensures, c.write_u32-2.ensures, c.write_u64.ensures) (search rules)
