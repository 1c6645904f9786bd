use Rattle.stun_types_digest.proofs.Remainder.{crc32_remainder, remainder_unique}
use Rattle.stun_types_digest.proofs.crc.crc32_is_the_remainder.Goals as goal

pub returns-clause-remainder : goal.returns-clause-remainder
returns-clause-remainder c = crc32_remainder

pub returns-clause-unique : goal.returns-clause-unique
returns-clause-unique c = remainder_unique
