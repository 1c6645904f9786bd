use Rattle.stun_types_message.proofs.Covered.{fixes}
use Rattle.stun_types_message.proofs.integrity_laws.covered_text_fixes_message.Goals as goal

pub returns : goal.returns
returns c = fixes
