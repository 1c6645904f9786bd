use Rattle.stun_types_write.proofs.Values.{utf8_is_accepted, text_is_accepted}
use Rattle.stun_types_write.proofs.reading.proof_text_is_read.Goals as goal

pub returns-clause-utf8 : goal.returns-clause-utf8
returns-clause-utf8 c = utf8_is_accepted _ c.utf8.text

pub returns-clause-accepted : goal.returns-clause-accepted
returns-clause-accepted c = λ kind. text_is_accepted kind _ _ c.requires (utf8_is_accepted _ c.utf8.text)
