use Rattle.stun_types_message.proofs.Signed.{signed_is_signed, signed_is_valid}
use Rattle.stun_types_message.proofs.integrity_laws.signed_validates.Goals as goal

pub returns-clause-signed : goal.returns-clause-signed
returns-clause-signed c kind number adds key algorithm following all is k n fits following-fits shape short fingerprint =
    (signed_is_signed kind number adds key algorithm following all is k n fits following-fits shape short fingerprint).0

pub returns-clause-validates : goal.returns-clause-validates
returns-clause-validates c = signed_is_valid
