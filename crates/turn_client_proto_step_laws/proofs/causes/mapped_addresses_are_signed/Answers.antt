use Rattle.turn_client_proto_step_laws.proofs.SignedCauses.{signed_address}
use Rattle.turn_client_proto_step_laws.proofs.causes.mapped_addresses_are_signed.Goals as goal

pub returns : goal.returns
returns k = λ c bytes now handled new sound are_bytes is h. signed_address c bytes now handled new sound are_bytes is h
