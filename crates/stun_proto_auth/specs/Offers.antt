-- What a list of password algorithms offers (RFC 8489, section 14.11).
use Rattle.std.specs.Prelude.{ℕ, ◌==◌, Bool, List}
use Rattle.std.specs.List.{list_any}
use Rattle.stun_types_message.specs.Wire.declared.algorithm.IntegrityAlgorithm.{IntegrityAlgorithm}
use Rattle.stun_types_message.specs.AuthAttributes.Entries.{numbers_decoded}
use Rattle.stun_proto_auth.specs.SupportedAlgorithms.{number_by}

-- Whether a PASSWORD-ALGORITHMS value lists the password algorithm that derives the keys of an integrity
-- algorithm.
abbrev pub offers : List ℕ → IntegrityAlgorithm → Bool
offers value algorithm = list_any (λ number. number == number_by algorithm) (numbers_decoded value)
