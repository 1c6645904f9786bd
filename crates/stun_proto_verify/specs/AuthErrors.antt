-- What a validation error reports.
use Rattle.std.specs.Prelude.{Option, Some, None}
use Rattle.stun_proto_auth.specs.Wire.declared.algorithm.IntegrityAlgorithm.{IntegrityAlgorithm}
use Rattle.stun_proto_auth.specs.Wire.declared.error.ValidateError.{ValidateError}
use Rattle.stun_proto_auth.specs.Wire.declared.error.ValidateError.TheVariants as invalid
use Rattle.stun_proto_verify.specs.declared.error.LongTermServerAuthError.{LongTermServerAuthError}
use Rattle.stun_proto_verify.specs.declared.error.LongTermServerAuthError.TheVariants.{Unauthorized, IntegrityFailed, BadRequest, StaleNonce, NoMemory}
use Rattle.stun_proto_verify.specs.declared.error.LongTermServerAuthErrorReason.{LongTermServerAuthErrorReason}
use Rattle.stun_proto_verify.specs.declared.error.LongTermServerAuthErrorReason.TheVariants as reason

-- The kind of an error.
abbrev pub reason_of : LongTermServerAuthError → LongTermServerAuthErrorReason
reason_of Unauthorized = reason.Unauthorized
reason_of (IntegrityFailed algorithm) = reason.IntegrityFailed
reason_of BadRequest = reason.BadRequest
reason_of StaleNonce = reason.StaleNonce
reason_of NoMemory = reason.NoMemory

-- The algorithm of a wrong digest; `None` for any other error.
abbrev pub integrity_of : LongTermServerAuthError → Option IntegrityAlgorithm
integrity_of (IntegrityFailed algorithm) = Some algorithm
integrity_of _ = None

-- The error for a message that does not validate with an algorithm. An integrity attribute of invalid length
-- is a wrong digest too.
abbrev pub digest_error : IntegrityAlgorithm → ValidateError → LongTermServerAuthError
digest_error algorithm (invalid.Parse cause) = IntegrityFailed algorithm
digest_error algorithm invalid.IntegrityFailed = IntegrityFailed algorithm
