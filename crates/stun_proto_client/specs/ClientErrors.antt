-- What a validation error reports.
use Rattle.std.specs.Prelude.{Option, Some, None}
use Rattle.stun_proto_auth.specs.Wire.declared.algorithm.IntegrityAlgorithm.{IntegrityAlgorithm}
use Rattle.stun_proto_client.specs.declared.error.LongTermClientAuthError.{LongTermClientAuthError}
use Rattle.stun_proto_client.specs.declared.error.LongTermClientAuthError.TheVariants.{Unauthorized, IntegrityFailed, UnsupportedFeature, NoMemory}
use Rattle.stun_proto_client.specs.declared.error.LongTermClientAuthErrorReason.{LongTermClientAuthErrorReason}
use Rattle.stun_proto_client.specs.declared.error.LongTermClientAuthErrorReason.TheVariants as reason

-- The kind of an error.
abbrev pub reason_of : LongTermClientAuthError → LongTermClientAuthErrorReason
reason_of Unauthorized = reason.Unauthorized
reason_of (IntegrityFailed algorithm) = reason.IntegrityFailed
reason_of UnsupportedFeature = reason.UnsupportedFeature
reason_of NoMemory = reason.NoMemory

-- The algorithm of the last integrity attribute if the error is a wrong digest, otherwise `None`.
abbrev pub integrity_of : LongTermClientAuthError → Option IntegrityAlgorithm
integrity_of Unauthorized = None
integrity_of (IntegrityFailed algorithm) = Some algorithm
integrity_of UnsupportedFeature = None
integrity_of NoMemory = None
