use Rattle.std.proofs.Common.{◌≡◌, ◌++◌, take, map}
use Rattle.std.specs.String.{string_bytes}
use Rattle.base64.specs.GeneralPurpose.{encode_of}
use Rattle.base64.specs.Engines.{standard}
use Rattle.stun_proto_auth.specs.Nonce.{nonce_cookie, feature_bytes, nonce_character}
use Rattle.stun_proto_auth.proofs.nonce.write_nonce.Given as goal

abbrev pub invariant-loop-word : goal.invariant-loop-word
invariant-loop-word l = string_bytes l.text ≡ nonce_cookie ++ encode_of standard (feature_bytes l.fn.features) ++ map nonce_character (take l.word-index l.words)
