-- The nonce of a server with long-term credentials (RFC 8489, section 9.2).
use Rattle.std.specs.Prelude.{ℕ, ◌+◌, ◌%◌, ◌==◌, nat_eq, Bool, true, false, not, if◌then◌else◌, List, [], ◌∷◌, ◌++◌, map, take, drop, length, slice_index, codes, bit_and}
use Rattle.std.specs.Cmp.Lexicographic.{pointwise}
use Rattle.std.specs.declared.result.Result.{Result}
use Rattle.std.specs.declared.result.Result.TheVariants.{Ok, Err}
use Rattle.base64.specs.declared.decode.DecodeError.{DecodeError}
use Rattle.base64.specs.GeneralPurpose.{encode_of, decode_of}
use Rattle.base64.specs.Engines.{standard}
use Rattle.stun_types_message.specs.Wire.declared.algorithm.IntegrityAlgorithm.{IntegrityAlgorithm}
use Rattle.stun_proto_auth.specs.SupportedAlgorithms.{needs_password_algorithms}
use Rattle.stun_proto_auth.specs.declared.feature.Feature.{Feature}
use Rattle.stun_proto_auth.specs.declared.feature.Feature.TheVariants.{Auto, Required, Disabled}
use Rattle.stun_proto_auth.specs.declared.nonce.NonceFeatures.{NonceFeatures}

-- The nonce cookie.
abbrev pub nonce_cookie : List ℕ
nonce_cookie = codes "obMatJos2"

-- Whether a server announces that it accepts the hash of a name: unless the feature is disabled.
abbrev pub takes_anonymous_username : Feature → Bool
takes_anonymous_username Auto = true
takes_anonymous_username Required = true
takes_anonymous_username Disabled = false

-- The features of a server that supports these algorithms.
abbrev pub features_offered : List IntegrityAlgorithm → Feature → NonceFeatures
features_offered algorithms anonymous_username = record {
  password_algorithms = needs_password_algorithms algorithms;
  anonymous_username = takes_anonymous_username anonymous_username;
}

-- The 24 bits of the features: bit 0 is the highest of the first byte, and bit 1 the next (RFC 8489, section
-- 18.1).
abbrev pub feature_bytes : NonceFeatures → List ℕ
feature_bytes features =
    ((if features.password_algorithms then 0x80 else 0) + (if features.anonymous_username then 0x40 else 0)) ∷ 0 ∷ 0
    ∷ []

-- The features whose bits are set in the first byte.
abbrev pub features_of_byte : ℕ → NonceFeatures
features_of_byte byte = record {
  password_algorithms = not (bit_and byte 0x80 == 0);
  anonymous_username = not (bit_and byte 0x40 == 0);
}

-- No features.
abbrev pub no_features : NonceFeatures
no_features = record { password_algorithms = false; anonymous_username = false }

-- A to Z, a to z, 0 to 9.
abbrev pub nonce_alphabet : List ℕ
nonce_alphabet = codes "ABCDEFGHIJKLMNOPQRSTUVWXYZabcdefghijklmnopqrstuvwxyz0123456789"

-- The character for a random word: the one at index word modulo 62.
abbrev pub nonce_character : ℕ → ℕ
nonce_character word = slice_index nonce_alphabet (word % 62)

-- The text of a nonce: the cookie, the features in base64, and one character for each word.
abbrev pub nonce_text : NonceFeatures → List ℕ → List ℕ
nonce_text features words = nonce_cookie ++ encode_of standard (feature_bytes features) ++ map nonce_character words

-- The features in the result of decoding four characters. Three bytes encode features; any other result means
-- none.
abbrev pub features_decoded : Result (List ℕ) DecodeError → NonceFeatures
features_decoded (Ok bytes) = if length bytes == 3 then features_of_byte (slice_index bytes 0) else no_features
features_decoded (Err error) = no_features

-- The features that a nonce announces, in the four characters after the cookie. It announces none if it does
-- not begin with the cookie.
abbrev pub features_in : List ℕ → NonceFeatures
features_in nonce =
    if pointwise nat_eq (take 9 nonce) nonce_cookie then features_decoded (decode_of standard (take 4 (drop 9 nonce)))
    else no_features
