-- The bytes of an ALLOCATE request (RFC 8656, section 7.1).
use Rattle.std.specs.Prelude.{ℕ, List, [], ◌∷◌, ◌++◌}
use Rattle.byteorder.specs.Endian.{big_bytes}
use Rattle.stun_types_wire.specs.declared.algorithm.IntegrityAlgorithm.{IntegrityAlgorithm}
use Rattle.stun_types_wire.specs.Attributes.{Attr}
use Rattle.stun_types_wire.specs.Text.{message_text}
use Rattle.stun_types_write.specs.Adding.{attr_of}
use Rattle.stun_types_integrity.specs.Signing.{signature}
use Rattle.turn_types_attributes.specs.TurnRegistry.{lifetime_kind, requested_transport_kind, allocate_method, udp_protocol}
use Rattle.stun_types_wire.specs.Registry.{nonce_kind, realm_kind, username_kind}
use Rattle.stun_types_wire.specs.declared.class.MessageClass.TheVariants.{Request}
use Rattle.stun_types_wire.specs.Types.{type_of}

-- The type of an ALLOCATE request.
abbrev pub requested_type : ℕ
requested_type = type_of Request allocate_method

-- The attributes of the request: REQUESTED-TRANSPORT for UDP, LIFETIME, USERNAME, REALM and NONCE.
abbrev pub requested : ℕ → List ℕ → List ℕ → List ℕ → List Attr
requested lifetime user realm nonce =
    attr_of requested_transport_kind (udp_protocol ∷ 0 ∷ 0 ∷ 0 ∷ [])
    ∷ attr_of lifetime_kind (big_bytes 4 lifetime)
    ∷ attr_of username_kind user
    ∷ attr_of realm_kind realm
    ∷ attr_of nonce_kind nonce
    ∷ []

-- The bytes of the request.
abbrev pub requested_text : ℕ → ℕ → List ℕ → List ℕ → List ℕ → List ℕ
requested_text lifetime number user realm nonce = message_text requested_type number (requested lifetime user realm nonce)

-- The bytes of the request, signed under a key.
abbrev pub signed_requested_text : IntegrityAlgorithm → List ℕ → ℕ → ℕ → List ℕ → List ℕ → List ℕ → List ℕ
signed_requested_text algorithm key lifetime number user realm nonce =
    message_text requested_type number (requested lifetime user realm nonce
    ++ signature algorithm key (requested_text lifetime number user realm nonce) ∷ [])
