-- The bytes of an ALLOCATE request that a user signs (RFC 8656, section 7.1; RFC 8489, section 14.5).
use Rattle.std.specs.Prelude.{ℕ, List, [], ◌∷◌, ◌++◌}
use Rattle.stun_types.specs.Adding.{attr_of}
use Rattle.stun_types.specs.Attributes.{Attr}
use Rattle.stun_types.specs.Credentials.{LongTermSecret, long_term_key}
use Rattle.stun_types.specs.IntegrityAlgorithms.{Sha1}
use Rattle.stun_types.specs.MessageClasses.{Request}
use Rattle.stun_types.specs.Registry.{nonce_kind, realm_kind, username_kind}
use Rattle.stun_types.specs.Signing.{signature}
use Rattle.stun_types.specs.Text.{message_text}
use Rattle.stun_types.specs.Types.{type_of}
use Rattle.turn_types.specs.TurnRegistry.{allocate_method, requested_transport_kind, udp_protocol}

-- The type of an ALLOCATE request.
abbrev pub requested_type : ℕ
requested_type = type_of Request allocate_method

-- The attributes before the signature: REQUESTED-TRANSPORT UDP, USERNAME, REALM, NONCE.
abbrev pub requested : LongTermSecret → List ℕ → List Attr
requested user nonce =
    attr_of requested_transport_kind (udp_protocol ∷ 0 ∷ 0 ∷ 0 ∷ [])
    ∷ attr_of username_kind user.username
    ∷ attr_of realm_kind user.realm
    ∷ attr_of nonce_kind nonce
    ∷ []

-- The bytes of the request, signed with the user's key.
abbrev pub signed_text : ℕ → LongTermSecret → List ℕ → List ℕ
signed_text number user nonce = message_text requested_type number
    (requested user nonce
    ++ signature Sha1 (long_term_key user Sha1).bytes (message_text requested_type number (requested user nonce)) ∷ [])
