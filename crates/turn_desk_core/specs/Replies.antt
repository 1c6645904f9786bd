-- The attributes of a server core's replies, before its authenticator adds to them (RFC 8489, section 6.3.4;
-- RFC 8656, section 7.3).
use Rattle.std.specs.Prelude.{◌≡◌, ℕ, List, [], ◌∷◌, ◌++◌, map, None}
use Rattle.std.specs.List.{AllByRecursion}
use Rattle.std.specs.declared.net.socket_addr.SocketAddr.{SocketAddr}
use Rattle.byteorder.specs.Endian.{big_bytes}
use Rattle.stun_types_wire.specs.declared.algorithm.IntegrityAlgorithm.{IntegrityAlgorithm}
use Rattle.stun_types_wire.specs.declared.class.MessageClass.TheVariants.{Success}
use Rattle.stun_types_wire.specs.Attributes.{Attr, kind_at}
use Rattle.stun_types_wire.specs.Types.{method_of, type_of}
use Rattle.stun_types_wire.specs.Text.{message_text}
use Rattle.stun_types_write.specs.Drafts.{Draft, empty}
use Rattle.stun_types_add.specs.Calls.{IsComposed, IsOrdinary}
use Rattle.stun_types_attributes.specs.Addresses.{address_value}
use Rattle.stun_types_attributes.specs.Xor.{xored}
use Rattle.stun_types_message.specs.Objections.{error_attribute}
use Rattle.stun_types_add.specs.Integrity.Signing.{signature, signing_refusal}
use Rattle.turn_types_attributes.specs.TurnRegistry.{lifetime_kind, xor_relayed_address_kind}
use Rattle.stun_types_wire.specs.Registry.{xor_mapped_address_kind}

-- The message type of the success response to a request.
abbrev pub success_type : List ℕ → ℕ
success_type request = type_of Success (method_of (kind_at request))

-- The attributes of an error response: ERROR-CODE.
abbrev pub failure_attributes : ℕ → List Attr
failure_attributes code = error_attribute code ∷ []

-- XOR-RELAYED-ADDRESS for an address, in a message with the `transaction_id`.
abbrev pub relayed_attribute : ℕ → SocketAddr → Attr
relayed_attribute transaction_id addr = record { kind = xor_relayed_address_kind; value = xored transaction_id (address_value addr) }

abbrev pub relayed_attributes : ℕ → List SocketAddr → List Attr
relayed_attributes transaction_id addrs = map (relayed_attribute transaction_id) addrs

-- The attributes of the success response to an ALLOCATE: XOR-RELAYED-ADDRESS for each address, LIFETIME, and
-- XOR-MAPPED-ADDRESS for the source.
abbrev pub allocated_attributes : ℕ → List SocketAddr → ℕ → SocketAddr → List Attr
allocated_attributes transaction_id relayed lifetime from =
    relayed_attributes transaction_id relayed
    ++ record { kind = lifetime_kind; value = big_bytes 4 lifetime }
    ∷ record { kind = xor_mapped_address_kind; value = xored transaction_id (address_value from) }
    ∷ []

-- A reply that is written: a message was started, and these ordinary attributes were added. Signing it, with
-- any algorithm, can fail only if an allocation fails.
pub record IsReply (kind transaction_id : ℕ) (attributes : List Attr) (reply : Draft) : Type 0 where
  pub composed : IsComposed kind transaction_id attributes (empty [] None) reply
  pub lawful : AllByRecursion IsOrdinary attributes
  pub signable : (algorithm : IntegrityAlgorithm) → signing_refusal reply algorithm algorithm ≡ None

-- ---- what a signed reply shows

-- The attributes of a message with this type and transaction ID, signed under a key.
abbrev pub signed_attributes : ℕ → ℕ → List Attr → List ℕ → IntegrityAlgorithm → List Attr
signed_attributes kind transaction_id attributes key algorithm = attributes
    ++ signature algorithm key (message_text kind transaction_id attributes) ∷ []

-- The bytes of a message that is signed under a key.
abbrev pub signed_text : ℕ → ℕ → List Attr → List ℕ → IntegrityAlgorithm → List ℕ
signed_text kind transaction_id attributes key algorithm = message_text kind transaction_id
    (signed_attributes kind transaction_id attributes key algorithm)
