-- What the success response to an ALLOCATE says (RFC 8656, section 7.3), and its bytes.
use Rattle.std.specs.Prelude.{◌≡◌, ◌<◌, ℕ, ◌==◌, Bool, IsTrue, List, [], ◌∷◌, ◌++◌, length, drop, find, is_some, None, Some, IsSomeAnd}
use Rattle.std.specs.declared.net.socket_addr.SocketAddr.TheVariants.{V4}
use Rattle.std.specs.declared.net.socket_addr.SocketAddrV4.{SocketAddrV4}
use Rattle.std.specs.Net.Addr.{ipv4_bits}
use Rattle.std.specs.Net.Socket.{v4_ip, v4_port}
use Rattle.byteorder.specs.Endian.{big_bytes, big_number}
use Rattle.stun_types_wire.specs.declared.algorithm.IntegrityAlgorithm.{IntegrityAlgorithm}
use Rattle.stun_types_wire.specs.Attributes.{Attr}
use Rattle.stun_types_wire.specs.Fingerprints.{fingerprint_of}
use Rattle.stun_types_wire.specs.Grammar.{number_at, visible}
use Rattle.stun_types_wire.specs.declared.class.MessageClass.TheVariants.{Success}
use Rattle.stun_types_wire.specs.Text.{message_text}
use Rattle.stun_types_wire.specs.Types.{type_of}
use Rattle.stun_types_write.specs.Adding.{IsStarted}
use Rattle.stun_types_write.specs.ValueReading.{value_refusal}
use Rattle.stun_types_attributes.specs.Addresses.{address_again, address_of, address_read_refusal, value_of_parts}
use Rattle.stun_types_attributes.specs.Xor.{xored}
use Rattle.stun_types_integrity.specs.Signing.{signature}
use Rattle.bench_codec.specs.declared.allocation.Allocation.{Allocation}
use Rattle.stun_types_wire.specs.Registry.{fingerprint_kind, integrity_kind, software_kind, xor_mapped_address_kind}
use Rattle.turn_types_attributes.specs.TurnRegistry.{allocate_method, lifetime_kind, xor_relayed_address_kind}

-- The type of the success response to an ALLOCATE.
abbrev pub granted_type : ℕ
granted_type = type_of Success allocate_method

-- ---- what is read

-- Whether a message has a visible attribute of this type.
abbrev pub shows_kind : ℕ → List ℕ → Bool
shows_kind kind bytes = is_some (find (λ a. a.kind == kind) (visible bytes))

-- The first visible attribute of this type is well-formed and contains this IPv4 address.
abbrev pub ReportsAddress : ℕ → List ℕ → SocketAddrV4 → Type 0
ReportsAddress kind bytes addr =
    IsSomeAnd (find (λ a. a.kind == kind) (visible bytes))
    (λ a. (address_read_refusal kind a ≡ None) × (address_of (xored (number_at bytes) (address_again a.value))
    ≡ Some (V4 addr)))

-- The first visible LIFETIME is well-formed and contains this number of seconds.
abbrev pub ReportsLifetime : List ℕ → ℕ → Type 0
ReportsLifetime bytes seconds =
    IsSomeAnd (find (λ a. a.kind == lifetime_kind) (visible bytes))
    (λ a. (value_refusal lifetime_kind 4 4 a ≡ None) × (seconds ≡ big_number 4 a.value))

-- The socket address has this IPv4 address, as an integer, and this port.
pub record IsIndex (ip port : ℕ) (addr : SocketAddrV4) : Type 0 where
  pub has_ip : ip ≡ ipv4_bits (v4_ip addr)
  pub has_port : port ≡ v4_port addr

-- The message's visible attributes describe this allocation and include SOFTWARE and MESSAGE-INTEGRITY.
pub record Reports (bytes : List ℕ) (reported : Allocation) : Type 0 where
  pub relayed : SocketAddrV4
  pub is_relayed : ReportsAddress xor_relayed_address_kind bytes relayed
  pub relayed_index : IsIndex reported.relayed_ip reported.relayed_port relayed
  pub mapped : SocketAddrV4
  pub is_mapped : ReportsAddress xor_mapped_address_kind bytes mapped
  pub mapped_index : IsIndex reported.mapped_ip reported.mapped_port mapped
  pub lifetime : ReportsLifetime bytes reported.lifetime
  pub software : IsTrue (shows_kind software_kind bytes)
  pub integrity : IsTrue (shows_kind integrity_kind bytes)

-- ---- what is written

-- The attribute value for an IPv4 address and a port.
abbrev pub index_value : ℕ → ℕ → List ℕ
index_value ip port = value_of_parts 1 port (big_bytes 4 ip)

-- The attributes of the response: XOR-RELAYED-ADDRESS, LIFETIME, XOR-MAPPED-ADDRESS and SOFTWARE.
abbrev pub allocated : Allocation → ℕ → List ℕ → List Attr
allocated reported number software =
    record { kind = xor_relayed_address_kind; value = xored number (index_value reported.relayed_ip reported.relayed_port) }
    ∷ record { kind = lifetime_kind; value = big_bytes 4 reported.lifetime }
    ∷ record { kind = xor_mapped_address_kind; value = xored number (index_value reported.mapped_ip reported.mapped_port) }
    ∷ record { kind = software_kind; value = software }
    ∷ []

-- The bytes of the response.
abbrev pub allocated_text : Allocation → ℕ → List ℕ → List ℕ
allocated_text reported number software = message_text granted_type number (allocated reported number software)

-- The attributes of a message, and after them the integrity attribute that signs it under a key.
abbrev pub signed : IntegrityAlgorithm → List ℕ → ℕ → ℕ → List Attr → List Attr
signed algorithm key mtype number adds = adds ++ signature algorithm key (message_text mtype number adds) ∷ []

-- The attributes of the signed message, and after them its FINGERPRINT.
abbrev pub marked : IntegrityAlgorithm → List ℕ → ℕ → ℕ → List Attr → List Attr
marked algorithm key mtype number adds =
    signed algorithm key mtype number adds
    ++ fingerprint_of (message_text mtype number (signed algorithm key mtype number adds)) ∷ []

-- The bytes of the response, signed under a key.
abbrev pub signed_text : IntegrityAlgorithm → List ℕ → Allocation → ℕ → List ℕ → List ℕ
signed_text algorithm key reported number software =
    message_text granted_type number (signed algorithm key granted_type number (allocated reported number software))

-- The bytes of the response, signed under a key and with its FINGERPRINT.
abbrev pub marked_text : IntegrityAlgorithm → List ℕ → Allocation → ℕ → List ℕ → List ℕ
marked_text algorithm key reported number software =
    message_text granted_type number (marked algorithm key granted_type number (allocated reported number software))

-- If `old` is the bytes of a message, `new` is the bytes of that message signed under a key and with its
-- FINGERPRINT.
abbrev pub IsMarked : IntegrityAlgorithm → List ℕ → List ℕ → List ℕ → Type 0
IsMarked algorithm key old new =
    (mtype number : ℕ) (adds : List Attr) → old ≡ message_text mtype number adds
    → new ≡ message_text mtype number (marked algorithm key mtype number adds)

-- The bytes are a started response with this transaction ID and no attributes.
pub record BeginsResponse (number : ℕ) (bytes : List ℕ) : Type 0 where
  pub text : bytes ≡ message_text granted_type number []
  pub started : IsStarted bytes

-- The text is at the start of the bytes, and the rest of them is unchanged.
pub record IsWritten (text before after : List ℕ) (size : ℕ) : Type 0 where
  pub has_size : size ≡ length text
  pub bytes : after ≡ text ++ drop size before

-- Either the text was written to the start of the bytes and `size` is its length, or `size` is 0 and nothing
-- was written.
pub record WritesOut (text before after : List ℕ) (size : ℕ) : Type 0 where
  pub written : 0 < size → IsWritten text before after size
  pub refused : size ≡ 0 → after ≡ before

-- The size is 0 or the length of the text.
abbrev pub IsSizeOf : List ℕ → ℕ → Type 0
IsSizeOf text size = 0 < size → size ≡ length text
