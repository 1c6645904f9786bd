-- The names of methods and attribute types.
use Rattle.std.specs.Prelude.{ℕ, ◌==◌, List, codes, if◌then◌else◌, refl}
use Rattle.std.specs.Coded.{Coded, code_by, coded×, coded_ℕ, coded_list}
use Rattle.std.specs.FinMap as map
use Rattle.std.specs.Option.{unwrap_or}
use Rattle.std.specs.Ordering.{nat_cmp}
use Rattle.stun_types_wire.specs.Registry.{alternate_domain_kind, alternate_server_kind, error_code_kind, fingerprint_kind, integrity_kind, mapped_address_kind, nonce_kind, password_algorithm_kind, password_algorithms_kind, realm_kind, sha256_kind, sha512_kind, software_kind, unknown_attributes_kind, userhash_kind, username_kind, xor_mapped_address_kind, binding_method}

-- Names that were added, by the number of the method or type.
abbrev pub NamesByNumber : Type 0
NamesByNumber = map.FinMap nat_cmp (List ℕ)

-- The names that were added for methods and for attribute types.
pub record Named : Type 0 where
  pub methods : NamesByNumber
  pub attributes : NamesByNumber

-- The coding of names by number.
abbrev pub by_number_code : Coded NamesByNumber
by_number_code = map.code coded_ℕ (coded_list coded_ℕ)

-- The coding of all names.
abbrev pub named_code : Coded Named
named_code =
    code_by (NamesByNumber × NamesByNumber) (coded× by_number_code by_number_code)
    (λ n. (n.methods, n.attributes)) (λ p. record { methods = p.0; attributes = p.1 }) (λ _. refl)

-- The name of a method for which none was added.
abbrev pub known_method : ℕ → List ℕ
known_method n = if n == binding_method then codes "BINDING" else codes "unknown"

-- The name of an attribute type for which none was added: that of RFC 8489, for its types that this library
-- reads, and that of this project's extension.
abbrev pub known_attribute : ℕ → List ℕ
known_attribute n =
    if n == mapped_address_kind then codes "MAPPED-ADDRESS"
    else if n == username_kind then codes "USERNAME"
    else if n == integrity_kind then codes "MESSAGE-INTEGRITY"
    else if n == error_code_kind then codes "ERROR-CODE"
    else if n == unknown_attributes_kind then codes "UNKNOWN-ATTRIBUTES"
    else if n == realm_kind then codes "REALM"
    else if n == nonce_kind then codes "NONCE"
    else if n == sha256_kind then codes "MESSAGE-INTEGRITY-SHA256"
    else if n == sha512_kind then codes "MESSAGE-INTEGRITY-SHA512"
    else if n == password_algorithm_kind then codes "PASSWORD-ALGORITHM"
    else if n == userhash_kind then codes "USERHASH"
    else if n == xor_mapped_address_kind then codes "XOR-MAPPED-ADDRESS"
    else if n == password_algorithms_kind then codes "PASSWORD-ALGORITHMS"
    else if n == alternate_domain_kind then codes "ALTERNATE-DOMAIN"
    else if n == software_kind then codes "SOFTWARE"
    else if n == alternate_server_kind then codes "ALTERNATE-SERVER"
    else if n == fingerprint_kind then codes "FINGERPRINT"
    else codes "unknown"

-- The name of a method: the one added last, or else the known one.
abbrev pub method_name : Named → ℕ → List ℕ
method_name named n = unwrap_or (map.get named.methods n) (known_method n)

-- The name of an attribute type: the one added last, or else the known one.
abbrev pub attribute_name : Named → ℕ → List ℕ
attribute_name named n = unwrap_or (map.get named.attributes n) (known_attribute n)
