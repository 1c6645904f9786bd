-- The numbers of the protocol, for contracts: methods, attribute types, error codes, limits and sizes (RFC
-- 8489). Each is defined here only. `src/registry.rt` has the same numbers for the code.
use Rattle.std.specs.Prelude.{ℕ, ◌+◌, List, [], ◌∷◌, take}

-- ---- the header (section 5)

-- The four bytes of the magic cookie.
abbrev pub cookie : List ℕ
cookie = 0x21 ∷ 0x12 ∷ 0xA4 ∷ 0x42 ∷ []

-- The first half of the magic cookie, with which a port is xored (section 14.2).
abbrev pub cookie_head : List ℕ
cookie_head = take 2 cookie

-- The length of a header in bytes.
abbrev pub header_size : ℕ
header_size = 20

-- The maximum number of bytes after a header: the length field has sixteen bits.
abbrev pub greatest_data : ℕ
greatest_data = 65_535

-- The maximum length of a message in bytes.
abbrev pub greatest_size : ℕ
greatest_size = header_size + greatest_data

-- ---- methods (section 18.2)

-- BINDING
abbrev pub binding_method : ℕ
binding_method = 0x001

-- ---- types of attributes (section 18.3; RFC 8445, section 16.1)

-- The first comprehension-optional type: a receiver need not understand it (section 14).
abbrev pub first_optional_kind : ℕ
first_optional_kind = 0x8000

-- MAPPED-ADDRESS (section 14.1)
abbrev pub mapped_address_kind : ℕ
mapped_address_kind = 0x0001

-- USERNAME (section 14.3)
abbrev pub username_kind : ℕ
username_kind = 0x0006

-- MESSAGE-INTEGRITY (section 14.5)
abbrev pub integrity_kind : ℕ
integrity_kind = 0x0008

-- ERROR-CODE (section 14.8)
abbrev pub error_code_kind : ℕ
error_code_kind = 0x0009

-- UNKNOWN-ATTRIBUTES (section 14.13)
abbrev pub unknown_attributes_kind : ℕ
unknown_attributes_kind = 0x000A

-- REALM (section 14.9)
abbrev pub realm_kind : ℕ
realm_kind = 0x0014

-- NONCE (section 14.10)
abbrev pub nonce_kind : ℕ
nonce_kind = 0x0015

-- MESSAGE-INTEGRITY-SHA256 (section 14.6)
abbrev pub sha256_kind : ℕ
sha256_kind = 0x001C

-- MESSAGE-INTEGRITY-SHA512, an extension of this project that no RFC defines.
abbrev pub sha512_kind : ℕ
sha512_kind = 0x3F12

-- PASSWORD-ALGORITHM (section 14.12)
abbrev pub password_algorithm_kind : ℕ
password_algorithm_kind = 0x001D

-- USERHASH (section 14.4)
abbrev pub userhash_kind : ℕ
userhash_kind = 0x001E

-- XOR-MAPPED-ADDRESS (section 14.2)
abbrev pub xor_mapped_address_kind : ℕ
xor_mapped_address_kind = 0x0020

-- PRIORITY (RFC 8445, section 16.1)
abbrev pub priority_kind : ℕ
priority_kind = 0x0024

-- USE-CANDIDATE (RFC 8445, section 16.1)
abbrev pub use_candidate_kind : ℕ
use_candidate_kind = 0x0025

-- PASSWORD-ALGORITHMS (section 14.11)
abbrev pub password_algorithms_kind : ℕ
password_algorithms_kind = 0x8002

-- ALTERNATE-DOMAIN (section 14.16)
abbrev pub alternate_domain_kind : ℕ
alternate_domain_kind = 0x8003

-- SOFTWARE (section 14.14)
abbrev pub software_kind : ℕ
software_kind = 0x8022

-- ALTERNATE-SERVER (section 14.15)
abbrev pub alternate_server_kind : ℕ
alternate_server_kind = 0x8023

-- FINGERPRINT (section 14.7)
abbrev pub fingerprint_kind : ℕ
fingerprint_kind = 0x8028

-- ICE-CONTROLLED (RFC 8445, section 16.1)
abbrev pub ice_controlled_kind : ℕ
ice_controlled_kind = 0x8029

-- ICE-CONTROLLING (RFC 8445, section 16.1)
abbrev pub ice_controlling_kind : ℕ
ice_controlling_kind = 0x802A

-- ---- codes of errors (section 18.4; RFC 8656, section 19; RFC 6062, section 6.3; RFC 8445, section 16.2)

-- The least error code.
abbrev pub least_code : ℕ
least_code = 300

-- The greatest error code.
abbrev pub greatest_code : ℕ
greatest_code = 699

-- The client should try another server.
abbrev pub try_alternate_code : ℕ
try_alternate_code = 300

-- The request is malformed.
abbrev pub bad_request_code : ℕ
bad_request_code = 400

-- The request lacks the right credentials.
abbrev pub unauthorized_code : ℕ
unauthorized_code = 401

-- The request is valid but not permitted.
abbrev pub forbidden_code : ℕ
forbidden_code = 403

-- The request has a comprehension-required attribute that the server does not understand.
abbrev pub unknown_attribute_code : ℕ
unknown_attribute_code = 420

-- There is no allocation where one is needed, or there is one where none may be.
abbrev pub allocation_mismatch_code : ℕ
allocation_mismatch_code = 437

-- The nonce is no longer valid.
abbrev pub stale_nonce_code : ℕ
stale_nonce_code = 438

-- The server has no addresses of the requested family.
abbrev pub family_not_supported_code : ℕ
family_not_supported_code = 440

-- The credentials are not those of the allocation.
abbrev pub wrong_credentials_code : ℕ
wrong_credentials_code = 441

-- The requested transport is not supported.
abbrev pub unsupported_transport_code : ℕ
unsupported_transport_code = 442

-- The peer is of another family than the allocation.
abbrev pub family_mismatch_code : ℕ
family_mismatch_code = 443

-- There already is a connection to the peer.
abbrev pub connection_exists_code : ℕ
connection_exists_code = 446

-- The connection to the peer failed.
abbrev pub connection_failure_code : ℕ
connection_failure_code = 447

-- The user has as many allocations as the server permits.
abbrev pub quota_reached_code : ℕ
quota_reached_code = 486

-- Both ICE agents have the same role.
abbrev pub role_conflict_code : ℕ
role_conflict_code = 487

-- The server failed.
abbrev pub server_error_code : ℕ
server_error_code = 500

-- The server lacks the capacity for the request.
abbrev pub insufficient_capacity_code : ℕ
insufficient_capacity_code = 508

-- ---- limits and sizes, in bytes where nothing else is said

-- The maximum length of a USERNAME in bytes (section 14.3).
abbrev pub longest_username : ℕ
longest_username = 513

-- The maximum length of a REALM, a NONCE or a reason phrase in bytes (sections 14.8 to 14.10).
abbrev pub longest_text : ℕ
longest_text = 763

-- The maximum length of a SOFTWARE in bytes (section 14.14).
abbrev pub longest_software : ℕ
longest_software = 763

-- The maximum length of an ALTERNATE-DOMAIN in bytes (section 14.16).
abbrev pub longest_domain : ℕ
longest_domain = 255

-- The maximum length of a value in bytes: its length field has sixteen bits (section 14).
abbrev pub longest_value : ℕ
longest_value = 65_535

-- The length of a USERHASH in bytes (section 14.4).
abbrev pub userhash_length : ℕ
userhash_length = 32

-- The length of an HMAC-SHA1 in bytes (section 14.5).
abbrev pub sha1_length : ℕ
sha1_length = 20

-- The length of an HMAC-SHA256 in bytes (section 14.6).
abbrev pub sha256_length : ℕ
sha256_length = 32

-- The minimum length of a truncated HMAC-SHA256 in bytes (section 14.6).
abbrev pub least_sha256_length : ℕ
least_sha256_length = 16

-- The length of an HMAC-SHA512 in bytes.
abbrev pub sha512_length : ℕ
sha512_length = 64

-- The minimum length of a truncated HMAC-SHA512 in bytes.
abbrev pub least_sha512_length : ℕ
least_sha512_length = 16

-- The maximum number of algorithms in a PASSWORD-ALGORITHMS. The RFC sets no limit; this library does.
abbrev pub most_algorithms : ℕ
most_algorithms = 8

-- The length of a complete FINGERPRINT in bytes, header and value (section 14.7).
abbrev pub fingerprint_size : ℕ
fingerprint_size = 8

-- The number with which the CRC-32 of a FINGERPRINT is xored: `STUN` in ASCII (section 14.7).
abbrev pub fingerprint_mask : ℕ
fingerprint_mask = 0x5354_554E

-- ---- families of addresses (section 14.1)

-- The family number of IPv4.
abbrev pub ipv4_family : ℕ
ipv4_family = 1

-- The family number of IPv6.
abbrev pub ipv6_family : ℕ
ipv6_family = 2

-- The length of the value that holds an IPv4 address, in bytes.
abbrev pub ipv4_value_size : ℕ
ipv4_value_size = 8

-- The length of the value that holds an IPv6 address, in bytes.
abbrev pub ipv6_value_size : ℕ
ipv6_value_size = 20

-- ---- password algorithms (section 18.5)

-- The number of MD5.
abbrev pub md5_number : ℕ
md5_number = 1

-- The number of SHA-256.
abbrev pub sha256_number : ℕ
sha256_number = 2

-- The number of SHA-512, an extension of this project that no RFC defines.
abbrev pub sha512_number : ℕ
sha512_number = 0xFF12
