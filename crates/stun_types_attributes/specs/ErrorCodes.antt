-- Error codes and their reason phrases (RFC 8489, section 14.8; RFC 8656, section 19).
use Rattle.std.specs.Prelude.{ℕ, ◌/◌, ◌%◌, ◌==◌, ◌||◌, nat_lt, List, ◌∷◌, codes, Option, Some, unwrap_or, if◌then◌else◌}
use Rattle.stun_types_wire.specs.declared.error.StunWriteError.{StunWriteError}
use Rattle.stun_types_wire.specs.declared.error.StunWriteError.TheVariants.{OutOfRange}
use Rattle.stun_types_auth_attributes.specs.Texts.{text_refusal}
use Rattle.stun_types_wire.specs.Registry.{longest_text, allocation_mismatch_code, bad_request_code, connection_exists_code, connection_failure_code, family_mismatch_code, family_not_supported_code, forbidden_code, greatest_code, insufficient_capacity_code, least_code, quota_reached_code, role_conflict_code, server_error_code, stale_nonce_code, try_alternate_code, unauthorized_code, unknown_attribute_code, unsupported_transport_code, wrong_credentials_code}

-- A code and the bytes of its reason phrase.
pub record CodeAndReason : Type 0 where
  pub code : ℕ
  pub reason : List ℕ

-- A code, and a reason phrase that replaces the default one, if there is one.
pub record CodeAndOther : Type 0 where
  pub code : ℕ
  pub reason : Option (List ℕ)

-- The value: two zeros, the hundreds of the code, the rest of it, the reason phrase.
abbrev pub error_value : CodeAndReason → List ℕ
error_value e = 0 ∷ 0 ∷ (e.code / 100) ∷ (e.code % 100) ∷ e.reason

-- Why an ERROR-CODE can't be made of a code and a reason phrase. The code is checked first.
unfoldable pub error_refusal : ℕ → List ℕ → Option StunWriteError
error_refusal code reason = if nat_lt code least_code || nat_lt greatest_code code
    then Some (OutOfRange code least_code greatest_code)
    else text_refusal longest_text reason

-- The default reason phrase of a code.
abbrev pub reason_for : ℕ → List ℕ
reason_for code =
    if code == try_alternate_code then codes "Try Alternate"
    else if code == bad_request_code then codes "Bad Request"
    else if code == unauthorized_code then codes "Unauthorized"
    else if code == forbidden_code then codes "Forbidden"
    else if code == unknown_attribute_code then codes "Unknown Attribute"
    else if code == allocation_mismatch_code then codes "Allocation Mismatch"
    else if code == stale_nonce_code then codes "Stale Nonce"
    else if code == family_not_supported_code then codes "Address Family not Supported"
    else if code == wrong_credentials_code then codes "Wrong Credentials"
    else if code == unsupported_transport_code then codes "Unsupported Transport Protocol"
    else if code == family_mismatch_code then codes "Peer Address Family Mismatch"
    else if code == connection_exists_code then codes "Connection Already Exists"
    else if code == connection_failure_code then codes "Connection Timeout or Failure"
    else if code == quota_reached_code then codes "Allocation Quota Reached"
    else if code == role_conflict_code then codes "Role Conflict"
    else if code == server_error_code then codes "Server Error"
    else if code == insufficient_capacity_code then codes "Insufficient Capacity"
    else codes "Unknown"

-- The reason phrase that is used: the other one, or else the default of the code.
abbrev pub reason_of : CodeAndOther → List ℕ
reason_of decoded = unwrap_or decoded.reason (reason_for decoded.code)
