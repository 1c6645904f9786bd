-- What is wrong with the visible attributes of a request, and the error response to it (RFC 8489, sections
-- 6.3.1, 14.8 and 14.13).
use Rattle.std.specs.Prelude.{◌≡◌, ℕ, ◌+◌, ◌*◌, ◌==◌, ◌&&◌, eqb, nat_lt, Bool, false, not, List, [], ◌∷◌, ◌++◌, ⊤, length, filter, Option, Some, None, if◌then◌else◌}
use Rattle.std.specs.List.{AllByRecursion, IsDistinct, list_any}
use Rattle.std.specs.Option.{option_or}
use Rattle.stun_types_attributes.specs.Wire.declared.class.MessageClass.TheVariants.{Error}
use Rattle.stun_types_attributes.specs.Wire.declared.error.StunWriteError.{StunWriteError}
use Rattle.stun_types_attributes.specs.Wire.Attributes.{Attr, kind_at, padded}
use Rattle.stun_types_attributes.specs.Wire.Shape.{kinds_of}
use Rattle.stun_types_attributes.specs.Wire.Types.{method_of, type_of}
use Rattle.stun_types_add.specs.Write.Adding.{has_kind, room_refusal, size_refusal}
use Rattle.stun_types_add.specs.Write.Drafts.{Draft}
use Rattle.stun_types_add.specs.Calls.{IsComposed}
use Rattle.stun_types_attributes.specs.ErrorCodes.{error_value, reason_for}
use Rattle.stun_types_attributes.specs.UnknownTypes.{types_refusal, types_value, with_type}
use Rattle.stun_types_attributes.specs.Wire.Registry.{error_code_kind, unknown_attributes_kind, bad_request_code, first_optional_kind, unknown_attribute_code}

-- ---- the types

-- The type is comprehension-required and not supported.
abbrev pub is_unknown : List ℕ → ℕ → Bool
is_unknown supported kind = nat_lt kind first_optional_kind && not (has_kind kind supported)

-- The list without duplicates: each number at its first position.
unfoldable pub each_once : List ℕ → List ℕ
each_once [] = []
each_once (n ∷ rest) = n ∷ filter (λ m. not (n == m)) (each_once rest)

-- The unknown types of these attributes, each once, in the order in which they first appear.
unfoldable pub unknown_kinds : List Attr → List ℕ → List ℕ
unknown_kinds all supported = each_once (filter (is_unknown supported) (kinds_of all))

-- The type `first` appears before `second` does: at a position before which `second` does not appear.
pub record IsVisibleBefore (kinds : List ℕ) (first second : ℕ) : Type 0 where
  pub before : List ℕ
  pub following : List ℕ
  pub parts : kinds ≡ before ++ first ∷ following
  pub none : has_kind second before ≡ false

-- Each type of a list appears in `kinds` before those that follow it in the list.
unfoldable pub IsInOrder : List ℕ → List ℕ → Type 0
IsInOrder kinds [] = ⊤
IsInOrder kinds (kind ∷ list) = AllByRecursion (IsVisibleBefore kinds kind) list × IsInOrder kinds list

-- The list has exactly the unknown types among `kinds`, without duplicates, in the order in which they first
-- appear.
pub record IsUnknownList (kinds supported list : List ℕ) : Type 0 where
  pub distinct : IsDistinct eqb list
  pub listed : (kind : ℕ) → has_kind kind list ≡ (is_unknown supported kind && has_kind kind kinds)
  pub order : IsInOrder kinds list

-- The listed types, with one appended if it is unknown and not yet listed.
abbrev pub with_unknown : List ℕ → List ℕ → ℕ → List ℕ
with_unknown supported listed kind = if is_unknown supported kind then with_type kind listed else listed

-- A required type is missing.
abbrev pub is_missing : List Attr → List ℕ → Bool
is_missing all required = list_any (λ kind. not (has_kind kind (kinds_of all))) required

-- ---- the responses

-- The message type of the error response to a request.
abbrev pub error_type : List ℕ → ℕ
error_type request = type_of Error (method_of (kind_at request))

-- ERROR-CODE with a code and its default reason.
abbrev pub error_attribute : ℕ → Attr
error_attribute code = record {
  kind = error_code_kind;
  value = error_value (record { code = code; reason = reason_for code });
}

-- UNKNOWN-ATTRIBUTES with these types.
abbrev pub unknown_attribute : List ℕ → Attr
unknown_attribute kinds = record { kind = unknown_attributes_kind; value = types_value kinds }

-- The attributes of a response with ERROR-CODE 400 (Bad Request).
abbrev pub bad_request_attributes : List Attr
bad_request_attributes = error_attribute bad_request_code ∷ []

-- The attributes of a response with ERROR-CODE 420 (Unknown Attribute) and these types.
abbrev pub unknown_response_attributes : List ℕ → List Attr
unknown_response_attributes kinds = error_attribute unknown_attribute_code ∷ unknown_attribute kinds ∷ []

-- The attributes of the error response to a request, or `None` if nothing is wrong. Unknown types take
-- precedence over missing ones.
abbrev pub objection_to : List ℕ → Bool → Option (List Attr)
objection_to [] missing = if missing then Some bad_request_attributes else None
objection_to (kind ∷ kinds) missing = Some (unknown_response_attributes (kind ∷ kinds))

abbrev pub objection : List Attr → List ℕ → List ℕ → Option (List Attr)
objection all supported required = objection_to (unknown_kinds all supported) (is_missing all required)

-- The result of the check: a response with these attributes in the draft, or nothing if nothing is wrong.
abbrev pub IsObjected : Option (List Attr) → ℕ → ℕ → Draft → Option Draft → Type 0
IsObjected None mtype transaction_id old None = ⊤
IsObjected None mtype transaction_id old (Some new) = ⊥
IsObjected (Some attributes) mtype transaction_id old None = ⊥
IsObjected (Some attributes) mtype transaction_id old (Some new) = IsComposed mtype transaction_id attributes old new

-- ---- why a response is not written

-- The error, if any, of writing a 400 response, which has 40 bytes.
abbrev pub bad_request_refusal : Option ℕ → Option StunWriteError
bad_request_refusal limit = room_refusal limit 40

-- The error, if any, of writing a 420 response with `count` types: too many types for one value, no room for
-- the header and ERROR-CODE (48 bytes), or UNKNOWN-ATTRIBUTES is too long or has no room.
unfoldable pub unknown_refusal : Option ℕ → ℕ → Option StunWriteError
unknown_refusal limit count = option_or (types_refusal count)
    (option_or (room_refusal limit 48) (size_refusal limit (52 + padded (2 * count))))

-- The error, if any, of writing the response to a request with these unknown types and maybe a missing one.
abbrev pub objection_refusal_to : Option ℕ → List ℕ → Bool → Option StunWriteError
objection_refusal_to limit [] missing = if missing then bad_request_refusal limit else None
objection_refusal_to limit (kind ∷ kinds) missing = unknown_refusal limit (length (kind ∷ kinds))

abbrev pub objection_refusal : Option ℕ → List Attr → List ℕ → List ℕ → Option StunWriteError
objection_refusal limit all supported required = objection_refusal_to limit (unknown_kinds all supported)
    (is_missing all required)
