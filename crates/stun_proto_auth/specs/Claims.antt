-- What a message claims: its sender, the nonce and the algorithms (RFC 8489, sections 9.2.4, 14.3, 14.4 and
-- 14.8 to 14.12).
use Rattle.std.specs.Prelude.{ℕ, ◌==◌, if◌then◌else◌, List, [], ◌∷◌, Option, Some, None}
use Rattle.std.specs.Option.{option_or}
use Rattle.stun_types_message.specs.Wire.declared.algorithm.IntegrityAlgorithm.{IntegrityAlgorithm}
use Rattle.stun_types_message.specs.Wire.declared.error.StunParseError.{StunParseError}
use Rattle.stun_types_message.specs.Wire.Attributes.{Attr}
use Rattle.stun_types_message.specs.Wire.Grammar.{visible}
use Rattle.stun_types_message.specs.Write.ValueReading.{text_read_refusal, value_refusal}
use Rattle.stun_types_message.specs.AuthAttributes.Entries.{algorithm_read_refusal, algorithms_read_refusal, number_decoded}
use Rattle.stun_types_message.specs.Attributes.ErrorCodeReading.{error_read_refusal, error_decoded}
use Rattle.stun_types_message.specs.Wire.Registry.{error_code_kind, longest_text, longest_username, nonce_kind, password_algorithm_kind, password_algorithms_kind, realm_kind, userhash_kind, userhash_length, username_kind}
use Rattle.stun_types_message.specs.Integrity.Integrity.{algorithm_of}
use Rattle.stun_types_message.specs.MessageValidation.{last_algorithm}
use Rattle.stun_proto_auth.specs.Lists.{list_read_refusal}
use Rattle.stun_proto_auth.specs.declared.last.Lasts.{Lasts}

-- The last attribute of a type.
unfoldable pub last_of_kind : ℕ → List Attr → Option Attr
last_of_kind kind [] = None
last_of_kind kind (a ∷ rest) = option_or (last_of_kind kind rest) (if a.kind == kind then Some a else None)

-- Of each type of authentication attribute the last one in a list, and the algorithm of the last integrity attribute.
abbrev pub lasts : List Attr → Lasts
lasts all = record {
  integrity = last_algorithm all;
  username = last_of_kind username_kind all;
  user_hash = last_of_kind userhash_kind all;
  realm = last_of_kind realm_kind all;
  nonce = last_of_kind nonce_kind all;
  algorithms = last_of_kind password_algorithms_kind all;
  algorithm = last_of_kind password_algorithm_kind all;
}

-- An attribute, if it is of this type.
abbrev pub of_kind : ℕ → Attr → Option Attr
of_kind kind a = if a.kind == kind then Some a else None

-- The last ones of a list that ends with this attribute, from those of what is before it.
abbrev pub with_later : Attr → Lasts → Lasts
with_later a l = record {
  integrity = option_or (algorithm_of a.kind) l.integrity;
  username = option_or (of_kind username_kind a) l.username;
  user_hash = option_or (of_kind userhash_kind a) l.user_hash;
  realm = option_or (of_kind realm_kind a) l.realm;
  nonce = option_or (of_kind nonce_kind a) l.nonce;
  algorithms = option_or (of_kind password_algorithms_kind a) l.algorithms;
  algorithm = option_or (of_kind password_algorithm_kind a) l.algorithm;
}

-- The value read, unless reading was refused.
abbrev pub unless_refused : {A : Type 0} → Option StunParseError → A → Option A
unless_refused None read = Some read
unless_refused (Some cause) read = None

-- The text of an attribute of type `kind`, if it is present, well formed and at most `most` bytes long.
unfoldable pub text_decoded : ℕ → ℕ → Option Attr → Option (List ℕ)
text_decoded kind most None = None
text_decoded kind most (Some a) = unless_refused (text_read_refusal kind most a) a.value

-- The hash in a USERHASH, if it is present and well formed.
unfoldable pub hash_decoded : Option Attr → Option (List ℕ)
hash_decoded None = None
hash_decoded (Some a) = unless_refused (value_refusal userhash_kind userhash_length userhash_length a) a.value

-- The value of a PASSWORD-ALGORITHMS, if it is present and well formed.
unfoldable pub algorithms_decoded : Option Attr → Option (List ℕ)
algorithms_decoded None = None
algorithms_decoded (Some a) = unless_refused (algorithms_read_refusal a) a.value

-- The value of a PASSWORD-ALGORITHMS that may have unknown algorithms, if it is present and well formed.
unfoldable pub list_decoded : Option Attr → Option (List ℕ)
list_decoded None = None
list_decoded (Some a) = unless_refused (list_read_refusal a) a.value

-- The number in a PASSWORD-ALGORITHM, if it is present and well formed.
unfoldable pub algorithm_decoded : Option Attr → Option ℕ
algorithm_decoded None = None
algorithm_decoded (Some a) = unless_refused (algorithm_read_refusal a) (number_decoded a.value)

-- The code in an ERROR-CODE, if it is present and well formed.
unfoldable pub code_decoded : Option Attr → Option ℕ
code_decoded None = None
code_decoded (Some a) = unless_refused (error_read_refusal a) (error_decoded a.value).code

-- A claim. Of several attributes of one type the last one counts, and a malformed one counts as absent.
pub record Claimed : Type 0 where
  pub integrity : Option IntegrityAlgorithm
  pub username : Option (List ℕ)
  pub user_hash : Option (List ℕ)
  pub realm : Option (List ℕ)
  pub nonce : Option (List ℕ)
  -- The PASSWORD-ALGORITHMS value if all its algorithms are known, that value if they may be unknown, and the number
  -- of the chosen algorithm.
  pub algorithms : Option (List ℕ)
  pub listed : Option (List ℕ)
  pub algorithm : Option ℕ

-- The claim of a list of attributes.
abbrev pub claim_of : List Attr → Claimed
claim_of all = record {
  integrity = last_algorithm all;
  username = text_decoded username_kind longest_username (last_of_kind username_kind all);
  user_hash = hash_decoded (last_of_kind userhash_kind all);
  realm = text_decoded realm_kind longest_text (last_of_kind realm_kind all);
  nonce = text_decoded nonce_kind longest_text (last_of_kind nonce_kind all);
  algorithms = algorithms_decoded (last_of_kind password_algorithms_kind all);
  listed = list_decoded (last_of_kind password_algorithms_kind all);
  algorithm = algorithm_decoded (last_of_kind password_algorithm_kind all);
}

-- The claim of a message, from its visible attributes.
abbrev pub claimed : List ℕ → Claimed
claimed bytes = claim_of (visible bytes)

-- The error code that is visible in a message.
abbrev pub code_visible : List ℕ → Option ℕ
code_visible bytes = code_decoded (last_of_kind error_code_kind (visible bytes))
