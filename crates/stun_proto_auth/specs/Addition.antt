-- What signing adds to a message, the calls that add it, and why it is refused (RFC 8489, sections 9.1, 9.2
-- and 14).
use Rattle.std.specs.Prelude.{ℕ, ◌*◌, List, [], ◌∷◌, ◌++◌, map, Option, Some, None}
use Rattle.std.specs.Option.{option_or}
use Rattle.stun_types_message.specs.Wire.declared.error.StunWriteError.{StunWriteError}
use Rattle.stun_types_message.specs.Wire.Attributes.{Attr, attr_size}
use Rattle.stun_types_message.specs.Write.Adding.{attr_of, add_refusal}
use Rattle.stun_types_message.specs.Write.Drafts.{Draft}
use Rattle.stun_types_message.specs.Write.Outcomes.{added}
use Rattle.stun_types_message.specs.AuthAttributes.Texts.{text_refusal}
use Rattle.stun_types_message.specs.Wire.Registry.{longest_text, longest_username, most_algorithms, nonce_kind}
use Rattle.stun_types_message.specs.Wire.Registry.{password_algorithm_kind, password_algorithms_kind, realm_kind}
use Rattle.stun_types_message.specs.Wire.Registry.{userhash_kind, userhash_length, username_kind}
use Rattle.stun_types_message.specs.Integrity.Credentials.{Key}
use Rattle.stun_types_message.specs.Integrity.Signing.{signing_refusal}
use Rattle.stun_types_message.specs.Add.Calls.{Add, Ordinary, Integrity, after_calls}

-- ---- what is added

-- An attribute to be added: its type, the maximum length of its value in bytes, and the value.
pub record PartOf : Type 0 where
  pub kind : ℕ
  pub most : ℕ
  pub value : List ℕ

-- What is added to a message: the parts and then, if there is a key, the integrity attribute.
pub record Addition : Type 0 where
  pub parts : List PartOf
  pub signer : Option Key

-- The empty addition.
abbrev pub no_addition : Addition
no_addition = record { parts = []; signer = None }

-- The size in bytes of one password algorithm's entry: its number and the length of its parameters (RFC 8489,
-- sections 14.11 and 14.12).
abbrev pub password_entry_length : ℕ
password_entry_length = 4

-- USERNAME (RFC 8489, section 14.3).
abbrev pub username_of : List ℕ → PartOf
username_of name = record { kind = username_kind; most = longest_username; value = name }

-- USERHASH (RFC 8489, section 14.4).
abbrev pub hash_of : List ℕ → PartOf
hash_of hash = record { kind = userhash_kind; most = userhash_length; value = hash }

-- REALM (RFC 8489, section 14.9).
abbrev pub realm_of : List ℕ → PartOf
realm_of realm = record { kind = realm_kind; most = longest_text; value = realm }

-- NONCE (RFC 8489, section 14.10).
abbrev pub nonce_of : List ℕ → PartOf
nonce_of nonce = record { kind = nonce_kind; most = longest_text; value = nonce }

-- PASSWORD-ALGORITHMS (RFC 8489, section 14.11).
abbrev pub algorithms_of : List ℕ → PartOf
algorithms_of entries = record {
  kind = password_algorithms_kind;
  most = password_entry_length * most_algorithms;
  value = entries;
}

-- PASSWORD-ALGORITHM (RFC 8489, section 14.12).
abbrev pub algorithm_of : List ℕ → PartOf
algorithm_of entry = record { kind = password_algorithm_kind; most = password_entry_length; value = entry }

-- ---- the calls that add it

-- The attribute of a part.
abbrev pub attr_of_part : PartOf → Attr
attr_of_part p = attr_of p.kind p.value

abbrev pub attrs : List PartOf → List Attr
attrs parts = map attr_of_part parts

-- The calls that add the parts: each as an attribute of its own, in order.
abbrev pub calls_of_parts : List PartOf → List Add
calls_of_parts parts = map (λ (a : Attr). Ordinary a) (attrs parts)

-- The call that adds the integrity attribute under a key, if there is one.
abbrev pub calls_of_signer : Option Key → List Add
calls_of_signer None = []
calls_of_signer (Some key) = Integrity key.algorithm key.bytes ∷ []

-- The calls that add the parts and then the integrity attribute.
abbrev pub calls_of : Addition → List Add
calls_of a = calls_of_parts a.parts ++ calls_of_signer a.signer

-- ---- why it is not added

-- The size in bytes of a part's attribute.
abbrev pub size_of_part : PartOf → ℕ
size_of_part p = attr_size (attr_of_part p)

-- Why a part is refused. The limit of its own value is checked before the limits of the message.
abbrev pub one_refusal : Draft → PartOf → Option StunWriteError
one_refusal draft p = option_or (text_refusal p.most p.value) (add_refusal draft (size_of_part p))

-- Why the parts are refused: the first error, checking one part after another.
unfoldable pub parts_refusal : Draft → List PartOf → Option StunWriteError
parts_refusal draft [] = None
parts_refusal draft (p ∷ rest) = option_or (one_refusal draft p) (parts_refusal (added (attr_of_part p) draft) rest)

-- Why signing under the key, if there is one, is refused.
abbrev pub signer_refusal : Draft → Option Key → Option StunWriteError
signer_refusal draft None = None
signer_refusal draft (Some key) = signing_refusal draft key.algorithm key.algorithm

-- Why an addition is refused: first for a part, then for the integrity attribute.
abbrev pub addition_refusal : Addition → Draft → Option StunWriteError
addition_refusal a draft =
    option_or (parts_refusal draft a.parts) (signer_refusal (after_calls (calls_of_parts a.parts) draft) a.signer)
