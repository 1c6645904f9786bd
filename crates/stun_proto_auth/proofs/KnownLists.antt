-- A list of known algorithms without parameters: it is read alike entry by entry and four bytes at a time.
use Rattle.std.specs.Prelude.{◌≢◌, sum_by}
use Rattle.std.specs.List.{list_all, list_any}
use Rattle.std.proofs.Common.{◌≡◌, ℕ, ◌+◌, ◌*◌, ◌%◌, ◌≤◌, eqb, ◌==◌, Bool, true, false, List, [], ◌∷◌, length, map, Option, Some, None, refl, sym, ap, ◌∙◌, arith}
use Rattle.std.proofs.lemmas.Bool.{eq-eqb}
use Rattle.std.proofs.lemmas.List.Sums.{sum_by-cons}
use Rattle.stun_types_message.specs.Wire.declared.algorithm.IntegrityAlgorithm.{IntegrityAlgorithm}
use Rattle.stun_types_message.specs.Wire.declared.algorithm.IntegrityAlgorithm.TheVariants.{Sha1, Sha256, Sha512}
use Rattle.stun_types_message.specs.Wire.declared.error.StunParseError.{StunParseError}
use Rattle.stun_types_message.specs.Wire.Attributes.{Attr, attr_size, attributes, is_whole, size_at}
use Rattle.stun_types_message.specs.Wire.Registry.{password_algorithms_kind}
use Rattle.stun_types_message.proofs.Wire.Whole.{attributes_short, attributes_whole, whole_from}
use Rattle.stun_types_message.specs.Write.Adding.{attr_of}
use Rattle.stun_types_message.proofs.Write.Values.{value_is_accepted}
use Rattle.stun_types_message.specs.AuthAttributes.PasswordAlgorithmNumbers as numbers
use Rattle.stun_types_message.specs.AuthAttributes.Entries.{algorithms_read_refusal, entries, entries_refusal, numbers_decoded}
use Rattle.stun_proto_auth.specs.Lists.{is_entry_of, is_list, list_read_refusal, lists}
use Rattle.stun_proto_auth.specs.Offers.{offers}
use Rattle.stun_proto_auth.specs.SupportedAlgorithms.{list_of, number_by}

-- The entry of an algorithm, without parameters.
abbrev entry_of : IntegrityAlgorithm → Attr
entry_of algorithm = record { kind = number_by algorithm; value = [] }

-- The list has an entry of four bytes for each algorithm.
pub list_length : (algorithms : List IntegrityAlgorithm) → length (list_of algorithms) ≡ 4 * length algorithms
unfolding entries
list_length [] = refl
list_length (a ∷ algorithms) = let rest = list_length algorithms in omega (arith, rest)

first_whole : (bytes : List ℕ) → size_at bytes ≡ 4 → 4 ≤ length bytes → is_whole bytes ≡ true
first_whole bytes size long = whole_from bytes long (omega (arith, size, long))

-- Its complete entries are those of its algorithms.
pub list_entries : (algorithms : List IntegrityAlgorithm) → attributes (list_of algorithms) ≡ map entry_of algorithms
unfolding entries
list_entries [] = attributes_short [] refl
list_entries (Sha1 ∷ rest) =
    let long = list_length (Sha1 ∷ rest) in
    attributes_whole (list_of (Sha1 ∷ rest)) (first_whole (list_of (Sha1 ∷ rest)) refl (omega (arith, long))) ∙ ap (λ (l : List Attr). entry_of Sha1 ∷ l) (list_entries rest)
list_entries (Sha256 ∷ rest) =
    let long = list_length (Sha256 ∷ rest) in
    attributes_whole (list_of (Sha256 ∷ rest)) (first_whole (list_of (Sha256 ∷ rest)) refl (omega (arith, long))) ∙ ap (λ (l : List Attr). entry_of Sha256 ∷ l) (list_entries rest)
list_entries (Sha512 ∷ rest) =
    let long = list_length (Sha512 ∷ rest) in
    attributes_whole (list_of (Sha512 ∷ rest)) (first_whole (list_of (Sha512 ∷ rest)) refl (omega (arith, long))) ∙ ap (λ (l : List Attr). entry_of Sha512 ∷ l) (list_entries rest)

entry_sizes : (algorithms : List IntegrityAlgorithm) → sum_by attr_size (map entry_of algorithms) ≡ 4 * length algorithms
entry_sizes [] = refl
entry_sizes (a ∷ rest) =
    let others = entry_sizes rest in
    let own : attr_size (entry_of a) ≡ 4 = refl in
    omega (arith, sum_by-cons attr_size (entry_of a) (map entry_of rest), own, others)

pub known_is_list : (algorithms : List IntegrityAlgorithm) → is_list (list_of algorithms) ≡ true
known_is_list algorithms =
    let same : length (list_of algorithms) ≡ sum_by attr_size (attributes (list_of algorithms)) =
    list_length algorithms ∙ (sym (entry_sizes algorithms) ∙ ap (sum_by attr_size) (sym (list_entries algorithms))) in
    eq-eqb (length (list_of algorithms)) (sum_by attr_size (attributes (list_of algorithms))) same

among : (algorithms : List IntegrityAlgorithm) (algorithm : IntegrityAlgorithm) → list_any (is_entry_of algorithm) (map entry_of algorithms) ≡ offers (list_of algorithms) algorithm
unfolding entries numbers_decoded
among [] algorithm = refl
among (Sha1 ∷ rest) Sha1 = refl
among (Sha1 ∷ rest) Sha256 = among rest Sha256
among (Sha1 ∷ rest) Sha512 = among rest Sha512
among (Sha256 ∷ rest) Sha1 = among rest Sha1
among (Sha256 ∷ rest) Sha256 = refl
among (Sha256 ∷ rest) Sha512 = among rest Sha512
among (Sha512 ∷ rest) Sha1 = among rest Sha1
among (Sha512 ∷ rest) Sha256 = among rest Sha256
among (Sha512 ∷ rest) Sha512 = refl

-- It offers the same algorithms by both readings.
pub listed_as_offered : (algorithms : List IntegrityAlgorithm) (algorithm : IntegrityAlgorithm) → lists (list_of algorithms) algorithm ≡ offers (list_of algorithms) algorithm
listed_as_offered algorithms algorithm = ap (list_any (is_entry_of algorithm)) (list_entries algorithms) ∙ among algorithms algorithm

-- The number in each entry is known.
all_known : (algorithms : List IntegrityAlgorithm) → list_all numbers.is_known (numbers_decoded (list_of algorithms)) ≡ true
unfolding entries numbers_decoded numbers.is_known
all_known [] = refl
all_known (Sha1 ∷ rest) = all_known rest
all_known (Sha256 ∷ rest) = all_known rest
all_known (Sha512 ∷ rest) = all_known rest

-- A list of one to eight algorithms is accepted by both readings.
pub known_is_accepted : (algorithms : List IntegrityAlgorithm) → algorithms ≢ [] → length algorithms ≤ 8 → algorithms_read_refusal (attr_of password_algorithms_kind (list_of algorithms)) ≡ None
unfolding algorithms_read_refusal entries_refusal
known_is_accepted [] some few = absurd (some refl)
known_is_accepted (a ∷ rest) some few =
    let size = list_length (a ∷ rest) in
    let value = value_is_accepted password_algorithms_kind 4 32 (list_of (a ∷ rest)) (omega (arith, size)) (omega (arith, size, few)) in
    let whole : eqb (length (list_of (a ∷ rest)) % 4) 0 ≡ true = fours (length (a ∷ rest)) (length (list_of (a ∷ rest))) size in
    rw (value, whole, all_known (a ∷ rest)) refl
  where
    fours : (n long : ℕ) → long ≡ 4 * n → eqb (long % 4) 0 ≡ true
    fours n long is = let rest : long % 4 ≡ 0 = omega (arith, is) in rw rest refl

pub known_is_accepted_too : (algorithms : List IntegrityAlgorithm) → algorithms ≢ [] → length algorithms ≤ 8 → list_read_refusal (attr_of password_algorithms_kind (list_of algorithms)) ≡ None
unfolding list_read_refusal
known_is_accepted_too [] some few = absurd (some refl)
known_is_accepted_too (a ∷ rest) some few =
    let size = list_length (a ∷ rest) in
    let value = value_is_accepted password_algorithms_kind 4 32 (list_of (a ∷ rest)) (omega (arith, size)) (omega (arith, size, few)) in
    rw (value, known_is_list (a ∷ rest)) refl
