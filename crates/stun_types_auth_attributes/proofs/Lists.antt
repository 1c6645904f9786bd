-- Encoding a list of algorithms, and decoding it.
use Rattle.std.proofs.Common.{◌≡◌, ℕ, ◌+◌, ◌*◌, ◌%◌, ◌<◌, ◌≤◌, true, false, drop, take, List, [], ◌∷◌, ◌++◌, length, map, None, Some, refl, sym, ap, ◌∙◌, arith}
use Rattle.std.proofs.lemmas.Grind.{common_steps}
use Rattle.std.proofs.lemmas.List.{append-nil, drop-drop}
use Rattle.std.specs.List.{list_all}
use Rattle.stun_types_write.specs.Wire.declared.error.StunParseError.{StunParseError}
use Rattle.stun_types_write.specs.Wire.RawBytes.{type_and_len_refusal}
use Rattle.stun_types_write.specs.Adding.{attr_of}
use Rattle.stun_types_write.proofs.Values.{value_is_accepted}
use Rattle.stun_types_auth_attributes.specs.declared.algorithm.PasswordAlgorithmValue.{PasswordAlgorithmValue}
use Rattle.stun_types_auth_attributes.specs.declared.algorithm.PasswordAlgorithmValue.TheVariants.{MD5, SHA256, SHA512}
use Rattle.stun_types_auth_attributes.specs.PasswordAlgorithmNumbers.{number_of, is_known, number_refusal}
use Rattle.stun_types_auth_attributes.specs.Entries.{entries, algorithm_value, algorithms_value, number_decoded, numbers_decoded, none_decoded_refusal, entries_refusal, algorithms_read_refusal}
use Rattle.stun_types_write.specs.Wire.Registry.{most_algorithms, password_algorithms_kind}
use Rattle.stun_types_auth_attributes.proofs.Algorithms.{same_number}

-- An encoded list has four bytes for each entry.
pub value_length : (xs : List PasswordAlgorithmValue) → length (algorithms_value xs) ≡ 4 * length xs
unfolding entries
value_length [] = refl
value_length (MD5 ∷ xs) = let left = value_length xs in omega (arith, left)
value_length (SHA256 ∷ xs) = let left = value_length xs in omega (arith, left)
value_length (SHA512 ∷ xs) = let left = value_length xs in omega (arith, left)

-- Decoding an encoded list gives its numbers.
pub numbers_again : (xs : List PasswordAlgorithmValue) → numbers_decoded (algorithms_value xs) ≡ map number_of xs
unfolding entries numbers_decoded
numbers_again [] = refl
numbers_again (MD5 ∷ xs) = ap (λ (l : List ℕ). 1 ∷ l) (numbers_again xs)
numbers_again (SHA256 ∷ xs) = ap (λ (l : List ℕ). 2 ∷ l) (numbers_again xs)
numbers_again (SHA512 ∷ xs) = ap (λ (l : List ℕ). 0xFF12 ∷ l) (numbers_again xs)

-- Decoding an encoded list and encoding it again gives the same value.
pub decoded_again : (xs : List PasswordAlgorithmValue) → entries (numbers_decoded (algorithms_value xs)) ≡ algorithms_value xs
decoded_again xs = ap entries (numbers_again xs)

-- Two lists with the same numbers are equal.
pub same_numbers : (xs ys : List PasswordAlgorithmValue) → map number_of xs ≡ map number_of ys → xs ≡ ys
same_numbers [] [] h = refl
same_numbers [] (y ∷ ys) h = absurd (omega (arith, ap length h))
same_numbers (x ∷ xs) [] h = absurd (omega (arith, ap length h))
same_numbers (x ∷ xs) (y ∷ ys) h = grind (arith, common_steps, h, same_number x y, same_numbers xs ys)

-- Two lists with the same value are equal.
pub same_algorithms : (xs ys : List PasswordAlgorithmValue) → algorithms_value xs ≡ algorithms_value ys → xs ≡ ys
same_algorithms xs ys h = same_numbers xs ys (sym (numbers_again xs) ∙ (ap numbers_decoded h ∙ numbers_again ys))

-- Each number of a list of algorithms is known.
pub numbers_are_known : (xs : List PasswordAlgorithmValue) → list_all is_known (map number_of xs) ≡ true
unfolding is_known
numbers_are_known [] = refl
numbers_are_known (MD5 ∷ xs) = numbers_are_known xs
numbers_are_known (SHA256 ∷ xs) = numbers_are_known xs
numbers_are_known (SHA512 ∷ xs) = numbers_are_known xs

-- Fewer than four bytes encode no number.
pub none_decoded : (bytes : List ℕ) → length bytes < 4 → numbers_decoded bytes ≡ []
unfolding numbers_decoded
none_decoded [] short = refl
none_decoded (a ∷ []) short = refl
none_decoded (a ∷ b ∷ []) short = refl
none_decoded (a ∷ b ∷ c ∷ []) short = refl
none_decoded (a ∷ b ∷ c ∷ d ∷ rest) short = absurd (omega arith)

-- The decoded numbers are that of the first entry and those of the other bytes.
pub one_decoded : (left : List ℕ) → 4 ≤ length left → numbers_decoded left ≡ number_decoded (take 4 left) ∷ numbers_decoded (drop 4 left)
unfolding numbers_decoded number_decoded
one_decoded [] enough = absurd (omega arith)
one_decoded (a ∷ []) enough = absurd (omega arith)
one_decoded (a ∷ b ∷ []) enough = absurd (omega arith)
one_decoded (a ∷ b ∷ c ∷ []) enough = absurd (omega arith)
one_decoded (a ∷ b ∷ c ∷ d ∷ rest) enough =
    let number : a * 256 + b ≡ number_decoded (a ∷ b ∷ c ∷ d ∷ []) = omega arith in
    ap (λ (n : ℕ). n ∷ numbers_decoded rest) number

-- Each decoded number takes four bytes.
pub decoded_count : (bytes : List ℕ) → 4 * length (numbers_decoded bytes) ≤ length bytes
unfolding numbers_decoded
decoded_count [] = omega arith
decoded_count (a ∷ []) = omega arith
decoded_count (a ∷ b ∷ []) = omega arith
decoded_count (a ∷ b ∷ c ∷ []) = omega arith
decoded_count (a ∷ b ∷ c ∷ d ∷ rest) = let left = decoded_count rest in omega (arith, left)

-- If the number of the first entry is refused, not all numbers are known.
pub first_unknown : (left : List ℕ) (error : StunParseError) → 4 ≤ length left → number_refusal (number_decoded (take 4 left)) ≡ Some error → list_all is_known (numbers_decoded left) ≡ false
unfolding number_refusal
first_unknown left error enough refused =
    let unknown : is_known (number_decoded (take 4 left)) ≡ false = grind (arith, common_steps, refused) in
    rw (one_decoded left enough) (rw unknown refl)

-- If the number of the first entry is accepted, all numbers are known if and only if all others are.
pub first_known : (left : List ℕ) → 4 ≤ length left → number_refusal (number_decoded (take 4 left)) ≡ None → list_all is_known (numbers_decoded left) ≡ list_all is_known (numbers_decoded (drop 4 left))
unfolding number_refusal
first_known left enough accepted =
    let known : is_known (number_decoded (take 4 left)) ≡ true = grind (arith, common_steps, accepted) in
    rw (one_decoded left enough) (rw known refl)

-- Moving the first remaining entry to the decoded algorithms keeps the list of all numbers.
pub more_decoded : (xs : List PasswordAlgorithmValue) (x : PasswordAlgorithmValue) (left : List ℕ) → 4 ≤ length left → number_of x ≡ number_decoded (take 4 left) → map number_of (xs ++ x ∷ []) ++ numbers_decoded (drop 4 left) ≡ map number_of xs ++ numbers_decoded left
more_decoded [] x left enough number = rw (one_decoded left enough) (rw number refl)
more_decoded (y ∷ xs) x left enough number = ap (λ (l : List ℕ). number_of y ∷ l) (more_decoded xs x left enough number)

-- If fewer than four bytes remain, all numbers have been decoded.
pub all_decoded : (xs : List PasswordAlgorithmValue) (left : List ℕ) → length left < 4 → map number_of xs ++ numbers_decoded left ≡ map number_of xs
all_decoded xs left short = rw (none_decoded left short) (append-nil (map number_of xs))

-- The encoding of a list is that of its first algorithm followed by that of the others.
pub more_written : (x : PasswordAlgorithmValue) (xs : List PasswordAlgorithmValue) (dest : List ℕ) → algorithm_value x ++ (algorithms_value xs ++ drop (4 * length xs) (drop 4 dest)) ≡ algorithms_value (x ∷ xs) ++ drop (4 * length (x ∷ xs)) dest
unfolding entries
more_written x xs dest =
    let rest : drop (4 * length xs) (drop 4 dest) ≡ drop (4 + 4 * length xs) dest = drop-drop (4 * length xs) 4 dest in
    let size : 4 + 4 * length xs ≡ 4 * length (x ∷ xs) = omega arith in
    ap (λ (l : List ℕ). algorithm_value x ++ (algorithms_value xs ++ l)) (rest ∙ ap (λ (n : ℕ). drop n dest) size)

-- The encoding of a list is not refused, unless the list is empty.
pub algorithms_are_accepted : (xs : List PasswordAlgorithmValue) → length xs ≤ most_algorithms → algorithms_read_refusal (attr_of password_algorithms_kind (algorithms_value xs)) ≡ none_decoded_refusal xs
unfolding algorithms_read_refusal entries_refusal type_and_len_refusal entries
algorithms_are_accepted [] short = refl
algorithms_are_accepted (x ∷ xs) short =
    let size = value_length (x ∷ xs) in
    let whole : length (algorithms_value (x ∷ xs)) % 4 ≡ 0 = omega (arith, size) in
    let known = numbers_are_known (x ∷ xs) in
    let decoded = numbers_again (x ∷ xs) in
    rw (value_is_accepted password_algorithms_kind 4 32 (algorithms_value (x ∷ xs)) (omega (arith, size)) (omega (arith, size, short)))
    (rw decoded (rw known (rw whole refl)))

-- The rule for writing one more entry.
pub ruleset written = (more_written)

-- The rule on the number of entries.
pub ruleset counts = (decoded_count)

-- The rules for encoding a list of algorithms and decoding it.
pub ruleset lists = (algorithms_are_accepted, decoded_again, same_algorithms)

-- The rules for decoding the remaining bytes.
pub ruleset decoded = (none_decoded, first_unknown, first_known, all_decoded, more_decoded)

-- Unfolding this name unfolds both definitions on its line, those of the refusals of a value.
unfoldable pub refusals : Type 0
unfolding algorithms_read_refusal entries_refusal
refusals = Unit {0}
