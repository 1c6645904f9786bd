-- What `parse` and `try_from` return, as the number that a word spells.
use Rattle.std.proofs.Common.{ℕ, ◌≡◌, ◌<◌, ◌≤◌, ◌≢◌, ◌^◌, ◌-◌, Bool, List, length, get_or, true, false, refl, sym, ◌∙◌, ap, arith}
use Rattle.std.specs.Prelude.{Some, None, Result, Ok, Err, ◌&&◌, nat_lt, nat_le, if◌then◌else◌}
use Rattle.std.specs.Result.{OkIff, result_ok}
use Rattle.std.specs.Str.{all_ascii_digits}
use Rattle.std.specs.Str.Parse.{digits_value, ParsesUnsigned}
use Rattle.std.proofs.lemmas.Bool.{ltb-true, leb-true, lt-ltb, le-leb}
use Rattle.std.proofs.lemmas.Str.Parse.{numerals_by_value, tells_all_ascii_digits, parse_plain, not_in_digits, IsNumeralModel}
use Rattle.turn_desk_trace.specs.TraceNumbers.{number_within}

number_yes : (a b c d : Bool) (x : ℕ) → a ≡ true → b ≡ true → c ≡ true → d ≡ true
    → (if (a && b) && (c && d) then Some x else None) ≡ Some x
number_yes a b c d x p q r s = rw (p, q, r, s)

number_no : (a b c d : Bool) (x : ℕ) → ¬ ((a ≡ true) × (b ≡ true) × (c ≡ true) × (d ≡ true))
    → (if (a && b) && (c && d) then Some x else None) ≡ None
number_no true true true true x h = absurd (h (refl, refl, refl, refl))
number_no true true true false x h = refl
number_no true true false d x h = refl
number_no true false c d x h = refl
number_no false b c d x h = refl

number_is : (a b c d : Bool) (x n : ℕ) → (if (a && b) && (c && d) then Some x else None) ≡ Some n
    → (a ≡ true) × (b ≡ true) × (x ≡ n)
number_is true true true true x n h = (refl, refl, cc)
number_is true true true false x n h = cc
number_is true true false d x n h = cc
number_is true false c d x n h = cc
number_is false b c d x n h = cc

-- A word of digits whose number is within the bounds.
pub number_within_yes : (least most : ℕ) (word : List ℕ) → all_ascii_digits word ≡ true → 0 < length word
    → least ≤ digits_value 10 word → digits_value 10 word ≤ most → number_within least most word ≡ Some (digits_value 10 word)
unfolding number_within
number_within_yes least most word digits some above below =
    number_yes _ _ _ _ _ digits (lt-ltb _ _ some) (le-leb _ _ above) (le-leb _ _ below)

-- Any other word.
pub number_within_no : (least most : ℕ) (word : List ℕ)
    → ¬ ((all_ascii_digits word ≡ true) × (0 < length word) × (least ≤ digits_value 10 word) × (digits_value 10 word ≤ most))
    → number_within least most word ≡ None
unfolding number_within
number_within_no least most word other =
    number_no _ _ _ _ _ (λ q. other (q.0, ltb-true _ _ q.1, leb-true _ _ q.2, leb-true _ _ q.3))

pub number_within_is : (least most : ℕ) (word : List ℕ) (n : ℕ) → number_within least most word ≡ Some n
    → (all_ascii_digits word ≡ true) × (0 < length word) × (digits_value 10 word ≡ n)
unfolding number_within
number_within_is least most word n h =
    let parts = number_is (all_ascii_digits word) (nat_lt 0 (length word)) (nat_le least (digits_value 10 word))
    (nat_le (digits_value 10 word) most) (digits_value 10 word) n h in
    (parts.0, ltb-true _ _ parts.1, parts.2)

own : IsNumeralModel (λ ds. all_ascii_digits ds ≡ true) (digits_value 10)
own = numerals_by_value _ tells_all_ascii_digits

number_parsed : {E : Type 0} (word : List ℕ) (r : Result ℕ E)
    → OkIff r ((all_ascii_digits word ≡ true) × (0 < length word) × (digits_value 10 word < 2 ^ 64)) (digits_value 10 word)
    → result_ok r ≡ number_within 0 (2 ^ 64 - 1) word
number_parsed word (Ok x) h =
    ap (λ n. Some n) h.1 ∙ sym (number_within_yes 0 (2 ^ 64 - 1) word h.0.0 h.0.1 (omega arith) (omega arith))
number_parsed word (Err e) h = sym (number_within_no 0 (2 ^ 64 - 1) word (λ q. h (q.0, q.1, omega arith)))

-- `parse` with 64 bits, for a word that does not begin with a plus.
pub parse_number : {E : Type 0} (word : List ℕ) (r : Result ℕ E) → ParsesUnsigned 64 10 word r → get_or word 0 0 ≢ 43
    → result_ok r ≡ number_within 0 (2 ^ 64 - 1) word
parse_number word r h plain = number_parsed word r (parse_plain own 64 word r h plain)

-- A word that begins with a plus is not a number.
pub plus_number : (least most : ℕ) (word : List ℕ) → get_or word 0 0 ≡ 43 → number_within least most word ≡ None
plus_number least most word plus =
    number_within_no least most word (λ q. not_in_digits own word 43 q.0 (λ r. omega arith) 0 q.1 plus)

-- A word without a number within wide bounds has none within narrower ones.
pub none_narrower : (wide least most : ℕ) (word : List ℕ) → number_within 0 wide word ≡ None → most ≤ wide
    → number_within least most word ≡ None
none_narrower wide least most word none narrower = number_within_no least most word (λ q.
    let found : number_within 0 wide word ≡ Some (digits_value 10 word) =
    number_within_yes 0 wide word q.0 q.1 (omega arith) (omega arith) in cc)

-- A number within wide bounds that is also within narrower ones.
pub narrow_inside : (wide least most : ℕ) (word : List ℕ) (n : ℕ) → number_within 0 wide word ≡ Some n → least ≤ n → n ≤ most
    → number_within least most word ≡ Some n
narrow_inside wide least most word n found above below =
    let parts = number_within_is 0 wide word n found in
    number_within_yes least most word parts.0 parts.1 (omega arith) (omega arith) ∙ ap (λ m. Some m) parts.2

-- A number within wide bounds that is outside narrower ones.
pub narrow_below : (wide least most : ℕ) (word : List ℕ) (n : ℕ) → number_within 0 wide word ≡ Some n → n < least
    → number_within least most word ≡ None
narrow_below wide least most word n found outside =
    let parts = number_within_is 0 wide word n found in
    number_within_no least most word (λ q. omega arith)

pub narrow_above : (wide least most : ℕ) (word : List ℕ) (n : ℕ) → number_within 0 wide word ≡ Some n → most < n
    → number_within least most word ≡ None
narrow_above wide least most word n found outside =
    let parts = number_within_is 0 wide word n found in
    number_within_no least most word (λ q. omega arith)

-- The rules for a number as it is written.
pub ruleset parsed = (parse_number, plus_number)
