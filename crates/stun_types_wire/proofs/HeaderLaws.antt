-- What the errors of decoding a header mean.
use Rattle.std.proofs.Common.{◌≡◌, ℕ, ◌^◌, ◌<◌, ◌≤◌, Bool, true, false, ltb, eqb, ◌&&◌, List, [], ◌∷◌, ◌++◌, length, take, drop, slice_index, Some, None, refl, sym, ap, ◌∙◌, append_assoc, arith, inl, inr}
use Rattle.std.specs.Prelude.{◌↔◌}
use Rattle.std.specs.List.{list_all, starts_with}
use Rattle.std.proofs.lemmas.Bool.{cases_Bool, and_parts, and_from, eqb-true, ltb-true, ltb-false}
use Rattle.std.proofs.lemmas.List.Folds.{list_all-append}
use Rattle.std.proofs.lemmas.List.{length-append, length-take, length-drop, take-append-drop, drop-drop}
use Rattle.byteorder.specs.Endian.{big_number, big_bytes}
use Rattle.byteorder.specs.Numbers.{big_from-lt, big_from-take}
use Rattle.stun_types_wire.specs.declared.error.StunParseError.TheVariants.{NotStun, Truncated}
use Rattle.stun_types_wire.specs.Attributes.{kind_at, length_at}
use Rattle.stun_types_wire.specs.Grammar.{may_begin, header_refusal, number_at}
use Rattle.stun_types_wire.specs.Registry.{cookie}
use Rattle.stun_types_wire.specs.Text.{header_text}
use Rattle.stun_types_wire.proofs.Headers.{header_head}
use Rattle.stun_types_wire.specs.Headers.{AreBytes, BeginsWithHeader, MayBecomeHeader}
use Rattle.stun_types_wire.proofs.Numbers.{byte_below, bytes_again}

-- ---- the three cases of a refusal

pub data HeaderCase (bytes : List ℕ) : Type 0 where
  wrong : may_begin bytes ≡ false → header_refusal bytes ≡ Some NotStun → HeaderCase bytes
  short : may_begin bytes ≡ true → length bytes < 20 → header_refusal bytes ≡ Some (Truncated 20 (length bytes)) → HeaderCase bytes
  whole : may_begin bytes ≡ true → 20 ≤ length bytes → header_refusal bytes ≡ None → HeaderCase bytes

pub header_cases : (bytes : List ℕ) → HeaderCase bytes
unfolding header_refusal
header_cases bytes =
    elim (cases_Bool (may_begin bytes)) [
      | inl begins ↦ elim (cases_Bool (ltb (length bytes) 20)) [
        | inl less ↦ short begins (ltb-true (length bytes) 20 less) (rw (begins, less) refl)
        | inr long ↦ whole begins (ltb-false (length bytes) 20 long) (rw (begins, long) refl)
      ]
      | inr other ↦ wrong other (rw other refl)
    ]

-- ---- a header at the head is not refused

pub begins_fine : (bytes : List ℕ) → BeginsWithHeader bytes → header_refusal bytes ≡ None
begins_fine bytes h = rw h.text (header_head h.kind h.len h.number h.rest h.kind_fits)

-- ---- what is not refused has a header at the head

pub are_parts : (n : ℕ) (bytes : List ℕ) → AreBytes bytes → AreBytes (take n bytes) × AreBytes (drop n bytes)
are_parts n bytes h =
    let whole : list_all (λ b. ltb b 256) (take n bytes ++ drop n bytes) ≡ true = ap (list_all (λ b. ltb b 256)) (take-append-drop n bytes) ∙ h in
    and_parts (list_all (λ b. ltb b 256) (take n bytes)) (list_all (λ b. ltb b 256) (drop n bytes)) (sym (list_all-append (λ b. ltb b 256) (take n bytes) (drop n bytes)) ∙ whole)

-- Encoding the number that is decoded from n bytes gives these bytes again.
pub first_bytes : (n : ℕ) (bytes : List ℕ) → AreBytes bytes → n ≤ length bytes → big_bytes n (big_number n bytes) ≡ take n bytes
first_bytes n bytes h long =
    ap (big_bytes n) (sym (big_from-take 0 n n bytes (omega arith))) ∙ bytes_again n (take n bytes) (byte_below (take n bytes) (are_parts n bytes h).0) (omega (arith, length-take n bytes))

-- Four bytes that pass the test of the magic cookie are the cookie.
cookie_is : (l : List ℕ) → length l ≡ 4 → starts_with eqb cookie l ≡ true → l ≡ cookie
cookie_is (e ∷ f ∷ g ∷ h ∷ []) four p =
    let p1 = and_parts (eqb e 0x21) (eqb f 0x12 && (eqb g 0xA4 && (eqb h 0x42 && true))) p in
    let p2 = and_parts (eqb f 0x12) (eqb g 0xA4 && (eqb h 0x42 && true)) p1.1 in
    let p3 = and_parts (eqb g 0xA4) (eqb h 0x42 && true) p2.1 in
    let p4 = and_parts (eqb h 0x42) true p3.1 in
    let e1 = eqb-true e 0x21 p1.0 in
    let e2 = eqb-true f 0x12 p2.0 in
    let e3 = eqb-true g 0xA4 p3.0 in
    let e4 = eqb-true h 0x42 p4.0 in
    rw (e1, e2, e3, e4) refl
cookie_is [] four p = absurd (omega arith)
cookie_is (e ∷ []) four p = absurd (omega arith)
cookie_is (e ∷ f ∷ []) four p = absurd (omega arith)
cookie_is (e ∷ f ∷ g ∷ []) four p = absurd (omega arith)
cookie_is (e ∷ f ∷ g ∷ h ∷ i ∷ l) four p = absurd (omega arith)

-- Bytes are the concatenation of the fields of a header and the rest.
chunks : (bytes : List ℕ) → bytes ≡ take 2 bytes ++ (take 2 (drop 2 bytes) ++ (take 4 (drop 4 bytes) ++ (take 12 (drop 8 bytes) ++ drop 20 bytes)))
chunks bytes =
    sym (take-append-drop 2 bytes)
    ∙ ap (λ (l : List ℕ). take 2 bytes ++ l) (sym (take-append-drop 2 (drop 2 bytes))
    ∙ ap (λ (l : List ℕ). take 2 (drop 2 bytes) ++ l) (drop-drop 2 2 bytes ∙ sym (take-append-drop 4 (drop 4 bytes))
    ∙ ap (λ (l : List ℕ). take 4 (drop 4 bytes) ++ l) (drop-drop 4 4 bytes ∙ sym (take-append-drop 12 (drop 8 bytes))
    ∙ ap (λ (l : List ℕ). take 12 (drop 8 bytes) ++ l) (drop-drop 12 8 bytes))))

-- The bytes begin with the text of the header that is decoded from them.
pub record DecodesHeader (bytes : List ℕ) : Type 0 where
  pub text : bytes ≡ header_text (kind_at bytes) (length_at bytes) (number_at bytes) ++ drop 20 bytes
  pub kind_fits : kind_at bytes < 2 ^ 14
  pub len_fits : length_at bytes < 2 ^ 16
  pub number_fits : number_at bytes < 2 ^ 96

pub decodes_header : (bytes : List ℕ) → AreBytes bytes → may_begin bytes ≡ true → 20 ≤ length bytes → DecodesHeader bytes
unfolding header_text number_at
decodes_header bytes h begins long =
    let tests = and_parts (ltb (slice_index bytes 0) 64) (starts_with eqb cookie (take 4 (drop 4 bytes))) begins in
    let top = ltb-true (slice_index bytes 0) 64 tests.0 in
    let second = byte_below bytes h 1 in
    let after_type = (are_parts 2 bytes h).1 in
    let after_cookie = (are_parts 8 bytes h).1 in
    let type_is = first_bytes 2 bytes h (omega arith) in
    let length_is = first_bytes 2 (drop 2 bytes) after_type (omega (arith, length-drop 2 bytes)) in
    let number_is = first_bytes 12 (drop 8 bytes) after_cookie (omega (arith, length-drop 8 bytes)) in
    let cookie-is = cookie_is (take 4 (drop 4 bytes)) (omega (arith, length-take 4 (drop 4 bytes), length-drop 4 bytes)) tests.1 in
    record {
      text = chunks bytes ∙ joined (take 2 bytes) (take 2 (drop 2 bytes)) (take 4 (drop 4 bytes)) (take 12 (drop 8 bytes)) (drop 20 bytes) (big_bytes 2 (kind_at bytes)) (big_bytes 2 (length_at bytes)) cookie (big_bytes 12 (big_number 12 (drop 8 bytes))) (sym type_is) (sym length_is) cookie-is (sym number_is);
      kind_fits = omega arith;
      len_fits = big_from-lt 0 2 (drop 2 bytes) (byte_below (drop 2 bytes) after_type);
      number_fits = big_from-lt 0 12 (drop 8 bytes) (byte_below (drop 8 bytes) after_cookie);
    }
  where
    joined : (a b c d rest a' b' c' d' : List ℕ) → a ≡ a' → b ≡ b' → c ≡ c' → d ≡ d' → a ++ (b ++ (c ++ (d ++ rest))) ≡ ((a' ++ b') ++ c' ++ d') ++ rest
    joined a b c d rest a' b' c' d' p q r t = rw (p, q, r, t) (simp append_assoc)

pub begins_with : (bytes : List ℕ) → AreBytes bytes → may_begin bytes ≡ true → 20 ≤ length bytes → BeginsWithHeader bytes
begins_with bytes h begins long =
    let decoded = decodes_header bytes h begins long in
    record { kind = kind_at bytes; len = length_at bytes; number = number_at bytes; rest = drop 20 bytes; text = decoded.text; kind_fits = decoded.kind_fits; len_fits = decoded.len_fits; number_fits = decoded.number_fits }

-- ---- some bytes that may begin a header become one

-- Bytes that complete some bytes to a header, with zeros in each field but the magic cookie.
pub record Completion (bytes : List ℕ) : Type 0 where
  pub rest : List ℕ
  pub are : AreBytes (bytes ++ rest)
  pub begins : may_begin (bytes ++ rest) ≡ true
  pub long : 20 ≤ length (bytes ++ rest)

abbrev zeros : List ℕ
zeros = 0 ∷ 0 ∷ 0 ∷ 0 ∷ 0 ∷ 0 ∷ 0 ∷ 0 ∷ 0 ∷ 0 ∷ 0 ∷ 0 ∷ []

pub complete : (bytes : List ℕ) → AreBytes bytes → may_begin bytes ≡ true → Completion bytes
complete [] h p = record { rest = 0 ∷ 0 ∷ 0 ∷ 0 ∷ 0x21 ∷ 0x12 ∷ 0xA4 ∷ 0x42 ∷ zeros; are = refl; begins = refl; long = omega arith }
complete (a ∷ []) h p = record { rest = 0 ∷ 0 ∷ 0 ∷ 0x21 ∷ 0x12 ∷ 0xA4 ∷ 0x42 ∷ zeros; are = h; begins = p; long = omega arith }
complete (a ∷ b ∷ []) h p = record { rest = 0 ∷ 0 ∷ 0x21 ∷ 0x12 ∷ 0xA4 ∷ 0x42 ∷ zeros; are = h; begins = p; long = omega arith }
complete (a ∷ b ∷ c ∷ []) h p = record { rest = 0 ∷ 0x21 ∷ 0x12 ∷ 0xA4 ∷ 0x42 ∷ zeros; are = h; begins = p; long = omega arith }
complete (a ∷ b ∷ c ∷ d ∷ []) h p = record { rest = 0x21 ∷ 0x12 ∷ 0xA4 ∷ 0x42 ∷ zeros; are = h; begins = p; long = omega arith }
complete (a ∷ b ∷ c ∷ d ∷ e ∷ []) h p = record { rest = 0x12 ∷ 0xA4 ∷ 0x42 ∷ zeros; are = h; begins = p; long = omega arith }
complete (a ∷ b ∷ c ∷ d ∷ e ∷ f ∷ []) h p = record { rest = 0xA4 ∷ 0x42 ∷ zeros; are = h; begins = p; long = omega arith }
complete (a ∷ b ∷ c ∷ d ∷ e ∷ f ∷ g ∷ []) h p = record { rest = 0x42 ∷ zeros; are = h; begins = p; long = omega arith }
complete (a ∷ b ∷ c ∷ d ∷ e ∷ f ∷ g ∷ i ∷ more) h p =
    let bytes : List ℕ = a ∷ b ∷ c ∷ d ∷ e ∷ f ∷ g ∷ i ∷ more in
    record {
      rest = zeros;
      are = list_all-append (λ n. ltb n 256) bytes zeros ∙ and_from (list_all (λ n. ltb n 256) bytes) true h refl;
      begins = p;
      long = omega (arith, length-append more zeros);
    }

-- ---- what may not begin a header never becomes one

first_of : (p q : Bool) → p && q ≡ true → p && true ≡ true
first_of p q h = and_from p true (and_parts p q h).0 refl

inner : (p q r s : Bool) → (q && r ≡ true → q && s ≡ true) → p && (q && r) ≡ true → p && (q && s) ≡ true
inner p q r s f h = let both = and_parts p (q && r) h in and_from p (q && s) both.0 (f both.1)

pub head_begins : (bytes rest : List ℕ) → may_begin (bytes ++ rest) ≡ true → may_begin bytes ≡ true
head_begins [] rest h = refl
head_begins (a ∷ []) rest h = first_of (ltb a 64) (starts_with eqb cookie (take 4 (drop 3 rest))) h
head_begins (a ∷ b ∷ []) rest h = first_of (ltb a 64) (starts_with eqb cookie (take 4 (drop 2 rest))) h
head_begins (a ∷ b ∷ c ∷ []) rest h = first_of (ltb a 64) (starts_with eqb cookie (take 4 (drop 1 rest))) h
head_begins (a ∷ b ∷ c ∷ d ∷ []) rest h = first_of (ltb a 64) (starts_with eqb cookie (take 4 rest)) h
head_begins (a ∷ b ∷ c ∷ d ∷ e ∷ []) rest h =
    inner (ltb a 64) (eqb e 0x21) (starts_with eqb (0x12 ∷ 0xA4 ∷ 0x42 ∷ []) (take 3 rest)) true
    (first_of (eqb e 0x21) (starts_with eqb (0x12 ∷ 0xA4 ∷ 0x42 ∷ []) (take 3 rest))) h
head_begins (a ∷ b ∷ c ∷ d ∷ e ∷ f ∷ []) rest h =
    let others = starts_with eqb (0xA4 ∷ 0x42 ∷ []) (take 2 rest) in
    inner (ltb a 64) (eqb e 0x21) (eqb f 0x12 && others) (eqb f 0x12 && true)
    (inner (eqb e 0x21) (eqb f 0x12) others true (first_of (eqb f 0x12) others)) h
head_begins (a ∷ b ∷ c ∷ d ∷ e ∷ f ∷ g ∷ []) rest h =
    let others = starts_with eqb (0x42 ∷ []) (take 1 rest) in
    inner (ltb a 64) (eqb e 0x21) (eqb f 0x12 && (eqb g 0xA4 && others)) (eqb f 0x12 && (eqb g 0xA4 && true))
    (inner (eqb e 0x21) (eqb f 0x12) (eqb g 0xA4 && others) (eqb g 0xA4 && true)
    (inner (eqb f 0x12) (eqb g 0xA4) others true (first_of (eqb g 0xA4) others))) h
head_begins (a ∷ b ∷ c ∷ d ∷ e ∷ f ∷ g ∷ i ∷ more) rest h = h

-- ---- the refusals

no_header : (bytes : List ℕ) → header_refusal bytes ≡ Some NotStun → ¬ MayBecomeHeader bytes
no_header bytes e more =
    let begins = head_begins bytes more.0 (begins_of (bytes ++ more.0) (begins_fine (bytes ++ more.0) more.1)) in
    elim (header_cases bytes) [
      | wrong other _ ↦ absurd cc
      | short _ _ is ↦ absurd cc
      | whole _ _ is ↦ absurd cc
    ]
  where
    begins_of : (l : List ℕ) → header_refusal l ≡ None → may_begin l ≡ true
    begins_of l h = elim (header_cases l) [
      | wrong _ is ↦ absurd cc
      | short begins _ _ ↦ begins
      | whole begins _ _ ↦ begins
    ]

becomes_header : (bytes : List ℕ) → AreBytes bytes → may_begin bytes ≡ true → MayBecomeHeader bytes
becomes_header bytes h begins =
    let done = complete bytes h begins in
    (done.rest, begins_with (bytes ++ done.rest) done.are done.begins done.long)

pub not_stun_means : (bytes : List ℕ) → AreBytes bytes → (header_refusal bytes ≡ Some NotStun) ↔ (¬ MayBecomeHeader bytes)
not_stun_means bytes h = (no_header bytes, back)
  where
    back : ¬ MayBecomeHeader bytes → header_refusal bytes ≡ Some NotStun
    back none = elim (header_cases bytes) [
      | wrong _ is ↦ is
      | short begins _ _ ↦ absurd (none (becomes_header bytes h begins))
      | whole begins _ _ ↦ absurd (none (becomes_header bytes h begins))
    ]

pub truncated_means : (bytes : List ℕ) → AreBytes bytes → (header_refusal bytes ≡ Some (Truncated 20 (length bytes))) ↔ ((length bytes < 20) × MayBecomeHeader bytes)
truncated_means bytes h = (there, back)
  where
    there : header_refusal bytes ≡ Some (Truncated 20 (length bytes)) → (length bytes < 20) × MayBecomeHeader bytes
    there e = elim (header_cases bytes) [
      | wrong _ is ↦ absurd cc
      | short begins less _ ↦ (less, becomes_header bytes h begins)
      | whole _ _ is ↦ absurd cc
    ]

    back : (length bytes < 20) × MayBecomeHeader bytes → header_refusal bytes ≡ Some (Truncated 20 (length bytes))
    back p = elim (header_cases bytes) [
      | wrong _ is ↦ absurd (no_header bytes is p.1)
      | short _ _ is ↦ is
      | whole _ long _ ↦ absurd (let less = p.0 in omega arith)
    ]

pub accepted_means : (bytes : List ℕ) → AreBytes bytes → (header_refusal bytes ≡ None) ↔ BeginsWithHeader bytes
accepted_means bytes h = (there, begins_fine bytes)
  where
    there : header_refusal bytes ≡ None → BeginsWithHeader bytes
    there e = elim (header_cases bytes) [
      | wrong _ is ↦ absurd cc
      | short _ _ is ↦ absurd cc
      | whole begins long _ ↦ begins_with bytes h begins long
    ]
