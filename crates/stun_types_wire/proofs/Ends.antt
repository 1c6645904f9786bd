-- The offset of an attribute in a written message, and what it covers.
use Rattle.std.proofs.Common.{◌≡◌, ℕ, ◌+◌, ◌-◌, ◌^◌, ◌<◌, List, [], ◌∷◌, ◌++◌, length, take, drop, replicate, refl, sym, ap, ◌∙◌, append_assoc, arith}
use Rattle.std.specs.Prelude.{sum_by}
use Rattle.std.specs.List.{AllByRecursion}
use Rattle.std.proofs.lemmas.List.{length-append, length-replicate}
use Rattle.std.proofs.lemmas.List.Sums.{sum_by-cons}
use Rattle.byteorder.specs.Numbers.{big_number-reads_back}
use Rattle.stun_types_wire.specs.Attributes.{Attr, attr_size, size_at, padded, padding_len, numbered}
use Rattle.stun_types_wire.specs.Covered.{covered_text, with_length}
use Rattle.stun_types_wire.specs.Text.{FitsAttribute, header_text, padded_text, attribute_text, body_text, message_text}

-- ---- how long a text is

length-attribute_text : (a : Attr) → length (attribute_text a) ≡ attr_size a
unfolding attribute_text padded_text
length-attribute_text a = omega (arith, length-append a.value (replicate (padding_len (length a.value)) 0), length-replicate {A = ℕ} (padding_len (length a.value)) 0)

length-body_text : (all : List Attr) → length (body_text all) ≡ sum_by attr_size all
unfolding body_text
length-body_text [] = refl
length-body_text (a ∷ all) =
    let own = length-attribute_text a in
    let later = length-body_text all in
    omega (arith, sum_by-cons attr_size a all, length-append (attribute_text a) (body_text all))

length-header_text : (kind len number : ℕ) (body : List ℕ) → length (header_text kind len number ++ body) ≡ 20 + length body
unfolding header_text
length-header_text kind len number body = omega arith

pub text_length : (kind number : ℕ) (all : List Attr) → length (message_text kind number all) ≡ 20 + sum_by attr_size all
unfolding message_text
text_length kind number all = length-header_text kind (length (body_text all)) number (body_text all) ∙ ap (λ n. 20 + n) (length-body_text all)

-- ---- attributes after others

pub numbered_both : (offset : ℕ) (xs ys : List Attr) → numbered offset (xs ++ ys) ≡ numbered offset xs ++ numbered (offset + sum_by attr_size xs) ys
numbered_both offset [] ys = ap (λ n. numbered n ys) (omega arith)
numbered_both offset (x ∷ xs) ys =
    let later = numbered_both (offset + attr_size x) xs ys in
    let index : offset + attr_size x + sum_by attr_size xs ≡ offset + sum_by attr_size (x ∷ xs) = omega (arith, sum_by-cons attr_size x xs) in
    ap (λ (l : List (ℕ × Attr)). (offset, x) ∷ l) (later ∙ ap (λ n. numbered (offset + attr_size x) xs ++ numbered n ys) index)

body_text-both : (xs ys : List Attr) → body_text (xs ++ ys) ≡ body_text xs ++ body_text ys
unfolding body_text
body_text-both [] ys = refl
body_text-both (x ∷ xs) ys = ap (λ (l : List ℕ). attribute_text x ++ l) (body_text-both xs ys) ∙ sym (append_assoc (attribute_text x) (body_text xs) (body_text ys))

body_text-first : (a : Attr) (following : List Attr) → body_text (a ∷ following) ≡ attribute_text a ++ body_text following
unfolding body_text
body_text-first a following = refl

pub fit_both : (xs ys : List Attr) → AllByRecursion FitsAttribute xs → AllByRecursion FitsAttribute ys → AllByRecursion FitsAttribute (xs ++ ys)
fit_both [] ys h k = k
fit_both (x ∷ xs) ys h k = (h.0, fit_both xs ys h.1 k)

-- ---- the covered text

with_length-header_text : (kind len m number : ℕ) (body : List ℕ) → with_length (header_text kind len number ++ body) m ≡ header_text kind m number ++ body
unfolding with_length header_text
with_length-header_text kind len m number body = refl

size_text : (a : Attr) (rest : List ℕ) → length a.value < 2 ^ 16 → size_at (attribute_text a ++ rest) ≡ attr_size a
unfolding attribute_text padded_text
size_text a rest short = ap (λ n. 4 + padded n) (big_number-reads_back 2 (length a.value) ((a.value ++ replicate (padding_len (length a.value)) 0) ++ rest) short)

take_all : (xs ys : List ℕ) → take (length xs) (xs ++ ys) ≡ xs
take_all [] ys = refl
take_all (x ∷ xs) ys = ap (λ (l : List ℕ). x ∷ l) (take_all xs ys)

drop_all : (xs ys : List ℕ) → drop (length xs) (xs ++ ys) ≡ ys
drop_all [] ys = refl
drop_all (x ∷ xs) ys = drop_all xs ys

-- An attribute of a written message covers the text before it, with a length field that includes the
-- attribute.
pub covered_at : (kind number : ℕ) (adds : List Attr) (a : Attr) (following : List Attr) → length a.value < 2 ^ 16
    → covered_text (message_text kind number (adds ++ a ∷ following)) (length (message_text kind number adds)) ≡ with_length (message_text kind number adds) (length (message_text kind number adds) - 20 + attr_size a)
unfolding covered_text message_text
covered_at kind number adds a following short =
    let body = body_text adds in
    let whole = body_text (adds ++ a ∷ following) in
    let end = attribute_text a ++ body_text following in
    let more : whole ≡ body ++ end = body_text-both adds (a ∷ following) ∙ ap (λ (l : List ℕ). body ++ l) (body_text-first a following) in
    let head = header_text kind (length whole) number ++ body in
    let own = header_text kind (length body) number ++ body in
    let o = length own in
    let size : o ≡ length head = length-header_text kind (length body) number body ∙ sym (length-header_text kind (length whole) number body) in
    let text : header_text kind (length whole) number ++ whole ≡ head ++ end =
    ap (λ (l : List ℕ). header_text kind (length whole) number ++ l) more ∙ sym (append_assoc (header_text kind (length whole) number) body end) in
    let taken : take o (header_text kind (length whole) number ++ whole) ≡ head = ap (λ n. take n (header_text kind (length whole) number ++ whole)) size ∙ ap (λ (l : List ℕ). take (length head) l) text ∙ take_all head end in
    let dropped : drop o (header_text kind (length whole) number ++ whole) ≡ end = ap (λ n. drop n (header_text kind (length whole) number ++ whole)) size ∙ ap (λ (l : List ℕ). drop (length head) l) text ∙ drop_all head end in
    let decoded : size_at (drop o (header_text kind (length whole) number ++ whole)) ≡ attr_size a = ap size_at dropped ∙ size_text a (body_text following) short in
    ap (λ (l : List ℕ). with_length l (o - 20 + size_at (drop o (header_text kind (length whole) number ++ whole)))) taken ∙ ap (λ n. with_length head (o - 20 + n)) decoded
    ∙ with_length-header_text kind (length whole) (o - 20 + attr_size a) number body ∙ sym (with_length-header_text kind (length body) (o - 20 + attr_size a) number body)
