-- Padding that is written as zeros in the last four bytes of an attribute, before the value is written over
-- them.
use Rattle.std.proofs.Common.{◌≡◌, ℕ, zero, suc, ◌+◌, ◌-◌, ◌≤◌, List, [], ◌∷◌, ◌++◌, length, drop, replicate, ap, ◌∙◌, arith}
use Rattle.std.proofs.lemmas.List.{drop-drop, drop-replicate}
use Rattle.byteorder.specs.Endian.{big_bytes}

zeros_after : (xs : List ℕ) (n : ℕ) → length xs ≤ n → drop n (xs ++ replicate 4 0) ≡ replicate (length xs + 4 - n) 0
zeros_after [] n h = drop-replicate n 4 0
zeros_after (x ∷ xs) zero h = absurd (omega arith)
zeros_after (x ∷ xs) (suc n) h = zeros_after xs n (omega arith) ∙ ap (λ m. replicate m 0) (omega arith)

-- The bytes after the value are zeros.
pub padding_is : (before last decoded following after_head left : List ℕ) (kind len head back more : ℕ) → length before ≤ head + back + 4 → length before ≡ head + back + more → last ≡ 0 ∷ 0 ∷ 0 ∷ 0 ∷ []
    → decoded ≡ big_bytes 2 kind ++ big_bytes 2 len ++ drop 4 (before ++ last) → following ≡ drop 4 decoded → after_head ≡ drop head following → left ≡ drop back after_head → left ≡ replicate more 0
padding_is before last decoded following after_head left kind len head back more reaches size last-is decoded-is following-is head-is left-is =
    let header : following ≡ drop 4 (before ++ last) = following-is ∙ ap (drop 4) decoded-is in
    let head-at : after_head ≡ drop head (drop 4 (before ++ last)) = head-is ∙ ap (drop head) header in
    let all : left ≡ drop back (drop head (drop 4 (before ++ last))) = left-is ∙ ap (drop back) head-at in
    let one : drop back (drop head (drop 4 (before ++ last))) ≡ drop (4 + (head + back)) (before ++ last) = ap (drop back) (drop-drop head 4 (before ++ last)) ∙ drop-drop back _ (before ++ last) ∙ ap (λ n. drop n (before ++ last)) (omega arith) in
    let zeros : drop (4 + (head + back)) (before ++ last) ≡ replicate (length before + 4 - (4 + (head + back))) 0 = ap (λ (l : List ℕ). drop (4 + (head + back)) (before ++ l)) last-is ∙ zeros_after before (4 + (head + back)) (omega arith) in
    all ∙ one ∙ zeros ∙ ap (λ n. replicate n 0) (omega arith)
