-- What is printed.
use Rattle.std.proofs.Common.{ℕ, ◌≡◌, List, ◌++◌, ◌∙◌, append_assoc, arith}
use Rattle.std.specs.Prelude.{Option, Some, None, Result, Ok, Err, IfOk, IfSome, codes}

-- A text that was formatted equals another one with equal bytes.
pub text_is : {S E : Type 0} (bytes : S → List ℕ) (r : Result S E) (o : Option (List ℕ)) (a b : List ℕ)
    → IfOk r (λ s. IfSome o (λ bs. bytes s ≡ bs)) → o ≡ Some a → a ≡ b → IfOk r (λ s. bytes s ≡ b)
text_is bytes (Err e) o a b printed out same = tt
text_is bytes (Ok s) None a b printed out same = absurd cc
text_is bytes (Ok s) (Some x) a b printed out same = let e : x ≡ a = cc in printed ∙ e ∙ same

-- Four words with spaces between them, of which the middle two are grouped.
pub four_words : (a b c d : List ℕ)
    → a ++ (codes " " ++ (b ++ (codes " " ++ (c ++ (codes " " ++ d)))))
    ≡ (a ++ codes " ") ++ ((b ++ codes " ") ++ c) ++ codes " " ++ d
four_words a b c d = grind (arith, append_assoc)

-- Five words with spaces between them, of which the first two and the last three are grouped.
pub five_words : (a b c d e : List ℕ)
    → a ++ (codes " " ++ (b ++ (codes " " ++ (c ++ (codes " " ++ (d ++ (codes " " ++ e)))))))
    ≡ ((a ++ codes " ") ++ b) ++ codes " " ++ (((c ++ codes " ") ++ d) ++ codes " " ++ e)
five_words a b c d e = grind (arith, append_assoc)
