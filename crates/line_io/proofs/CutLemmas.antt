-- The lines of a text.
use Rattle.std.proofs.Common.{ℕ, ◌≡◌, List, [], ◌∷◌, length, false, refl, sym, ◌∙◌, ap, subst, Bor}
use Rattle.std.proofs.Common.{Bool, true, cond, take, nat_lt}
use Rattle.std.proofs.Common.{◌+◌, ◌-◌, ◌≤◌, drop, arith}
use Rattle.std.specs.List.{position, position_or_len}
use Rattle.std.proofs.lemmas.Bool.{ltb-false, ltb-true}
use Rattle.std.proofs.lemmas.List.Splits.{slice_split_none, slice_split_first}
use Rattle.std.proofs.lemmas.List.Sums.{fails_before_first}
use Rattle.std.proofs.lemmas.List.{length-drop, take_all}
use Rattle.std.specs.Prelude.{Option, Some, None, ◌==◌}
use Rattle.std.specs.List.{slice_split}
use Rattle.std.specs.Option.{option_copied}
use Rattle.std.specs.List.{AllByRecursion}
use Rattle.line_io.specs.Cut.{lines_after, lines_of}

cond_some : (b : Bool) (n i : ℕ) → cond b (Some n) None ≡ Some i → n ≡ i
cond_some true n i h = cc
cond_some false n i h = cc

cond_is : (b : Bool) (n i : ℕ) → cond b (Some n) None ≡ Some i → b ≡ true
cond_is true n i h = refl
cond_is false n i h = cc

cond_none : (b : Bool) (n : ℕ) → cond b (Some n) None ≡ None → b ≡ false
cond_none true n h = cc
cond_none false n h = refl

split_only : (p : ℕ → Bool) (xs : List ℕ) → length xs ≤ position_or_len p xs → slice_split p xs ≡ xs ∷ []
split_only p xs past = slice_split_none p xs (λ k d inside. fails_before_first p xs k d (omega arith))

-- The lines of a text with a line feed: the text before the first line feed, and the lines of the text after
-- it.
pub feed_lines : (text : List ℕ) (end : ℕ) → Some end ≡ position (λ b. b == 10) text
    → lines_of text ≡ take end text ∷ lines_of (take (length text - (end + 1)) (drop (end + 1) text))
feed_lines text end h =
    let at : position_or_len (λ b. b == 10) text ≡ end =
    cond_some (nat_lt (position_or_len (λ b. b == 10) text) (length text)) (position_or_len (λ b. b == 10) text) end (sym h) in
    let P : ℕ → Type 0 = λ n. lines_of text ≡ take n text ∷ lines_of (drop (n + 1) text) in
    let whole = take_all (length text - (end + 1)) (drop (end + 1) text) (simp length-drop (omega arith)) in
    subst P at (slice_split_first (λ b. b == 10) text 0
    (ltb-true _ _ (cond_is (nat_lt (position_or_len (λ b. b == 10) text) (length text)) (position_or_len (λ b. b == 10) text) end (sym h))))
    ∙ ap (λ rest. take end text ∷ lines_of rest) (sym whole)

-- The lines of a text without a line feed: the text itself.
pub no_feed_lines : (text : List ℕ) → None ≡ position (λ b. b == 10) text → lines_of text ≡ text ∷ []
no_feed_lines text h =
    split_only (λ b. b == 10) text
    (ltb-false _ _ (cond_none (nat_lt (position_or_len (λ b. b == 10) text) (length text)) (position_or_len (λ b. b == 10) text) (sym h)))

-- A text whose first line is cut off and passes a test.
module _ (Passes : List ℕ → Type 0) (text line : List ℕ) (after : Option (Bor (List ℕ)))
    (cut : lines_of text ≡ line ∷ lines_after (option_copied after)) (passed : Passes line) where
  -- If that line is the last one, all lines pass.
  pub passes_last : after ≡ None → AllByRecursion Passes (lines_of text)
  passes_last none =
      let P : List (List ℕ) → Type 0 = λ lines. AllByRecursion Passes lines in
      subst P (sym (cut ∙ ap (λ a. line ∷ lines_after (option_copied a)) none)) (passed, tt)

  -- If the lines of the text after it pass, all lines pass.
  pub passes_more : (rest : Bor (List ℕ)) → after ≡ Some rest → AllByRecursion Passes (lines_of rest.now)
      → AllByRecursion Passes (lines_of text)
  passes_more rest some following =
      let P : List (List ℕ) → Type 0 = λ lines. AllByRecursion Passes lines in
      subst P (sym (cut ∙ ap (λ a. line ∷ lines_after (option_copied a)) some)) (passed, following)
