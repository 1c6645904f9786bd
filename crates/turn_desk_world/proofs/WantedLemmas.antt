-- Flags that are set stay set, and cover more with each part, word and line.
use Rattle.std.proofs.Common.{ℕ, ◌≡◌, ◌≢◌, ◌<◌, ◌≤◌, ◌+◌, Bool, true, false, List, [], ◌∷◌, ◌++◌, length, get_or, take, inl, inr, refl, sym, ap, subst, ◌∙◌, slice_set}
use Rattle.std.specs.Prelude.{Option, Some, None, Result, Ok, Err, OnOk, All, map, ◌==◌}
use Rattle.std.specs.Option.{option_copied}
use Rattle.line_io.specs.Cut.{lines_after, lines_of}
use Rattle.std.proofs.lemmas.List.{append_assoc, append-nil}
use Rattle.std.specs.Borrow.{Bor}
use Rattle.std.specs.List.{slice_split}
use Rattle.std.proofs.lemmas.Bool.{cases_eq, ne_eqb}
use Rattle.std.proofs.lemmas.List.{get_or_past, get_or-set_same, get_or-set_other, take_more, take_all}
use Rattle.std.proofs.lemmas.List.Elements.{All-push, All-nil, All-cons, All-head, All-tail}
use Rattle.turn_desk_world.specs.Wanted.{IsCovered, IsPartCovered, IsWanted, IsWordCovered, StaysWanted, is_wanted, named_index, index_in}

-- ---- flags

pub stays : (flags : List Bool) → StaysWanted flags flags
stays flags index is = is

pub stays_on : (a b c : List Bool) → StaysWanted a b → StaysWanted b c → StaysWanted a c
stays_on a b c first then index is = then index (first index is)

pub set_stays : (flags : List Bool) (i : ℕ) → i < length flags → StaysWanted flags (slice_set flags i true)
set_stays flags i inside index is = elim (cases_eq index i) [
  | inl same ↦ ap (λ k. get_or (slice_set flags i true) k true) same ∙ get_or-set_same flags i true true inside
  | inr other ↦ get_or-set_other flags i index true true other ∙ is
]

pub set_wanted : (flags : List Bool) (i : ℕ) → i < length flags → is_wanted (slice_set flags i true) i ≡ true
set_wanted flags i inside = get_or-set_same flags i true true inside

pub past_wanted : (flags : List Bool) (i : ℕ) → length flags ≤ i → is_wanted flags i ≡ true
past_wanted flags i past = get_or_past flags i true past

-- ---- what is covered stays so

wanted_stays : (old new : List Bool) (index : Option ℕ) → StaysWanted old new → IsWanted old index → IsWanted new index
wanted_stays old new None on is = tt
wanted_stays old new (Some index) on is = on index is

part_stays : (old new : List Bool) (part : List ℕ) → StaysWanted old new → IsPartCovered old part → IsPartCovered new part
part_stays old new part on is = wanted_stays old new (named_index part) on is

word_stays : (old new : List Bool) (word : List ℕ) → StaysWanted old new → IsWordCovered old word → IsWordCovered new word
word_stays old new word on is k d lt = part_stays old new (get_or (slice_split (λ b. b == 43) word) k d) on (is k d lt)

line_stays : (old new : List Bool) (line : List ℕ) → StaysWanted old new → IsCovered old line → IsCovered new line
line_stays old new line on is utf8 k d lt = word_stays old new (get_or (slice_split (λ b. b == 32) line) k d) on (is utf8 k d lt)

-- ---- the position that a part names

pub index_at : (part rest : List ℕ) (words : List (List ℕ)) → part ≡ 64 ∷ rest → words ≡ slice_split (λ b. b == 58) rest
    → index_in words ≡ named_index part
unfolding named_index
index_at part rest words begins cut = rw begins (ap index_in cut)

pub no_index : (part : List ℕ) → ((rest : List ℕ) → part ≢ 64 ∷ rest) → None ≡ named_index part
unfolding named_index
no_index [] other = refl
no_index (c ∷ cs) other =
    let plain : (c == 64) ≡ false = ne_eqb c 64 (λ q. other cs (ap (λ x. x ∷ cs) q)) in rw plain refl

-- ---- one more is covered

module _ {X : Type 0} (P : List Bool → X → Type 0) (on : (old new : List Bool) (x : X) → StaysWanted old new → P old x → P new x) where
  pub one_more : (start old new : List Bool) (xs : List X) (i : ℕ) (d : X) → i < length xs
      → StaysWanted start old × All (P old) (take i xs) → StaysWanted old new × P new (get_or xs i d)
      → StaysWanted start new × All (P new) (take (i + 1) xs)
  one_more start old new xs i d inside so more = (
    stays_on start old new so.0 more.0,
    subst (All (P new)) (sym (take_more xs i d inside)) (All-push (P new) (take i xs) (get_or xs i d) (λ k e lt. on old new _ more.0 (so.1 k e lt)) more.1),
  )

  pub all_covered : (start new : List Bool) (xs : List X) (i : ℕ) → length xs ≤ i
      → StaysWanted start new × All (P new) (take i xs) → StaysWanted start new × All (P new) xs
  all_covered start new xs i past so = (so.0, subst (All (P new)) (take_all i xs past) so.1)

  pub none_covered : (start : List Bool) (xs : List X) → StaysWanted start start × All (P start) (take 0 xs)
  none_covered start xs = (stays start, All-nil (P start))

-- ---- chunks of a text that was cut

all_mapped : (P : List ℕ → Type 0) (xs : List (Bor (List ℕ))) → All (λ x. P x.now) xs → All P (map (λ x. x.now) xs)
all_mapped P [] all = All-nil P
all_mapped P (x ∷ xs) all = All-cons P x.now (map (λ y. y.now) xs) (All-head (λ y. P y.now) x xs all) (all_mapped P xs (All-tail (λ y. P y.now) x xs all))

pub all_chunks : {A E : Type 0} (result : Result A E) (old new : List Bool) (P : List ℕ → Type 0) (xs : List (Bor (List ℕ))) (chunks : List (List ℕ))
    → map (λ x. x.now) xs ≡ chunks → OnOk result (StaysWanted old new × All (λ x. P x.now) xs) → OnOk result (StaysWanted old new × All P chunks)
all_chunks (Ok done) old new P xs chunks cut so = (so.0, subst (All P) cut (all_mapped P xs so.1))
all_chunks (Err error) old new P xs chunks cut so = tt

pub covered_if : {A E : Type 0} (result : Result A E) (old new : List Bool) (line : List ℕ)
    → OnOk result (StaysWanted old new × All (IsWordCovered new) (slice_split (λ b. b == 32) line)) → OnOk result (StaysWanted old new × IsCovered new line)
covered_if (Ok done) old new line so = (so.0, λ utf8. so.1)
covered_if (Err error) old new line so = tt

-- ---- lines

-- The lines so far, which are covered, followed by those that are left, are all lines.
abbrev pub AreLinesCovered : List (List ℕ) → List Bool → List (List ℕ) → Type 0
AreLinesCovered all flags left = (head : List (List ℕ)) × (all ≡ head ++ left) × All (IsCovered flags) head

pub none_yet : (all : List (List ℕ)) (flags : List Bool) → AreLinesCovered all flags all
none_yet all flags = ([], refl, All-nil (IsCovered flags))

pub line_more : (all : List (List ℕ)) (old new : List Bool) (left : List (List ℕ)) (line : List ℕ) (rest : List (List ℕ))
    → AreLinesCovered all old left → left ≡ line ∷ rest → StaysWanted old new × IsCovered new line → AreLinesCovered all new rest
line_more all old new left line rest so cut more = (
  so.0 ++ line ∷ [],
  so.1 ∙ ap (λ l. so.0 ++ l) cut ∙ sym (append_assoc so.0 (line ∷ []) rest),
  All-push (IsCovered new) so.0 line (λ k d lt. line_stays old new (get_or so.0 k d) more.0 (so.2 k d lt)) more.1,
)

pub line_more_after : (all : List (List ℕ)) (old new : List Bool) (left : List (List ℕ)) (line : List ℕ) (after : Option (Bor (List ℕ))) (text : Bor (List ℕ))
    → AreLinesCovered all old left → left ≡ line ∷ lines_after (option_copied after) → after ≡ Some text
    → StaysWanted old new × IsCovered new line → AreLinesCovered all new (lines_of text.now)
line_more_after all old new left line after text so cut some more =
    line_more all old new left line (lines_of text.now) so
    (cut ∙ ap (λ (a : Option (Bor (List ℕ))). line ∷ lines_after (option_copied a)) some) more

pub last_line : (all : List (List ℕ)) (old new : List Bool) (left : List (List ℕ)) (line : List ℕ) (after : Option (Bor (List ℕ)))
    → AreLinesCovered all old left → left ≡ line ∷ lines_after (option_copied after) → after ≡ None
    → StaysWanted old new × IsCovered new line → All (IsCovered new) all
last_line all old new left line after so cut none more =
    let whole = line_more all old new left line [] so
    (cut ∙ ap (λ (a : Option (Bor (List ℕ))). line ∷ lines_after (option_copied a)) none) more in
    subst (All (IsCovered new)) (sym (whole.1 ∙ append-nil whole.0)) whole.2

-- The rules for setting one more flag.
pub ruleset flags = (set_stays, set_wanted, past_wanted, stays)
