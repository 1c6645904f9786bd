-- A line that can name only stored results is read with those as with all results.
use Rattle.std.proofs.Common.{arith, ℕ, ◌≡◌, ◌-◌, suc, zero, Bool, true, List, [], ◌∷◌, ◌++◌, length, drop, inl, inr, refl, sym, ap, subst, ◌∙◌}
use Rattle.std.specs.Prelude.{Option, Some, None, All, map, ◌==◌, slice_get, slice_index}
use Rattle.std.specs.List.{slice_split}
use Rattle.std.proofs.lemmas.Bool.{cases_Bool}
use Rattle.std.proofs.lemmas.List.Elements.{All-head, All-tail}
use Rattle.line_io.specs.LineWords.{AreWords}
use Rattle.line_io.specs.LowerHex.{is_dash}
use Rattle.turn_desk_trace.specs.Bytes.{answer_of, joined, named_bytes, part_bytes, range_of, reference_bytes, some_bytes}
use Rattle.turn_desk_trace.specs.Event.{IsEvent, IsSend, IsToClient, IsToDesk}
use Rattle.turn_desk_trace.specs.TraceLines.{IsLine, IsLineOf}
use Rattle.turn_desk_trace.specs.TraceNumbers.{number}
use Rattle.turn_desk_trace.specs.declared.line.Line.{Line}
use Rattle.turn_desk_trace.specs.declared.line.Line.TheVariants.{Setup, Look, Event}
use Rattle.turn_desk_event.specs.declared.event.ClientCall.{ClientCall}
use Rattle.turn_desk_event.specs.declared.event.ClientCall.TheVariants.{SendTo}
use Rattle.turn_desk_event.specs.declared.event.Event.{Event as Happening}
use Rattle.turn_desk_event.specs.declared.event.Event.TheVariants.{Call, Draw, ToClient, ToDesk}
use Rattle.turn_desk_world.specs.Wanted.{IsCovered, IsPartCovered, IsWanted, IsWordCovered, is_wanted, stored_if, stored_of, named_index, index_in, index_of}

-- ---- what is stored

-- The result at an index whose flag is set is stored.
pub stored_at : (flags : List Bool) (answers : List (List ℕ)) (index : ℕ) → is_wanted flags index ≡ true
    → slice_get (stored_of flags answers) index ≡ slice_get answers index
unfolding stored_of
stored_at flags [] index is = refl
stored_at [] (bytes ∷ rest) index is = refl
stored_at (flag ∷ flags) (bytes ∷ rest) zero is = rw is refl
stored_at (flag ∷ flags) (bytes ∷ rest) (suc index) is = stored_at flags rest index is

-- One more result.
pub stored_more : (flags : List Bool) (answers : List (List ℕ)) (bytes : List ℕ)
    → stored_of flags (answers ++ bytes ∷ []) ≡ stored_of flags answers ++ stored_if (is_wanted flags (length answers)) bytes ∷ []
unfolding stored_of
stored_more [] [] bytes = refl
stored_more (flag ∷ flags) [] bytes = refl
stored_more [] (b ∷ rest) bytes = refl
stored_more (flag ∷ flags) (b ∷ rest) bytes = ap (λ l. stored_if flag b ∷ l) (stored_more flags rest bytes)

-- The list of stored results is as long as that of all results.
pub length-stored : (flags : List Bool) (answers : List (List ℕ)) → length (stored_of flags answers) ≡ length answers
unfolding stored_of
length-stored flags [] = refl
length-stored [] (bytes ∷ rest) = refl
length-stored (flag ∷ flags) (bytes ∷ rest) = ap suc (length-stored flags rest)

-- ---- what words name

stored_answer : (flags : List Bool) (answers : List (List ℕ)) (event : Option ℕ) → IsWanted flags (index_of event)
    → answer_of (stored_of flags answers) event ≡ answer_of answers event
stored_answer flags answers None is = refl
stored_answer flags answers (Some k) is = elim (cases_Bool (k == 0)) [
  | inl none ↦ rw none refl
  | inr some ↦ rw some (stored_at flags answers (k - 1) (rw some at is))
]

stored_reference : (flags : List Bool) (answers words : List (List ℕ)) → IsWanted flags (index_in words)
    → reference_bytes (stored_of flags answers) words ≡ reference_bytes answers words
unfolding reference_bytes
stored_reference flags answers [] is = refl
stored_reference flags answers (event ∷ []) is = stored_answer flags answers (number event) is
stored_reference flags answers (event ∷ from ∷ []) is = refl
stored_reference flags answers (event ∷ from ∷ to ∷ []) is =
    ap (λ a. range_of a (number from) (number to)) (stored_answer flags answers (number event) is)
stored_reference flags answers (event ∷ from ∷ to ∷ more ∷ rest) is = refl

stored_part : (flags : List Bool) (answers : List (List ℕ)) (chunk : List ℕ) → IsPartCovered flags chunk
    → part_bytes (stored_of flags answers) chunk ≡ part_bytes answers chunk
unfolding part_bytes named_index
stored_part flags answers chunk is = elim (cases_Bool (slice_index chunk 0 == 64)) [
  | inl at ↦ rw (at) (ap some_bytes (stored_reference flags answers (slice_split (λ b. b == 58) (drop 1 chunk)) (rw at at is)))
  | inr other ↦ rw (other) refl
]

stored_parts : (flags : List Bool) (answers parts : List (List ℕ)) → All (IsPartCovered flags) parts
    → map (part_bytes (stored_of flags answers)) parts ≡ map (part_bytes answers) parts
stored_parts flags answers [] all = refl
stored_parts flags answers (part ∷ parts) all =
    let first = stored_part flags answers part (All-head (IsPartCovered flags) part parts all) in
    let rest = stored_parts flags answers parts (All-tail (IsPartCovered flags) part parts all) in
    ap (λ b. b ∷ map (part_bytes (stored_of flags answers)) parts) first ∙ ap (λ l. part_bytes answers part ∷ l) rest

stored_word : (flags : List Bool) (answers : List (List ℕ)) (word : List ℕ) → IsWordCovered flags word
    → named_bytes (stored_of flags answers) word ≡ named_bytes answers word
unfolding named_bytes
stored_word flags answers word is = elim (cases_Bool (is_dash word)) [
  | inl dash ↦ rw dash refl
  | inr other ↦ rw other (ap joined (stored_parts flags answers (slice_split (λ b. b == 43) word) is))
]

-- ---- lines

-- Each of the words names equal bytes in the two lists of results.
abbrev pub AreNamedAlike : List (List ℕ) → List (List ℕ) → List (List ℕ) → Type 0
AreNamedAlike some others words = All (λ word. named_bytes some word ≡ named_bytes others word) words

same_to_client : (some others words : List (List ℕ)) (event : Happening) → AreNamedAlike some others words
    → IsToClient some words event → IsToClient others words event
same_to_client some others [] event alike is = is
same_to_client some others (a ∷ []) event alike is = is
same_to_client some others (a ∷ b ∷ []) event alike is = is
same_to_client some others (a ∷ b ∷ d ∷ []) event alike is = is
same_to_client some others (a ∷ b ∷ d ∷ bytes ∷ []) (ToClient t f g n) alike is =
    (is.0, is.1, is.2, subst (λ named. named ≡ Some t.items) (alike 3 [] (omega arith)) is.3)
same_to_client some others (a ∷ b ∷ d ∷ bytes ∷ []) (ToDesk t f n g s) alike is = is
same_to_client some others (a ∷ b ∷ d ∷ bytes ∷ []) (Draw n) alike is = is
same_to_client some others (a ∷ b ∷ d ∷ bytes ∷ []) (Call call n) alike is = is
same_to_client some others (a ∷ b ∷ d ∷ e ∷ more ∷ rest) event alike is = is

same_to_desk : (some others words : List (List ℕ)) (event : Happening) → AreNamedAlike some others words
    → IsToDesk some words event → IsToDesk others words event
same_to_desk some others [] event alike is = is
same_to_desk some others (a ∷ []) event alike is = is
same_to_desk some others (a ∷ b ∷ []) event alike is = is
same_to_desk some others (a ∷ b ∷ d ∷ []) event alike is = is
same_to_desk some others (a ∷ b ∷ bytes ∷ seed ∷ rest) (ToDesk t f n g s) alike is =
    (is.0, is.1, subst (λ named. named ≡ Some t.items) (alike 2 [] (omega arith)) is.2, is.3, is.4)
same_to_desk some others (a ∷ b ∷ bytes ∷ seed ∷ rest) (ToClient t f g n) alike is = is
same_to_desk some others (a ∷ b ∷ bytes ∷ seed ∷ rest) (Draw n) alike is = is
same_to_desk some others (a ∷ b ∷ bytes ∷ seed ∷ rest) (Call call n) alike is = is

same_send : (some others words : List (List ℕ)) (call : ClientCall) (time : ℕ) → AreNamedAlike some others words
    → IsSend some words call time → IsSend others words call time
same_send some others (a ∷ b ∷ d ∷ bytes ∷ []) (SendTo transport to sent) time alike is =
    (is.0, is.1, is.2, subst (λ named. named ≡ Some sent.items) (alike 3 [] (omega arith)) is.3)
same_send some others words call time alike is = is

same_event : (some others words : List (List ℕ)) (event : Happening) → AreNamedAlike some others words
    → IsEvent some words event → IsEvent others words event
same_event some others [] event alike is = is
same_event some others (name ∷ rest) (Call call time) alike is = elim is [
  | inl plain ↦ inl plain
  | inr named ↦ elim named [
    | inl send ↦ inr (inl (send.0, same_send some others rest call time (All-tail (λ word. named_bytes some word ≡ named_bytes others word) name rest alike) send.1))
    | inr permit ↦ inr (inr permit)
  ]
]
same_event some others (name ∷ rest) (Draw time) alike is = is
same_event some others (name ∷ rest) (ToClient t f g n) alike is =
    (is.0, same_to_client some others rest (ToClient t f g n) (All-tail (λ word. named_bytes some word ≡ named_bytes others word) name rest alike) is.1)
same_event some others (name ∷ rest) (ToDesk t f n g s) alike is =
    (is.0, same_to_desk some others rest (ToDesk t f n g s) (All-tail (λ word. named_bytes some word ≡ named_bytes others word) name rest alike) is.1)

same_spelled : (some others words : List (List ℕ)) (line : Line) → AreNamedAlike some others words
    → IsLineOf some words line → IsLineOf others words line
same_spelled some others words (Setup setup) alike is = is
same_spelled some others words (Look look) alike is = is
same_spelled some others words (Event event) alike is = same_event some others words event alike is

words_alike : (flags : List Bool) (answers : List (List ℕ)) (text : List ℕ) (words : List (List ℕ)) → AreWords text words
    → IsCovered flags text → AreNamedAlike (stored_of flags answers) answers words
words_alike flags answers text words parted covered =
    subst (AreNamedAlike (stored_of flags answers) answers) (sym parted.parted)
    (λ k d lt. stored_word flags answers _ (covered parted.utf8 k d lt))

alike_back : (some others words : List (List ℕ)) → AreNamedAlike some others words → AreNamedAlike others some words
alike_back some others words alike k d lt = sym (alike k d lt)

-- A line that is read with the stored results is read with all of them.
pub line_read : (flags : List Bool) (answers : List (List ℕ)) (text : List ℕ) (line : Line) → IsCovered flags text
    → IsLine (stored_of flags answers) text line → IsLine answers text line
line_read flags answers text line covered is = record {
  words = is.words;
  parted = is.parted;
  spelled = same_spelled (stored_of flags answers) answers is.words line (words_alike flags answers text is.words is.parted covered) is.spelled;
}

-- A line that is read with all results is read with the stored ones.
pub line_stored : (flags : List Bool) (answers : List (List ℕ)) (text : List ℕ) (line : Line) → IsCovered flags text
    → IsLine answers text line → IsLine (stored_of flags answers) text line
line_stored flags answers text line covered is = record {
  words = is.words;
  parted = is.parted;
  spelled = same_spelled answers (stored_of flags answers) is.words line
      (alike_back (stored_of flags answers) answers is.words (words_alike flags answers text is.words is.parted covered)) is.spelled;
}
