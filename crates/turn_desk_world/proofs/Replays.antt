-- A replay, line by line.
use Rattle.std.proofs.Common.{ℕ, ◌≡◌, ◌≢◌, ◌+◌, List, [], ◌∷◌, ◌++◌, refl, sym, ap, ◌∙◌, subst}
use Rattle.std.specs.Borrow.{Bor}
use Rattle.std.specs.Option.{option_copied}
use Rattle.std.specs.Prelude.{Option, Some, None, Result, Ok, Err, OnOk}
use Rattle.std.specs.Io.KnownBytes.{Appends}
use Rattle.std.proofs.lemmas.List.{append_assoc, append-nil}
use Rattle.line_io.proofs.AppendLemmas.{appends_on}
use Rattle.line_io.specs.Cut.{lines_after, lines_of}
use Rattle.line_io.specs.Stop.{bad_text, status_of, stop_text}
use Rattle.line_io.specs.declared.status.Status.{Status}
use Rattle.line_io.specs.declared.status.Status.TheVariants.{Done, BadTrace, NoMemory, Fault}
use Rattle.line_io.specs.declared.stop.Stop.{Stop}
use Rattle.line_io.specs.declared.stop.Stop.TheVariants as stop
use Rattle.turn_desk_world.specs.Progress.{Progress}
use Rattle.turn_desk_world.specs.Replay.{Bad, Ended, IsLineDone, IsReplay, IsStopped, Lacking, More, Prints, start}

-- The replay of the lines that are left, after what was printed, completes the replay of all lines.
abbrev pub Continues : List (List ℕ) → List ℕ → Progress → ℕ → List (List ℕ) → Type 0
Continues all printed p number lines =
    (following : List ℕ) (status : Status) → IsReplay p number lines following status → IsReplay start 1 all (printed ++ following) status

-- What was printed, and the lines that are left complete it.
abbrev pub IsReachable : List (List ℕ) → Option (List ℕ) → Option (List ℕ) → Progress → ℕ → List (List ℕ) → Type 0
IsReachable all old new p number lines = (printed : List ℕ) × Appends old new printed × Continues all printed p number lines

-- A line was executed, and others are left after it.
pub continues : (all : List (List ℕ)) (printed : List ℕ) (p : Progress) (number : ℕ) (lines rest : List (List ℕ)) (line here : List ℕ) (q : Progress)
    → Continues all printed p number lines → lines ≡ line ∷ rest → IsLineDone p line here q → Continues all (printed ++ here) q (number + 1) rest
continues all printed p number lines rest line here q on cut done following status left =
    let more : IsReplay p number lines (here ++ following) status =
    subst (λ (l : List (List ℕ)). IsReplay p number l (here ++ following) status) (sym cut) (More p number line here q rest following status done left) in
    subst (λ (t : List ℕ). IsReplay start 1 all t status) (sym (append_assoc printed here following)) (on (here ++ following) status more)

-- The last line was executed.
pub ends : (all : List (List ℕ)) (printed : List ℕ) (p : Progress) (number : ℕ) (lines : List (List ℕ)) (line here : List ℕ) (q : Progress)
    → Continues all printed p number lines → lines ≡ line ∷ [] → IsLineDone p line here q → IsReplay start 1 all (printed ++ here) Done
ends all printed p number lines line here q on cut done =
    let last : IsReplay p number lines (here ++ []) Done =
    subst (λ (l : List (List ℕ)). IsReplay p number l (here ++ []) Done) (sym cut) (More p number line here q [] [] Done done (Ended q (number + 1))) in
    subst (λ (t : List ℕ). IsReplay start 1 all (printed ++ t) Done) (append-nil here) (on (here ++ []) Done last)

-- A line stopped the replay.
pub stops : (all : List (List ℕ)) (printed : List ℕ) (p : Progress) (number : ℕ) (lines rest : List (List ℕ)) (line : List ℕ) (by : Stop)
    → Continues all printed p number lines → lines ≡ line ∷ rest → status_of by ≢ Fault → IsStopped p number line by
    → IsReplay start 1 all (printed ++ stop_text by) (status_of by)
stops all printed p number lines rest line (stop.BadLine at) on cut fine is =
    let bad : IsReplay p number lines (bad_text number) BadTrace =
    subst (λ (l : List (List ℕ)). IsReplay p number l (bad_text number) BadTrace) (sym cut) (Bad p number line rest is.1) in
    subst (λ (n : ℕ). IsReplay start 1 all (printed ++ bad_text n) BadTrace) (sym is.0) (on (bad_text number) BadTrace bad)
stops all printed p number lines rest line stop.NoMemory on cut fine is = on (stop_text stop.NoMemory) NoMemory (Lacking p number lines)
stops all printed p number lines rest line stop.Unread on cut fine is = absurd (fine refl)
stops all printed p number lines rest line stop.Unwritten on cut fine is = absurd (fine refl)

-- A line was executed, and others are left in the text after its line feed.
pub continues_after : (all : List (List ℕ)) (printed : List ℕ) (p : Progress) (number : ℕ) (lines : List (List ℕ)) (line here : List ℕ) (q : Progress)
    (after : Option (Bor (List ℕ))) (text : Bor (List ℕ))
    → Continues all printed p number lines → lines ≡ line ∷ lines_after (option_copied after) → IsLineDone p line here q → after ≡ Some text
    → Continues all (printed ++ here) q (number + 1) (lines_of text.now)
continues_after all printed p number lines line here q after text on cut done some =
    continues all printed p number lines (lines_of text.now) line here q on
    (cut ∙ ap (λ (a : Option (Bor (List ℕ))). line ∷ lines_after (option_copied a)) some) done

pub ends_after : (all : List (List ℕ)) (printed : List ℕ) (p : Progress) (number : ℕ) (lines : List (List ℕ)) (line here : List ℕ) (q : Progress)
    (after : Option (Bor (List ℕ)))
    → Continues all printed p number lines → lines ≡ line ∷ lines_after (option_copied after) → IsLineDone p line here q → after ≡ None
    → IsReplay start 1 all (printed ++ here) Done
ends_after all printed p number lines line here q after on cut done none =
    ends all printed p number lines line here q on
    (cut ∙ ap (λ (a : Option (Bor (List ℕ))). line ∷ lines_after (option_copied a)) none) done

-- The line that says why a replay stopped comes after what it had printed.
pub ended : (trace : List ℕ) (by : Stop) (status : Status) (old mid new : Option (List ℕ))
    → (status_of by ≢ Fault → (printed : List ℕ) × Appends old mid printed × IsReplay start 1 (lines_of trace) (printed ++ stop_text by) (status_of by))
    → (status ≢ Fault → status ≡ status_of by) → (status ≢ Fault → Appends mid new (stop_text by)) → Prints trace status old new
ended trace by status old mid new before is said fine =
    let same : status ≡ status_of by = is fine in
    let head = before (λ e. fine (same ∙ e)) in (
      head.0 ++ stop_text by,
      appends_on old mid new head.0 (stop_text by) head.1 (said fine),
      subst (λ (s : Status). IsReplay start 1 (lines_of trace) (head.0 ++ stop_text by) s) (sym same) head.2,
    )

-- What follows from a successful call.
pub on_ok : {A E : Type 0} (result : Result A E) (P Q : Type 0) → OnOk result P → (P → Q) → OnOk result Q
on_ok (Ok x) P Q is then = then is
on_ok (Err e) P Q is then = tt
