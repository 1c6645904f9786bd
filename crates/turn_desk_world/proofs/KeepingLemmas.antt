-- A replay that stores only the results that a later line can name does what one does that stores all.
use Rattle.std.proofs.Common.{ℕ, ◌≡◌, ◌≢◌, ◌+◌, Bool, true, List, [], ◌∷◌, ◌++◌, refl, sym, ap, ◌∙◌, subst}
use Rattle.std.specs.Borrow.{Bor}
use Rattle.std.specs.Option.{option_copied}
use Rattle.std.specs.Prelude.{Option, Some, None, All}
use Rattle.std.specs.Io.KnownBytes.{Appends}
use Rattle.std.proofs.lemmas.List.Elements.{All-head, All-tail}
use Rattle.line_io.proofs.AppendLemmas.{appends_nothing, appends_on}
use Rattle.line_io.specs.Cut.{lines_after, lines_of}
use Rattle.line_io.specs.Stop.{status_of, stop_text}
use Rattle.line_io.specs.declared.status.Status.TheVariants.{Done, Fault}
use Rattle.line_io.specs.declared.stop.Stop.{Stop}
use Rattle.line_io.specs.declared.stop.Stop.TheVariants as stop
use Rattle.turn_desk_trace.specs.Answer.{named_by}
use Rattle.turn_desk_trace.specs.declared.line.Line.{Line}
use Rattle.turn_desk_trace.specs.declared.line.Line.TheVariants.{Setup, Look, Event}
use Rattle.turn_desk_trace.specs.declared.setup.Setup.{Setup as SettingUp}
use Rattle.turn_desk_trace.specs.declared.setup.Setup.TheVariants.{Desk, User, Rto, Client}
use Rattle.turn_desk_event.specs.declared.answer.Answer.{Answer}
use Rattle.turn_desk_event.specs.declared.event.Event.{Event as Happening}
use Rattle.turn_desk_world.specs.Keeping.{IsHappenedStored, IsLineDoneStored}
use Rattle.turn_desk_world.specs.Keeping as keeping
use Rattle.turn_desk_world.specs.Progress.{IsHappened, IsSetUp, Progress}
use Rattle.turn_desk_world.specs.Replay.{Answered, IsLineDone, IsReplay, IsStopped, Looked, SetUp, Skipped, can_stand, start}
use Rattle.turn_desk_world.specs.Wanted.{IsCovered, cut, is_wanted, stored_if, stored_of}
use Rattle.turn_desk_world.proofs.StoredLemmas.{stored_more, length-stored, line_stored, line_read}
use Rattle.turn_desk_world.proofs.Replays.{IsReachable, ends_after, continues_after, stops}

-- ---- one line

set_up : (flags : List Bool) (p : Progress) (setup : SettingUp) (q : Progress) → IsSetUp (cut flags p) setup q
    → (r : Progress) × IsSetUp p setup r × (q ≡ cut flags r)
set_up flags p (Desk realm algorithms anonymity clients) q is = (_, (is.0, refl), is.1)
set_up flags p (User name password) q is = (_, record { desk = is.desk; there = is.there; after = refl }, is.after)
set_up flags p (Rto initial max count last) q is = (_, (is.0, is.1, refl), is.2)
set_up flags p (Client by over settings) q is =
    (_, record { client = is.client; first = is.first; new = is.new; after = refl }, is.after)

happened : (flags : List Bool) (p : Progress) (event : Happening) (answer : Answer) (q : Progress)
    → IsHappenedStored flags (cut flags p) event answer q → (r : Progress) × IsHappened p event answer r × (q ≡ cut flags r)
happened flags p event answer q is =
    let all = p.named ++ named_by answer ∷ [] in
    let stored : q.named ≡ stored_of flags all =
    is.named
    ∙ ap (λ n. stored_of flags p.named ++ stored_if (is_wanted flags n) (named_by answer) ∷ []) (length-stored flags p.named)
    ∙ sym (stored_more flags p.named (named_by answer)) in (
      record q { named = all },
      record {
        before = is.before;
        stood = is.stood;
        possible = is.possible;
        after = is.after;
        run = is.run;
        continues = is.continues;
        named = refl;
      },
      ap (λ named. record q { named = named }) stored,
    )

-- What a line does with the stored results, it does with all of them.
pub done_stored : (flags : List Bool) (p : Progress) (line printed : List ℕ) (q : Progress) → IsCovered flags line
    → IsLineDoneStored flags (cut flags p) line printed q → (r : Progress) × IsLineDone p line printed r × (q ≡ cut flags r)
done_stored flags p line printed q covered (keeping.Skipped says none same) = (p, Skipped says none refl, same)
done_stored flags p line printed q covered (keeping.SetUp setup read possible is none) =
    let so = set_up flags p setup q is in
    (so.0, SetUp setup (line_read flags p.named line (Setup setup) covered read) (possible_of setup possible) so.1 none, so.2)
  where
    possible_of : (s : SettingUp) → can_stand (cut flags p) (Setup s) ≡ true → can_stand p (Setup s) ≡ true
    possible_of (Desk realm algorithms anonymity clients) e = e
    possible_of (User name password) e = e
    possible_of (Rto initial max count last) e = e
    possible_of (Client by over settings) e = e
done_stored flags p line printed q covered (keeping.Looked look read seen same) =
    (p, Looked look (line_read flags p.named line (Look look) covered read) seen refl, same)
done_stored flags p line printed q covered (keeping.Answered event read reported) =
    let so = happened flags p event reported.answer q reported.happened in (
      so.0,
      Answered event (line_read flags p.named line (Event event) covered read)
          (record { answer = reported.answer; happened = so.1; reported = reported.reported }),
      so.2,
    )

same_standing : (flags : List Bool) (p : Progress) (line : Line) → can_stand (cut flags p) line ≡ can_stand p line
same_standing flags p (Setup (Desk realm algorithms anonymity clients)) = refl
same_standing flags p (Setup (User name password)) = refl
same_standing flags p (Setup (Rto initial max count last)) = refl
same_standing flags p (Setup (Client by over settings)) = refl
same_standing flags p (Look look) = refl
same_standing flags p (Event event) = refl

-- A line that stops a replay with the stored results stops it with all of them.
pub stopped_stored : (flags : List Bool) (p : Progress) (number : ℕ) (line : List ℕ) (by : Stop) → IsCovered flags line
    → IsStopped (cut flags p) number line by → IsStopped p number line by
stopped_stored flags p number line (stop.BadLine at) covered is = (
  is.0,
  record {
    says = is.1.says;
    none = λ read spelled. sym (same_standing flags p read) ∙ is.1.none read (line_stored flags p.named line read covered spelled);
  },
)
stopped_stored flags p number line stop.NoMemory covered is = tt
stopped_stored flags p number line stop.Unread covered is = tt
stopped_stored flags p number line stop.Unwritten covered is = tt

-- ---- line by line

-- What was printed, and what is left to execute, in a state with only the stored results. The lines that are
-- left name only stored results.
abbrev pub IsActiveStored : List Bool → List (List ℕ) → Option (List ℕ) → Option (List ℕ) → Progress → ℕ → List (List ℕ) → Type 0
IsActiveStored flags all old new stored number lines =
    (p : Progress) × (stored ≡ cut flags p) × IsReachable all old new p number lines × All (IsCovered flags) lines

pub stored_begins : (flags : List Bool) (all : List (List ℕ)) (old : Option (List ℕ)) (stored : Progress) → stored ≡ start
    → All (IsCovered flags) all → IsActiveStored flags all old old stored 1 all
unfolding stored_of
stored_begins flags all old stored started covered =
    (start, started, ([], appends_nothing old, λ following status left. left), covered)

first_covered : (flags : List Bool) (lines : List (List ℕ)) (line : List ℕ) (rest : List (List ℕ)) → lines ≡ line ∷ rest
    → All (IsCovered flags) lines → IsCovered flags line
first_covered flags lines line rest cut_at all = All-head (IsCovered flags) line rest (subst (All (IsCovered flags)) cut_at all)

pub stored_stops : (flags : List Bool) (all : List (List ℕ)) (old mid new : Option (List ℕ)) (stored : Progress) (number : ℕ) (lines rest : List (List ℕ))
    (line : List ℕ) (by : Stop) → IsActiveStored flags all old mid stored number lines → lines ≡ line ∷ rest → status_of by ≢ Fault
    → (new ≡ mid) × IsStopped stored number line by
    → (printed : List ℕ) × Appends old new printed × IsReplay start 1 all (printed ++ stop_text by) (status_of by)
stored_stops flags all old mid new stored number lines rest line by so cut_at fine stopped =
    let is = stopped_stored flags so.0 number line by (first_covered flags lines line rest cut_at so.3)
    (subst (λ k. IsStopped k number line by) so.1 stopped.1) in (
      so.2.0,
      subst (λ o. Appends old o so.2.0) (sym stopped.0) so.2.1,
      stops all so.2.0 so.0 number lines rest line by so.2.2 cut_at fine is,
    )

pub stored_ends : (flags : List Bool) (all : List (List ℕ)) (old mid new : Option (List ℕ)) (stored : Progress) (number : ℕ) (lines : List (List ℕ))
    (line : List ℕ) (q : Progress) (after : Option (Bor (List ℕ))) → IsActiveStored flags all old mid stored number lines
    → lines ≡ line ∷ lines_after (option_copied after) → after ≡ None
    → (printed : List ℕ) × Appends mid new printed × IsLineDoneStored flags stored line printed q
    → (printed : List ℕ) × Appends old new printed × IsReplay start 1 all printed Done
stored_ends flags all old mid new stored number lines line q after so cut_at none done =
    let is = done_stored flags so.0 line done.0 q (first_covered flags lines line _ cut_at so.3)
    (subst (λ k. IsLineDoneStored flags k line done.0 q) so.1 done.2) in (
      so.2.0 ++ done.0,
      appends_on old mid new so.2.0 done.0 so.2.1 done.1,
      ends_after all so.2.0 so.0 number lines line done.0 is.0 after so.2.2 cut_at is.1 none,
    )

pub stored_continues : (flags : List Bool) (all : List (List ℕ)) (old mid new : Option (List ℕ)) (stored : Progress) (number : ℕ) (lines : List (List ℕ))
    (line : List ℕ) (q : Progress) (after : Option (Bor (List ℕ))) (text : Bor (List ℕ)) → IsActiveStored flags all old mid stored number lines
    → lines ≡ line ∷ lines_after (option_copied after) → after ≡ Some text
    → (printed : List ℕ) × Appends mid new printed × IsLineDoneStored flags stored line printed q
    → IsActiveStored flags all old new q (number + 1) (lines_of text.now)
stored_continues flags all old mid new stored number lines line q after text so cut_at some done =
    let is = done_stored flags so.0 line done.0 q (first_covered flags lines line _ cut_at so.3)
    (subst (λ k. IsLineDoneStored flags k line done.0 q) so.1 done.2) in
    let whole = cut_at ∙ ap (λ (a : Option (Bor (List ℕ))). line ∷ lines_after (option_copied a)) some in (
      is.0,
      is.2,
      (
        so.2.0 ++ done.0,
        appends_on old mid new so.2.0 done.0 so.2.1 done.1,
        continues_after all so.2.0 so.0 number lines line done.0 is.0 after text so.2.2 cut_at is.1 some,
      ),
      All-tail (IsCovered flags) line (lines_of text.now) (subst (All (IsCovered flags)) whole so.3),
    )
