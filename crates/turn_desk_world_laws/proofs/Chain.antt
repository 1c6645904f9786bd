-- A run after the steps of an event.
use Rattle.std.proofs.Common.{List, [], ◌∷◌, ◌++◌, refl, sym, subst}
use Rattle.turn_desk_step_laws.specs.TurnRuns.Runs.{Step, AtClient, AtDesk, AtEach, Leads}

pub leads_after : {C D : Type 0} (first mid last : C) (steps later : List (Step C D)) → Leads first steps mid → Leads mid later last → Leads first (later ++ steps) last
leads_after first mid last steps [] here is = subst (λ c. Leads first steps c) (sym is) here
leads_after first mid last steps (AtClient call ∷ later) here is = (is.0, leads_after first mid call.before steps later here is.1)
leads_after first mid last steps (AtDesk d ∷ later) here is = leads_after first mid last steps later here is

pub each_after : {S : Type 0} (P : S → Type 0) (steps later : List S) → AtEach (λ s _. P s) steps → AtEach (λ s _. P s) later → AtEach (λ s _. P s) (later ++ steps)
each_after P steps [] here each = here
each_after P steps (s ∷ later) here each = (each.0, each_after P steps later here each.1)

pub leads_parted : {C D : Type 0} (first last : C) (later earlier : List (Step C D)) → Leads first (later ++ earlier) last → (mid : C) × Leads first earlier mid × Leads mid later last
leads_parted first last [] earlier is = (last, is, refl)
leads_parted first last (AtClient call ∷ later) earlier is = let rest = leads_parted first call.before later earlier is.1 in (rest.0, rest.1, (is.0, rest.2))
leads_parted first last (AtDesk d ∷ later) earlier is = leads_parted first last later earlier is

pub each_later : {S : Type 0} (P : S → Type 0) (later earlier : List S) → AtEach (λ s _. P s) (later ++ earlier) → AtEach (λ s _. P s) later
each_later P [] earlier each = tt
each_later P (s ∷ later) earlier each = (each.0, each_later P later earlier each.1)
