-- Chains of a client's calls are parts of a run.
use Rattle.std.proofs.Common.{List, [], ◌∷◌, ◌++◌, subst, sym}
use Rattle.turn_runs.specs.Words.{Words}
use Rattle.turn_runs.specs.Steps.{Call}
use Rattle.turn_runs.specs.Runs.{Step, AtEach, Leads, IsLawful}
use Rattle.turn_runs.specs.Chains.{IsChain, steps_of, AreLawful}

pub leads_on : {C D : Type 0} (first middle last : C) (calls : List (Call C)) (earlier : List (Step C D)) → Leads first earlier middle → IsChain middle calls last → Leads first (steps_of calls ++ earlier) last
leads_on first middle last [] earlier leads chain = subst (λ c. Leads first earlier c) (sym chain) leads
leads_on first middle last (call ∷ calls) earlier leads chain = (chain.0, leads_on first middle call.before calls earlier leads chain.1)

pub lawful_on : {C D : Type 0} (W : Words C D) (calls : List (Call C)) (earlier : List (Step C D)) → AreLawful W.client calls → AtEach (λ s _. IsLawful W s) earlier → AtEach (λ s _. IsLawful W s) (steps_of calls ++ earlier)
lawful_on W [] earlier lawful before = before
lawful_on W (call ∷ calls) earlier lawful before = (lawful.0, lawful_on W calls earlier lawful.1 before)

-- A chain followed by a chain is a chain.
pub chain_on : {C : Type 0} (first middle last : C) (later earlier : List (Call C)) → IsChain first earlier middle → IsChain middle later last → IsChain first (later ++ earlier) last
chain_on first middle last [] earlier one other = subst (λ c. IsChain first earlier c) (sym other) one
chain_on first middle last (call ∷ later) earlier one other = (other.0, chain_on first middle call.before later earlier one other.1)
