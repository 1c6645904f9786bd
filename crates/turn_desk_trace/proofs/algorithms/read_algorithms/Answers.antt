use Rattle.std.proofs.Common.{rules, ◌≡◌, ℕ, List, ◌++◌, map, refl, sym, ap, ◌∙◌}
use Rattle.std.specs.List.{IsDistinct}
use Rattle.turn_desk_trace.specs.Algorithms.{algorithm_word, listed}
use Rattle.turn_desk_trace.proofs.AlgorithmLemmas.{by_last, none_named, still_distinct, words_and}
use Rattle.turn_desk_trace.proofs.algorithms.read_algorithms.Goals as goal

-- At first nothing is read.
pub loop-name-init : goal.loop-name-init
unfolding IsDistinct
loop-name-init c = (c.utf8.word, refl, tt)

-- A name that is not that of a new algorithm.
pub returns-in_err-with_named : goal.returns-in_err-with_named
returns-in_err-with_named c =
    let parts = ap (λ (l : List (List ℕ)). map algorithm_word (listed c.loop-name.algorithms) ++ l) (sym c.in-Some.ensures.chunks) ∙ c.loop-name.invariant.1 in
    rw c.from_residual.ensures (none_named (listed c.loop-name.algorithms) c.in-Some.name.now _ _ parts c.in_err-with_named.ensures)

-- A name that is.
pub loop-name-preserved : goal.loop-name-preserved
loop-name-preserved c =
    let parts = ap (λ (l : List (List ℕ)). map algorithm_word (listed c.loop-name.algorithms) ++ l) (sym c.in-Some.ensures.chunks) ∙ c.loop-name.invariant.1 in (
      search rules,
      words_and (listed c.loop-name.algorithms) c.in_ok-with_named.field-0 c.in-Some.name.now _ _ parts c.in_ok-with_named.ensures,
      still_distinct (listed c.loop-name.algorithms) c.in_ok-with_named.field-0 c.in-Some.name.now c.loop-name.invariant.2 c.in_ok-with_named.ensures,
    )

-- The last name.
pub returns : goal.returns
returns c =
    let parts = ap (λ (l : List (List ℕ)). map algorithm_word (listed c.loop-name.algorithms) ++ l) (sym c.in_default.ensures.chunks) ∙ c.loop-name.invariant.1 in
    by_last (listed c.loop-name.algorithms) c.loop-name.left.now _ c.with_named-2.result parts c.loop-name.invariant.2 c.with_named-2.ensures
