use Rattle.std.proofs.Common.{rules, ◌≡◌, eqb, true, false, sym, ap, ◌∙◌, ℕ, List}
use Rattle.stun_types_write.specs.Adding.{has_kind}
use Rattle.stun_types_write.proofs.Walked.{any_step, kinds_none, kinds_step}
use Rattle.stun_types_write.proofs.scan.is_written.Goals as goal

pub returns-then-found-atype : goal.returns-then-found-atype
returns-then-found-atype c =
    let head = c.in-Some.ensures in
    let test : eqb c.in-Some.found.0 c.args.atype.0 ≡ true = search rules in
    sym (any_step c.args.atype.0 _ _ _ true (kinds_step _ _ _ head.whole head.kind head.following) test) ∙ c.loop-found.invariant

pub loop-found-preserved : goal.loop-found-preserved
loop-found-preserved c =
    let head = c.in-Some.ensures in
    let test : eqb c.in-Some.found.0 c.args.atype.0 ≡ false = search rules in
    sym (any_step c.args.atype.0 _ _ _ false (kinds_step _ _ _ head.whole head.kind head.following) test) ∙ c.loop-found.invariant

pub returns : goal.returns
returns c = ap (λ (kinds : List ℕ). has_kind c.args.atype.0 kinds) (sym (kinds_none _ c.in_default.ensures)) ∙ c.loop-found.invariant
