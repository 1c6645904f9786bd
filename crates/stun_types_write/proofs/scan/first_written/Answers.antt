use Rattle.std.proofs.Common.{map, sym, ap, ◌∙◌, ℕ, List}
use Rattle.std.specs.Prelude.{find}
use Rattle.stun_types_write.specs.Adding.{is_among}
use Rattle.stun_types_write.proofs.Walked.{find_here, find_after, kinds_none, kinds_step}
use Rattle.stun_types_write.proofs.scan.first_written.Goals as goal

pub returns-then-has_type : goal.returns-then-has_type
returns-then-has_type c =
    let head = c.in-Some.ensures in
    sym (find_here c.args.requested.now _ _ _ (kinds_step _ _ _ head.whole head.kind head.following) (sym c.has_type.ensures ∙ c.if-has_type.true)) ∙ c.loop-found.invariant

pub loop-found-preserved : goal.loop-found-preserved
loop-found-preserved c =
    let head = c.in-Some.ensures in
    sym (find_after c.args.requested.now _ _ _ (kinds_step _ _ _ head.whole head.kind head.following) (sym c.has_type.ensures ∙ c.if-has_type.false)) ∙ c.loop-found.invariant

pub returns : goal.returns
returns c = ap (λ (kinds : List ℕ). find (is_among (map (λ t. t.0) c.args.requested.now)) kinds) (sym (kinds_none _ c.in_default.ensures)) ∙ c.loop-found.invariant
