use Rattle.std.proofs.Common.{◌∙◌, sym, ap, arith}
use Rattle.std.specs.Prelude.{map}
use Rattle.turn_desk_trace.specs.Bytes.{joined, part_bytes, prepend}
use Rattle.turn_desk_trace.proofs.BytesLemmas.{after_none, err_of, joined_end, joined_step, joined_stop, prepend_none}
use Rattle.turn_desk_trace.proofs.bytes.join_parts.Goals as goal

pub loop-part-init : goal.loop-part-init
loop-part-init c =
    sym (prepend_none _) ∙ ap (λ head. prepend head (joined (map (λ x. part_bytes c.args.answers.now x.now) c.args.parts.now))) (sym c.new-bytes.ensures.items)

pub loop-part-preserved : goal.loop-part-preserved
loop-part-preserved c =
    c.loop-part.invariant ∙ joined_step (λ x. part_bytes c.args.answers.now x.now) c.loop-part.bytes.items c.push_part.new.bytes.items
    c.args.parts.now c.loop-part.part-index _ (omega arith) c.in_default.ensures.ok

pub returns-in-Err-clause-bad : goal.returns-in-Err-clause-bad
returns-in-Err-clause-bad c = λ bad.
    c.loop-part.invariant ∙ after_none c.loop-part.bytes.items _
    (joined_stop (λ x. part_bytes c.args.answers.now x.now) c.args.parts.now c.loop-part.part-index _ (omega arith)
    (c.in-Err.ensures.bad (err_of _ _ bad)))

pub returns-clause-ok : goal.returns-clause-ok
returns-clause-ok c =
    c.loop-part.invariant ∙ joined_end (λ x. part_bytes c.args.answers.now x.now) c.loop-part.bytes.items c.args.parts.now
    c.loop-part.part-index (omega arith)
