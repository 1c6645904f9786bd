use Rattle.std.proofs.Common.{◌∙◌, sym, ap}
use Rattle.std.specs.Prelude.{Some, map}
use Rattle.turn_desk_trace.proofs.BytesLemmas.{named_dash, named_parts}
use Rattle.turn_desk_trace.proofs.bytes.read_bytes.Goals as goal

pub returns-then-is_no_bytes-clause-ok : goal.returns-then-is_no_bytes-clause-ok
returns-then-is_no_bytes-clause-ok c =
    named_dash c.args.answers.now c.args.word.now (cc) ∙ ap (λ b. Some b) (sym c.new.ensures.items)

pub returns-clause-ok : goal.returns-clause-ok
returns-clause-ok c =
    rw (named_parts c.args.answers.now c.args.word.now c.as_slice.result.now (cc)
    (ap (λ parts. map (λ x. x.now) parts) c.as_slice.ensures.value ∙ c.in_ok-parts.ensures)) c.join_parts.ensures.ok

pub returns-clause-bad : goal.returns-clause-bad
returns-clause-bad c =
    rw (named_parts c.args.answers.now c.args.word.now c.as_slice.result.now (cc)
    (ap (λ parts. map (λ x. x.now) parts) c.as_slice.ensures.value ∙ c.in_ok-parts.ensures)) c.join_parts.ensures.bad
