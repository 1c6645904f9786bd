use Rattle.std.proofs.Common.{◌∙◌, sym}
use Rattle.turn_desk_trace.proofs.BytesLemmas.{named_after}
use Rattle.turn_desk_trace.proofs.bytes.push_some.Goals as goal

pub returns-clause-ok : goal.returns-clause-ok
returns-clause-ok c =
    named_after c.args.bytes.now.items c.args.named.now c.extend_from_slice.new.self.items
    (sym c.is_empty.ensures ∙ c.if-is_empty.false) c.in_ok-extend_from_slice.ensures.items
