use Rattle.std.proofs.Common.{refl}
use Rattle.trace_picture.proofs.Rows.{is_row}
use Rattle.trace_picture.proofs.picture.draw_event.Goals as goal

pub returns : goal.returns
returns c = (
  c.in_ok-row.row,
  is_row c.args.line.now c.args.answer.now c.in-Ok-Ok.line.now _ c.in_ok-reported.reported.items c.args.kind _ c.in_ok-row.row c.requires.words c.requires.begins c.requires.event c.in_ok-reported.ensures.ok c.in_ok-row.ensures
      c.in-Ok-Ok.ensures.cases.0 c.in-Ok-Ok.ensures'.cases.0 refl c.as_slice.ensures.value,
  c.in_ok-push_row.ensures,
)
