use Rattle.std.proofs.Common.{ℕ, List, Bor, map, string_bytes, rules, subst}
use Rattle.std.specs.Option.{option_copied}
use Rattle.line_io.specs.Cut.{lines_after}
use Rattle.trace_picture.specs.Lines.{Begins}
use Rattle.trace_picture.proofs.Rows.{passes_blank, passes_setup, shows}
use Rattle.trace_picture.proofs.picture.draw_line.Goals as goal

pub returns-then-is_skipped : goal.returns-then-is_skipped
returns-then-is_skipped c = passes_blank c.args.line.now (string_bytes c.args.svg.now) (lines_after (option_copied c.args.left)) (search rules)

pub returns-in-Setup : goal.returns-in-Setup
returns-in-Setup c = passes_setup c.args.line.now (string_bytes c.args.svg.now) _ (lines_after (option_copied c.args.left)) c.in-Some.kind c.in_ok-words.ensures.ok
    (subst (λ (ws : List (Bor (List ℕ))). Begins (map (λ x. x.now) ws) c.in-Some.kind) c.as_slice.ensures.value c.in-Some.ensures) c.in-Setup.is

pub returns : goal.returns
returns c = shows c.args.line.now c.cut_line.result.0.now (string_bytes c.args.svg.now) (string_bytes c.draw_event.new.svg) c.args.left c.in-Some-left.left c.cut_line.result.1 c.in-Some-left.is c.cut_line.ensures.lines c.in_ok-draw_event.ensures
