use Rattle.std.proofs.Common.{◌∙◌, ap}
use Rattle.std.specs.Prelude.{map, ◌==◌}
use Rattle.std.specs.List.{slice_split}
use Rattle.turn_desk_world.specs.Wanted.{IsWordCovered}
use Rattle.turn_desk_world.proofs.WantedLemmas.{all_chunks, covered_if}
use Rattle.turn_desk_world.proofs.wanted.want_line.Goals as goal

pub returns-in_default : goal.returns-in_default
returns-in_default c = (λ index is. is, λ utf8. absurd (c.in_default.ensures.cases.0 utf8))

pub returns : goal.returns
returns c =
    covered_if c.want_words.result c.args.flags.now c.want_words.new.flags c.args.line.now
    (all_chunks c.want_words.result c.args.flags.now c.want_words.new.flags (IsWordCovered c.want_words.new.flags) c.as_slice.result.now _
    (ap (λ parts. map (λ x. x.now) parts) c.as_slice.ensures.value ∙ c.in_ok-words.ensures ∙ ap (λ text. slice_split (λ b. b == 32) text) c.in-Ok.ensures.cases.0) c.want_words.ensures)
