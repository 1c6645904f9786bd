use Rattle.std.proofs.Common.{◌∙◌, ap}
use Rattle.std.specs.Prelude.{map}
use Rattle.turn_desk_world.specs.Wanted.{IsPartCovered}
use Rattle.turn_desk_world.proofs.WantedLemmas.{all_chunks}
use Rattle.turn_desk_world.proofs.wanted.want_word.Goals as goal

pub returns : goal.returns
returns c =
    all_chunks c.want_parts.result c.args.flags.now c.want_parts.new.flags (IsPartCovered c.want_parts.new.flags) c.as_slice.result.now _
    (ap (λ parts. map (λ x. x.now) parts) c.as_slice.ensures.value ∙ c.in_ok-parts.ensures) c.want_parts.ensures
