use Rattle.std.proofs.Common.{lit<, ◌∙◌, ap}
use Rattle.std.specs.Prelude.{Some, None, map}
use Rattle.std.proofs.lemmas.Str.Pattern.{strip_prefix_char}
use Rattle.turn_desk_world.proofs.WantedLemmas.{no_index, index_at}
use Rattle.turn_desk_world.proofs.wanted.index_named.Goals as goal

pub returns-in_default : goal.returns-in_default
returns-in_default c =
    no_index c.args.part.now (strip_prefix_char 64 c.args.part.now None c.in_default.ensures.cases (lit< tt))

pub returns : goal.returns
returns c =
    let begins = strip_prefix_char 64 c.args.part.now (Some c.in-Some.reference) c.in-Some.ensures.cases (lit< tt) in
    c.index_in.ensures ∙ index_at c.args.part.now c.in-Some.reference.now _ begins
    (ap (λ parts. map (λ x. x.now) parts) c.as_slice.ensures.value ∙ c.in_ok-words.ensures)
