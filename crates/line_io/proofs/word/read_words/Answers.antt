use Rattle.std.proofs.Common.{◌∙◌, sym, ap}
use Rattle.std.specs.Prelude.{map, ◌==◌, length}
use Rattle.std.specs.List.{slice_split, list_any}
use Rattle.std.proofs.lemmas.Bool.{true≢false}
use Rattle.line_io.proofs.WordLemmas.{any_now}
use Rattle.line_io.proofs.word.read_words.Goals as goal

pub returns-clause-ok : goal.returns-clause-ok
returns-clause-ok c =
    let cut = c.in_ok-words.ensures ∙ ap (λ text. slice_split (λ b. b == 32) text) c.in-Ok.ensures.cases.0 in
    record {
      utf8 = c.in-Ok.ensures.cases.1;
      parted = cut;
      filled = any_now c.in_ok-words.words.items ∙ ap (λ words. list_any (λ word. length word.now == 0) words) (sym c.as_slice.ensures.value)
          ∙ sym c.has_empty_word.ensures ∙ c.if-has_empty_word.false;
    }

pub returns-then-has_empty_word-clause-bad : goal.returns-then-has_empty_word-clause-bad
returns-then-has_empty_word-clause-bad c = λ bad read are_words.
    let cut = ap (λ words. map (λ x. x.now) words) c.as_slice.ensures.value ∙ c.in_ok-words.ensures
    ∙ ap (λ text. slice_split (λ b. b == 32) text) c.in-Ok.ensures.cases.0 in
    let none = ap (λ words. list_any (λ word. length word == 0) words) (cut ∙ sym are_words.parted) ∙ are_words.filled in
    let some = any_now c.as_slice.result.now ∙ sym c.has_empty_word.ensures ∙ c.if-has_empty_word.true in
    true≢false (sym some ∙ none)
