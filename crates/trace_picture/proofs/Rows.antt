-- Rows, one after another.
use Rattle.std.proofs.Common.{ℕ, ◌≡◌, ◌≢◌, List, [], ◌∷◌, ◌++◌, Option, Some, Bor, codes, map, refl, true, inl, inr, sym, ap, ◌∙◌, subst, append-nil, append_assoc}
use Rattle.std.specs.Option.{option_copied}
use Rattle.line_io.specs.Cut.{lines_after, lines_of, says_nothing}
use Rattle.line_io.specs.LineWords.{AreWords}
use Rattle.trace_picture.specs.Transmitted.{row_text}
use Rattle.trace_picture.specs.Lines.{Begins, IsMarked, IsRowOf, arrows_of, carries}
use Rattle.trace_picture.specs.declared.event.Event.{Event}
use Rattle.trace_picture.specs.declared.kind.Kind.{Kind}
use Rattle.trace_picture.specs.declared.kind.Kind.TheVariants.{Setup}
use Rattle.trace_picture.specs.declared.row.Row.{Row}
use Rattle.trace_picture.specs.Pictures.{AreTransmitted, AreOver, IsListed, IsStep, Parted}
use Rattle.trace_picture.specs.Pictures.Parted.{Here, There}
use Rattle.trace_picture.specs.Pictures.AreRows.{End, Passed, Transmitted}
use Rattle.trace_picture.specs.Pictures.IsStep.{Pass, Show}

-- A text is its first line, followed by the lines after its line feed.
pub lines_cut : (text line : List ℕ) (after : Option (Bor (List ℕ))) (rest : Bor (List ℕ))
    → lines_of text ≡ line ∷ lines_after (option_copied after) → after ≡ Some rest → lines_of text ≡ line ∷ lines_of rest.now
lines_cut text line after rest cut some = cut ∙ ap (λ (a : Option (Bor (List ℕ))). line ∷ lines_after (option_copied a)) some

-- The first line is the separator, or it comes before the separator.
pub parts_here : (text line : List ℕ) (rest : List (List ℕ)) → lines_of text ≡ line ∷ rest → line ≡ codes "%" → Parted (lines_of text) rest
parts_here text line rest cut is =
    let P : List (List ℕ) → Type 0 = λ ls. Parted ls rest in
    subst P (sym (cut ∙ ap (λ (l : List ℕ). l ∷ rest) is)) Here

pub parts_there : (text line : List ℕ) (rest following : List (List ℕ)) → lines_of text ≡ line ∷ rest → line ≢ codes "%" → Parted rest following → Parted (lines_of text) following
parts_there text line rest following cut other parted =
    let P : List (List ℕ) → Type 0 = λ ls. Parted ls following in
    subst P (sym cut) (There other parted)

-- Nothing is drawn after the last row.
pub transmitted_end : (text line : List ℕ) (rest answers : List (List ℕ)) → lines_of text ≡ line ∷ rest → line ≡ codes "%" → AreOver answers → AreTransmitted (lines_of text) answers []
transmitted_end text line rest answers cut is over =
    let P : List (List ℕ) → Type 0 = λ ls. AreTransmitted ls answers [] in
    subst P (sym (cut ∙ ap (λ (l : List ℕ). l ∷ rest) is)) ([], End over, refl)

-- A line is drawn before those after it.
record Adds (line : List ℕ) (lines answers : List (List ℕ)) (before svg more : List ℕ) : Type 0 where
  pub transmitted : List ℕ
  pub svg_is : svg ≡ before ++ transmitted
  pub all : AreTransmitted (line ∷ lines) answers (transmitted ++ more)

adds : (line : List ℕ) (lines answers left : List (List ℕ)) (before svg more : List ℕ) → IsStep line answers left before svg → AreTransmitted lines left more
    → Adds line lines answers before svg more
adds line lines _ _ before _ more (Pass passed) following =
    record { transmitted = []; svg_is = sym (append-nil before); all = (following.0, Passed passed following.1, following.2) }
adds line lines _ _ before svg more (Show visible) following =
    record { transmitted = row_text visible.0; svg_is = visible.2; all = (visible.0 ∷ following.0, Transmitted visible.1 following.1, ap (λ (m : List ℕ). row_text visible.0 ++ m) following.2) }

pub transmitted_on : (text line : List ℕ) (rest answers left : List (List ℕ)) (whole : List ℕ → Type 0) (before svg more : List ℕ)
    → lines_of text ≡ line ∷ rest → IsStep line answers left before svg
    → ((more : List ℕ) → AreTransmitted (lines_of text) answers more → whole (before ++ more))
    → AreTransmitted rest left more → whole (svg ++ more)
transmitted_on text line rest answers left whole before svg more cut step held following =
    let a = adds line rest answers left before svg more step following in
    let P : List (List ℕ) → Type 0 = λ ls. AreTransmitted ls answers (a.transmitted ++ more) in
    let at = held (a.transmitted ++ more) (subst P (sym cut) a.all) in
    let same : before ++ (a.transmitted ++ more) ≡ svg ++ more = sym (append_assoc before a.transmitted more) ∙ ap (λ (s : List ℕ). s ++ more) (sym a.svg_is) in
    subst whole same at

-- The row of an event line with these words.
pub is_row : (line answer text : List ℕ) (words : List (List ℕ)) (reported : List (Bor (List ℕ))) (kind : Kind) (event : Event) (row : Row)
    → AreWords line words → Begins words kind → kind ≢ Setup → AreWords answer (map (λ x. x.now) reported) → IsMarked text event row
    → text ≡ line → event.answer.now ≡ answer → event.kind ≡ kind → event.reported.now ≡ reported → IsRowOf line answer row
is_row line answer text words reported kind event row parted begins other answered marked one two three four =
    record {
      words = words;
      reported = map (λ x. x.now) reported;
      kind = kind;
      lost = marked.lost;
      line_words = parted;
      answer_words = answered;
      begins = begins;
      event = other;
      line_is = marked.line_is ∙ one;
      answer_is = marked.answer_is ∙ two;
      arrows_are = marked.arrows_are
          ∙ ap (λ (k : Kind). arrows_of k (carries (map (λ x. x.now) event.reported.now)) marked.lost) three
          ∙ ap (λ (t : List (Bor (List ℕ))). arrows_of kind (carries (map (λ x. x.now) t)) marked.lost) four;
    }

-- A line that is not an event line.
pub passes_blank : (line svg : List ℕ) (answers : List (List ℕ)) → says_nothing line ≡ true → IsStep line answers answers svg svg
passes_blank line svg answers is = Pass (inl is)

pub passes_setup : (line svg : List ℕ) (words answers : List (List ℕ)) (kind : Kind) → AreWords line words → Begins words kind → kind ≡ Setup → IsStep line answers answers svg svg
passes_setup line svg words answers kind parted begins is = Pass (inr (words, parted, subst (Begins words) is begins))

-- A line that is an event line.
pub shows : (line answer before svg : List ℕ) (left : Option (Bor (List ℕ))) (text : Bor (List ℕ)) (after : Option (Bor (List ℕ)))
    → left ≡ Some text → lines_of text.now ≡ answer ∷ lines_after (option_copied after) → IsListed line answer before svg
    → IsStep line (lines_after (option_copied left)) (lines_after (option_copied after)) before svg
shows line answer before svg left text after some cut visible =
    let P : List (List ℕ) → Type 0 = λ ls. IsStep line ls (lines_after (option_copied after)) before svg in
    let at : lines_after (option_copied left) ≡ answer ∷ lines_after (option_copied after)
    = ap (λ (l : Option (Bor (List ℕ))). lines_after (option_copied l)) some ∙ cut in
    subst P (sym at) (Show visible)

-- Nothing is left to draw.
pub transmitted_all : (text line : List ℕ) (rest answers : List (List ℕ)) (whole : List ℕ → Type 0) (svg : List ℕ)
    → lines_of text ≡ line ∷ rest → line ≡ codes "%" → AreOver answers
    → ((more : List ℕ) → AreTransmitted (lines_of text) answers more → whole (svg ++ more)) → whole svg
transmitted_all text line rest answers whole svg cut is over held =
    subst whole (append-nil svg) (held [] (transmitted_end text line rest answers cut is over))
