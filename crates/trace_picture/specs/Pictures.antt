-- The picture of a trace and its results.
use Rattle.std.specs.Prelude.{ℕ, ◌≡◌, ◌≢◌, List, [], ◌∷◌, ◌++◌, codes}
use Rattle.std.specs.List.{AllByRecursion, flat_map}
use Rattle.line_io.specs.Cut.{lines_of}
use Rattle.trace_picture.specs.Transmitted.{label_text, row_text}
use Rattle.trace_picture.specs.Lines.{IsPassed, IsRowOf}
use Rattle.trace_picture.specs.declared.row.Label.{Label}
use Rattle.trace_picture.specs.declared.row.Row.{Row}

-- The lines consist of a trace, a line `%`, and the lines `following` after it.
pub data Parted : (lines following : List (List ℕ)) → Type 0 where
  Here : {following : List (List ℕ)} → Parted (codes "%" ∷ following) following
  There : {line : List ℕ} {lines following : List (List ℕ)} → line ≢ codes "%" → Parted lines following → Parted (line ∷ lines) following

-- No result is left: there is nothing after the last line feed.
abbrev pub AreOver : List (List ℕ) → Type 0
AreOver lines = AllByRecursion (λ line. line ≡ []) lines

-- The rows of the event lines before the line `%`, in order, each with its result. There are no other
-- results.
pub data AreRows : (lines answers : List (List ℕ)) → List Row → Type 0 where
  End : {following answers : List (List ℕ)} → AreOver answers → AreRows (codes "%" ∷ following) answers []
  Passed : {line : List ℕ} {lines answers : List (List ℕ)} {rows : List Row} → IsPassed line
      → AreRows lines answers rows → AreRows (line ∷ lines) answers rows
  Transmitted : {line answer : List ℕ} {lines answers : List (List ℕ)} {row : Row} {rows : List Row} → IsRowOf line answer row
      → AreRows lines answers rows → AreRows (line ∷ lines) (answer ∷ answers) (row ∷ rows)

-- The SVG of these rows.
abbrev pub AreTransmitted : (lines answers : List (List ℕ)) → List ℕ → Type 0
AreTransmitted lines answers svg = (rows : List Row) × AreRows lines answers rows × (svg ≡ flat_map row_text rows)

-- The SVG of one event line is appended to the SVG before it.
abbrev pub IsListed : (line answer : List ℕ) → (before svg : List ℕ) → Type 0
IsListed line answer before svg = (row : Row) × IsRowOf line answer row × (svg ≡ before ++ row_text row)

-- The effect of one line: the SVG that is appended for it, and the results that are left after it.
pub data IsStep (line : List ℕ) : (answers left : List (List ℕ)) → (before svg : List ℕ) → Type 0 where
  Pass : {answers : List (List ℕ)} {before : List ℕ} → IsPassed line → IsStep line answers answers before before
  Show : {answer : List ℕ} {left : List (List ℕ)} {before svg : List ℕ} → IsListed line answer before svg
      → IsStep line (answer ∷ left) left before svg

-- The picture of an input: its beginning, the heads of its two lifelines, and the rows.
pub record IsPicture (input svg : List ℕ) : Type 0 where
  pub answers : List (List ℕ)
  pub head : List ℕ
  pub heads : List Label
  pub rows : List ℕ
  pub parted : Parted (lines_of input) answers
  pub transmitted : AreTransmitted (lines_of input) answers rows
  pub svg_is : svg ≡ head ++ flat_map label_text heads ++ rows ++ codes "</svg>\n"
