-- The lines of the input.
use Rattle.std.specs.Prelude.{ℕ, ◌≡◌, ◌⊎◌, List, [], ◌∷◌, codes, true, Some}
use Rattle.line_io.specs.Cut.{says_nothing}
use Rattle.line_io.specs.LowerHex.{word_bytes}
use Rattle.line_io.specs.LineWords.{AreWords}
use Rattle.stun_inspect.specs.declared.line.Line.{Line}
use Rattle.stun_inspect.specs.declared.line.Line.TheVariants.{User, Password, Message, Raw, Frame, Stream}

-- There is one word, and it spells the bytes.
abbrev pub SpellBytes : List (List ℕ) → List ℕ → Type 0
SpellBytes [] bytes = ⊥
SpellBytes (word ∷ []) bytes = word_bytes word ≡ Some bytes
SpellBytes (word ∷ more ∷ rest) bytes = ⊥

-- The name and the words after it spell the line.
abbrev pub IsNamed : List ℕ → List (List ℕ) → Line → Type 0
IsNamed name rest (User n r p) = (name ≡ codes "user") × (rest ≡ n.now ∷ r.now ∷ p.now ∷ [])
IsNamed name rest (Password p) = (name ≡ codes "password") × (rest ≡ p.now ∷ [])
IsNamed name rest (Message bytes) = (name ≡ codes "message") × SpellBytes rest bytes.items
IsNamed name rest (Raw bytes) = (name ≡ codes "raw") × SpellBytes rest bytes.items
IsNamed name rest (Frame bytes) = (name ≡ codes "frame") × SpellBytes rest bytes.items
IsNamed name rest (Stream bytes) = (name ≡ codes "stream") × SpellBytes rest bytes.items

-- The words spell the line.
abbrev pub IsLineOf : List (List ℕ) → Line → Type 0
IsLineOf [] line = ⊥
IsLineOf (name ∷ rest) line = IsNamed name rest line

-- The words of the text spell the line.
pub record IsLine (text : List ℕ) (line : Line) : Type 0 where
  pub words : List (List ℕ)
  pub parted : AreWords text words
  pub spelled : IsLineOf words line

-- The line is blank or a comment, or it can be read.
abbrev pub IsReadable : List ℕ → Type 0
IsReadable text = (says_nothing text ≡ true) ⊎ ((line : Line) × IsLine text line)
