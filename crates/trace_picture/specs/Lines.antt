-- The lines of a trace, and the arrows that are drawn for them.
use Rattle.std.specs.Prelude.{ℕ, ◌≡◌, ◌≢◌, ◌⊎◌, ◌||◌, Bool, true, false, List, [], ◌∷◌, map, codes, string_bytes, bytes_eq, if◌then◌else◌}
use Rattle.line_io.specs.Cut.{says_nothing}
use Rattle.line_io.specs.LineWords.{AreWords}
use Rattle.trace_picture.specs.declared.kind.Kind.{Kind}
use Rattle.trace_picture.specs.declared.kind.Kind.TheVariants.{Setup, ToDesk, ToClient, Drawing, Sending, Looking, Calling}
use Rattle.trace_picture.specs.declared.row.Arrow.{Arrow}
use Rattle.trace_picture.specs.declared.row.Arrow.TheVariants.{Called, Sent, SentLost, Processed, Reached, Replied, ReplyLost}
use Rattle.trace_picture.specs.declared.row.Row.{Row}
use Rattle.trace_picture.specs.declared.event.Event.{Event}

-- The kind of a line, by its first word.
abbrev pub IsKind : List ℕ → Kind → Type 0
IsKind word Setup = (word ≡ codes "desk") ⊎ (word ≡ codes "user") ⊎ (word ≡ codes "rto") ⊎ (word ≡ codes "client")
IsKind word ToDesk = word ≡ codes "todesk"
IsKind word ToClient = word ≡ codes "toclient"
IsKind word Drawing = word ≡ codes "draw"
IsKind word Sending = word ≡ codes "send"
IsKind word Looking = (word ≡ codes "cause") ⊎ (word ≡ codes "mapped") ⊎ (word ≡ codes "alternate")
IsKind word Calling = (word ≡ codes "recv") ⊎ (word ≡ codes "poll") ⊎ (word ≡ codes "event") ⊎ (word ≡ codes "delete")
    ⊎ (word ≡ codes "permission") ⊎ (word ≡ codes "permit") ⊎ (word ≡ codes "have") ⊎ (word ≡ codes "permissions")
    ⊎ (word ≡ codes "bind") ⊎ (word ≡ codes "channels") ⊎ (word ≡ codes "connect") ⊎ (word ≡ codes "socket")
    ⊎ (word ≡ codes "closed") ⊎ (word ≡ codes "connections") ⊎ (word ≡ codes "error") ⊎ (word ≡ codes "relayed")

-- Whether a result with these words has bytes that enter the network.
abbrev pub carries : List (List ℕ) → Bool
carries [] = false
carries (word ∷ rest) = bytes_eq word (codes "transmit") || bytes_eq word (codes "reply")

-- The arrows of a line. A message that `draw` transmits may be lost, and so may a reply of the server core.
-- What `send` transmits goes to the server, and is never drawn as lost.
abbrev pub arrows_of : Kind → (carries lost : Bool) → List Arrow
arrows_of Setup carries lost = []
arrows_of ToDesk carries lost =
    Reached ∷ (if carries then (if lost then ReplyLost else Replied) ∷ [] else [])
arrows_of ToClient carries lost = Processed ∷ []
arrows_of Drawing carries lost = (if carries then if lost then SentLost else Sent else Called) ∷ []
arrows_of Sending carries lost = (if carries then Sent else Called) ∷ []
arrows_of Looking carries lost = Called ∷ []
arrows_of Calling carries lost = Called ∷ []

-- The kind of a line with these words, by the first of them.
abbrev pub Begins : List (List ℕ) → Kind → Type 0
Begins [] kind = ⊥
Begins (word ∷ rest) kind = IsKind word kind

-- A line that is not an event line: it is blank, a comment, or a setup line.
abbrev pub IsPassed : List ℕ → Type 0
IsPassed line = (says_nothing line ≡ true) ⊎ ((words : List (List ℕ)) × AreWords line words × Begins words Setup)

-- The row of an event line with this result.
pub record IsRowOf (line answer : List ℕ) (row : Row) : Type 0 where
  pub words : List (List ℕ)
  pub reported : List (List ℕ)
  pub kind : Kind
  pub lost : Bool
  pub line_words : AreWords line words
  pub answer_words : AreWords answer reported
  pub begins : Begins words kind
  pub event : kind ≢ Setup
  pub line_is : string_bytes row.line ≡ line
  pub answer_is : string_bytes row.answer ≡ answer
  pub arrows_are : map (λ m. m.arrow) row.marks.items ≡ arrows_of kind (carries reported) lost

-- What the contract of `row` says of the row of an event line: the line, its result, and its arrows.
pub record IsMarked (line : List ℕ) (event : Event) (row : Row) : Type 0 where
  pub lost : Bool
  pub line_is : string_bytes row.line ≡ line
  pub answer_is : string_bytes row.answer ≡ event.answer.now
  pub arrows_are : map (λ m. m.arrow) row.marks.items ≡ arrows_of event.kind (carries (map (λ x. x.now) event.reported.now)) lost
