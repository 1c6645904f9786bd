-- The events of a run determine its results.
use Rattle.std.specs.Prelude.{◌≡◌, List, [], ◌∷◌, map}
use Rattle.turn_client_proto_api.specs.Sent.{sent_of}
use Rattle.turn_desk_event.specs.declared.answer.Answer.{Answer}
use Rattle.turn_desk_event.specs.declared.answer.Answer.TheVariants as answer
use Rattle.turn_desk_event.specs.declared.event.Event.{Event}

-- Two results have equal contents, wherever their bytes and lists are in memory.
abbrev pub IsSame : Answer → Answer → Type 0
IsSame (answer.Reply one) (answer.Reply other) = one.items ≡ other.items
IsSame (answer.Transmit one) (answer.Transmit other) = sent_of one ≡ sent_of other
IsSame (answer.Relayed one) (answer.Relayed other) = one.items ≡ other.items
IsSame (answer.Permissions one) (answer.Permissions other) = one.items ≡ other.items
IsSame (answer.Channels one) (answer.Channels other) = one.items ≡ other.items
IsSame (answer.Connections one) (answer.Connections other) = one.items ≡ other.items
IsSame one other = one ≡ other

-- The events are equal, and so is the result of each.
abbrev pub AreSame : List (Event × Answer) → List (Event × Answer) → Type 0
AreSame [] [] = Unit {0}
AreSame (one ∷ pairs) (other ∷ others) = (one.0 ≡ other.0) × IsSame one.1 other.1 × AreSame pairs others
AreSame _ _ = ⊥

-- The events are equal, whatever their results.
abbrev pub HaveSameEvents : List (Event × Answer) → List (Event × Answer) → Type 0
HaveSameEvents pairs others = map (λ pair. pair.0) pairs ≡ map (λ pair. pair.0) others
