-- A run in which messages of other addresses reach the server core, beside those of a client (RFC 8656, section 5).
use Rattle.std.specs.Prelude.{◌≡◌, ◌⊎◌, List, [], ◌∷◌}
use Rattle.std.specs.declared.net.socket_addr.SocketAddr.{SocketAddr}
use Rattle.turn_desk_core.specs.DeskCalls.{AreAlike, grants_to}
use Rattle.turn_desk_core.specs.State.{State}
use Rattle.turn_client_proto_messages.specs.TurnRuns.Members.{IsIn}
use Rattle.turn_desk_event.specs.declared.answer.Answer.{Answer}
use Rattle.turn_desk_event.specs.declared.event.Event.{Event}
use Rattle.turn_desk_event.specs.declared.event.Event.TheVariants.{ToDesk}
use Rattle.turn_desk_world_laws.specs.World.Model.{World}
use Rattle.turn_desk_world_laws.specs.World.Runs.{IsRun}

-- A message reaches the server core, from none of the addresses `own`.
abbrev pub IsOfOther : (own : List SocketAddr) → Event → Type 0
IsOfOther own (ToDesk bytes from now decision seed) = IsIn from own → ⊥
IsOfOther own _ = ⊥

-- Any other event: one at the client, or a message reaches the server core from one of these addresses.
abbrev pub IsOfOwn : (own : List SocketAddr) → Event → Type 0
IsOfOwn own (ToDesk bytes from now decision seed) = IsIn from own
IsOfOwn own _ = Unit {0}

-- The events and results of the first list, in their order, with messages of other addresses put in anywhere.
unfoldable pub AreBeside : (own : List SocketAddr) (without pairs : List (Event × Answer)) → Type 0
AreBeside own without [] = without ≡ []
AreBeside own without (pair ∷ pairs) = (IsOfOther own pair.0 × AreBeside own without pairs)
    ⊎ ((left : List (Event × Answer)) × (without ≡ pair ∷ left) × IsOfOwn own pair.0 × AreBeside own left pairs)

-- The events and results are a run from `old`, which leaves the client as it is in `new`. None of the addresses can
-- distinguish the server core that it leaves from that of `new`: it has the same realm, users and settings, stores
-- the same for the address, and has granted it the same, in the same order.
pub record IsRunWithout (own : List SocketAddr) (old : World) (without : List (Event × Answer)) (new : World)
    : Type 0 where
  pub left : State
  pub run : IsRun old without (record new { desk = left })
  pub alike : (address : SocketAddr) → IsIn address own → AreAlike address new.desk left

-- The simulation, of whose grants only those to the address are kept.
abbrev pub seen_from : SocketAddr → World → World
seen_from address w = record w { desk = record w.desk { grants = grants_to address w.desk.grants } }
