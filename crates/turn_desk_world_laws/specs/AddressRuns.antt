-- The part of a simulation's run that concerns one address at the server core (RFC 8489, section 9.2; RFC
-- 8656, section 5).
use Rattle.std.specs.Prelude.{◌≡◌, Bool, false, List, [], ◌∷◌, filter}
use Rattle.std.specs.declared.net.socket_addr.SocketAddr.{SocketAddr}
use Rattle.turn_desk_core.specs.StunProtoServer.AuthRuns.{is_same_address}
use Rattle.turn_desk_core.specs.StunProtoServer.Server.{makes_room}
use Rattle.turn_desk_core.specs.DeskCalls.{AreAlike}
use Rattle.turn_desk_core.specs.State.{State}
use Rattle.turn_desk_event.specs.declared.answer.Answer.{Answer}
use Rattle.turn_desk_event.specs.declared.event.Event.{Event}
use Rattle.turn_desk_event.specs.declared.event.Event.TheVariants.{Call, Draw, ToClient, ToDesk}
use Rattle.turn_desk_world.specs.Determined.{AreSame}
use Rattle.turn_desk_world.specs.Model.{World}
use Rattle.turn_desk_world.specs.Runs.{IsRun}

-- Whether bytes from the address reach the server core in this event.
abbrev pub is_from : SocketAddr → Event × Answer → Bool
is_from address pair = comes pair.0
  where
    comes : Event → Bool
    comes (Call call now) = false
    comes (Draw now) = false
    comes (ToClient bytes from to now) = false
    comes (ToDesk bytes from now decision seed) = is_same_address address from

-- The events by which bytes from the address reach the server core, in order, each with its result.
abbrev pub come_from : SocketAddr → List (Event × Answer) → List (Event × Answer)
come_from address pairs = filter (is_from address) pairs

-- In an event, no nonce is generated for which room has to be made.
abbrev pub EventMakesNoRoom : World → Event → Type 0
EventMakesNoRoom old (ToDesk bytes from now decision seed) = makes_room old.desk.auth from ≡ false
EventMakesNoRoom old _ = Unit {0}

-- In a run, no bytes from other addresses make room.
unfoldable pub MakeNoRoom : SocketAddr → (old : World) (pairs : List (Event × Answer)) (new : World)
    → IsRun old pairs new → Type 0
unfolding IsRun
MakeNoRoom address old [] new run = Unit {0}
MakeNoRoom address old (pair ∷ pairs) new run =
    (is_from address pair ≡ false → EventMakesNoRoom old pair.0) × MakeNoRoom address run.0 pairs new run.2

-- The events by which bytes from the address reach the server core, alone, have the same results in the
-- simulation `old`, and don't change its client. The address can't distinguish the server core that they
-- leave from the one that all events left: what is stored for it is the same, and so is all that was granted
-- to it.
pub record IsIsolated (address : SocketAddr) (old : World) (pairs : List (Event × Answer)) (new : World)
    : Type 0 where
  pub left : State
  pub run : IsRun old (come_from address pairs) (record old { desk = left })
  pub alike : AreAlike address new.desk left

-- The two runs gave the address the same results, and it can't distinguish the server cores that they left.
pub record AreAnsweredAlike (address : SocketAddr) (pairs others : List (Event × Answer)) (new left : World)
    : Type 0 where
  pub answers : AreSame (come_from address pairs) (come_from address others)
  pub alike : AreAlike address new.desk left.desk
