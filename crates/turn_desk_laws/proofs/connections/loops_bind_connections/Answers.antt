use Rattle.std.proofs.Common.{◌≡◌, ℕ, List, [], ◌∷◌, refl, sym, subst}
use Rattle.std.specs.declared.net.socket_addr.SocketAddr.{SocketAddr}
use Rattle.turn_desk_event.specs.declared.answer.Answer.{Answer}
use Rattle.turn_desk_event.specs.declared.event.Event.{Event}
use Rattle.turn_desk_world_laws.specs.World.Model.{World}
use Rattle.turn_desk_world_laws.specs.World.Runs.{IsRun}
use Rattle.turn_desk_progress_laws.specs.Linked.{IsOverTcp}
use Rattle.turn_desk_progress_laws.specs.Loops.{MayBegin}
use Rattle.turn_desk_progress_laws.specs.Scripts.{Plan}
use Rattle.turn_desk_laws.specs.ConnectionLoops.{IsConnecting, Position, Target}
use Rattle.turn_desk_laws.specs.ConnectionStages.{IsAtPosition}
use Rattle.turn_desk_laws.proofs.connections.loops_bind_connections.Goals as goal

module _ (c : goal.After-events_of_connections_lead_on) (plan : Plan) (old : World) (may : MayBegin plan old) (tcp : IsOverTcp plan) (target : Target) (address : SocketAddr) (lifetime since : ℕ) where
  pub all : (w new : World) (position last : Position) (pairs : List (Event × Answer)) → IsAtPosition plan old target address lifetime since position w → IsRun w pairs new → IsConnecting plan lifetime since target position pairs last → IsAtPosition plan old target address lifetime since last new
  unfolding IsRun IsConnecting
  all w new position last [] at run is =
      subst (λ (p : Position). IsAtPosition plan old target address lifetime since p new) (sym is) (subst (λ (x : World). IsAtPosition plan old target address lifetime since position x) (sym run) at)
  all w new position last (pair ∷ pairs) at run is =
      all run.0 new is.0 last pairs (c.events_of_connections_lead_on.ensures.events plan old w run.0 target address lifetime since position is.0 pair.0 pair.1 may tcp is.1 at run.1).0 run.2 is.2

pub returns-clause-promised : goal.returns-clause-promised
returns-clause-promised c = λ plan old one new first pairs loop_end request address lifetime reply target position may tcp reports run loop done more is.
    let begins = c.loops_hold.ensures plan old one first loop_end request address lifetime reply target may tcp reports run loop done in
    c.events_of_connections_lead_on.ensures.promised plan old new target address lifetime loop_end.timing.came position (all c plan old may tcp target address lifetime loop_end.timing.came one new _ position pairs begins more is)

pub returns-clause-given : goal.returns-clause-given
returns-clause-given c = λ plan old one w v first pairs loop_end request address lifetime reply target position next event ret may tcp reports run loop done more is leads step.
    let begins = c.loops_hold.ensures plan old one first loop_end request address lifetime reply target may tcp reports run loop done in
    (c.events_of_connections_lead_on.ensures.events plan old w v target address lifetime loop_end.timing.came position next event ret may tcp leads
    (all c plan old may tcp target address lifetime loop_end.timing.came one w _ position pairs begins more is) step).1

pub returns-clause-occurs : goal.returns-clause-occurs
returns-clause-occurs c = λ plan old one new first pairs loop_end request address lifetime reply target position may tcp reports run loop done more is.
    all c plan old may tcp target address lifetime loop_end.timing.came one new _ position pairs (c.loops_hold.ensures plan old one first loop_end request address lifetime reply target may tcp reports run loop done) more is
