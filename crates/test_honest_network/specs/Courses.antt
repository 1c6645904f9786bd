-- After the allocation, a client is only polled, and it renews its address over an honest network (RFC 8656,
-- section 8).
use Rattle.std.specs.Prelude.{◌≡◌, ◌⊎◌, ◌≤◌, ℕ, Bool, true, false, List, Vec}
use Rattle.std.specs.declared.alloc.Global.{Global}
use Rattle.std.specs.declared.net.socket_addr.SocketAddr.{SocketAddr}
use Rattle.stun_types_wire.specs.Attributes.{kind_at}
use Rattle.stun_types_wire.specs.declared.class.MessageClass.TheVariants.{Success}
use Rattle.stun_types_wire.specs.Types.{class_of}
use Rattle.stun_types_base.specs.declared.data.Data.{Data}
use Rattle.stun_types_base.specs.declared.transmit.Transmit.{Transmit}
use Rattle.turn_client_proto_api.specs.Sent.{Sent}
use Rattle.turn_desk_progress_laws.specs.Scripts.{Done, IsScript, Plan, Start}
use Rattle.turn_desk_progress_laws.specs.Renewals.{HasRenewed}
use Rattle.turn_desk_progress_laws.specs.Turns.{IsDriven, Turn, Watch, Watching, due, watching}
use Rattle.turn_desk_event.specs.declared.answer.Answer.{Answer}
use Rattle.turn_desk_event.specs.declared.answer.Answer.TheVariants as answer
use Rattle.turn_desk_core.specs.declared.decision.Decision.TheVariants as by
use Rattle.turn_desk_event.specs.declared.event.ClientCall.TheVariants as call
use Rattle.turn_desk_event.specs.declared.event.Event.{Event}
use Rattle.turn_desk_event.specs.declared.event.Event.TheVariants.{Call, Draw, ToClient}
use Rattle.turn_desk_world.specs.Model.{World}
use Rattle.turn_desk_world.specs.Runs.{IsRun}
use Rattle.test_driver.specs.Driving.{Happened}
use Rattle.test_honest_network.specs.Exchanges.{IsAnswered}
use Rattle.test_honest_network.specs.Simulations.{HasSimulated}
use Rattle.test_honest_network.specs.Replies.{IsTaken}
use Rattle.test_honest_network.specs.declared.simulation.Outcome.TheVariants as outcome
use Rattle.test_honest_network.specs.declared.simulation.TheConstants.{LIFETIME, SECOND}
use Rattle.test_honest_network.specs.declared.renewing.Stored.{Stored}
use Rattle.test_honest_network.specs.declared.renewing.Stored.TheVariants.{Unmet, Unrenewed, Renewed}
use Rattle.test_honest_network.specs.declared.renewing.TheConstants.{AGAIN, DUE}

-- The statement holds if the function returned true.
abbrev pub Where : Bool → Type 0 → Type 0
Where true A = A
Where false A = Unit {0}

-- ---- what happens

-- The client was polled, and waits until `due` or later.
pub record IsWait (now due : ℕ) (old new : World) : Type 0 where
  pub time : ℕ
  pub step : Happened (Call call.Poll now) old (answer.Wait time) new
  pub late : due ≤ time

-- The client's events were taken, it had nothing to send, and it waits until `due` or later.
pub record IsRest (now due : ℕ) (old new : World) : Type 0 where
  pub one : World
  pub first : IsTaken now old one
  pub two : World
  pub second : IsTaken now one two
  pub transmitted : World
  pub nothing : Happened (Draw now) two answer.Nothing transmitted
  pub wait : IsWait now due transmitted new

-- A reply was a success response and reached the client.
pub record IsGiven (sent : Transmit Data) (now : ℕ) (reply : Vec ℕ Global) (old new : World) : Type 0 where
  pub success : class_of (kind_at reply.items) ≡ Success
  pub ret : Answer
  pub step : Happened (ToClient reply sent.to sent.from now) old ret new

-- The client's message reached the server core, which granted it by its decision, and the success response
-- reached the client.
pub record IsGranted (sent : Transmit Data) (now : ℕ) (old new : World) : Type 0 where
  pub answered : IsAnswered sent now (by.Refresh LIFETIME) old new
  pub success : class_of (kind_at answered.reply.items) ≡ Success

pub record IsRefreshed (now : ℕ) (old new : World) : Type 0 where
  pub sent : Transmit Data
  pub transmitted : World
  pub step : Happened (Draw now) old (answer.Transmit sent) transmitted
  pub granted : IsGranted sent now transmitted new

-- The client's addresses were listed.
abbrev pub IsListed : (now : ℕ) → (old new : World) → Type 0
IsListed now old new = (ret : Answer) × Happened (Call call.RelayedAddresses now) old ret new

pub record IsStill (now : ℕ) (old new : World) : Type 0 where
  pub polled : World
  pub wait : IsWait now now old polled
  pub visible : IsListed now polled new

-- The whole run after the handshake, in order:
--
-- 1. the client waits until one minute before the expiry;
-- 2. its REFRESH is granted then;
-- 3. it is polled one minute before the new expiry, and its addresses are listed.
pub record IsCourse (old new : World) : Type 0 where
  pub rested : World
  pub rest : IsRest SECOND DUE old rested
  pub renewed : World
  pub refreshed : IsRefreshed DUE rested renewed
  pub still : IsStill AGAIN renewed new

abbrev pub HasGoneBy : World → Stored → World → Type 0
HasGoneBy old Unmet new = ⊥
HasGoneBy old Unrenewed new = Unit {0}
HasGoneBy old Renewed new = IsCourse old new

-- ---- in the words of the theorem on a client that is left alone

-- A run whose events and answers lead from one turn to another.
pub record IsLed (plan : Plan) (old : World) (from : Turn) (new : World) (to : Turn) : Type 0 where
  pub pairs : List (Event × Answer)
  pub run : IsRun old pairs new
  pub driven : IsDriven plan from pairs to

-- After an honest handshake the run led the client to this turn, so the conclusion of the theorem on renewals
-- holds for the turn (`promised`).
pub record IsDrivenTo (plan : Plan) (address : SocketAddr) (old : World) (to : Turn) (new : World) : Type 0 where
  pub first : List (Event × Answer)
  pub one : World
  pub request : Sent
  pub reply : List ℕ
  pub run : IsRun old first one
  pub script : IsScript plan Start first (Done request address LIFETIME reply)
  pub led : IsLed plan one (watching plan.second LIFETIME plan.second) new to
  pub promised : HasRenewed plan old address to new

-- The allocation was renewed one minute before its first expiry, and the client was polled one minute before
-- the new one.
pub record IsAnew (plan : Plan) (s : Watch) : Type 0 where
  pub from : s.from ≡ due plan.second LIFETIME
  pub lifetime : s.lifetime ≡ LIFETIME
  pub until : due s.from s.lifetime ≤ s.until

-- The outcome for the address. If it was not renewed, nothing is said about the events after the handshake.
abbrev pub HasStored : Plan → SocketAddr → World → Stored → World → Type 0
HasStored plan address old Unmet new =
    HasSimulated plan address old outcome.Silent new ⊎ HasSimulated plan address old outcome.CannotAgree new
HasStored plan address old Unrenewed new = IsDrivenTo plan address old (watching plan.second LIFETIME plan.second) new
HasStored plan address old Renewed new = (s : Watch) × IsAnew plan s × IsDrivenTo plan address old (Watching s) new
