-- What ends with the socket of a connection to a peer (RFC 6062, section 4.6). After the close of the socket
-- with a local address, a client has a bound connection with that address in its lists, lists it, and
-- delivers bytes of its peer, only if the connection was bound since.
use Rattle.std.specs.Prelude.{◌≡◌, ℕ, List, [], ◌∷◌, ◌++◌, Some}
use Rattle.std.specs.declared.net.socket_addr.SocketAddr.{SocketAddr}
use Rattle.stun_types_base.specs.declared.transport.TransportType.TheVariants.{Tcp}
use Rattle.turn_client_proto_step_laws.specs.ClientWords.{IsStored, client_words}
use Rattle.turn_client_proto_step_laws.specs.Recv.ClientState.{ClientState}
use Rattle.turn_desk_step_laws.specs.TurnRuns.Members.{IsIn}
use Rattle.turn_desk_step_laws.specs.TurnRuns.Messages.{Connection, FromConnection}
use Rattle.turn_client_proto_step_laws.specs.RunClient.{Client}
use Rattle.turn_desk_step_laws.specs.TurnRuns.Runs.{AtClient, AtDesk, AtEach, AtSome, Step}
use Rattle.turn_desk_step_laws.specs.TurnRuns.Steps.{Call, ClientStep, Reported}
use Rattle.turn_desk_event.specs.declared.answer.Answer.{Answer}
use Rattle.turn_desk_event.specs.declared.answer.Answer.TheVariants as answer
use Rattle.turn_desk_event.specs.declared.event.ClientCall.TheVariants as call
use Rattle.turn_desk_event.specs.declared.event.Event.{Event}
use Rattle.turn_desk_event.specs.declared.event.Event.TheVariants as event
use Rattle.turn_desk_step_laws.specs.DeskRun.{DeskCall}
use Rattle.turn_desk_world.specs.Model.{World}
use Rattle.turn_desk_world_laws.specs.Reported.{IsReportedBy}

-- ---- connections of an own address

-- The client of the simulation has no bound connection with this local address in its lists.
abbrev pub HasNoneOver : (here : SocketAddr) → World → Type 0
HasNoneOver here w = (k : ClientState) → w.client ≡ Some k → (peer : SocketAddr) (transaction_id : ℕ)
    → IsStored k.core.allocations (Connection here peer transaction_id) → ⊥

-- A connection was bound in this step: it is among what the step gains. Each thing gained is brought by a
-- response that the step handled.
abbrev pub IsBoundIn : (here peer : SocketAddr) → (transaction_id : ℕ) → Step Client DeskCall → Type 0
IsBoundIn here peer transaction_id (AtClient call) = (step : ClientStep client_words call) × (t : Reported) × IsIn t step.gained
    × (t.held ≡ Connection here peer transaction_id)
IsBoundIn here peer transaction_id (AtDesk d) = ⊥

-- The connection was bound in one of these steps.
abbrev pub WasBound : (here peer : SocketAddr) → (transaction_id : ℕ) → List (Step Client DeskCall) → Type 0
WasBound here peer transaction_id steps = AtSome (λ s _. IsBoundIn here peer transaction_id s) steps

-- The call is the newest of the steps `since`. Each bound connection with this local address that the client
-- has in its lists afterwards, or that the call lists, was bound in these steps. If the call delivers bytes
-- of a peer that came to this address, a connection to that peer was bound in them.
pub record IsBoundSince (here : SocketAddr) (call : Call Client) (since : List (Step Client DeskCall)) : Type 0 where
  pub stored : (peer : SocketAddr) (transaction_id : ℕ) → client_words.IsStored call.after (Connection here peer transaction_id)
      → WasBound here peer transaction_id since
  pub visible : (peer : SocketAddr) (transaction_id : ℕ) → IsIn (Connection here peer transaction_id) call.visible
      → WasBound here peer transaction_id since
  pub given : (peer : SocketAddr) (bytes : List ℕ) → IsIn (FromConnection here peer bytes) call.payloads
      → (transaction_id : ℕ) × WasBound here peer transaction_id since

-- The same for a step of a run, after the steps `earlier`.
abbrev pub BoundSince : (here : SocketAddr) → Step Client DeskCall → List (Step Client DeskCall) → Type 0
BoundSince here (AtClient call) earlier = IsBoundSince here call (AtClient call ∷ earlier)
BoundSince here (AtDesk d) earlier = Unit {0}

-- ---- a run in two parts

-- The steps of a run are those of some events, and then those of the events after them, with the state
-- between.
pub record IsParted (old : World) (before after : List (Event × Answer)) (run : List (Step Client DeskCall))
    (new : World) : Type 0 where
  pub between : World
  pub earlier : List (Step Client DeskCall)
  pub later : List (Step Client DeskCall)
  pub run_is : run ≡ later ++ earlier
  pub reported_before : IsReportedBy old before earlier between
  pub reported_after : IsReportedBy between after later new

-- The caller reported that a socket was closed, and the result is `Done`.
abbrev pub closing : (here there : SocketAddr) → (now : ℕ) → Event × Answer
closing here there now = (event.Call (call.TcpClosed here there) now, answer.Done)

-- The simulation has a client over TCP, with this server.
abbrev pub IsServedBy : (there : SocketAddr) → World → Type 0
IsServedBy there w = (k : ClientState) × (w.client ≡ Some k) × (k.core.agent.transport ≡ Tcp) × (k.core.server ≡ there)

-- ---- what ends

-- What holds of an account of some events, wherever the events are divided into those before and those after:
--
-- - `parted`: The account can be divided in the same way.
-- - `since`: If the client has no bound connection with a local address in between, each connection with that
--   address that it has, lists or delivers bytes of later was bound later.
-- - `closed`: If the last event before was the close of the socket between that local address and the
--   client's server, the client has no bound connection with that address.
pub record EndWithSockets (old : World) (pairs : List (Event × Answer)) (run : List (Step Client DeskCall))
    (new : World) : Type 0 where
  pub parted : (before after : List (Event × Answer)) → pairs ≡ before ++ after → IsParted old before after run new
  pub since : (before after : List (Event × Answer)) (p : IsParted old before after run new) (here : SocketAddr)
      → HasNoneOver here p.between → AtEach (BoundSince here) p.later
  pub closed : (before after : List (Event × Answer)) (here there : SocketAddr) (now : ℕ)
      (p : IsParted old (before ++ closing here there now ∷ []) after run new)
      → IsServedBy there p.between → HasNoneOver here p.between
