-- Ends of a connection to a peer besides the close of its socket (RFC 6062, sections 4.3 to 4.6): its stream
-- ends, it isn't bound, or its allocation is over or is deleted.
use Rattle.std.specs.Prelude.{◌≡◌, ◌≢◌, ◌⊎◌, ◌≤◌, ◌<◌, ◌++◌, ℕ, true, false, List, [], ◌∷◌, None, Some}
use Rattle.std.specs.FinMap as map
use Rattle.std.specs.declared.net.socket_addr.SocketAddr.{SocketAddr}
use Rattle.turn_desk_core.specs.StunTypesBase.declared.transport.TransportType.TheVariants.{Tcp}
use Rattle.turn_desk_core.specs.StunTypesWire.Attributes.{kind_at}
use Rattle.turn_desk_core.specs.StunTypesWire.Grammar.{number_at, refusal}
use Rattle.turn_desk_core.specs.StunTypesWire.Registry.{allocation_mismatch_code}
use Rattle.turn_desk_core.specs.StunTypesWire.Types.{class_of, method_of}
use Rattle.turn_desk_core.specs.StunTypesWire.declared.class.MessageClass.TheVariants.{Error, Success}
use Rattle.turn_desk_core.specs.TurnTypesAttributes.TurnRegistry.{connection_bind_method, refresh_method}
use Rattle.turn_client_proto_messages.specs.Reported.{first_code}
use Rattle.turn_client_proto_messages.specs.StunProtoClient.Challenges.{challenge_visible}
use Rattle.turn_client_proto_messages.specs.StunProtoClient.Client.{Standing, standing_key, standing_of}
use Rattle.turn_client_proto_messages.specs.StunProtoClient.Digests.{IsRight}
use Rattle.turn_client_proto_api.specs.StunProtoAgent.Handling.{is_response}
use Rattle.turn_client_proto_messages.specs.Allocation.Refreshing.{lifetime_requested}
use Rattle.turn_client_proto_api.specs.declared.event.TurnEvent.{TurnEvent}
use Rattle.turn_client_proto_api.specs.declared.event.TurnEvent.TheVariants.{TcpConnectFailed}
use Rattle.turn_client_proto_core.specs.declared.protocol.Phase.TheVariants.{Authenticated}
use Rattle.turn_client_proto_step_laws.specs.Connection.Streams.{from}
use Rattle.turn_client_proto_step_laws.specs.Held.{Allocation, Binding, Connection}
use Rattle.turn_client_proto_step_laws.specs.Recv.ClientState.{ClientState}
use Rattle.turn_client_proto_step_laws.specs.Recv.Control.{Open}
use Rattle.turn_client_proto_step_laws.specs.Recv.Receipts.{has_failed}
use Rattle.turn_client_proto_step_laws.specs.RunClient.{Client}
use Rattle.turn_client_proto_messages.specs.TurnRuns.Members.{IsIn}
use Rattle.turn_desk_event.specs.StunProtoTransaction.Agents.{Transaction}
use Rattle.turn_desk_event.specs.TurnTypesFrame.Streams.{alive}
use Rattle.turn_desk_event.specs.declared.answer.Answer.{Answer}
use Rattle.turn_desk_event.specs.declared.answer.Answer.TheVariants as answer
use Rattle.turn_desk_event.specs.declared.event.Event.{Event}
use Rattle.turn_desk_step_laws.specs.DeskRun.{DeskCall}
use Rattle.turn_desk_step_laws.specs.TurnRuns.Runs.{Step}
use Rattle.turn_desk_world_laws.specs.Ends.{EndWithSockets, IsParted}
use Rattle.turn_desk_world_laws.specs.Reported.{is_over_tcp}
use Rattle.turn_desk_world.specs.Model.{World}
use Rattle.turn_desk_world.specs.Runs.{IsRun, IsStep}

-- None of the allocations has a connection with this local address, bound or not.
abbrev pub AreNoneAt : (here : SocketAddr) → List Allocation → Type 0
AreNoneAt here allocations =
    (a : Allocation) → IsIn a allocations → (c : Connection) → IsIn c a.connections → c.here ≢ here

-- The client of the simulation has no such connection: none is bound, and none waits to be bound.
abbrev pub HasNoneAt : (here : SocketAddr) → World → Type 0
HasNoneAt here w = (k : ClientState) → w.client ≡ Some k → AreNoneAt here k.core.allocations

-- The simulation has a client over TCP, with this server, and the local address isn't that of its own
-- connection to the server.
pub record MayConnect (here there : SocketAddr) (w : World) : Type 0 where
  pub client : ClientState
  pub client_is : w.client ≡ Some client
  pub streams : is_over_tcp client.control ≡ true
  pub transport : client.core.agent.transport ≡ Tcp
  pub server : client.core.server ≡ there
  pub apart : client.core.agent.here ≢ here

-- A run of which `EndWithSockets` holds, divided right after one of its events. The events before it lead
-- to `begins`, and from there it leads to where the second part begins.
pub record IsDividedAfter (event : Event) (answer : Answer) (old : World)
    (before after : List (Event × Answer)) (run : List (Step Client DeskCall)) (new : World) : Type 0 where
  pub promised : EndWithSockets old (before ++ (event, answer) ∷ after) run new
  pub parted : IsParted old (before ++ (event, answer) ∷ []) after run new
  pub begins : World
  pub reached : IsRun old before begins
  pub step : IsStep event begins answer parted.between

-- ---- by the time

-- The time of an allocation's connection is over at `now`: that of its allocation is, whose deletion wasn't
-- requested before (RFC 8656, section 8); or the connection isn't bound, and the time for that has passed,
-- 39.5 s since its CONNECTION_BIND was queued (RFC 6062, section 4.3).
pub data IsOver (now : ℕ) (a : Allocation) (c : Connection) : Type 0 where
  WithAllocation : a.expiry ≤ now → a.is_expired ≡ false → IsOver now a c
  Unbound : (b : Binding) → c.awaited ≡ Some b → b.expiry < now → IsOver now a c

-- The client has allocated and hasn't ended, and the time of each connection with this local address is over.
pub record AreOverAt (here : SocketAddr) (now : ℕ) (w : World) : Type 0 where
  pub client : ClientState
  pub client_is : w.client ≡ Some client
  pub phase : client.core.phase ≡ Authenticated
  pub over : (a : Allocation) → IsIn a client.core.allocations → (c : Connection) → IsIn c a.connections
      → c.here ≡ here → IsOver now a c

-- A poll at `now` has done all that was due: it returns neither a wait until `now` nor a socket to open.
abbrev pub HasWorked : (now : ℕ) → Answer → Type 0
HasWorked now (answer.Wait time) = time ≢ now
HasWorked now (answer.Close local remote) = Unit {0}
HasWorked now answer.Closed = Unit {0}
HasWorked now _ = ⊥

-- ---- by a response

-- The client has allocated and hasn't ended. Its connection with this local address waits for the response to
-- its CONNECTION_BIND with this transaction ID, of which the bytes `head` have come.
pub record IsBinding (here there : SocketAddr) (transaction_id : ℕ) (head : List ℕ) (w : World)
    : Type 0 where
  pub may : MayConnect here there w
  pub phase : may.client.core.phase ≡ Authenticated
  pub connection : Connection
  pub first : from here may.client.core.allocations ≡ Some connection
  pub binding : Binding
  pub awaited : connection.awaited ≡ Some binding
  pub number : binding.number ≡ transaction_id
  pub buffered : connection.stream ≡ alive head

-- Why a CONNECTION_BIND message doesn't bind the connection: it is no response; or it responds to another
-- request; or it is an error response, other than a challenge with realm and nonce (RFC 8489, section 9.2.5).
pub data IsUnbinding (transaction_id : ℕ) (message : List ℕ) : Type 0 where
  NoResponse : is_response message ≡ false → IsUnbinding transaction_id message
  OfOther : number_at message ≢ transaction_id → IsUnbinding transaction_id message
  Rejects : class_of (kind_at message) ≡ Error → challenge_visible message ≡ None
      → IsUnbinding transaction_id message

-- The message is a CONNECTION_BIND message that ends the attempt to bind the connection (RFC 6062, section
-- 4.3).
pub record EndsBinding (transaction_id : ℕ) (message : List ℕ) : Type 0 where
  pub is_message : refusal message ≡ None
  pub method : method_of (kind_at message) ≡ connection_bind_method
  pub unbinding : IsUnbinding transaction_id message

-- Between these states the client queued events, and one of them reports that a connection to a peer failed.
pub record HasReportedFailure (old new : ClientState) : Type 0 where
  pub events : List TurnEvent
  pub events_are : new.core.events ≡ old.core.events ++ events
  pub peer : SocketAddr
  pub reported : IsIn (TcpConnectFailed peer) events

-- ---- by a deletion

-- The client has allocated and hasn't ended. Its own connection from `here` to this server is open, and these
-- bytes of a message have come over it. It awaits the response to a REFRESH with this transaction ID, by
-- which it requested the deletion of an allocation (RFC 8656, section 8.1).
pub record IsDeleting (here there : SocketAddr) (transaction_id : ℕ) (head : List ℕ) (w : World)
    : Type 0 where
  pub client : ClientState
  pub client_is : w.client ≡ Some client
  pub own : client.core.agent.here ≡ here
  pub server : client.core.server ≡ there
  pub works : has_failed client.core ≡ false
  pub opens : client.control ≡ Open (alive head)
  pub phase : client.core.phase ≡ Authenticated
  pub request : Transaction
  pub outstanding : map.get client.core.agent.outstanding transaction_id ≡ Some request
  pub allocation : Allocation
  pub listed : IsIn allocation client.core.allocations
  pub deletes : lifetime_requested transaction_id allocation.pending_refreshes ≡ Some 0
  pub standing : Standing
  pub signs : standing_of client.core.auth ≡ Some standing

-- A success, or error 437 (Allocation Mismatch), which says that there is no allocation (RFC 8656, section
-- 8.3).
abbrev pub IsGranting : List ℕ → Type 0
IsGranting message = (class_of (kind_at message) ≡ Success)
    ⊎ ((class_of (kind_at message) ≡ Error) × (first_code message ≡ Some allocation_mismatch_code))

-- The message is the response to that REFRESH, grants it, and validates under the client's key.
pub record GrantsDeletion (transaction_id : ℕ) (standing : Standing) (message : List ℕ) : Type 0 where
  pub is_message : refusal message ≡ None
  pub number : number_at message ≡ transaction_id
  pub method : method_of (kind_at message) ≡ refresh_method
  pub granting : IsGranting message
  pub no_challenge : challenge_visible message ≡ None
  pub right : IsRight message (standing_key standing)
