-- What holds of a run of a client and a server core over a network that loses, repeats, reorders and invents
-- messages.
use Rattle.std.specs.Prelude.{◌≡◌, ◌≤◌, ◌⊎◌, ℕ, Bool, true, false, List, [], ◌∷◌, ◌++◌, length, is_none}
use Rattle.std.specs.Net.Socket.{socket_ip}
use Rattle.std.specs.List.{AllByRecursion}
use Rattle.std.specs.declared.net.socket_addr.SocketAddr.{SocketAddr}
use Rattle.turn_desk_core.specs.StunTypesWire.Grammar.{refusal}
use Rattle.turn_desk_core.specs.StunTypesWire.Registry.{longest_username}
use Rattle.stun_types_base.specs.declared.transport.TransportType.{TransportType}
use Rattle.stun_types_base.specs.declared.transport.TransportType.TheVariants.{Tcp}
use Rattle.turn_desk_step_laws.specs.TurnRuns.Headline.{AnswersOnce, IsPromised, IsSafe, ShowsTraced, Traced, Unless}
use Rattle.turn_desk_event.specs.TurnTypesFrame.ChannelFrames.{frame_at}
use Rattle.turn_desk_event.specs.TurnClientProtoApi.Payloads.{PeerPayload}
use Rattle.turn_desk_step_laws.specs.TurnRuns.Indications.{Carries}
use Rattle.turn_desk_step_laws.specs.TurnRuns.Members.{IsIn}
use Rattle.turn_desk_step_laws.specs.TurnRuns.Messages.{Held, Permission, Channel, Connection, Payload}
use Rattle.turn_desk_step_laws.specs.TurnRuns.Runs.{Step, AtClient, AtDesk, AtEach, IsCounted, IsLawful, Leads}
use Rattle.turn_desk_step_laws.specs.TurnRuns.Words.{Words}
use Rattle.turn_desk_world.specs.TurnClientProtoCore.Beginning.{IsNew}
use Rattle.turn_desk_event.specs.TurnClientProtoApi.Config.{Config}
use Rattle.turn_client_proto_step_laws.specs.Recv.ClientState.{Protocol}
use Rattle.turn_client_proto_step_laws.specs.Beginning.{first_client}
use Rattle.turn_client_proto_step_laws.specs.ClientWords.{run_words}
use Rattle.turn_client_proto_step_laws.specs.RunClient.{Client}
use Rattle.turn_client_proto_step_laws.specs.Sound.{IsSound}
use Rattle.turn_desk_event.specs.declared.answer.Answer.{Answer}
use Rattle.turn_desk_event.specs.declared.event.Event.{Event}
use Rattle.turn_desk_step_laws.specs.DeskRun.{DeskCall, desk_words}
use Rattle.turn_desk_world_laws.specs.Ends.{EndWithSockets}
use Rattle.turn_desk_world.specs.Model.{World}
use Rattle.turn_desk_world_laws.specs.Reported.{IsAt, IsFair, IsReportedBy, data_of}

-- The client and the server core in the terms of a run.
abbrev pub words : Words Client DeskCall
words = run_words desk_words

-- The simulation's client is new, with these settings and a generator of this seed; its server core is any.
-- Over TCP no complete frame is buffered. The user name fits into a request, and there are at most two
-- address families.
pub record BeginsNew (transport : TransportType) (here server : SocketAddr) (config : Config) (seed : List ℕ)
    (core : Protocol) (w : World) : Type 0 where
  pub client : IsAt w.client (first_client config.credentials seed core)
  pub new : IsNew transport here server config seed core
  pub short : length config.credentials.username ≤ longest_username
  pub few : length config.families ≤ 2

-- There is an account of these events and their results: a list of steps that describes them. It leads the
-- client from `first` to `last`, and each step meets its contract. If nothing that arrives was forged under a
-- key of the client's in a realm that the run names, and no transaction ID is generated twice, then:
--
-- - `safe`: Each step is safe. In particular, each payload was delivered in its step, and names a peer whose
--   permission, channel or connection is in the client's lists and was granted by the server core before. Raw
--   bytes of a connection's peer come in no message, so of these only the latter is said.
-- - `once`: Nothing is returned as created twice for the same request.
-- - `visible`: Each relayed address, permission, channel and bound connection that is listed was granted
--   before, a channel with that number to that peer, a connection with that connection ID to that peer.
pub record AreSafe (first : Client) (old : World) (pairs : List (Event × Answer)) (new : World) : Type 0 where
  pub run : List (Step Client DeskCall)
  pub reported : IsReportedBy old pairs run new
  pub last : Client
  pub left : IsAt new.client last
  pub leads : Leads first run last
  pub lawful : AtEach (λ s _. IsLawful words s) run
  -- The account counts as many generated transaction IDs as the client's generator gave, step by step, by its
  -- positions.
  pub counted : IsCounted words first run last
  -- The client's invariant holds at the end. So, until the client has ended, its generator is where the
  -- generator of its seed is after this count of transaction IDs.
  pub sound : IsSound last
  pub safe : Unless words first run last (AtEach (IsSafe words first last run) run)
  pub once : Unless words first run last (AnswersOnce words run)
  pub visible : Unless words first run last (AtEach (ShowsTraced words) run)

-- An account of these events and their results.
pub record IsAccount (first : Client) (old : World) (pairs : List (Event × Answer)) (new : World)
    (run : List (Step Client DeskCall)) (last : Client) : Type 0 where
  pub reported : IsReportedBy old pairs run new
  pub left : IsAt new.client last
  pub leads : Leads first run last
  pub lawful : AtEach (λ s _. IsLawful words s) run

-- Every account counts as many generated transaction IDs as the generator gave, promises the same, and has
-- connections end with their sockets. So nothing depends on which account is chosen.
abbrev pub IsEachPromised : (first : Client) (old : World) (pairs : List (Event × Answer)) (new : World) → Type 0
IsEachPromised first old pairs new = (run : List (Step Client DeskCall)) (last : Client)
    → IsAccount first old pairs new run last
    → IsCounted words first run last × IsPromised words first run last × EndWithSockets old pairs run new

-- There is a safe account, and every account is promised.
pub record ArePromised (first : Client) (old : World) (pairs : List (Event × Answer)) (new : World) : Type 0 where
  pub one : AreSafe first old pairs new
  pub each : IsEachPromised first old pairs new

abbrev pub IsSafeRun : World → List (Event × Answer) → World → Type 0
IsSafeRun old pairs new = (transport : TransportType) (here server : SocketAddr)
    (config : Config) (seed : List ℕ) (core : Protocol)
    → BeginsNew transport here server config seed core old → AllByRecursion IsFair pairs
    → ArePromised (first_client config.credentials seed core) old pairs new

-- ---- what a result reports

-- An account, for which the promise holds, of a run whose last event had this result.
pub record IsLastAnswered (event : Event) (answer : Answer) (first : Client) (run : List (Step Client DeskCall))
    (last : Client) : Type 0 where
  pub old : World
  pub new : World
  pub before : List (Event × Answer)
  pub account : IsAccount first old (before ++ (event, answer) ∷ []) new run last
  pub promised : IsPromised words first run last

-- The frames that were handled in the newest step of a run.
abbrev pub last_taken : List (Step Client DeskCall) → List (List ℕ)
last_taken [] = []
last_taken (AtClient call ∷ earlier) = call.handled
last_taken (AtDesk d ∷ earlier) = []

-- What data from a peer names: the peer's permission if a message carried it, and otherwise the frame's
-- channel to the peer.
abbrev pub held_by : Bool → List ℕ → PeerPayload → Held
held_by true frame given = Permission given.transport (socket_ip given.peer)
held_by false frame given = Channel (frame_at frame).id given.peer

-- Unless something was forged or a transaction ID was generated twice, the server core granted this in the
-- run, in response to a request of the client's.
abbrev pub WasGranted : (first : Client) → List (Step Client DeskCall) → (last : Client) → Held → Type 0
WasGranted first run last held = Unless words first run last (Traced words run held)

-- A frame that was handled in the newest step of a run carries this payload, and the server core granted in
-- that run what the payload names.
pub record IsCarried (first : Client) (run : List (Step Client DeskCall)) (last : Client)
    (payload : List ℕ → Payload) (held : List ℕ → Held) : Type 0 where
  pub frame : List ℕ
  pub taken : IsIn frame (last_taken run)
  pub carries : Carries frame (payload frame)
  pub granted : WasGranted first run last (held frame)

-- The same for exactly this data from a peer, carried by a message or a channel frame.
abbrev pub IsDataCarried : (first : Client) → List (Step Client DeskCall) → (last : Client) → PeerPayload → Type 0
IsDataCarried first run last given = IsCarried first run last
    (λ frame. data_of (is_none (refusal frame)) frame given) (λ frame. held_by (is_none (refusal frame)) frame given)

-- The data are bytes of a peer on the socket with this local address. Unless something was forged or a
-- transaction ID was generated twice, the server core granted in that run a bound connection with that
-- address to that peer. The bytes are in no message, so nothing is said about what the network does to them.
pub record IsPassedRaw (first : Client) (run : List (Step Client DeskCall)) (last : Client) (here : SocketAddr)
    (given : PeerPayload) : Type 0 where
  pub transport_is : given.transport ≡ Tcp
  pub granted : Unless words first run last ((number : ℕ) × Traced words run (Connection here given.peer number))

-- The same for bytes that came to this local address: they are given after those that were buffered.
pub record IsBroughtRaw (first : Client) (run : List (Step Client DeskCall)) (last : Client) (to : SocketAddr)
    (bytes : List ℕ) (given : PeerPayload) : Type 0 where
  pub passed : IsPassedRaw first run last to given
  pub waited : List ℕ
  pub payload_is : given.payload ≡ waited ++ bytes

-- Data from a peer, which bytes gave that came to this local address, is carried by a frame, or is those
-- bytes after the buffered ones.
abbrev pub IsDataBrought : (first : Client) → List (Step Client DeskCall) → (last : Client) → (to : SocketAddr)
    → List ℕ → PeerPayload → Type 0
IsDataBrought first run last to bytes given =
    IsDataCarried first run last given ⊎ IsBroughtRaw first run last to bytes given

-- Data from a peer that was buffered is carried by a frame, or came on some socket.
abbrev pub IsDataStored : (first : Client) → List (Step Client DeskCall) → (last : Client) → PeerPayload → Type 0
IsDataStored first run last given =
    IsDataCarried first run last given ⊎ (here : SocketAddr) × IsPassedRaw first run last here given
