-- The state of a replay, and the effect of a line on it.
use Rattle.std.specs.Prelude.{◌≡◌, ◌≤◌, ℕ, Bool, true, false, not, ◌&&◌, ◌||◌, List, [], ◌∷◌, ◌++◌, length, Option, Some, None, IfSome, is_some}
use Rattle.std.specs.Option.{option_map}
use Rattle.stun_types_wire.specs.declared.algorithm.IntegrityAlgorithm.{IntegrityAlgorithm}
use Rattle.stun_types_base.specs.declared.transport.TransportType.{TransportType}
use Rattle.stun_proto_auth.specs.declared.feature.Feature.{Feature}
use Rattle.turn_desk_core.specs.State.{State}
use Rattle.turn_desk_event.specs.declared.answer.Answer.{Answer}
use Rattle.turn_desk_event.specs.declared.event.Event.{Event}
use Rattle.turn_desk_event.specs.declared.event.Event.TheVariants.{Call, Draw, ToClient, ToDesk}
use Rattle.turn_desk_trace.specs.Answer.{named_by}
use Rattle.turn_desk_trace.specs.Setup.{CanAsk}
use Rattle.turn_desk_trace.specs.declared.setup.Client.{Client as ClientSetup}
use Rattle.turn_desk_trace.specs.declared.setup.Setup.{Setup}
use Rattle.turn_desk_trace.specs.declared.setup.Setup.TheVariants.{Desk, User, Rto, Client}
use Rattle.turn_desk_trace.specs.declared.setup.TheConstants.{MAX_REALM, MAX_USERNAME}
use Rattle.turn_client_proto.specs.Clients.{stored_of}
use Rattle.turn_client_proto.specs.Recv.ClientState.{ClientState}
use Rattle.turn_desk_world.specs.Model.{World}
use Rattle.turn_desk_world.specs.Runs.{IsRun}
use Rattle.turn_desk_world.specs.Settings.{IsNewBy, config_of, desk_of, with_user}
use Rattle.turn_desk_world.specs.declared.progress.Progress.{Progress as ProgressCode}
use Rattle.turn_desk_world.specs.declared.setting.Rto.{Rto as Waiting}

-- What the setup lines have created, the simulation from the first event on, and the bytes of the result of
-- each event line so far.
pub record Progress : Type 0 where
  pub desk : Option State
  pub rto : Option Waiting
  pub client : Option ClientState
  pub world : Option World
  pub named : List (List ℕ)

-- What contracts see of the state of a replay.
abbrev pub progress_of : ProgressCode → Progress
progress_of p = record {
  desk = p.desk;
  rto = p.rto;
  client = option_map stored_of p.client;
  world = p.world;
  named = p.named.items;
}

-- ---- setup lines

-- The setup line is allowed here. It comes before the events; what it creates does not exist yet, and what it
-- needs does.
abbrev pub can_be_made : Progress → Setup → Bool
can_be_made p (Desk realm algorithms anonymity clients) = not (is_some p.desk)
can_be_made p (User name password) = is_some p.desk
can_be_made p (Rto initial max count last) = not (is_some p.rto || is_some p.client)
can_be_made p (Client by over settings) = not (is_some p.client)

abbrev pub can_set_up : Progress → Setup → Bool
can_set_up p setup = not (is_some p.world) && can_be_made p setup

-- The server core was created.
abbrev pub IsDeskAdded : Progress → List ℕ → List IntegrityAlgorithm → Feature → Option ℕ → Progress → Type 0
IsDeskAdded p realm algorithms anonymity clients q =
    (p.desk ≡ None) × (q ≡ record p { desk = Some (desk_of realm algorithms anonymity clients) })

-- The server core got one more user.
pub record IsUserAdded (p : Progress) (name password : List ℕ) (q : Progress) : Type 0 where
  pub desk : State
  pub there : p.desk ≡ Some desk
  pub after : q ≡ record p { desk = Some (with_user desk name password) }

-- The retransmission timeouts of requests were set.
abbrev pub IsRtoSet : Progress → Waiting → Progress → Type 0
IsRtoSet p rto q = (p.rto ≡ None) × (p.client ≡ None) × (q ≡ record p { rto = Some rto })

-- The client was created.
pub record IsClientAdded (p : Progress) (by over : TransportType) (settings : ClientSetup) (q : Progress) : Type 0 where
  pub client : ClientState
  pub first : p.client ≡ None
  pub new : IsNewBy by settings.local settings.remote (config_of over settings p.rto) settings.seed client
  pub after : q ≡ record p { client = Some client }

-- The setup line was executed.
abbrev pub IsSetUp : Progress → Setup → Progress → Type 0
IsSetUp p (Desk realm algorithms anonymity clients) q = IsDeskAdded p realm.now algorithms anonymity clients q
IsSetUp p (User name password) q = IsUserAdded p name.now password.now q
IsSetUp p (Rto initial max count last) q =
    IsRtoSet p (record { initial = initial; max = max; retransmits = count; last = last }) q
IsSetUp p (Client by over settings) q = IsClientAdded p by over settings q

-- The texts of the setup line are short enough for what it creates, a limit on addresses is at least 1, and
-- the client can request what it is to request.
abbrev pub IsBounded : Setup → Type 0
IsBounded (Desk realm algorithms anonymity clients) =
    (length realm.now ≤ MAX_REALM) × IfSome clients (λ n. 1 ≤ n)
IsBounded (User name password) = Unit {0}
IsBounded (Rto initial max count last) = Unit {0}
IsBounded (Client by over settings) = (length settings.name.now ≤ MAX_USERNAME) × CanAsk by over

-- ---- event lines

-- Whether the event is for the client.
abbrev pub is_of_client : Event → Bool
is_of_client (Call call now) = true
is_of_client (Draw now) = true
is_of_client (ToClient bytes from to now) = true
is_of_client (ToDesk bytes from now decision seed) = false

-- The current simulation. Before the first event it consists of the server core and the client that were
-- created, if there is a server core.
abbrev pub world_in : Option World → Option State → Option ClientState → Option World
world_in (Some world) desk client = Some world
world_in None (Some desk) client = Some (record { desk = desk; client = client; is_failed = false })
world_in None None client = None

abbrev pub world_of : Progress → Option World
world_of p = world_in p.world p.desk p.client

-- Whether the event can happen in the simulation: an event for the client needs a client.
abbrev pub can_happen_in : World → Event → Bool
can_happen_in world event = not (is_of_client event) || is_some world.client

abbrev pub can_happen_now : Option World → Event → Bool
can_happen_now None event = false
can_happen_now (Some world) event = can_happen_in world event

-- Whether the event can happen: there is a server core, and for an event of the client also a client.
abbrev pub can_happen : Progress → Event → Bool
can_happen p event = can_happen_now (world_of p) event

-- The client: that of the simulation, or before the first event that of the setup line.
abbrev pub client_in : Option World → Option ClientState → Option ClientState
client_in None client = client
client_in (Some world) client = world.client

abbrev pub client_of : Progress → Option ClientState
client_of p = client_in p.world p.client

-- Whether a client can be looked at: there is one.
abbrev pub can_look : Progress → Bool
can_look p = is_some (client_of p)

-- The result of an event in a simulation, by the contract of a run of this event alone.
abbrev pub IsRunOfOne : World → Event → Answer → World → Type 0
IsRunOfOne old event answer new = IsRun old ((event, answer) ∷ []) new

-- An event was executed in the current simulation, which continues from the state that the event left. The
-- bytes of the result are appended to those of the results before it.
pub record IsHappened (p : Progress) (event : Event) (answer : Answer) (q : Progress) : Type 0 where
  pub before : World
  pub stood : world_of p ≡ Some before
  pub possible : can_happen_in before event ≡ true
  pub after : World
  pub run : IsRunOfOne before event answer after
  pub continues : q.world ≡ Some after
  pub named : q.named ≡ p.named ++ named_by answer ∷ []
