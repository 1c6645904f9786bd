-- What an honest run comes to, over UDP or TCP (RFC 8489, section 9.2; RFC 8656, sections 7.1 to 7.4).
use Rattle.std.specs.Prelude.{◌≡◌, ◌≤◌, ◌<◌, ◌⊎◌, ◌++◌, ℕ, true, false, List, [], ◌∷◌, Some, None}
use Rattle.std.specs.FinMap as map
use Rattle.std.specs.List.{flat_map}
use Rattle.std.specs.declared.net.socket_addr.SocketAddr.{SocketAddr}
use Rattle.turn_client_proto_messages.specs.StunTypesIntegrity.Credentials.{Key}
use Rattle.turn_desk_core.specs.StunTypesWire.declared.algorithm.IntegrityAlgorithm.{IntegrityAlgorithm}
use Rattle.turn_desk_core.specs.StunTypesWire.Strength.{is_stronger}
use Rattle.turn_desk_core.specs.StunTypesBase.declared.transport.TransportType.{TransportType}
use Rattle.turn_desk_core.specs.StunTypesBase.declared.transport.TransportType.TheVariants.{Udp, Tcp}
use Rattle.turn_client_proto_messages.specs.StunProtoClient.Choice.{supports}
use Rattle.turn_client_proto_messages.specs.StunProtoClient.Client.{account_key}
use Rattle.turn_client_proto_messages.specs.StunProtoClient.Digests.{IsRight}
use Rattle.turn_client_proto_api.specs.StunProtoAuth.declared.feature.Feature.{Feature}
use Rattle.turn_client_proto_api.specs.StunProtoAuth.declared.feature.Feature.TheVariants.{Required, Disabled}
use Rattle.turn_desk_core.specs.StunTypesBase.Times.{time_after}
use Rattle.turn_desk_core.specs.StunProtoServer.Server.{Server}
use Rattle.turn_desk_core.specs.StunProtoServer.Users.{HashesDiffer}
use Rattle.turn_client_proto_api.specs.declared.event.TurnEvent.{TurnEvent}
use Rattle.turn_client_proto_api.specs.TurnTypesFrame.Streams.{alive}
use Rattle.turn_client_proto_api.specs.Config.{Config}
use Rattle.turn_client_proto_step_laws.specs.Recv.Control.{Control, Datagrams, Open}
use Rattle.turn_client_proto_api.specs.Sent.{Sent}
use Rattle.turn_client_proto_messages.specs.Allocation.Listed.{relayed_listed}
use Rattle.turn_client_proto_step_laws.specs.Recv.ClientState.{ClientState, Protocol}
use Rattle.turn_client_proto_messages.specs.Api.Options.{cadence}
use Rattle.turn_client_proto_handshake_laws.specs.Sent.{Begins, HasRoom, IsUsual}
use Rattle.turn_client_proto_handshake_laws.specs.Choosing.{HasTextName}
use Rattle.turn_client_proto_handshake_laws.specs.Driving.{client_end}
use Rattle.turn_client_proto_handshake_laws.specs.Stages.{created, failures}
use Rattle.turn_desk_event.specs.declared.answer.Answer.{Answer}
use Rattle.turn_desk_event.specs.declared.answer.Answer.TheVariants as answer
use Rattle.turn_desk_event.specs.declared.event.ClientCall.TheVariants as call
use Rattle.turn_desk_event.specs.declared.event.Event.{Event}
use Rattle.turn_desk_event.specs.declared.event.Event.TheVariants.{Call, Draw}
use Rattle.turn_desk_core.specs.declared.grant.Grant.{Grant}
use Rattle.turn_desk_core.specs.Verdicts.{bare_grant}
use Rattle.turn_desk_world_laws.specs.World.Model.{World}
use Rattle.turn_desk_world_laws.specs.World.Runs.{IsStep}
use Rattle.turn_desk_progress_laws.specs.Scripts.{Plan, Progress, Start, Requested, Challenged, Came}
use Rattle.turn_desk_progress_laws.specs.Scripts.{Signed, Granted, Done, Barred, Silent}

-- ---- where it begins

-- The second call of `poll_transmit` is at least 50 ms after the first, and no later than a client may be
-- called.
pub record IsTimely (plan : Plan) : Type 0 where
  pub apart : time_after plan.client.made cadence ≤ plan.second
  pub in_range : plan.second ≤ client_end

-- How bytes come to a client from its server: over UDP each datagram by itself; over TCP in a stream, in
-- which these first bytes of a message are buffered.
abbrev pub control_at : TransportType → (head : List ℕ) → Control
control_at Udp head = Datagrams
control_at Tcp head = Open (alive head)

-- The state of a client with this core, to which bytes come in this way.
abbrev pub over : Control → Protocol → ClientState
over control core = record { core = core; control = control }

-- The simulation has the client of the plan, to which these first bytes of a message have come; and the
-- statement `Is` holds of its core.
pub record HasClient (plan : Plan) (head : List ℕ) (w : World) (Is : Protocol → Type 0) : Type 0 where
  pub core : Protocol
  pub there : w.client ≡ Some (over (control_at plan.client.transport head) core)
  pub is : Is core

-- The state in which an honest run begins:
--
-- - The client is new, and nothing has come to it. Its user name is UTF-8 and fits into a request, and it is
--   configured for at most two address families, and as usual (`IsUsual`).
-- - The server core has its user, stores nothing for its address, and has no two users with the same hash.
-- - The second call of `poll_transmit` is in time (`IsTimely`), and before the nonce of the first reply
--   expires.
pub record IsFresh (plan : Plan) (w : World) : Type 0 where
  pub client : HasClient plan [] w (λ p. Begins plan.client p)
  pub room : HasRoom plan.client.config
  pub usual : IsUsual plan.client.config
  pub text : HasTextName plan.client.config
  pub unknown : map.get w.desk.auth.clients plan.client.here ≡ None
  pub user : map.get w.desk.auth.users plan.client.config.credentials.username
      ≡ Some plan.client.config.credentials.password
  pub hashes : HashesDiffer w.desk.auth
  pub timely : IsTimely plan
  pub occurs : plan.second < time_after plan.client.made w.desk.auth.nonce_expiry

-- ---- whether they come together

-- The strongest of the algorithms in both lists.
pub record IsStrongestOf (own others : List IntegrityAlgorithm) (chosen : IntegrityAlgorithm) : Type 0 where
  pub is_own : supports own chosen ≡ true
  pub is_other : supports others chosen ≡ true
  pub greatest : (algorithm : IntegrityAlgorithm) → supports own algorithm ≡ true → supports others algorithm ≡ true
      → is_stronger algorithm chosen ≡ false

-- The lists have no algorithm in common.
abbrev pub HaveNone : (own others : List IntegrityAlgorithm) → Type 0
HaveNone own others =
    (algorithm : IntegrityAlgorithm) → supports own algorithm ≡ true → supports others algorithm ≡ true → ⊥

-- The client requires that its name is hidden, and the server core accepts no hash of a name.
abbrev pub MustShowName : (own other : Feature) → Type 0
MustShowName own other = (own ≡ Required) × (other ≡ Disabled)

-- The reasons why client and server core can't come together.
abbrev pub AreApart : Config → Server → Type 0
AreApart config server =
    HaveNone config.algorithms server.algorithms ⊎ MustShowName config.anonymous_username server.anonymous_username

-- ---- what was reported

-- The event that a result reports, if it reports one.
abbrev pub event_in : Answer → List TurnEvent
event_in (answer.Event event) = event ∷ []
event_in _ = []

-- The events that a run reported, in order.
abbrev pub events_in : List (Event × Answer) → List TurnEvent
events_in pairs = flat_map (λ (pair : Event × Answer). event_in pair.1) pairs

-- The reported events, followed by those that are still queued, are these.
abbrev pub ReportsWhole : (reported whole : List TurnEvent) → Protocol → Type 0
ReportsWhole reported whole p = reported ++ p.events ≡ whole

-- ---- both cases

-- The request is sent over the client's transport, from its own address to the server's.
pub record IsOwnSent (plan : Plan) (request : Sent) : Type 0 where
  pub transport : request.transport ≡ plan.client.transport
  pub from : request.from ≡ plan.client.here
  pub to : request.to ≡ plan.client.server

-- The key of the client's user in the server core's realm.
abbrev pub key_in_realm : Plan → World → IntegrityAlgorithm → Key
key_in_realm plan w algorithm = account_key plan.client.config.credentials w.desk.auth.realm algorithm

-- The one grant for that request.
abbrev pub allocation_granted : Plan → (request : List ℕ) → SocketAddr → (lifetime : ℕ) → Grant
allocation_granted plan request address lifetime = record (bare_grant request plan.client.here) {
  transport = Some plan.client.config.transport;
  relayed = address ∷ [];
  lifetime = Some lifetime;
}

-- The client holds exactly that allocation, and reports it once. The server core has granted it in response
-- to that request, and nothing else. Request and reply are valid under the user's key in the server core's
-- realm, by the strongest common algorithm.
pub record IsAllocated (plan : Plan) (old : World) (reported : List TurnEvent) (request : Sent) (address : SocketAddr)
    (lifetime : ℕ) (reply : List ℕ) (new : World) : Type 0 where
  pub together : AreApart plan.client.config old.desk.auth → ⊥
  pub algorithm : IntegrityAlgorithm
  pub strongest : IsStrongestOf plan.client.config.algorithms old.desk.auth.algorithms algorithm
  pub is_own : IsOwnSent plan request
  pub request_is_right : IsRight request.bytes (key_in_realm plan old algorithm)
  pub reply_is_right : IsRight reply (key_in_realm plan old algorithm)
  pub held : HasClient plan [] new (λ p. (relayed_listed p.allocations ≡ (plan.client.config.transport, address) ∷ [])
      × ReportsWhole reported (created plan.client address) p)
  pub granted : new.desk.grants ≡ old.desk.grants ++ allocation_granted plan request.bytes address lifetime ∷ []

-- Client and server core can't come together. The client holds nothing and reports the failure; the server
-- core has granted nothing. The client transmits nothing more, and once its events are polled it is closed.
pub record CannotAgree (plan : Plan) (old : World) (reported : List TurnEvent) (new : World) : Type 0 where
  pub apart : AreApart plan.client.config old.desk.auth
  pub held : HasClient plan [] new (λ p. (relayed_listed p.allocations ≡ []) × ReportsWhole reported (failures plan.client) p)
  pub granted : new.desk.grants ≡ old.desk.grants
  pub quiet : (now : ℕ) (ret : Answer) (next : World) → now ≤ client_end → IsStep (Draw now) new ret next
      → ret ≡ answer.Nothing
  pub closed : (now : ℕ) (ret : Answer) (next : World) → now ≤ client_end → reported ≡ failures plan.client
      → IsStep (Call call.Poll now) new ret next → ret ≡ answer.Closed

-- What holds when a script has reached a position. Until the first reply has come, no event is reported.
-- After that it is one of two cases, by whether the two can come together. The second request is transmitted
-- if and only if they can. Each request that is transmitted is sent from the client's own address to the
-- server's.
abbrev pub HasCome : Plan → World → List TurnEvent → Progress → World → Type 0
HasCome plan old reported Start new = reported ≡ []
HasCome plan old reported (Requested request) new = (reported ≡ []) × IsOwnSent plan request
HasCome plan old reported (Challenged request reply head) new = reported ≡ []
HasCome plan old reported Came new = (AreApart plan.client.config old.desk.auth → CannotAgree plan old reported new)
    × ((AreApart plan.client.config old.desk.auth → ⊥) → reported ≡ [])
HasCome plan old reported (Signed request) new =
    (AreApart plan.client.config old.desk.auth → ⊥) × (reported ≡ []) × IsOwnSent plan request
HasCome plan old reported (Granted request address lifetime reply head) new =
    (AreApart plan.client.config old.desk.auth → ⊥) × (reported ≡ [])
HasCome plan old reported (Done request address lifetime reply) new =
    IsAllocated plan old reported request address lifetime reply new
HasCome plan old reported Barred new = CannotAgree plan old reported new
HasCome plan old reported Silent new = ⊥
