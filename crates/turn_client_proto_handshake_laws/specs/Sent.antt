-- What a client that receives nothing transmits: its first request, at the slots of its schedule (RFC 8489,
-- section 6.2.1).
use Rattle.std.specs.Prelude.{◌≡◌, ◌≤◌, ℕ, false, length, nat_le, List, [], ◌∷◌, filter, map, Some, None, option_to_list}
use Rattle.std.specs.List.{flat_map}
use Rattle.std.specs.declared.net.socket_addr.SocketAddr.{SocketAddr}
use Rattle.rand_chacha.specs.ChaCha.{of_seed}
use Rattle.turn_client_proto_api.specs.StunTypesWire.Registry.{longest_username}
use Rattle.stun_types_base.specs.declared.transport.TransportType.{TransportType}
use Rattle.turn_client_proto_api.specs.StunProtoTransaction.Schedule.{end_at, slots}
use Rattle.turn_client_proto_api.specs.StunProtoAgent.State.{is_tcp}
use Rattle.turn_client_proto_api.specs.Config.{Config}
use Rattle.turn_client_proto_api.specs.declared.event.TurnEvent.{TurnEvent}
use Rattle.turn_client_proto_core.specs.Beginning.{IsNew}
use Rattle.turn_client_proto_core.specs.Numbering.{following, generated}
use Rattle.turn_client_proto_core.specs.declared.protocol.Protocol.{Protocol}
use Rattle.turn_client_proto_api.specs.Sent.{Sent}
use Rattle.turn_client_proto_api.specs.Options.{allocation_lifetime, cadence}
use Rattle.turn_client_proto_messages.specs.Judging.{signer_of}
use Rattle.turn_client_proto_messages.specs.ReportedRequests.{IsLawfulAllocate}
use Rattle.turn_client_proto_messages.specs.Requests.{request_text}
use Rattle.turn_client_proto_messages.specs.declared.request.TurnRequest.TheVariants.{FirstAllocate}
use Rattle.turn_client_proto_handshake_laws.specs.Driving.{Call, Draws, DrawFails, Polls, Takes, Looks}

-- ---- who begins

-- A client at its start: its transport, its own address and the server's, its settings and its seed, and the
-- time of the first call of `poll_transmit`.
pub record Beginning : Type 0 where
  pub transport : TransportType
  pub here : SocketAddr
  pub server : SocketAddr
  pub config : Config
  pub seed : List ℕ
  pub made : ℕ

-- The client is new: nothing was called on it.
abbrev pub Begins : Beginning → Protocol → Type 0
Begins b p = IsNew b.transport b.here b.server b.config b.seed p

-- The name of the user fits into a message (RFC 8489, section 14.3), at most two address families are
-- configured, and the requested lifetime fits into its attribute.
abbrev pub HasRoom : Config → Type 0
HasRoom config =
    (length config.credentials.username ≤ longest_username) × IsLawfulAllocate config.families config.options

-- A client with these settings requests half an hour, leaves 50 ms between two messages, and accepts no indication
-- as the announcement of a connection, as new settings say.
pub record IsUsual (config : Config) : Type 0 where
  pub lifetime : config.options.lifetime ≡ allocation_lifetime
  pub pace : config.pace ≡ cadence
  pub indications : config.attempt_indications ≡ false

-- The transaction ID that the first words of its generator make.
abbrev pub first_number : Beginning → ℕ
first_number b = following (generated (of_seed b.seed)) 0

-- Its first request: an ALLOCATE without credentials, with that transaction ID.
abbrev pub first_request : Beginning → List ℕ
first_request b =
    request_text (signer_of b.config) (FirstAllocate b.config.transport b.config.families b.config.options)
    (first_number b)

-- The first request as it is transmitted: from the client's own address to the server.
abbrev pub first_sent : Beginning → Sent
first_sent b = record { bytes = first_request b; transport = b.transport; from = b.here; to = b.server }

-- The slots of that request (one over TCP), and the end of its schedule.
abbrev pub slots_of : Beginning → List ℕ
slots_of b = slots (is_tcp b.transport) b.made b.config.waits

abbrev pub end_of : Beginning → ℕ
end_of b = end_at b.made b.config.waits

-- The slots that are not later than `now`.
abbrev pub slots_until : Beginning → ℕ → List ℕ
slots_until b now = filter (λ slot. nat_le slot now) (slots_of b)

-- ---- what is sent

-- What is transmitted, and when.
pub record Sending : Type 0 where
  pub now : ℕ
  pub sent : Sent

-- The first request, transmitted at these times.
abbrev pub sent_at : Beginning → List ℕ → List Sending
sent_at b times = map (λ now. record { now = now; sent = first_sent b }) times

-- What a call transmits.
abbrev pub sent_by : Call → List Sending
sent_by (Draws now (Some sent)) = record { now = now; sent = sent } ∷ []
sent_by (Draws now None) = []
sent_by (DrawFails now) = []
sent_by (Polls now ret) = []
sent_by (Takes event) = []
sent_by Looks = []

-- All that the calls transmit, in order.
abbrev pub sendings : List Call → List Sending
sendings calls = flat_map sent_by calls

-- ---- what is reported

-- The event that a call takes.
abbrev pub decoded_by : Call → List TurnEvent
decoded_by (Draws now sent) = []
decoded_by (DrawFails now) = []
decoded_by (Polls now ret) = []
decoded_by (Takes event) = option_to_list event
decoded_by Looks = []

-- All events that the calls take, in order.
abbrev pub reported : List Call → List TurnEvent
reported calls = flat_map decoded_by calls
