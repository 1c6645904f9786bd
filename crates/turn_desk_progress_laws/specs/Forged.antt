-- An honest network into which an attacker puts datagrams of its own. It reads nothing of what the client
-- transmits, so it doesn't know the transaction IDs of the client's requests (RFC 8489, sections 5 and 6.3).
use Rattle.std.specs.Prelude.{◌≡◌, ◌≢◌, ◌⊎◌, ◌==◌, ℕ, Bool, true, List, [], ◌∷◌, Some, None, Vec, if◌then◌else◌}
use Rattle.std.specs.declared.alloc.Global.{Global}
use Rattle.std.specs.declared.net.socket_addr.SocketAddr.{SocketAddr}
use Rattle.rand_chacha.specs.ChaCha.{ChaCha, of_seed}
use Rattle.turn_desk_core.specs.StunTypesBase.declared.transport.TransportType.TheVariants.{Udp}
use Rattle.turn_desk_core.specs.StunTypesWire.Attributes.{kind_at}
use Rattle.turn_desk_core.specs.StunTypesWire.Grammar.{number_at, refusal}
use Rattle.turn_desk_core.specs.StunTypesWire.Types.{class_of}
use Rattle.turn_client_proto_api.specs.StunProtoAgent.Handling.{is_response}
use Rattle.turn_client_proto_messages.specs.TurnRuns.Indications.{is_indication}
use Rattle.turn_client_proto_handshake_laws.specs.Core.Numbering.{after_draw, following, generated}
use Rattle.turn_client_proto_handshake_laws.specs.Sent.{Beginning, first_number}
use Rattle.turn_desk_event.specs.declared.answer.Answer.{Answer}
use Rattle.turn_desk_event.specs.declared.event.Event.{Event}
use Rattle.turn_desk_event.specs.declared.event.Event.TheVariants.{ToClient}
use Rattle.turn_desk_progress_laws.specs.Scripts.{Plan, Progress, Start, Requested, Challenged, Came}
use Rattle.turn_desk_progress_laws.specs.Scripts.{Signed, Granted, Done, Barred, Silent}

-- The client's generator of transaction IDs, after the ID of its first request.
abbrev pub after_first : Beginning → ChaCha
after_first b = after_draw (of_seed b.seed)

-- The transaction ID of the client's second request: the one that the next words of its generator make, or the one
-- after that if its first request has that one.
abbrev pub second_number : Beginning → ℕ
second_number b = if following (generated (after_first b)) 0 == first_number b
    then following (generated (after_first b)) 1 else following (generated (after_first b)) 0

-- The request of a position has the transaction ID that the client's seed gives.
abbrev pub IsNumbered : Plan → Progress → Type 0
IsNumbered plan Start = Unit {0}
IsNumbered plan (Requested request) = number_at request.bytes ≡ first_number plan.client
IsNumbered plan (Challenged request reply head) = number_at request.bytes ≡ first_number plan.client
IsNumbered plan Came = Unit {0}
IsNumbered plan (Signed request) = number_at request.bytes ≡ second_number plan.client
IsNumbered plan (Granted request address lifetime reply head) = number_at request.bytes ≡ second_number plan.client
IsNumbered plan (Done request address lifetime reply) = number_at request.bytes ≡ second_number plan.client
IsNumbered plan Barred = Unit {0}
IsNumbered plan Silent = Unit {0}

-- What an attacker can write who doesn't know the transaction IDs of the client's two requests:
--
-- - bytes that are no STUN message
-- - an indication
-- - a success or an error response, for instance a challenge, whose transaction ID is neither of the two
pub data IsInvented (b : Beginning) (bytes : List ℕ) : Type 0 where
  NoMessage : refusal bytes ≢ None → IsInvented b bytes
  Indication : refusal bytes ≡ None → is_indication (class_of (kind_at bytes)) ≡ true → IsInvented b bytes
  Response : refusal bytes ≡ None → is_response bytes ≡ true → number_at bytes ≢ first_number b
      → number_at bytes ≢ second_number b → IsInvented b bytes

-- A datagram that an attacker made reaches the client, at any time and at any address. It comes from another
-- address than the server's and has any bytes; or it has such bytes and comes from any address, the server's
-- too. Over TCP there is none, since it would have to be a part of the stream.
pub record IsForged (plan : Plan) (event : Event) : Type 0 where
  pub over_udp : plan.client.transport ≡ Udp
  pub bytes : Vec ℕ Global
  pub from : SocketAddr
  pub to : SocketAddr
  pub now : ℕ
  pub event_is : event ≡ ToClient bytes from to now
  pub made : (from ≢ plan.client.server) ⊎ IsInvented plan.client bytes.items

-- The events and results are the honest ones, in their order, with such datagrams put in anywhere.
unfoldable pub AreWithForged : Plan → (honest pairs : List (Event × Answer)) → Type 0
AreWithForged plan honest [] = honest ≡ []
AreWithForged plan honest (pair ∷ pairs) = (IsForged plan pair.0 × AreWithForged plan honest pairs)
    ⊎ ((left : List (Event × Answer)) × (honest ≡ pair ∷ left) × AreWithForged plan left pairs)
