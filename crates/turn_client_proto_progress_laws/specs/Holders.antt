-- A client that holds an allocation over TCP, and the requests that it signs (RFC 8489, sections 9.2.3 and
-- 9.2.5; RFC 6062, section 4.3).
use Rattle.std.specs.Prelude.{◌≡◌, ◌⊎◌, ◌++◌, ℕ, true, List, [], ◌∷◌, Option, Some, None, IfSome, option_to_list}
use Rattle.std.specs.FinMap as map
use Rattle.std.specs.declared.net.socket_addr.SocketAddr.{SocketAddr}
use Rattle.turn_client_proto_messages.specs.StunTypesWire.Grammar.{number_at, refusal}
use Rattle.turn_client_proto_messages.specs.StunTypesBase.declared.transport.TransportType.TheVariants.{Tcp}
use Rattle.turn_client_proto_messages.specs.StunProtoAuth.Claims.{claimed}
use Rattle.turn_client_proto_messages.specs.StunProtoClient.Client.{Client, Standing, standing_key, standing_of}
use Rattle.turn_client_proto_messages.specs.StunProtoClient.ClientValidation.{going_by}
use Rattle.turn_client_proto_messages.specs.StunProtoClient.Digests.{IsRight}
use Rattle.turn_client_proto_messages.specs.StunProtoTransaction.Agents.{Transaction}
use Rattle.turn_client_proto_messages.specs.StunProtoAgent.Sending.{is_request}
use Rattle.turn_client_proto_messages.specs.StunProtoAgent.State.{Agent}
use Rattle.turn_client_proto_handshake_laws.specs.Core.Asking.{queued_request}
use Rattle.turn_client_proto_messages.specs.Waiting.{Queued}
use Rattle.turn_client_proto_messages.specs.OwnClaims.{own_claim}
use Rattle.turn_client_proto_messages.specs.ReadTexts.{HasReadTexts}
use Rattle.turn_client_proto_messages.specs.Requests.{request_text}
use Rattle.turn_client_proto_messages.specs.ShortTexts.{HasShortTexts}
use Rattle.turn_client_proto_messages.specs.ReportedRequests.{CanBeRead, reported_request}
use Rattle.turn_client_proto_messages.specs.declared.request.TurnRequest.{TurnRequest}
use Rattle.turn_client_proto_messages.specs.TurnRuns.StunWire.{decoded_by}
use Rattle.turn_client_proto_messages.specs.Api.Sent.{Sent}
use Rattle.turn_client_proto_handshake_laws.specs.Requested.{Requested, transaction_of}
use Rattle.turn_client_proto_handshake_laws.specs.Choosing.{Choice, signer_by, standing_by}
use Rattle.turn_client_proto_handshake_laws.specs.Sent.{Beginning}

-- ---- who

-- A client that holds an allocation over TCP: its start; its authenticator, and the challenge under which it
-- uses its credentials; and the relayed address, its lifetime in seconds, and the time at which it was
-- granted.
pub record Holder : Type 0 where
  pub started : Beginning
  pub auth : Client
  pub standing : Standing
  pub address : SocketAddr
  pub lifetime : ℕ
  pub since : ℕ

-- The client that answered a challenge and was granted an address, for `lifetime` seconds from `since` on.
abbrev pub holder_of : Beginning → Choice → SocketAddr → (lifetime since : ℕ) → Holder
holder_of b c address lifetime since = record {
  started = b;
  auth = going_by (signer_by b c) (Some c.algorithm);
  standing = standing_by b c;
  address = address;
  lifetime = lifetime;
  since = since;
}

-- The client can sign: it uses TCP to its server, and requests allocations over TCP; the texts of its
-- authenticator are short and can be decoded; it uses its credentials under that challenge, and has no others for
-- the next one; and the last message that it accepted was signed by the algorithm that it chose.
pub record CanSign (h : Holder) : Type 0 where
  pub over : h.started.transport ≡ Tcp
  pub relays : h.started.config.transport ≡ Tcp
  pub short : HasShortTexts h.auth
  pub read : HasReadTexts h.auth
  pub occurs : standing_of h.auth ≡ Some h.standing
  pub settled : h.auth.next_account ≡ None
  pub goes_by : h.auth.integrity ≡ Some h.standing.challenge.choice

-- ---- what it asks for

-- A request with this transaction ID that the client signs at a time; the request as it is queued to be sent
-- from an own address; and the request as it is transmitted.
abbrev pub signed_by : Holder → TurnRequest → (transaction_id made : ℕ) → Requested
signed_by h request transaction_id made =
    record { number = transaction_id; bytes = request_text h.auth request transaction_id; made = made }

abbrev pub queued_from : SocketAddr → Requested → Queued
queued_from here a = queued_request here a.bytes

abbrev pub sent_from : Holder → SocketAddr → Requested → Sent
sent_from h here a =
    record { bytes = a.bytes; transport = h.started.transport; from = here; to = h.started.server }

-- What the signed request is: a message and a request with its transaction ID. It decodes as what is
-- requested, if that can be decoded. It validates under the key of the credentials in the realm of the
-- challenge, and claims what the challenge asks for.
pub record IsSignedBy (h : Holder) (request : TurnRequest) (transaction_id : ℕ) (bytes : List ℕ) : Type 0 where
  pub message : refusal bytes ≡ None
  pub request_is : is_request bytes ≡ true
  pub number_is : number_at bytes ≡ transaction_id
  pub reported : CanBeRead request transaction_id → decoded_by bytes ≡ reported_request request transaction_id
  pub valid : IsRight bytes (standing_key h.standing)
  pub claims : claimed bytes ≡ own_claim h.auth.anonymous_username h.standing

-- ---- what it awaits

-- The request is in the list.
abbrev pub IsListed : Requested → List Requested → Type 0
IsListed a [] = ⊥
IsListed a (x ∷ rest) = (a ≡ x) ⊎ IsListed a rest

-- The outstanding transaction is one of these requests, transmitted once.
pub record IsOneOf (b : Beginning) (asks : List Requested) (transaction_id : ℕ) (t : Transaction) : Type 0 where
  pub requested : Requested
  pub listed : IsListed requested asks
  pub number_is : transaction_id ≡ requested.number
  pub transaction_is : t ≡ transaction_of b requested 1

-- The request whose response is awaited, if there is one, and the earlier ones.
abbrev pub all_requested : (awaited : Option Requested) (older : List Requested) → List Requested
all_requested awaited older = option_to_list awaited ++ older

-- The request whose response is awaited is outstanding, transmitted once. So may be some earlier requests,
-- and no others are.
pub record AreOutstanding (b : Beginning) (awaited : Option Requested) (older : List Requested) (agent : Agent) : Type 0 where
  pub newest : IfSome awaited (λ x. map.get agent.outstanding x.number ≡ Some (transaction_of b x 1))
  pub only : (transaction_id : ℕ) (t : Transaction) → map.get agent.outstanding transaction_id ≡ Some t
      → IsOneOf b (all_requested awaited older) transaction_id t
