-- The REFRESH by which a client renews its allocation, and its success response (RFC 8656, sections 8.1 and
-- 8.3).
use Rattle.std.specs.Prelude.{◌≡◌, ℕ, List, true, None, Some}
use Rattle.turn_client_proto_messages.specs.StunTypesWire.Attributes.{kind_at}
use Rattle.turn_client_proto_messages.specs.StunTypesWire.Grammar.{number_at, refusal}
use Rattle.turn_client_proto_messages.specs.StunTypesWire.declared.class.MessageClass.TheVariants.{Success}
use Rattle.turn_client_proto_messages.specs.StunTypesWire.Types.{class_of, method_of}
use Rattle.turn_client_proto_messages.specs.StunProtoAuth.Claims.{claimed}
use Rattle.turn_client_proto_messages.specs.StunProtoClient.Client.{Client, standing_key}
use Rattle.turn_client_proto_messages.specs.StunProtoClient.ClientValidation.{going_by}
use Rattle.turn_client_proto_messages.specs.StunProtoClient.Digests.{IsRight}
use Rattle.turn_client_proto_messages.specs.StunProtoAgent.Sending.{is_request}
use Rattle.turn_client_proto_messages.specs.TurnTypesAttributes.TurnRegistry.{refresh_method}
use Rattle.turn_client_proto_messages.specs.Reported.{lifetime_reported}
use Rattle.turn_client_proto_messages.specs.TurnRuns.StunWire.{decoded_by}
use Rattle.turn_client_proto_handshake_laws.specs.Requested.{Requested, sent_of}
use Rattle.turn_client_proto_handshake_laws.specs.Choosing.{Choice, signer_by, standing_by}
use Rattle.turn_client_proto_messages.specs.Api.Sent.{Sent}
use Rattle.turn_client_proto_messages.specs.OwnClaims.{own_claim}
use Rattle.turn_client_proto_messages.specs.Api.Options.{allocation_lifetime}
use Rattle.turn_client_proto_messages.specs.Requests.{request_text}
use Rattle.turn_client_proto_messages.specs.ReportedRequests.{reported_request}
use Rattle.turn_client_proto_messages.specs.declared.request.TurnRequest.{TurnRequest}
use Rattle.turn_client_proto_messages.specs.declared.request.TurnRequest.TheVariants.{Refresh}
use Rattle.turn_client_proto_handshake_laws.specs.Sent.{Beginning}

-- The client's authenticator, once the success response to its signed ALLOCATE has come.
abbrev pub signed_by : Beginning → Choice → Client
signed_by b c = going_by (signer_by b c) (Some c.algorithm)

-- The requested lifetime: that of the first request.
abbrev pub refresh_for : TurnRequest
refresh_for = Refresh allocation_lifetime

-- The REFRESH with this transaction ID; as a request made at a time; and as it is transmitted.
abbrev pub refresh_request : Beginning → Choice → (transaction_id : ℕ) → List ℕ
refresh_request b c transaction_id = request_text (signed_by b c) refresh_for transaction_id

abbrev pub refresh_requested : Beginning → Choice → (transaction_id now : ℕ) → Requested
refresh_requested b c transaction_id now = record { number = transaction_id; bytes = refresh_request b c transaction_id; made = now }

abbrev pub refresh_sent : Beginning → Choice → (transaction_id now : ℕ) → Sent
refresh_sent b c transaction_id now = sent_of b (refresh_requested b c transaction_id now)

-- What the REFRESH is: a message and a request of method REFRESH with its transaction ID, which asks for that
-- lifetime. It validates under the key of the credentials in the realm of the challenge, and claims what the
-- challenge asks for.
pub record IsSignedRefresh (b : Beginning) (c : Choice) (transaction_id : ℕ) : Type 0 where
  pub message : refusal (refresh_request b c transaction_id) ≡ None
  pub request : is_request (refresh_request b c transaction_id) ≡ true
  pub number_is : number_at (refresh_request b c transaction_id) ≡ transaction_id
  pub method : method_of (kind_at (refresh_request b c transaction_id)) ≡ refresh_method
  pub reported : decoded_by (refresh_request b c transaction_id) ≡ reported_request refresh_for transaction_id
  pub valid : IsRight (refresh_request b c transaction_id) (standing_key (standing_by b c))
  pub claims : claimed (refresh_request b c transaction_id) ≡ own_claim b.config.anonymous_username (standing_by b c)

-- The message is the success response to the REFRESH with this transaction ID, valid under the key of the
-- credentials, with this lifetime in seconds.
pub record IsRenewal (b : Beginning) (c : Choice) (transaction_id lifetime : ℕ) (bytes : List ℕ) : Type 0 where
  pub number_is : number_at bytes ≡ transaction_id
  pub success : class_of (kind_at bytes) ≡ Success
  pub method : method_of (kind_at bytes) ≡ refresh_method
  pub right : IsRight bytes (standing_key (standing_by b c))
  pub lifetime_is : lifetime_reported bytes ≡ Some lifetime
