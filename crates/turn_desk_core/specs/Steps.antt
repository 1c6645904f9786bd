-- The reply to a request, and the state that it leaves (RFC 8489, section 9.2.4; RFC 8656, sections 7.2 to
-- 12.2).
use Rattle.std.specs.Prelude.{◌≡◌, ◌≢◌, ◌⊎◌, ◌<◌, ◌≤◌, ◌^◌, ℕ, List, [], ◌++◌, length, Option, Some, None}
use Rattle.std.specs.FinMap as map
use Rattle.std.specs.List.{IsDistinct}
use Rattle.std.specs.Option.{option_and_then, option_map}
use Rattle.std.specs.declared.net.socket_addr.SocketAddr.{SocketAddr}
use Rattle.rand_core.specs.Stream.{Stream}
use Rattle.stun_types_wire.specs.declared.algorithm.IntegrityAlgorithm.{IntegrityAlgorithm}
use Rattle.stun_types_wire.specs.Attributes.{Attr}
use Rattle.stun_types_wire.specs.Grammar.{number_at}
use Rattle.stun_types_wire.specs.Text.{message_text}
use Rattle.stun_types_wire.specs.MessageReading.{IsReadAs}
use Rattle.stun_types_add.specs.Integrity.Credentials.{Key}
use Rattle.stun_types_add.specs.Integrity.Integrity.{Validates}
use Rattle.stun_types_add.specs.Integrity.Signing.{text_to_sign}
use Rattle.stun_types_write.specs.ValueReading.{utf8_refusal}
use Rattle.stun_proto_verify.specs.declared.error.LongTermServerAuthError.{LongTermServerAuthError}
use Rattle.stun_proto_verify.specs.declared.error.LongTermServerAuthError.TheVariants.{BadRequest, StaleNonce, NoMemory}
use Rattle.stun_proto_verify.specs.Judgement.{user_key}
use Rattle.stun_proto_server.specs.Server.{Server, nonce_at, refreshed, with_outcome}
use Rattle.stun_proto_verify.specs.Auth.Addition.{attrs}
use Rattle.stun_proto_server.specs.ServerSigning.{Party, challenge_parts, key_in, party_at}
use Rattle.stun_proto_server.specs.ServerValidation.{Accepts, IsAfterNoMemory, Refuses}
use Rattle.stun_proto_verify.specs.Auth.SupportedAlgorithms.{is_same_algorithm}
use Rattle.turn_desk_core.specs.declared.decision.Decision.{Decision}
use Rattle.turn_desk_core.specs.declared.grant.Grant as granted
use Rattle.turn_desk_core.specs.declared.verdict.Verdict.{Verdict}
use Rattle.turn_desk_core.specs.Grants.{IsGrant}
use Rattle.turn_desk_core.specs.State.{State}
use Rattle.turn_desk_core.specs.Verdicts.{grants_of, reply_attributes, reply_type, verdict_on}
use Rattle.stun_types_message.specs.Objections.{error_type}
use Rattle.turn_desk_core.specs.Replies.{failure_attributes, signed_attributes, signed_text, success_type}
use Rattle.stun_types_wire.specs.Registry.{longest_text, most_algorithms}
use Rattle.stun_types_wire.specs.Registry.{bad_request_code, stale_nonce_code, unauthorized_code}

-- ---- the key of a party

-- The key of a party, if it was validated as a user.
abbrev pub key_of_party : Option Party → Option Key
key_of_party party = option_and_then (λ (p : Party). option_map (key_in p.realm) p.user) party

-- The key of the user who validated the last message from an address.
abbrev pub key_at : Server → SocketAddr → Option Key
key_at server from = key_of_party (party_at server from)

-- The bytes are a reply to the address, signed under the key of the user who validated the last message from
-- there. They can be read back as that reply, and validate under that key.
pub record IsSignedFor (server : Server) (from : SocketAddr) (kind transaction_id : ℕ) (attributes : List Attr)
    (reply : List ℕ) : Type 0 where
  pub key : Key
  pub own : key_at server from ≡ Some key
  pub text : reply ≡ signed_text kind transaction_id attributes key.bytes key.algorithm
  pub read : kind < 2 ^ 14 → transaction_id < 2 ^ 96
      → IsReadAs kind transaction_id (signed_attributes kind transaction_id attributes key.bytes key.algorithm) reply
  pub valid : kind < 2 ^ 14 → transaction_id < 2 ^ 96
      → Validates reply key.bytes key.algorithm (text_to_sign key.algorithm (message_text kind transaction_id attributes))

-- ---- what is visible to a party that was not validated

-- The party that a server has stored this nonce for, and that was not validated as a user.
abbrev pub unvalidated_party : Server → List ℕ → Party
unvalidated_party server nonce =
    record { realm = server.realm; nonce = nonce; algorithms = server.algorithms; user = None }

-- The attributes of a challenge: ERROR-CODE, and those that the server adds: REALM, NONCE, and
-- PASSWORD-ALGORITHMS if the nonce says so.
abbrev pub challenge_attributes : ℕ → Party → List Attr
challenge_attributes code party = failure_attributes code ++ attrs (challenge_parts party)

-- The attributes of the reply to a request that failed validation: ERROR-CODE alone if it is malformed,
-- otherwise those of a challenge.
abbrev pub refusal_attributes : LongTermServerAuthError → Party → List Attr
refusal_attributes BadRequest party = failure_attributes bad_request_code
refusal_attributes StaleNonce party = challenge_attributes stale_nonce_code party
refusal_attributes _ party = challenge_attributes unauthorized_code party

-- What a server adds for a party fits into its attributes and can be read back: the realm and the nonce are
-- UTF-8, there is at least one algorithm, and none is listed twice (RFC 8489, sections 14.9 to 14.11).
pub record FitsChallenge (party : Party) : Type 0 where
  pub realm : length party.realm ≤ longest_text
  pub nonce : length party.nonce ≤ longest_text
  pub algorithms : length party.algorithms ≤ most_algorithms
  pub realm_is_text : utf8_refusal party.realm ≡ None
  pub nonce_is_text : utf8_refusal party.nonce ≡ None
  pub never_empty : party.algorithms ≢ []
  pub distinct : IsDistinct is_same_algorithm party.algorithms

-- A reply to a request that failed validation. Its attributes are those that `shows` gives for the party at
-- the address, with the nonce that is stored for it.
pub record IsTurnedReply (server : Server) (from : SocketAddr) (bytes : List ℕ) (shows : Party → List Attr)
    (reply : List ℕ) : Type 0 where
  pub nonce : List ℕ
  pub stored : nonce_at server from ≡ Some nonce
  pub fits : FitsChallenge (unvalidated_party server nonce)
  pub text : reply ≡ message_text (error_type bytes) (number_at bytes) (shows (unvalidated_party server nonce))
  pub read : error_type bytes < 2 ^ 14 → number_at bytes < 2 ^ 96
      → IsReadAs (error_type bytes) (number_at bytes) (shows (unvalidated_party server nonce)) reply

-- ---- validation

-- The authenticator rejects the request with this error, and forgets the user at its address.
pub record IsUnauthenticated (old : Server) (from : SocketAddr) (bytes : List ℕ) (now : ℕ) (stream : Stream)
    (error : LongTermServerAuthError) (new : Server) : Type 0 where
  pub ample : error ≢ NoMemory
  pub refused : Refuses (refreshed old from now stream) from bytes error
  pub after : new ≡ with_outcome (refreshed old from now stream) from None

-- The authenticator accepts the request as that of a user, validated with an algorithm, and stores both for
-- its address.
pub record IsTaken (old : Server) (from : SocketAddr) (bytes : List ℕ) (now : ℕ) (stream : Stream) (name : List ℕ)
    (algorithm : IntegrityAlgorithm) (new : Server) : Type 0 where
  pub accepts : Accepts (refreshed old from now stream) from bytes algorithm name
  pub after : new ≡ with_outcome (refreshed old from now stream) from
      (Some (record { name = name; algorithm = algorithm }))

-- ---- results

-- The reply is an error response to a request that failed validation. A malformed request gets 400 alone.
-- Others get 401 or 438, with the realm, the nonce that is now valid for their address, and the supported
-- algorithms if that nonce says that there is a list. Nothing is granted. The attributes that the server adds
-- can be read back.
pub record IsChallenge (old : State) (from : SocketAddr) (bytes : List ℕ) (now : ℕ) (stream : Stream) (reply : List ℕ)
    (new : State) : Type 0 where
  pub error : LongTermServerAuthError
  pub judged : IsUnauthenticated old.auth from bytes now stream error new.auth
  pub nonce : List ℕ
  pub stored : nonce_at new.auth from ≡ Some nonce
  pub fits : FitsChallenge (unvalidated_party old.auth nonce)
  pub text : reply ≡ message_text (error_type bytes) (number_at bytes)
      (refusal_attributes error (unvalidated_party old.auth nonce))
  pub read : IsReadAs (error_type bytes) (number_at bytes)
      (refusal_attributes error (unvalidated_party old.auth nonce)) reply
  pub granted : new.grants ≡ old.grants

-- The reply to a user's request is the one for the verdict, signed under the key that validated the request,
-- and what the verdict grants is stored.
pub record IsVerdict (old : State) (from : SocketAddr) (bytes : List ℕ) (now : ℕ) (stream : Stream) (what : Verdict)
    (reply : List ℕ) (new : State) : Type 0 where
  pub name : List ℕ
  pub algorithm : IntegrityAlgorithm
  pub judged : IsTaken old.auth from bytes now stream name algorithm new.auth
  pub password : List ℕ
  pub present : map.get old.auth.users name ≡ Some password
  pub text : reply ≡ signed_text (reply_type bytes what) (number_at bytes) (reply_attributes bytes from what)
      (user_key old.auth.realm name password algorithm) algorithm
  pub read : IsReadAs (reply_type bytes what) (number_at bytes)
      (signed_attributes (reply_type bytes what) (number_at bytes) (reply_attributes bytes from what)
      (user_key old.auth.realm name password algorithm) algorithm) reply
  pub valid : Validates reply (user_key old.auth.realm name password algorithm) algorithm
      (text_to_sign algorithm (message_text (reply_type bytes what) (number_at bytes)
      (reply_attributes bytes from what)))
  pub granted : new.grants ≡ old.grants ++ grants_of bytes from what

-- The reply to a request that is served, under the application's decision.
abbrev pub IsAnswer : State → SocketAddr → List ℕ → ℕ → Stream → Decision → List ℕ → State → Type 0
IsAnswer old from bytes now stream decision reply new =
    IsChallenge old from bytes now stream reply new ⊎ IsVerdict old from bytes now stream
    (verdict_on bytes decision) reply new

-- The reply grants this. The request is a user's. The grant and the attributes of the reply depend on the
-- method. The reply is a success response with the request's method and transaction ID, signed under the key
-- that validated the request.
pub record IsGranted (old : State) (from : SocketAddr) (bytes : List ℕ) (now : ℕ) (stream : Stream)
    (decision : Decision) (reply : List ℕ) (grant : granted.Grant) : Type 0 where
  pub name : List ℕ
  pub algorithm : IntegrityAlgorithm
  pub accepts : Accepts (refreshed old.auth from now stream) from bytes algorithm name
  pub password : List ℕ
  pub present : map.get old.auth.users name ≡ Some password
  pub shows : List Attr
  pub granted_by : IsGrant bytes from decision shows grant
  pub read : IsReadAs (success_type bytes) (number_at bytes)
      (signed_attributes (success_type bytes) (number_at bytes) shows
      (user_key old.auth.realm name password algorithm) algorithm) reply

-- ---- out of memory

-- The authenticator after an allocation failed: it is unchanged, or as validation left it.
abbrev pub IsAuthAfter : Server → SocketAddr → List ℕ → ℕ → Stream → Server → Type 0
IsAuthAfter old from bytes now stream new =
    IsAfterNoMemory old from now stream new
    ⊎ (((error : LongTermServerAuthError) × IsUnauthenticated old from bytes now stream error new)
    ⊎ ((name : List ℕ) × (algorithm : IntegrityAlgorithm) × IsTaken old from bytes now stream name algorithm new))
