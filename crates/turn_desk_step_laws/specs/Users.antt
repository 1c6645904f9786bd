-- What a server core answers to a request of one of its users (RFC 8489, section 9.2.4; RFC 8656, sections
-- 7.2 and 7.3).
use Rattle.std.specs.Prelude.{◌≡◌, ℕ, true, List, [], ◌∷◌, ◌++◌, Some, None, IsSome}
use Rattle.std.specs.FinMap as map
use Rattle.std.specs.List.{AllByRecursion}
use Rattle.std.specs.declared.net.socket_addr.SocketAddr.{SocketAddr}
use Rattle.turn_desk_core.specs.StunTypesWire.Attributes.{kind_at}
use Rattle.turn_desk_core.specs.StunTypesWire.Grammar.{number_at, refusal}
use Rattle.turn_client_proto_messages.specs.StunTypesIntegrity.Integrity.{Validates}
use Rattle.turn_desk_core.specs.StunTypesWire.declared.algorithm.IntegrityAlgorithm.{IntegrityAlgorithm}
use Rattle.turn_desk_core.specs.StunTypesWire.declared.class.MessageClass.TheVariants.{Success}
use Rattle.turn_desk_core.specs.StunTypesWire.MessageReading.{IsReadAs}
use Rattle.turn_client_proto_messages.specs.StunTypesIntegrity.Signing.{text_to_sign}
use Rattle.turn_desk_core.specs.StunTypesWire.Text.{message_text}
use Rattle.turn_desk_core.specs.StunTypesWire.Types.{class_of, method_of}
use Rattle.turn_desk_core.specs.StunTypesBase.declared.transport.TransportType.{TransportType}
use Rattle.turn_client_proto_messages.specs.StunProtoAuth.Claims.{claimed}
use Rattle.turn_client_proto_messages.specs.StunProtoAuth.Nonce.{takes_anonymous_username}
use Rattle.turn_desk_core.specs.StunProtoVerify.Consistency.{AreConsistent}
use Rattle.turn_desk_core.specs.StunProtoVerify.Judgement.{user_key}
use Rattle.turn_desk_core.specs.StunProtoServer.Server.{Server, with_outcome}
use Rattle.turn_desk_core.specs.StunProtoServer.Users.{IsClaimedName}
use Rattle.turn_desk_core.specs.TurnTypesAttributes.TurnRegistry.{allocate_method, lifetime_kind, xor_relayed_address_kind}
use Rattle.turn_desk_core.specs.TurnTypesPeer.TurnShows.{address_in, addresses_visible, each_visible, number_visible}
use Rattle.turn_desk_core.specs.Replies.{signed_attributes, signed_text}
use Rattle.turn_desk_core.specs.State.{State}
use Rattle.turn_desk_core.specs.Verdicts.{bare_grant, grants_of, reply_attributes, reply_type}
use Rattle.turn_desk_core.specs.declared.verdict.Verdict.{Verdict}

-- A user of a server, and the algorithm by which it signs.
pub record Signatory : Type 0 where
  pub name : List ℕ
  pub password : List ℕ
  pub algorithm : IntegrityAlgorithm

-- The user's key in a server's realm.
abbrev pub key_of : Server → Signatory → List ℕ
key_of server user = user_key server.realm user.name user.password user.algorithm

-- The message is what a server requires of this user, under this nonce. The server has the user. The message
-- names the user, by a hash only if the server takes hashes; it shows a realm, this nonce and consistent
-- algorithms, and validates under the user's key; its last integrity attribute is of the user's algorithm.
pub record IsOfUser (server : Server) (nonce bytes : List ℕ) (user : Signatory) : Type 0 where
  pub present : map.get server.users user.name ≡ Some user.password
  pub last : (claimed bytes).integrity ≡ Some user.algorithm
  pub named : IsClaimedName server.realm (claimed bytes).username (claimed bytes).user_hash user.name
  pub hash_taken : (claimed bytes).username ≡ None → takes_anonymous_username server.anonymous_username ≡ true
  pub realm : List ℕ
  pub has_realm : (claimed bytes).realm ≡ Some realm
  pub has_nonce : (claimed bytes).nonce ≡ Some nonce
  pub consistent : AreConsistent server.algorithms (claimed bytes) user.algorithm
  pub text : List ℕ
  pub validates : Validates bytes (key_of server user) user.algorithm text

-- The server, which now has stored this user as the one at the address.
abbrev pub knowing : Server → SocketAddr → Signatory → Server
knowing server from user = with_outcome server from (Some (record { name = user.name; algorithm = user.algorithm }))

-- The reply is as the verdict says, is signed under the user's key, and validates under it. What the verdict
-- grants is recorded.
pub record IsUserAnswered (old : State) (from : SocketAddr) (bytes : List ℕ) (what : Verdict) (user : Signatory)
    (reply : List ℕ) (new : State) : Type 0 where
  pub text : reply ≡ signed_text (reply_type bytes what) (number_at bytes) (reply_attributes bytes from what)
      (key_of old.auth user) user.algorithm
  pub read : IsReadAs (reply_type bytes what) (number_at bytes)
      (signed_attributes (reply_type bytes what) (number_at bytes) (reply_attributes bytes from what)
      (key_of old.auth user) user.algorithm) reply
  pub valid : Validates reply (key_of old.auth user) user.algorithm
      (text_to_sign user.algorithm
      (message_text (reply_type bytes what) (number_at bytes) (reply_attributes bytes from what)))
  pub stored : new.auth ≡ knowing old.auth from user
  pub granted : new.grants ≡ old.grants ++ grants_of bytes from what

-- The reply is a success response to an ALLOCATE, with the request's transaction ID. It shows exactly these
-- relayed addresses, each well formed, and this lifetime, and it validates under the user's key. The server
-- core records one more grant, which says the same.
pub record IsAllocationGranted (old : State) (from : SocketAddr) (bytes : List ℕ) (transport : TransportType)
    (relayed : List SocketAddr) (lifetime : ℕ) (user : Signatory) (reply : List ℕ) (new : State) : Type 0 where
  pub message : refusal reply ≡ None
  pub success : class_of (kind_at reply) ≡ Success
  pub method : method_of (kind_at reply) ≡ allocate_method
  pub number : number_at reply ≡ number_at bytes
  pub shows : addresses_visible xor_relayed_address_kind reply ≡ relayed
  pub each : AllByRecursion (λ a. IsSome (address_in (number_at reply) a))
      (each_visible xor_relayed_address_kind reply)
  pub decodes : number_visible 4 lifetime_kind reply ≡ Some lifetime
  pub text : List ℕ
  pub valid : Validates reply (key_of old.auth user) user.algorithm text
  pub stored : new.auth ≡ knowing old.auth from user
  pub granted : new.grants ≡ old.grants ++ record (bare_grant bytes from) {
    transport = Some transport;
    relayed = relayed;
    lifetime = Some lifetime;
  } ∷ []
