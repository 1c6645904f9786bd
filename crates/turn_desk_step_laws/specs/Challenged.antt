-- What a client reads in a server core's challenge (RFC 8489, sections 9.2.4, 9.2.5 and 14.11).
use Rattle.std.specs.Prelude.{◌≡◌, ◌<◌, ℕ, Bool, true, if◌then◌else◌, List, Option, Some, None}
use Rattle.std.specs.FinMap as map
use Rattle.std.specs.declared.net.socket_addr.SocketAddr.{SocketAddr}
use Rattle.turn_desk_core.specs.StunTypesWire.Grammar.{number_at}
use Rattle.turn_desk_core.specs.StunTypesWire.declared.algorithm.IntegrityAlgorithm.{IntegrityAlgorithm}
use Rattle.turn_client_proto_messages.specs.StunProtoClient.Challenges.{ChallengeFields, challenge_visible, list_for_choice}
use Rattle.turn_client_proto_messages.specs.StunProtoClient.Choice.{supports, takes}
use Rattle.turn_desk_core.specs.StunTypesBase.Times.{time_after}
use Rattle.turn_client_proto_messages.specs.StunProtoAuth.Nonce.{features_offered, features_in}
use Rattle.turn_desk_core.specs.StunProtoServer.Server.{Server, has_standing_nonce}
use Rattle.turn_desk_core.specs.StunProtoServer.ServerSigning.{Party}
use Rattle.turn_client_proto_messages.specs.StunProtoAuth.SupportedAlgorithms.{list_of}
use Rattle.turn_desk_core.specs.State.{State}

-- The list of a server's algorithms, if the nonce announces one.
abbrev pub list_offered : Party → Option (List ℕ)
list_offered party =
    if (features_in party.nonce).password_algorithms then Some (list_of party.algorithms) else None

-- A server's realm, the nonce that it has stored, and that list.
abbrev pub challenge_of : Party → ChallengeFields
challenge_of party = record {
  realm = party.realm;
  nonce = party.nonce;
  offered = list_offered party;
  listed = list_offered party;
}

-- The realm, the users and the settings are unchanged.
pub record HasSameSettings (old new : Server) : Type 0 where
  pub realm : new.realm ≡ old.realm
  pub users : new.users ≡ old.users
  pub nonce_expiry : new.nonce_expiry ≡ old.nonce_expiry
  pub algorithms : new.algorithms ≡ old.algorithms
  pub anonymous_username : new.anonymous_username ≡ old.anonymous_username
  pub max_clients : new.max_clients ≡ old.max_clients

-- The server core challenges an address for which it stored nothing:
--
-- - The reply has the transaction ID of the request, and is read as a challenge with the server core's realm.
-- - Its nonce announces the features that the server core offers. It is stored for the address as generated
--   at `now`, so it is valid until it expires.
-- - The challenge accepts exactly the algorithms that the server core supports, for a hardened client and for any
--   other.
-- - Nothing is granted, and no user or setting changes.
pub record IsFirstChallenge (old : State) (from : SocketAddr) (bytes : List ℕ) (now : ℕ) (reply : List ℕ) (new : State)
    : Type 0 where
  pub reported : ChallengeFields
  pub visible : challenge_visible reply ≡ Some reported
  pub number : number_at reply ≡ number_at bytes
  pub realm : reported.realm ≡ old.auth.realm
  pub features : features_in reported.nonce ≡ features_offered old.auth.algorithms old.auth.anonymous_username
  pub takes_own : (hardened : Bool) (algorithm : IntegrityAlgorithm)
      → takes hardened (list_for_choice hardened reported) algorithm ≡ supports old.auth.algorithms algorithm
  pub list : (hardened : Bool) → list_for_choice hardened reported ≡ (if (features_in reported.nonce).password_algorithms
      then Some (list_of old.auth.algorithms)
      else None)
  pub stored : map.get new.auth.clients from
      ≡ Some (record { nonce = reported.nonce; generated = now; outcome = None })
  pub occurs : (later : ℕ) → later < time_after now old.auth.nonce_expiry
      → has_standing_nonce new.auth from later ≡ true
  pub settings : HasSameSettings old.auth new.auth
  pub granted : new.grants ≡ old.grants
