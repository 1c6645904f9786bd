-- A client's requests as a server core accepts them (RFC 8489, section 9.2; RFC 8656, section 7.2).
use Rattle.std.specs.Prelude.{◌≡◌, ℕ, true, List, Option, Some, None, if◌then◌else◌}
use Rattle.std.specs.FinMap as map
use Rattle.std.specs.List.{list_any}
use Rattle.std.specs.declared.net.socket_addr.SocketAddr.{SocketAddr}
use Rattle.turn_desk_core.specs.StunTypesWire.declared.algorithm.IntegrityAlgorithm.{IntegrityAlgorithm}
use Rattle.turn_client_proto_messages.specs.StunProtoClient.Client.{Standing}
use Rattle.turn_desk_core.specs.StunProtoServer.Server.{Server, nonce_at}
use Rattle.turn_client_proto_messages.specs.StunProtoAuth.Nonce.{features_in, takes_anonymous_username}
use Rattle.turn_client_proto_messages.specs.StunProtoAuth.SupportedAlgorithms.{is_same_algorithm, list_of, needs_password_algorithms}
use Rattle.turn_desk_step_laws.specs.Users.{Signatory}

-- The list that a server gives with a challenge, if it gives one.
abbrev pub list_given : List IntegrityAlgorithm → Option (List ℕ)
list_given algorithms = if needs_password_algorithms algorithms then Some (list_of algorithms) else None

-- The client's credentials and challenge are those of a user of this server. The server has the user with
-- that name and password. The challenge has the server's realm, the nonce that it has stored for the address,
-- its list of algorithms, and an algorithm that the client chose and that the server supports. If the nonce
-- announces that hashed names are taken, the server takes them.
pub record IsOfServer (server : Server) (from : SocketAddr) (s : Standing) : Type 0 where
  pub present : map.get server.users s.account.username ≡ Some s.account.password
  pub realm : s.challenge.realm ≡ server.realm
  pub nonce : nonce_at server from ≡ Some s.challenge.nonce
  pub offered : s.challenge.offered ≡ list_given server.algorithms
  pub choice : list_any (is_same_algorithm s.challenge.choice) server.algorithms ≡ true
  pub hashes : (features_in s.challenge.nonce).anonymous_username ≡ true
      → takes_anonymous_username server.anonymous_username ≡ true

-- That user, with the algorithm that the client chose and signs by.
abbrev pub user_of : Standing → Signatory
user_of s =
    record { name = s.account.username; password = s.account.password; algorithm = s.challenge.choice }
