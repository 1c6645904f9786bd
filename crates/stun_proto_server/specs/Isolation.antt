-- How two servers that an address can't distinguish respond to it, and what calls leave of them (RFC 8489,
-- section 9.2).
use Rattle.std.specs.Prelude.{◌≡◌, ◌↔◌, ℕ, false, List, [], ◌∷◌, Option}
use Rattle.std.specs.FinMap as map
use Rattle.std.specs.declared.net.socket_addr.SocketAddr.{SocketAddr}
use Rattle.rand_core.specs.Stream.{Stream}
use Rattle.stun_proto_verify.specs.Wire.declared.algorithm.IntegrityAlgorithm.{IntegrityAlgorithm}
use Rattle.stun_proto_verify.specs.Wire.declared.class.MessageClass.{MessageClass}
use Rattle.stun_proto_verify.specs.Auth.SupportedAlgorithms.{with_algorithm}
use Rattle.stun_proto_verify.specs.Auth.declared.feature.Feature.{Feature}
use Rattle.stun_proto_verify.specs.declared.error.LongTermServerAuthError.{LongTermServerAuthError}
use Rattle.stun_proto_verify.specs.Knowledge.{Outcome}
use Rattle.stun_proto_server.specs.Server.{SameFor, Server, makes_room, nonce_at, outcome_at, refreshed, with_outcome, words_generated}
use Rattle.stun_proto_server.specs.ServerSigning.{addition_for}
use Rattle.stun_proto_server.specs.ServerValidation.{Accepts, Refuses, WantsMemory}

-- Two servers treat an address alike: they have the same nonce and outcome for it, generate the same count of
-- random words, accept and reject the same messages, need memory for the same messages, and add the same to a
-- message to it.
pub record AnswersAlike (client : SocketAddr) (a b : Server) : Type 0 where
  pub nonce : nonce_at b client ≡ nonce_at a client
  pub outcome : outcome_at b client ≡ outcome_at a client
  pub generated : (now : ℕ) → words_generated b client now ≡ words_generated a client now
  pub accepts : (bytes : List ℕ) (algorithm : IntegrityAlgorithm) (name : List ℕ)
      → Accepts a client bytes algorithm name ↔ Accepts b client bytes algorithm name
  pub refuses : (bytes : List ℕ) (error : LongTermServerAuthError)
      → Refuses a client bytes error ↔ Refuses b client bytes error
  pub wants : (bytes : List ℕ) (now : ℕ) (stream : Stream)
      → WantsMemory a client bytes now stream ↔ WantsMemory b client bytes now stream
  pub adds : (class : MessageClass) → addition_for b client class ≡ addition_for a client class

-- After a call for the address, it still can't distinguish the two servers. The calls generate a nonce if one
-- is due, store an outcome, or remove what is stored for the address.
pub record LeavesAlike (client : SocketAddr) (a b : Server) : Type 0 where
  pub refreshes : (now : ℕ) (stream : Stream)
      → SameFor client (refreshed a client now stream) (refreshed b client now stream)
  pub keeps : (outcome : Option Outcome)
      → SameFor client (with_outcome a client outcome) (with_outcome b client outcome)
  pub forgets : SameFor client (record a { clients = map.remove a.clients client })
      (record b { clients = map.remove b.clients client })

-- After the same change of users or settings, the address still can't distinguish the two servers.
pub record SetsAlike (client : SocketAddr) (a b : Server) : Type 0 where
  pub user_added : (name password : List ℕ) → SameFor client (record a { users = map.insert a.users name password })
      (record b { users = map.insert b.users name password })
  pub user_removed : (name : List ℕ) → SameFor client (record a { users = map.remove a.users name })
      (record b { users = map.remove b.users name })
  pub expiry_set : (expiry : ℕ) → SameFor client (record a { nonce_expiry = expiry })
      (record b { nonce_expiry = expiry })
  pub algorithm_added : (algorithm : IntegrityAlgorithm)
      → SameFor client (record a { algorithms = with_algorithm a.algorithms algorithm })
      (record b { algorithms = with_algorithm b.algorithms algorithm })
  pub algorithm_set : (algorithm : IntegrityAlgorithm)
      → SameFor client (record a { algorithms = algorithm ∷ [] }) (record b { algorithms = algorithm ∷ [] })
  pub anonymity_set : (feature : Feature) → SameFor client (record a { anonymous_username = feature })
      (record b { anonymous_username = feature })
  pub limit_set : (most : Option ℕ) → SameFor client (record a { max_clients = most }) (record b { max_clients = most })

-- An address can't distinguish a server from what calls for another address make of it, if a nonce for that one
-- makes no room.
pub record LeavesAlone (client other : SocketAddr) (server : Server) : Type 0 where
  pub refreshes : (now : ℕ) (stream : Stream) → makes_room server other ≡ false
      → SameFor client server (refreshed server other now stream)
  pub keeps : (outcome : Option Outcome) → SameFor client server (with_outcome server other outcome)
  pub forgets : SameFor client server (record server { clients = map.remove server.clients other })
