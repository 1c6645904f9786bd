-- What a server checks a message against, and what a validation leaves (RFC 8489, section 9.2.4).
use Rattle.std.specs.Prelude.{◌≡◌, ◌⊎◌, ℕ, false, List, Option, Some, None, if◌then◌else◌}
use Rattle.std.specs.declared.net.socket_addr.SocketAddr.{SocketAddr}
use Rattle.rand_core.specs.Stream.{Stream}
use Rattle.stun_proto_verify.specs.Wire.declared.algorithm.IntegrityAlgorithm.{IntegrityAlgorithm}
use Rattle.stun_proto_verify.specs.Auth.Claims.{claimed}
use Rattle.stun_proto_verify.specs.Knowledge.{Knowledge, Named}
use Rattle.stun_proto_verify.specs.Judgement.{IsRefused, ServerAccepts, is_response}
use Rattle.stun_proto_verify.specs.declared.error.LongTermServerAuthError.{LongTermServerAuthError}
use Rattle.stun_proto_server.specs.declared.validation.LongTermServerValidation.{LongTermServerValidation}
use Rattle.stun_proto_server.specs.declared.validation.LongTermServerValidation.TheVariants.{Validated}
use Rattle.stun_proto_server.specs.Users.{IsFound, Names}
use Rattle.stun_proto_server.specs.Server.{Server, has_standing_nonce, nonce_at, refreshed, with_outcome, words_generated}

-- What a server knows that concerns a message from an address, with the user that the message names.
abbrev pub known_of : Server → SocketAddr → Option Named → Knowledge
known_of server from found = record {
  realm = server.realm;
  algorithms = server.algorithms;
  anonymous_username = server.anonymous_username;
  nonce = nonce_at server from;
  user = found;
}

-- The server accepts a message from an address, with an algorithm, as that of a user whom the message names.
pub record Accepts (server : Server) (from : SocketAddr) (bytes : List ℕ) (algorithm : IntegrityAlgorithm)
    (name : List ℕ) : Type 0 where
  pub password : List ℕ
  pub named : Names server (claimed bytes) (record { name = name; password = password })
  pub judged : ServerAccepts (known_of server from (Some (record { name = name; password = password }))) bytes
      algorithm name

-- The server accepts a message from an address as that of some user, with some algorithm.
pub record AcceptsSome (server : Server) (from : SocketAddr) (bytes : List ℕ) : Type 0 where
  pub algorithm : IntegrityAlgorithm
  pub name : List ℕ
  pub accepts : Accepts server from bytes algorithm name

-- The server rejects a message from an address. A response is rejected for being one; any other message by
-- what the server knows, with the user that the message names.
pub record Refuses (server : Server) (from : SocketAddr) (bytes : List ℕ) (error : LongTermServerAuthError)
    : Type 0 where
  pub found : Option Named
  pub is_found : is_response bytes ≡ false → IsFound server (claimed bytes) found
  pub refused : IsRefused (known_of server from found) bytes error

-- How many random words a validation generates.
abbrev pub words_of_validation : Server → SocketAddr → List ℕ → ℕ → ℕ
words_of_validation server from bytes now = if is_response bytes then 0 else words_generated server from now

-- The server after a rejection with an error other than `NoMemory`.
abbrev pub after_refusal : Server → SocketAddr → List ℕ → ℕ → Stream → Server
after_refusal server from bytes now stream = if is_response bytes then server
    else with_outcome (refreshed server from now stream) from None

-- The server after `NoMemory`: unchanged, or with a valid nonce for the address.
abbrev pub IsAfterNoMemory : Server → SocketAddr → ℕ → Stream → Server → Type 0
IsAfterNoMemory server from now stream new = (new ≡ server) ⊎ (new ≡ refreshed server from now stream)

-- A message from an address needs memory. It is not a response, and either a nonce is due, or the message is
-- accepted and the name of its user is to be stored.
pub record WantsMemory (server : Server) (from : SocketAddr) (bytes : List ℕ) (now : ℕ) (stream : Stream) : Type 0 where
  pub no_response : is_response bytes ≡ false
  pub due : (has_standing_nonce server from now ≡ false)
      ⊎ AcceptsSome (refreshed server from now stream) from bytes

-- A validation with an algorithm: the server accepts the message as that of a user, and stores the user and
-- the algorithm for the address.
pub record IsValidatedBy (server : Server) (from : SocketAddr) (bytes : List ℕ) (algorithm : IntegrityAlgorithm)
    (new : Server) : Type 0 where
  pub name : List ℕ
  pub accepts : Accepts server from bytes algorithm name
  pub stored : new ≡ with_outcome server from (Some (record { name = name; algorithm = algorithm }))

-- What the result of a validation states.
abbrev pub IsValidated : Server → SocketAddr → List ℕ → LongTermServerValidation → Server → Type 0
IsValidated server from bytes (Validated algorithm) new = IsValidatedBy server from bytes algorithm new
