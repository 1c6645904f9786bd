-- What contracts see of a server's side of long-term authentication.
use Rattle.std.specs.Prelude.{◌≡◌, ℕ, ◌/◌, nat_lt, Bool, ◌&&◌, not, false, if◌then◌else◌, is_some, List, Option, None, Some, refl}
use Rattle.std.specs.Cmp.Lexicographic.{slice_cmp}
use Rattle.std.specs.Coded.{Coded, code_by, coded×, coded_ℕ, coded_list, coded_option}
use Rattle.std.specs.FinMap as map
use Rattle.std.specs.Option.{option_map, option_and_then}
use Rattle.std.specs.Ordering.{nat_cmp}
use Rattle.std.specs.contracts.net.socket_addr.SocketAddr as addr
use Rattle.std.specs.declared.net.socket_addr.SocketAddr.{SocketAddr}
use Rattle.rand_core.specs.Stream.{Stream}
use Rattle.stun_proto_verify.specs.Base.Times.{time_after}
use Rattle.stun_proto_verify.specs.Auth.contracts.feature.Feature as feature
use Rattle.stun_proto_verify.specs.Auth.declared.feature.Feature.{Feature}
use Rattle.stun_proto_verify.specs.Auth.Nonce.{features_offered, nonce_text}
use Rattle.stun_proto_verify.specs.Auth.declared.nonce.TheConstants.{NONCE_WORDS}
use Rattle.stun_proto_verify.specs.Knowledge.{Outcome}
use Rattle.stun_proto_verify.specs.Base.SocketAddrs.{socket_addr_cmp}
use Rattle.stun_proto_verify.specs.Base.GeneratorWords.{words_of}
use Rattle.stun_proto_verify.specs.Wire.contracts.algorithm.IntegrityAlgorithm as algorithm
use Rattle.stun_proto_verify.specs.Wire.declared.algorithm.IntegrityAlgorithm.{IntegrityAlgorithm}

-- What is stored for one address: the text of the nonce, the time of its generation, and the last outcome
-- under it if that was a validation.
pub record Client : Type 0 where
  pub nonce : List ℕ
  pub generated : ℕ
  pub outcome : Option Outcome

-- What is stored for all addresses.
abbrev pub Clients : Type 0
Clients = map.FinMap socket_addr_cmp Client

-- A server: the realm, each user's password by name, what is stored for each address, the lifetime of a nonce
-- in nanoseconds, the algorithms that it supports, its setting for hashed names, and for how many addresses it
-- stores something, if that is limited.
pub record Server : Type 0 where
  pub realm : List ℕ
  pub users : map.FinMap (slice_cmp nat_cmp) (List ℕ)
  pub clients : map.FinMap socket_addr_cmp Client
  pub nonce_expiry : ℕ
  pub algorithms : List IntegrityAlgorithm
  pub anonymous_username : Feature
  pub max_clients : Option ℕ

-- The encoding of an outcome.
abbrev pub outcome_code : Coded Outcome
outcome_code =
    code_by (List ℕ × IntegrityAlgorithm) (coded× (coded_list coded_ℕ) algorithm.the_row.coded)
    (λ o. (o.name, o.algorithm)) (λ p. record { name = p.0; algorithm = p.1 }) (λ _. refl)

-- The encoding of what is stored for one address.
abbrev pub client_code : Coded Client
client_code =
    code_by (List ℕ × (ℕ × Option Outcome)) (coded× (coded_list coded_ℕ) (coded× coded_ℕ (coded_option outcome_code)))
    (λ c. (c.nonce, (c.generated, c.outcome))) (λ p. record { nonce = p.0; generated = p.1.0; outcome = p.1.1 }) (λ _. refl)

-- The encoding of the users.
abbrev pub users_code : Coded (map.FinMap (slice_cmp nat_cmp) (List ℕ))
users_code = map.code (coded_list coded_ℕ) (coded_list coded_ℕ)

-- The encoding of what is stored for all addresses.
abbrev pub clients_code : Coded (map.FinMap socket_addr_cmp Client)
clients_code = map.code addr.the_row.coded client_code

-- The encoding of a server.
abbrev pub server_code : Coded Server
server_code =
    code_by (List ℕ × (map.FinMap (slice_cmp nat_cmp) (List ℕ)
    × (map.FinMap socket_addr_cmp Client × (ℕ × (List IntegrityAlgorithm × (Feature × Option ℕ))))))
    (coded× (coded_list coded_ℕ) (coded× users_code (coded× clients_code
    (coded× coded_ℕ (coded× (coded_list algorithm.the_row.coded)
    (coded× feature.the_row.coded (coded_option coded_ℕ)))))))
    (λ s. (
      s.realm,
      (
        s.users,
        (
          s.clients,
          (
            s.nonce_expiry,
            (s.algorithms, (s.anonymous_username, s.max_clients)),
          ),
        ),
      ),
    ))
    (λ p. record {
      realm = p.0;
      users = p.1.0;
      clients = p.1.1.0;
      nonce_expiry = p.1.1.1.0;
      algorithms = p.1.1.1.1.0;
      anonymous_username = p.1.1.1.1.1.0;
      max_clients = p.1.1.1.1.1.1;
    })
    (λ _. refl)

-- The nonce that is stored for an address, valid or expired.
abbrev pub nonce_at : Server → SocketAddr → Option (List ℕ)
nonce_at server client = option_map (λ (stored : Client). stored.nonce) (map.get server.clients client)

-- The outcome that is stored for an address.
abbrev pub outcome_at : Server → SocketAddr → Option Outcome
outcome_at server client = option_and_then (λ (stored : Client). stored.outcome) (map.get server.clients client)

-- Whether a nonce is valid at `now`: there is one, and `now` is before its generation plus its lifetime.
abbrev pub is_standing : ℕ → ℕ → Option Client → Bool
is_standing expiry now None = false
is_standing expiry now (Some stored) = nat_lt now (time_after stored.generated expiry)

-- Whether the nonce that is stored for an address is valid at `now`.
abbrev pub has_standing_nonce : Server → SocketAddr → ℕ → Bool
has_standing_nonce server client now = is_standing server.nonce_expiry now (map.get server.clients client)

-- ---- room for one more address

-- Whether the last message from an address was validated.
abbrev pub is_validated : Option Client → Bool
is_validated found = is_some (option_and_then (λ (stored : Client). stored.outcome) found)

-- The clients whose last message was validated.
abbrev pub validated_clients : Clients → Clients
validated_clients clients = map.retain_keys clients (λ address. is_validated (map.get clients address))

-- The clients that stay when room is made under a limit: those whose last message was validated or, if they
-- are more than half of the limit, none.
abbrev pub staying : ℕ → Clients → Clients
staying most clients = if nat_lt (most / 2) (map.len (validated_clients clients)) then map.empty
    else validated_clients clients

abbrev pub staying_by : Option ℕ → Clients → Clients
staying_by None clients = clients
staying_by (Some most) clients = staying most clients

-- Whether an address can't be added within a limit: nothing is stored for it, and the limit is reached.
abbrev pub is_full : Option ℕ → Clients → SocketAddr → Bool
is_full None clients address = false
is_full (Some most) clients address =
    not (map.contains_key clients address) && not (nat_lt (map.len clients) most)

-- The clients, once there is room for an address.
abbrev pub room_for : Option ℕ → Clients → SocketAddr → Clients
room_for most clients address = if is_full most clients address then staying_by most clients else clients

-- Whether a nonce for an address makes room, for which what is stored for others is removed. Without a limit
-- it never does.
abbrev pub makes_room : Server → SocketAddr → Bool
makes_room server from = is_full server.max_clients server.clients from

-- ---- nonces

-- What is stored when a nonce is generated at `now`: the nonce made from the next words of the stream, which
-- announces the server's features.
abbrev pub new_client : Server → ℕ → Stream → Client
new_client server now stream = record {
  nonce = nonce_text (features_offered server.algorithms server.anonymous_username) (words_of NONCE_WORDS stream);
  generated = now;
  outcome = None;
}

-- The server with a new nonce for an address, for which room is made first if need be.
abbrev pub with_new_nonce : Server → SocketAddr → ℕ → Stream → Server
with_new_nonce server from now stream = record server {
  clients = map.insert (room_for server.max_clients server.clients from) from
      (new_client server now stream);
}

-- The server with a valid nonce for an address: unchanged if it has one, otherwise with a new one.
abbrev pub refreshed : Server → SocketAddr → ℕ → Stream → Server
refreshed server from now stream = if has_standing_nonce server from now then server
    else with_new_nonce server from now stream

-- The clients with a new outcome for an address; unchanged if nothing is stored for it.
abbrev pub set_outcome : map.FinMap socket_addr_cmp Client → SocketAddr → Option Outcome → Option Client
    → map.FinMap socket_addr_cmp Client
set_outcome clients from outcome None = clients
set_outcome clients from outcome (Some stored) = map.insert clients from (record stored { outcome = outcome })

-- The server with a new outcome for an address.
abbrev pub with_outcome : Server → SocketAddr → Option Outcome → Server
with_outcome server from outcome = record server {
  clients = set_outcome server.clients from outcome
      (map.get server.clients from);
}

-- How many random words `refresh_nonce` generates.
abbrev pub words_generated : Server → SocketAddr → ℕ → ℕ
words_generated server from now = if has_standing_nonce server from now then 0 else NONCE_WORDS

-- Two servers that an address can't distinguish: they have the same realm, users and settings, and store the
-- same for the address.
pub record SameFor (client : SocketAddr) (old new : Server) : Type 0 where
  pub realm : new.realm ≡ old.realm
  pub users : new.users ≡ old.users
  pub nonce_expiry : new.nonce_expiry ≡ old.nonce_expiry
  pub algorithms : new.algorithms ≡ old.algorithms
  pub anonymous_username : new.anonymous_username ≡ old.anonymous_username
  pub max_clients : new.max_clients ≡ old.max_clients
  pub stored : map.get new.clients client ≡ map.get old.clients client
