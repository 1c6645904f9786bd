-- The server that the fields of a `LongTermServerAuth` represent.
use Rattle.std.specs.Prelude.{ℕ, Bool, ◌&&◌, ◌||◌, is_some, List, map}
use Rattle.std.specs.BTreeMap.{BTreeMap}
use Rattle.std.specs.Duration.{as_nanos}
use Rattle.std.specs.FinMap as finite
use Rattle.std.specs.Ordering.{eq_by_cmp}
use Rattle.std.specs.String.{string_bytes}
use Rattle.std.specs.declared.alloc.Global.{Global}
use Rattle.std.specs.declared.net.socket_addr.SocketAddr.{SocketAddr}
use Rattle.std.specs.declared.string.String.{String}
use Rattle.stun_proto_verify.specs.Base.SocketAddrs.{socket_addr_cmp}
use Rattle.stun_proto_server.specs.Server.{Client, Clients, Server}
use Rattle.stun_proto_server.specs.declared.long_term.ClientRecord.{ClientRecord}
use Rattle.stun_proto_server.specs.declared.long_term.LongTermServerAuth.TheInside.{Inside}
use Rattle.stun_proto_server.specs.declared.users.KeyedUser.{KeyedUser}

-- What is stored for one address.
abbrev pub client_of : ClientRecord → Client
client_of stored = record { nonce = stored.nonce; generated = stored.generated; outcome = stored.outcome }

-- What is stored for all addresses.
abbrev pub clients_of : BTreeMap SocketAddr ClientRecord → Clients
clients_of stored = finite.from_entries (map (λ e. (e.0, client_of e.1)) stored.entries)

-- Whether a record stays if all are removed but that of `own` and, if `others` is true, those whose last
-- message was validated.
abbrev pub stays : Bool → SocketAddr → SocketAddr → ClientRecord → Bool
stays others own address stored = eq_by_cmp socket_addr_cmp own address || (others && is_some stored.outcome)

-- The server.
abbrev pub server_of : Inside → Server
server_of s = record {
  realm = string_bytes s.realm;
  users = finite.from_entries (map (λ e. (string_bytes e.0, e.1.credentials.password)) s.users.by_name.entries);
  clients = clients_of s.clients;
  nonce_expiry = as_nanos s.nonce_expiry;
  algorithms = s.supported;
  anonymous_username = s.anonymous_username;
  max_clients = s.max_clients;
}

-- The name and the record of an entry's user.
abbrev pub pair_of : String Global × KeyedUser → List ℕ × KeyedUser
pair_of entry = (string_bytes entry.0, entry.1)
