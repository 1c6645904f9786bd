-- How room is made once a record is stored: beside that one.
use Rattle.std.specs.Prelude.{ℕ, ◌/◌, ◌+◌, nat_lt, Bool, ◌&&◌, ◌||◌, true, false, if◌then◌else◌, Option, Some, None}
use Rattle.std.specs.FinMap as map
use Rattle.std.specs.Ordering.{eq_by_cmp}
use Rattle.std.specs.declared.net.socket_addr.SocketAddr.{SocketAddr}
use Rattle.stun_proto_verify.specs.Base.SocketAddrs.{socket_addr_cmp}
use Rattle.stun_proto_server.specs.Server.{Clients, is_full, is_validated}

-- The limit, if an address can't be added within it.
abbrev pub room_due : Option ℕ → Clients → SocketAddr → Option ℕ
room_due most clients address = if is_full most clients address then most else None

-- What is stored for one address and, if `others` is true, for those whose last message was validated.
abbrev pub beside : Bool → SocketAddr → Clients → Clients
beside others own clients = map.retain_keys clients
    (λ address. eq_by_cmp socket_addr_cmp own address || (others && is_validated (map.get clients address)))

-- Room made under a limit for what is stored for one address.
abbrev pub room_beside : ℕ → SocketAddr → Clients → Clients
room_beside most own clients = if nat_lt (most / 2 + 1) (map.len (beside true own clients))
    then beside false own (beside true own clients) else beside true own clients

abbrev pub room_by : SocketAddr → Option ℕ → Clients → Clients
room_by own None clients = clients
room_by own (Some most) clients = room_beside most own clients
