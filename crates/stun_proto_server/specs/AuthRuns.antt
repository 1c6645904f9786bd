-- Runs of an authenticator's calls, and the part of a run that concerns one address (RFC 8489, section 9.2).
use Rattle.std.specs.Prelude.{◌≡◌, Bool, true, false, List, [], ◌∷◌, None, filter, map}
use Rattle.std.specs.FinMap as finite
use Rattle.std.specs.List.{AllByRecursion}
use Rattle.std.specs.Ordering.{eq_by_cmp}
use Rattle.std.specs.declared.net.socket_addr.SocketAddr.{SocketAddr}
use Rattle.stun_proto_verify.specs.Base.SocketAddrs.{socket_addr_cmp}
use Rattle.stun_proto_verify.specs.Auth.Claims.{claimed}
use Rattle.stun_proto_server.specs.AuthCalls.{AuthAnswer, AuthCall, IsCalled}
use Rattle.stun_proto_server.specs.AuthCalls as call
use Rattle.stun_proto_server.specs.Server.{SameFor, Server, makes_room}
use Rattle.stun_proto_server.specs.Users.{NamesOne}

-- A run: pairs of a call and its result. Each call is made on the server that the previous call left, and
-- none fails with `NoMemory`.
unfoldable pub IsAuthRun : Server → List (AuthCall × AuthAnswer) → Server → Type 0
IsAuthRun old [] new = new ≡ old
IsAuthRun old (pair ∷ pairs) new = (next : Server) × IsCalled pair.0 pair.1 old next × IsAuthRun next pairs new

-- ---- what concerns an address

-- Whether two addresses are equal.
abbrev pub is_same_address : SocketAddr → SocketAddr → Bool
is_same_address = eq_by_cmp socket_addr_cmp

-- Whether a call concerns an address: it is made for that address, or it is about users and settings. A call
-- for another address does not concern it.
abbrev pub concerns : SocketAddr → AuthCall → Bool
concerns address (call.Validate bytes from now stream) = is_same_address address from
concerns address (call.Sign draft to) = is_same_address address to
concerns address (call.SizeRequested to is_request) = is_same_address address to
concerns address (call.NonceRequested client) = is_same_address address client
concerns address (call.UserRequested client) = is_same_address address client
concerns address (call.Refresh from now stream) = is_same_address address from
concerns address (call.RemoveClient client) = is_same_address address client
concerns address _ = true

-- A call generates no nonce for which room has to be made.
abbrev pub CallMakesNoRoom : Server → AuthCall → Type 0
CallMakesNoRoom server (call.Validate bytes from now stream) = makes_room server from ≡ false
CallMakesNoRoom server (call.Refresh from now stream) = makes_room server from ≡ false
CallMakesNoRoom server _ = Unit {0}

-- In a run, no call that does not concern an address makes room.
unfoldable pub MakeNoRoom : SocketAddr → (old : Server) (pairs : List (AuthCall × AuthAnswer)) (new : Server) → IsAuthRun old pairs new → Type 0
unfolding IsAuthRun
MakeNoRoom address old [] new run = Unit {0}
MakeNoRoom address old (pair ∷ pairs) new run =
    (concerns address pair.0 ≡ false → CallMakesNoRoom old pair.0) × MakeNoRoom address run.0 pairs new run.2

-- A call sets no limit on addresses.
abbrev pub CallSetsNoLimit : AuthCall → Type 0
CallSetsNoLimit (call.SetLimit most) = most ≡ None
CallSetsNoLimit _ = Unit {0}

-- No call sets a limit on addresses.
abbrev pub SetNoLimit : List (AuthCall × AuthAnswer) → Type 0
SetNoLimit pairs = AllByRecursion (λ pair. CallSetsNoLimit pair.0) pairs

-- The calls that concern an address, in order, each with its result.
abbrev pub concerning : SocketAddr → List (AuthCall × AuthAnswer) → List (AuthCall × AuthAnswer)
concerning address pairs = filter (λ pair. concerns address pair.0) pairs

-- The calls that concern an address, without their results.
abbrev pub calls_concerning : SocketAddr → List (AuthCall × AuthAnswer) → List AuthCall
calls_concerning address pairs = map (λ pair. pair.0) (concerning address pairs)

-- Made alone, the calls that concern an address return the same results, and leave a server that the address
-- can't distinguish from the one that all calls left.
pub record IsIsolated (address : SocketAddr) (old : Server) (pairs : List (AuthCall × AuthAnswer)) (new : Server)
    : Type 0 where
  pub left : Server
  pub run : IsAuthRun old (concerning address pairs) left
  pub alike : SameFor address new left

-- ---- where results are determined

-- The server with its users as a call leaves them.
abbrev pub with_users_of : AuthCall → Server → Server
with_users_of (call.AddUser name password) server = record server { users = finite.insert server.users name password }
with_users_of (call.RemoveUser name) server = record server { users = finite.remove server.users name }
with_users_of _ server = server

-- A message to be validated does not name two of the server's users.
abbrev pub CallNamesOne : Server → AuthCall → Type 0
CallNamesOne server (call.Validate bytes from now stream) = NamesOne server (claimed bytes)
CallNamesOne server _ = Unit {0}

-- No call's message names two users, with the users as they are at that call. It holds if messages contain
-- names, or if no two users have the same hash (RFC 8489, section 14.4). If two users have the same hash, it
-- may name either.
unfoldable pub EachNamesOne : Server → List AuthCall → Type 0
EachNamesOne server [] = Unit {0}
EachNamesOne server (one ∷ calls) = CallNamesOne server one × EachNamesOne (with_users_of one server) calls

-- Two runs returned the same results to the address, and left servers that it can't distinguish.
pub record AreAnsweredAlike (address : SocketAddr) (pairs others : List (AuthCall × AuthAnswer)) (new left : Server)
    : Type 0 where
  pub answers : concerning address pairs ≡ concerning address others
  pub alike : SameFor address new left
