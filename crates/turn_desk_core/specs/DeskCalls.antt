-- Runs of a server core's calls that don't run out of memory, with their results, and the part of a run that
-- concerns one address (RFC 8489, section 9.2; RFC 8656, section 5).
use Rattle.std.specs.Prelude.{◌≡◌, ◌≢◌, ◌↔◌, ℕ, Bool, false, List, [], ◌∷◌, ◌++◌, filter, map}
use Rattle.std.specs.List.{AllByRecursion}
use Rattle.std.specs.declared.net.socket_addr.SocketAddr.{SocketAddr}
use Rattle.rand_core.specs.Stream.{Stream}
use Rattle.stun_proto_server.specs.AuthCalls.{AuthAnswer, AuthCall, IsCalled, Validate}
use Rattle.stun_proto_server.specs.AuthRuns.{CallMakesNoRoom, CallSetsNoLimit, EachNamesOne, concerns as concerns_auth, is_same_address}
use Rattle.stun_proto_server.specs.Server.{SameFor, Server, makes_room}
use Rattle.turn_desk_core.specs.Requests.{IsServed}
use Rattle.turn_desk_core.specs.declared.decision.Decision.{Decision}
use Rattle.turn_desk_core.specs.declared.grant.Grant as granted
use Rattle.turn_desk_core.specs.State.{State}
use Rattle.turn_desk_core.specs.Steps.{IsAnswer, IsGranted}

-- ---- calls and results

-- A call of `Desk::handle` with all its arguments, where the stream of its words stands for the generator; or
-- a call of the authenticator through `Desk::auth_mut`.
pub data ServerCall : Type 0 where
  Handle : (bytes : List ℕ) (from : SocketAddr) (now : ℕ) (decision : Decision) (stream : Stream) → ServerCall
  Auth : (one : AuthCall) → ServerCall

-- The result of a call: a reply, no reply, or the authenticator's result.
pub data ServerAnswer : Type 0 where
  Reply : (reply : List ℕ) → ServerAnswer
  NoReply : ServerAnswer
  Reported : (answer : AuthAnswer) → ServerAnswer

-- The server core replied to the bytes. These are the clauses `none`, `answer`, `grants` and `others` of
-- `handle` for a call that returns a reply.
pub record IsHandled (old : State) (bytes : List ℕ) (from : SocketAddr) (now : ℕ) (decision : Decision)
    (stream : Stream) (reply : List ℕ) (new : State) : Type 0 where
  pub served : IsServed bytes
  pub answer : IsAnswer old from bytes now stream decision reply new
  pub grants : (g : granted.Grant)
      → (new.grants ≡ old.grants ++ g ∷ []) ↔ IsGranted old from bytes now stream decision reply g
  pub others : (other : SocketAddr) → other ≢ from → makes_room old.auth from ≡ false
      → SameFor other old.auth new.auth

-- The server core replied; or the bytes are not a request that it serves, and nothing changed, as the clauses
-- `none` and `answer` of `handle` say for a call that returns no reply.
abbrev pub IsHandledBy : ServerAnswer → State → List ℕ → SocketAddr → ℕ → Decision → Stream → State → Type 0
IsHandledBy (Reply reply) old bytes from now decision stream new = IsHandled old bytes from now decision stream reply new
IsHandledBy NoReply old bytes from now decision stream new = ¬ IsServed bytes × (new ≡ old)
IsHandledBy (Reported answer) old bytes from now decision stream new = ⊥

-- The authenticator was called, and the grants are unchanged (see `LendsAuth`).
abbrev pub IsAuthCalled : ServerAnswer → AuthCall → State → State → Type 0
IsAuthCalled (Reported answer) one old new = IsCalled one answer old.auth new.auth × (new.grants ≡ old.grants)
IsAuthCalled _ one old new = ⊥

-- The call, made in the state `old`, may return this result and leave the state `new`.
abbrev pub IsServerCalled : ServerCall → ServerAnswer → State → State → Type 0
IsServerCalled (Handle bytes from now decision stream) answer old new =
    IsHandledBy answer old bytes from now decision stream new
IsServerCalled (Auth one) answer old new = IsAuthCalled answer one old new

-- The pairs of a call and its result are a run from `old` to `new`: each call starts in the state that the
-- one before it left. No call ran out of memory.
unfoldable pub IsServerRun : State → List (ServerCall × ServerAnswer) → State → Type 0
IsServerRun old [] new = new ≡ old
IsServerRun old (pair ∷ pairs) new = (next : State) × IsServerCalled pair.0 pair.1 old next × IsServerRun next pairs new

-- ---- what concerns an address

-- Whether a call concerns an address. Bytes that came from it do, and so do calls of the authenticator for
-- this address or on users and settings. Bytes from another address and calls for another address don't.
abbrev pub concerns : SocketAddr → ServerCall → Bool
concerns address (Handle bytes from now decision stream) = is_same_address address from
concerns address (Auth one) = concerns_auth address one

-- A call generates no nonce for which room has to be made.
abbrev pub ServerMakesNoRoom : State → ServerCall → Type 0
ServerMakesNoRoom old (Handle bytes from now decision stream) = makes_room old.auth from ≡ false
ServerMakesNoRoom old (Auth one) = CallMakesNoRoom old.auth one

-- In a run, no call that does not concern an address makes room.
unfoldable pub MakeNoRoom : SocketAddr → (old : State) (pairs : List (ServerCall × ServerAnswer)) (new : State)
    → IsServerRun old pairs new → Type 0
unfolding IsServerRun
MakeNoRoom address old [] new run = Unit {0}
MakeNoRoom address old (pair ∷ pairs) new run =
    (concerns address pair.0 ≡ false → ServerMakesNoRoom old pair.0) × MakeNoRoom address run.0 pairs new run.2

-- The calls that concern an address, in order, each with its result.
abbrev pub concerning : SocketAddr → List (ServerCall × ServerAnswer) → List (ServerCall × ServerAnswer)
concerning address pairs = filter (λ pair. concerns address pair.0) pairs

-- The calls that concern an address, in order, without their results.
abbrev pub calls_concerning : SocketAddr → List (ServerCall × ServerAnswer) → List ServerCall
calls_concerning address pairs = map (λ pair. pair.0) (concerning address pairs)

-- What was granted to an address, in order.
abbrev pub grants_to : SocketAddr → List granted.Grant → List granted.Grant
grants_to address grants = filter (λ (g : granted.Grant). is_same_address address g.from) grants

-- The address can't distinguish the two server cores: neither by their authenticators, nor by what they
-- granted to it.
pub record AreAlike (address : SocketAddr) (a b : State) : Type 0 where
  pub auth : SameFor address a.auth b.auth
  pub grants : grants_to address b.grants ≡ grants_to address a.grants

-- The calls that concern the address, made alone from the state `old`, can return the results that they have
-- in `pairs`. The address can't distinguish the state that they leave from `new`.
pub record IsIsolated (address : SocketAddr) (old : State) (pairs : List (ServerCall × ServerAnswer)) (new : State)
    : Type 0 where
  pub left : State
  pub run : IsServerRun old (concerning address pairs) left
  pub alike : AreAlike address new left

-- ---- where results are determined

-- The authenticator call that a call makes. For bytes it is their validation.
abbrev pub auth_call : ServerCall → AuthCall
auth_call (Handle bytes from now decision stream) = Validate bytes from now stream
auth_call (Auth one) = one

-- No call sets a limit on addresses.
abbrev pub SetNoLimit : List (ServerCall × ServerAnswer) → Type 0
SetNoLimit pairs = AllByRecursion (λ pair. CallSetsNoLimit (auth_call pair.0)) pairs

-- None of the bytes that are handled name two of the users known at that time, by a hash that both have.
abbrev pub NameOneUser : Server → List ServerCall → Type 0
NameOneUser server calls = EachNamesOne server (map auth_call calls)

-- The two runs gave the address equal results, and it can't distinguish the states that they left.
pub record AreAnsweredAlike (address : SocketAddr) (pairs others : List (ServerCall × ServerAnswer)) (new left : State)
    : Type 0 where
  pub answers : concerning address pairs ≡ concerning address others
  pub alike : AreAlike address new left
