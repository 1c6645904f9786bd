-- The results of the server core's events in a simulation.
use Rattle.std.specs.Prelude.{◌≡◌, ◌≢◌, ◌<◌, ◌^◌, ◌++◌, [], ◌∷◌, ◌↔◌, ℕ, false, List}
use Rattle.std.specs.declared.net.socket_addr.SocketAddr.{SocketAddr}
use Rattle.rand_chacha.specs.ChaCha.{next_word, of_seed}
use Rattle.rand_core.specs.Steps.{steps_u32, stream_of}
use Rattle.rand_core.specs.Stream.{Stream}
use Rattle.stun_proto_server.specs.Server.{SameFor, makes_room}
use Rattle.stun_types_wire.specs.Headers.{AreBytes}
use Rattle.turn_desk_core.specs.State.{State}
use Rattle.turn_desk_core.specs.Steps.{IsAnswer, IsGranted}
use Rattle.turn_desk_core.specs.Requests.{IsServed}
use Rattle.turn_desk_core.specs.declared.decision.Decision.{Decision}
use Rattle.turn_desk_core.specs.declared.decision.Decision.TheVariants as by
use Rattle.turn_desk_core.specs.declared.grant.Grant.{Grant}
use Rattle.turn_desk_event.specs.declared.answer.Answer.{Answer}
use Rattle.turn_desk_event.specs.declared.answer.Answer.TheVariants as answer

-- The random words of the generator with this seed.
abbrev pub words_of : List ℕ → Stream
words_of seed = stream_of (steps_u32 (next_word 10)) (of_seed seed)

-- The 32-bit numbers of a decision are below 2^32.
abbrev pub HasFourBytes : Decision → Type 0
HasFourBytes (by.Allocate relayed lifetime) = lifetime < 2 ^ 32
HasFourBytes (by.Refresh lifetime) = lifetime < 2 ^ 32
HasFourBytes (by.Connect connection) = connection < 2 ^ 32
HasFourBytes _ = Unit {0}

-- The server core replied to the bytes, as the contract of `handle` says.
pub record IsReplied (old : State) (bytes : List ℕ) (from : SocketAddr) (now : ℕ) (decision : Decision)
    (words : Stream) (reply : List ℕ) (new : State) : Type 0 where
  pub served : IsServed bytes
  pub answer : IsAnswer old from bytes now words decision reply new
  pub grants : (g : Grant) → (new.grants ≡ old.grants ++ g ∷ []) ↔ IsGranted old from bytes now words decision reply g
  pub others : (other : SocketAddr) → other ≢ from → makes_room old.auth from ≡ false
      → SameFor other old.auth new.auth
  pub are_bytes : AreBytes reply

-- The server core replied, or the bytes are not a request that it serves.
abbrev pub IsReply : Answer → State → List ℕ → SocketAddr → ℕ → Decision → List ℕ → State → Type 0
IsReply (answer.Reply reply) old bytes from now decision seed new =
    IsReplied old bytes from now decision (words_of seed) reply.items new
IsReply answer.Nothing old bytes from now decision seed new = ¬ IsServed bytes × (new ≡ old)
IsReply _ old bytes from now decision seed new = ⊥

-- The server core handled the bytes under this decision.
pub record IsDeskAnswered (ret : Answer) (old : State) (bytes : List ℕ) (from : SocketAddr) (now : ℕ)
    (decision : Decision) (seed : List ℕ) (new : State) : Type 0 where
  pub are_bytes : AreBytes bytes
  pub four_bytes : HasFourBytes decision
  pub reply : IsReply ret old bytes from now decision seed new
