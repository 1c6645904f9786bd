-- The replies of two server cores that an address can't distinguish.
use Rattle.std.specs.Prelude.{◌≡◌, ℕ, List, ◌++◌}
use Rattle.std.specs.declared.net.socket_addr.SocketAddr.{SocketAddr}
use Rattle.rand_core.specs.Stream.{Stream}
use Rattle.stun_proto_server.specs.Server.{SameFor}
use Rattle.turn_desk_core.specs.declared.decision.Decision.{Decision}
use Rattle.turn_desk_core.specs.declared.grant.Grant as granted
use Rattle.turn_desk_core.specs.State.{State}
use Rattle.turn_desk_core.specs.Steps.{IsAnswer}

-- The reply that `a` gives, `b` may give too; the address can't distinguish them afterwards; and both add
-- equal grants.
pub record IsAnsweredAlike (a b : State) (from : SocketAddr) (bytes : List ℕ) (now : ℕ) (stream : Stream)
    (decision : Decision) (reply : List ℕ) (new : State) : Type 0 where
  pub left : State
  pub answer : IsAnswer b from bytes now stream decision reply left
  pub same : SameFor from new.auth left.auth
  pub grants : List granted.Grant
  pub here : new.grants ≡ a.grants ++ grants
  pub there : left.grants ≡ b.grants ++ grants
