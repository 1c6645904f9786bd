-- The run over TCP after the handshake, one step after another.
use Rattle.std.proofs.Common.{◌≡◌, ℕ, refl, subst}
use Rattle.std.specs.Prelude.{Bool, true, false, IfOk, IsTrue, Result, Ok, Err}
use Rattle.std.specs.Net.Socket.{socket_ip}
use Rattle.std.specs.declared.net.socket_addr.SocketAddr.{SocketAddr}
use Rattle.stun_types_base.specs.declared.transport.TransportType.TheVariants.{Tcp}
use Rattle.turn_desk_core.specs.declared.decision.Decision.TheVariants as by
use Rattle.turn_desk_event.specs.declared.event.ClientCall.TheVariants.{AllocatedTcpSocket, CreatePermission, TcpConnect}
use Rattle.turn_desk_world.specs.Model.{World}
use Rattle.test_honest_network.specs.Connections.{IsRequested, IsBound, IsBoundAgain, IsGone, IsOpened}
use Rattle.test_honest_network.specs.Replies.{HasReplied, IsCall, IsPoll, IsTaken}
use Rattle.test_honest_network.specs.declared.tcp_binding.TheConstants.{REQUESTED, MADE, NUMBER, TURNED}
use Rattle.test_honest_network.specs.declared.replying.Reply.TheVariants.{Challenge}
use Rattle.std.specs.Prelude.{Some}
use Rattle.std.specs.declared.net.ip_addr.IpAddr.{IpAddr}

pub so : {A : Type 0} (b : Bool) → b ≡ true → (IsTrue b → A) → A
so true is there = there refl
so false is there = absurd (Prim.cc is)

module _ {E : Type 0} (peer local : SocketAddr) (old a b c new : World) where
  pub gone_on : (ip : IpAddr) (requested made : ℕ) → ip ≡ socket_ip peer → requested ≡ REQUESTED → made ≡ MADE → IsRequested (CreatePermission Tcp ip) requested by.Grant old a → IsRequested (TcpConnect peer) made (by.Connect NUMBER) a b → IsOpened peer local made b c
      → (result : Result Bool E) → IfOk result (λ binds. IsTrue binds → IsBound c new) → IfOk result (λ goes. IsTrue goes → IsGone peer local old new)
  gone_on ip requested made of at on one two three (Ok binds) is = λ yes. record {
    middle = a;
    one = subst (λ (i : IpAddr). IsRequested (CreatePermission Tcp i) REQUESTED by.Grant old a) of (subst (λ (n : ℕ). IsRequested (CreatePermission Tcp ip) n by.Grant old a) at one);
    other = record {
      middle = b;
      one = subst (λ (n : ℕ). IsRequested (TcpConnect peer) n (by.Connect NUMBER) a b) on two;
      other = record { middle = c; one = subst (λ (n : ℕ). IsOpened peer local n b c) on three; other = is yes };
    };
  }
  gone_on ip requested made of at on one two three (Err error) is = tt

  pub opened_on : (now : ℕ) → IsTaken now old a → IsTaken now a b → IsPoll now b c → (result : Result Bool E) → IfOk result (λ calls. IsTrue calls → IsCall (AllocatedTcpSocket NUMBER peer (Some local)) now c new)
      → IfOk result (λ opens. IsTrue opens → IsOpened peer local now old new)
  opened_on now one two three (Ok calls) is = λ yes. record { middle = a; one = one; other = record { middle = b; one = two; other = record { middle = c; one = three; other = is yes } } }
  opened_on now one two three (Err error) is = tt

module _ {E : Type 0} (old a new : World) where
  pub bound_on : (now : ℕ) → now ≡ TURNED → HasReplied now by.Grant Challenge old a → (result : Result Bool E) → IfOk result (λ binds. IsTrue binds → IsBoundAgain a new) → IfOk result (λ binds. IsTrue binds → IsBound old new)
  bound_on now at one (Ok binds) is = λ yes. record { middle = a; one = subst (λ (n : ℕ). HasReplied n by.Grant Challenge old a) at one; other = is yes }
  bound_on now at one (Err error) is = tt
