-- When nothing is sent to a peer: sending is refused, for instance because there is no permission for its
-- address.
use Rattle.std.proofs.Common.{◌≡◌, ◌≢◌, ℕ, Bool, true, false, List, Option, Some, None, Ok, Err, refl, subst, ap}
use Rattle.std.specs.Prelude.{MatchOption, MatchResult, if◌then◌else◌, not, is_none, is_some}
use Rattle.std.specs.Net.Socket.{socket_ip}
use Rattle.std.specs.declared.net.socket_addr.SocketAddr.{SocketAddr}
use Rattle.stun_types.specs.Base.declared.transport.TransportType.TheVariants.{Udp}
use Rattle.turn_client_proto.specs.Allocation.declared.channel.Channel.{Channel}
use Rattle.turn_client_proto.specs.Api.declared.error.SendError.{SendError}
use Rattle.turn_client_proto.specs.Api.declared.error.SendError.TheVariants.{NoMemory, NoPermission}
use Rattle.turn_client_proto.specs.Getters.{has_permission}
use Rattle.turn_client_proto.specs.ClientState.{Protocol}
use Rattle.turn_client_proto.specs.Sending.{Answer, Full, IsSendAnswered, IsSentBy, IsSentOver, Numbered, channel_to, send_refusal, standing, way_refusal}

module _ (old : Protocol) (to : SocketAddr) (bytes : List ℕ) where
  is_refused : has_permission Udp (socket_ip to) old ≡ false → send_refusal Udp old to bytes ≡ Some NoPermission
  unfolding send_refusal
  is_refused none = ap (λ (occurs : Bool). if not occurs then Some NoPermission else way_refusal Udp old to bytes) none

  -- Without a permission nothing is sent, and nothing changes.
  pub nothing_sent : has_permission Udp (socket_ip to) old ≡ false → (now : ℕ) (answer : Answer) (new : Protocol)
      → IsSendAnswered old Udp to bytes now answer new → (answer ≡ Err NoPermission) × (new ≡ old)
  nothing_sent none now answer new is =
      subst (λ (refused : Option SendError). MatchOption refused (IsSentOver Udp old to bytes now answer new)
      (λ error. (answer ≡ Err error) × (new ≡ old))) (is_refused none) is

  module _ (new : Protocol) where
    -- A call that sends by a channel or an indication never succeeds with nothing to send.
    pub always_sent : (found : Option Channel) → IsSentBy found old to bytes (Ok None) new → ⊥
    always_sent None (Numbered number is reported, same) = Prim.cc reported
    always_sent None (Full all reported, same) = Prim.cc reported
    always_sent (Some channel) is = Prim.cc is.0

    is_memory : (error : SendError) (found : Option Channel) → IsSentBy found old to bytes (Err error) new → error ≡ NoMemory
    is_memory error None (Numbered number is reported, same) = absurd (Prim.cc reported)
    is_memory error None (Full all reported, same) = Prim.cc reported
    is_memory error (Some channel) is = absurd (Prim.cc is.0)

    by_refusal : (refused : Option SendError) (found : Option Channel) (answer : Answer)
        → MatchOption refused (IsSentBy found old to bytes answer new) (λ error. (answer ≡ Err error) × (new ≡ old))
        → MatchResult answer (λ sent. (is_some sent ≡ true) × (is_none refused ≡ true)) (λ error. error ≢ NoMemory → is_none refused ≡ false)
    by_refusal None found (Ok (Some sent)) is = (refl, refl)
    by_refusal None found (Ok None) is = absurd (always_sent found is)
    by_refusal None found (Err error) is = λ other. absurd (other (is_memory error found is))
    by_refusal (Some refused) found (Ok sent) is = absurd (Prim.cc is.0)
    by_refusal (Some refused) found (Err error) is = λ other. refl

  -- If sending isn't refused, something is sent. If it is, or no transaction ID is free, the result is an
  -- error.
  pub is_sent : (now : ℕ) (answer : Answer) (new : Protocol) → IsSendAnswered old Udp to bytes now answer new
      → MatchResult answer (λ sent. (is_some sent ≡ true) × (is_none (send_refusal Udp old to bytes) ≡ true))
      (λ error. error ≢ NoMemory → is_none (send_refusal Udp old to bytes) ≡ false)
  is_sent now answer new is =
      by_refusal new (send_refusal Udp old to bytes) (standing now (channel_to Udp to old.allocations)) answer is
