-- What carries bytes to a peer and the client afterwards are determined.
use Rattle.std.proofs.Common.{◌≡◌, ℕ, List, Option, Some, None, Ok, Err, sym, ap, ◌∙◌}
use Rattle.std.specs.Prelude.{MatchOption}
use Rattle.std.specs.declared.net.socket_addr.SocketAddr.{SocketAddr}
use Rattle.turn_client_proto_timers.specs.StunTypesBase.declared.transport.TransportType.{TransportType}
use Rattle.turn_client_proto_timers.specs.StunTypesBase.declared.transport.TransportType.TheVariants.{Tcp, Udp}
use Rattle.turn_client_proto_timers.specs.Api.declared.error.SendError.{SendError}
use Rattle.turn_client_proto_timers.specs.Core.Numbering.{AreAllTaken, IsNextNumber}
use Rattle.turn_client_proto_timers.specs.Core.declared.protocol.Protocol.{Protocol}
use Rattle.turn_client_proto_recv.specs.Payload.Sending.{Answer, Full, IsIndicated, IsPassedOn, IsSendAnswered, IsSentBy, IsSentOver, Numbered, by_control, channel_to, connection_to, indication_to, send_refusal, standing}
use Rattle.turn_client_proto_step_laws.specs.Held.{Channel, Connection}
use Rattle.turn_client_proto_step_laws.proofs.Numbers.{number_small}
use Rattle.turn_client_proto_step_laws.proofs.Once.Numbering.{next_same}

-- The next transaction ID is free, so not every one is taken.
some_free : {A : Type 0} (p : Protocol) (number : ℕ) → IsNextNumber p number → AreAllTaken p → A
some_free p number is all = absurd (Prim.cc (sym (all number (number_small p number is)) ∙ is.free))

module _ (old : Protocol) (to : SocketAddr) (bytes : List ℕ) (now : ℕ) (answer again : Answer) where
  -- The result if an indication is sent with a transaction ID.
  abbrev indicated : ℕ → Answer
  indicated number = Ok (Some (by_control old (indication_to to number bytes)))

  indicated_same : IsIndicated old to bytes answer → IsIndicated old to bytes again → answer ≡ again
  indicated_same (Numbered number is reported) (Numbered other was known) = reported ∙ ap indicated (next_same old number other is was) ∙ sym known
  indicated_same (Numbered number is reported) (Full all known) = some_free old number is all
  indicated_same (Full all reported) (Numbered other was known) = some_free old other was all
  indicated_same (Full all reported) (Full every known) = reported ∙ sym known

  module _ (one other : Protocol) where
    sent_same : (found : Option Channel) → IsSentBy found old to bytes answer one → IsSentBy found old to bytes again other → (answer ≡ again) × (one ≡ other)
    sent_same None a b = (indicated_same a.0 b.0, a.1 ∙ sym b.1)
    sent_same (Some channel) a b = (a.0 ∙ sym b.0, a.1 ∙ sym b.1)

    passed_same : (found : Option Connection) → IsPassedOn found old bytes answer one → IsPassedOn found old bytes again other → (answer ≡ again) × (one ≡ other)
    passed_same None a b = absurd a
    passed_same (Some connection) a b = (a.0 ∙ sym b.0, a.1 ∙ sym b.1)

    over_same : (transport : TransportType) → IsSentOver transport old to bytes now answer one → IsSentOver transport old to bytes now again other → (answer ≡ again) × (one ≡ other)
    over_same Tcp a b = passed_same (connection_to Tcp to old.allocations) a b
    over_same Udp a b = sent_same (standing now (channel_to Udp to old.allocations)) a b

    by_refusal : (transport : TransportType) (refusal : Option SendError)
        → MatchOption refusal (IsSentOver transport old to bytes now answer one) (λ error. (answer ≡ Err error) × (one ≡ old))
        → MatchOption refusal (IsSentOver transport old to bytes now again other) (λ error. (again ≡ Err error) × (other ≡ old)) → (answer ≡ again) × (one ≡ other)
    by_refusal transport None a b = over_same transport a b
    by_refusal transport (Some error) a b = (a.0 ∙ sym b.0, a.1 ∙ sym b.1)

pub send_same : (old : Protocol) (transport : TransportType) (to : SocketAddr) (bytes : List ℕ) (now : ℕ) (answer again : Answer) (one other : Protocol)
    → IsSendAnswered old transport to bytes now answer one → IsSendAnswered old transport to bytes now again other → (answer ≡ again) × (one ≡ other)
send_same old transport to bytes now answer again one other a b = by_refusal old to bytes now answer again one other transport (send_refusal transport old to bytes) a b
