-- What a client sends.
use Rattle.std.proofs.Common.{◌≡◌, ℕ, List, [], Option, Some, refl, sym, subst}
use Rattle.std.specs.Prelude.{MatchOption}
use Rattle.stun_types_base.specs.declared.data.Data.{Data}
use Rattle.stun_types_base.specs.declared.transmit.Transmit.{Transmit}
use Rattle.turn_client_proto_timers.specs.Drawing.{Again, IsStarted, IsTransmitted, IsNextSent, IsRepeated}
use Rattle.turn_client_proto_api.specs.Sent.{Sent, sent_of}
use Rattle.turn_client_proto_messages.specs.Waiting.{Queued}
use Rattle.turn_client_proto_core.specs.declared.protocol.Protocol.{Protocol}

-- The result if no message is queued.
pub nothing_waits : (p : Protocol) (queue : List Queued) (now : ℕ) (answer : Option Sent) (new : Protocol) → p.queue ≡ queue → p.queue ≡ []
    → IsStarted p.phase (record p { queue = queue }) now answer new → IsNextSent p.queue p now answer new
nothing_waits p queue now answer new same none is =
    subst (λ (q : List Queued). IsNextSent q p now answer new) (sym none)
    (subst (λ (q : List Queued). IsStarted p.phase (record p { queue = q }) now answer new) (sym same) is)

-- The result if a retransmission is due.
pub repeated : (N : Type 0) (old : Protocol) (now : ℕ) (new : Protocol) (found : Option (Transmit Data)) (again : Transmit Data) → found ≡ Some again
    → MatchOption found N (λ sent. IsRepeated old now (sent_of sent) new) → IsTransmitted old now (Some (sent_of again)) new
repeated N old now new found again is reported =
    let here : IsRepeated old now (sent_of again) new = subst (λ (o : Option (Transmit Data)). MatchOption o N (λ sent. IsRepeated old now (sent_of sent) new)) is reported in
    Again (sent_of again) refl here
