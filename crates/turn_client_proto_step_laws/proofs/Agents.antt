-- What is outstanding after an agent's calls.
use Rattle.std.proofs.Common.{◌≡◌, ◌≢◌, ℕ, List, Option, Some, None, sym, ap, ◌∙◌, subst, ◌⊎◌, inl, inr}
use Rattle.std.specs.FinMap as map
use Rattle.std.specs.declared.net.socket_addr.SocketAddr.{SocketAddr}
use Rattle.turn_client_proto_timers.specs.StunTypesWire.Grammar.{refusal}
use Rattle.turn_client_proto_timers.specs.StunTypesWire.declared.error.StunParseError.{StunParseError}
use Rattle.turn_client_proto_timers.specs.StunTypesBase.declared.transport.TransportType.{TransportType}
use Rattle.turn_client_proto_timers.specs.StunProtoTransaction.Agents.{Transaction}
use Rattle.turn_client_proto_timers.specs.StunProtoAgent.Numbers.{IsWithout, NothingNew, ShowsNumbers}
use Rattle.turn_client_proto_timers.specs.StunProtoAgent.Sending.{with_request}
use Rattle.turn_client_proto_timers.specs.StunProtoAgent.State.{Agent}
use Rattle.turn_client_proto_timers.proofs.StunProtoAgent.Numbers.{sent}
use Rattle.turn_client_proto_recv.specs.TurnTypesAttributes.TurnRegistry.{allocate_method}
use Rattle.turn_client_proto_timers.specs.TurnTypesPeer.TurnShows.{unless_refused}
use Rattle.turn_client_proto_timers.specs.TurnRuns.Messages as run
use Rattle.turn_client_proto_timers.specs.TurnRuns.StunWire.{stun_wire, decoded_by}
use Rattle.turn_client_proto_step_laws.specs.ClientWords.{IsOutstanding}
use Rattle.turn_client_proto_step_laws.specs.Sound.{AreAllocates, AreMessages}

pub message_read : (refused : Option StunParseError) (reported m : run.Message) → unless_refused refused (Some reported) ≡ Some m → reported ≡ m
message_read None reported m h = Prim.cc h
message_read (Some e) reported m h = absurd (Prim.cc h)

-- Bytes that are a message show what they decode to.
pub message_listed : (bytes : List ℕ) → refusal bytes ≡ None → stun_wire.visible bytes ≡ Some (decoded_by bytes)
message_listed bytes is = ap (λ (refused : Option StunParseError). unless_refused refused (Some (decoded_by bytes))) is

-- ---- nothing new

module _ (old new : Agent) (none : NothingNew old new) where
  pub outstanding_before : (m : run.Message) → IsOutstanding new m → IsOutstanding old m
  outstanding_before m h =
      let was = none h.number h.transaction h.there in
      record { number = h.number; transaction = was.before; there = was.there; shows = ap (λ (b : List ℕ). stun_wire.visible b) (sym was.same_bytes) ∙ h.shows }

  pub still_messages : AreMessages old → AreMessages new
  still_messages are number t there =
      let was = none number t there in
      ap refusal was.same_bytes ∙ are number was.before was.there

  pub still_allocates : (transport : TransportType) → AreAllocates transport old → AreAllocates transport new
  still_allocates transport are number t there =
      let was = none number t there in
      subst (λ (b : List ℕ). ((decoded_by b).method ≡ allocate_method) × ((decoded_by b).transport ≡ Some transport)) (sym was.same_bytes) (are number was.before was.there)

-- ---- a request more

module _ (agent : Agent) (bytes : List ℕ) (to : SocketAddr) (now : ℕ) where
  pub outstanding_sent : (m : run.Message) → IsOutstanding (with_request agent bytes to now) m → IsOutstanding agent m ⊎ (decoded_by bytes ≡ m)
  outstanding_sent m h = elim (sent agent bytes to now h.number h.transaction h.there) [
    | inl before ↦ inl (record { number = h.number; transaction = h.transaction; there = before; shows = h.shows })
    | inr own ↦ inr (message_read (refusal bytes) (decoded_by bytes) m (ap (λ (t : Transaction). stun_wire.visible t.bytes) (sym own.1) ∙ h.shows))
  ]

  pub messages_sent : refusal bytes ≡ None → AreMessages agent → AreMessages (with_request agent bytes to now)
  messages_sent is are number t there = elim (sent agent bytes to now number t there) [
    | inl before ↦ are number t before
    | inr own ↦ ap (λ (x : Transaction). refusal x.bytes) own.1 ∙ is
  ]

  pub allocates_sent : (transport : TransportType) → (decoded_by bytes).method ≡ allocate_method → (decoded_by bytes).transport ≡ Some transport → AreAllocates transport agent
      → AreAllocates transport (with_request agent bytes to now)
  allocates_sent transport method is are number t there = elim (sent agent bytes to now number t there) [
    | inl before ↦ are number t before
    | inr own ↦ (ap (λ (x : Transaction). (decoded_by x.bytes).method) own.1 ∙ method, ap (λ (x : Transaction). (decoded_by x.bytes).transport) own.1 ∙ is)
  ]

-- ---- a number less

-- An outstanding transaction ID differs from the one that is gone.
apart_from : (old new : Agent) (number n : ℕ) (t : Transaction) → IsWithout old number new → map.get new.outstanding n ≡ Some t → n ≢ number
apart_from old new number n t without is e = Prim.cc (sym (ap (map.get new.outstanding) e ∙ without.gone) ∙ is)

-- What is outstanding after a transaction ID was removed has another one.
pub has_other : (old new : Agent) (number : ℕ) (m : run.Message) → ShowsNumbers new → IsWithout old number new → IsOutstanding new m → m.number ≢ number
has_other old new number m numbered without h e =
    let visible : decoded_by h.transaction.bytes ≡ m = message_read (refusal h.transaction.bytes) (decoded_by h.transaction.bytes) m h.shows in
    let number_is : m.number ≡ h.number = ap (λ (x : run.Message). x.number) (sym visible) ∙ numbered h.number h.transaction h.there in
    apart_from old new number h.number h.transaction without h.there (sym number_is ∙ e)
