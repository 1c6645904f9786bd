-- How a datagram with a response reaches a client that holds an allocation.
use Rattle.std.proofs.Common.{◌≡◌, ℕ, false, List, Option, None, sym, subst, ◌⊎◌, ◌∙◌, inl, inr}
use Rattle.std.specs.Prelude.{MatchOption}
use Rattle.turn_client_proto_messages.specs.StunTypesWire.Attributes.{kind_at}
use Rattle.turn_client_proto_messages.specs.StunTypesWire.Grammar.{refusal}
use Rattle.turn_client_proto_messages.specs.StunTypesWire.Types.{class_of}
use Rattle.turn_client_proto_messages.specs.StunTypesWire.declared.error.StunParseError.{StunParseError}
use Rattle.turn_client_proto_messages.specs.StunTypesBase.declared.transmit.Transmit.{Transmit}
use Rattle.turn_client_proto_messages.specs.Api.declared.answer.TurnRecvRet.{TurnRecvRet}
use Rattle.turn_client_proto_messages.specs.TurnRuns.Indications.{is_indication}
use Rattle.turn_client_proto_step_laws.specs.Recv.Control.{Control, Datagrams}
use Rattle.turn_client_proto_step_laws.specs.Recv.Datagrams.{Foreign, Processed, IsDatagramTaken, IsDelivered, IsMessageTaken, IsOfServer, IsRead, Lost as MessageLost, Own}
use Rattle.turn_client_proto_step_laws.specs.Recv.ClientState.{ClientState}
use Rattle.turn_client_proto_step_laws.specs.Recv.Receipts.{IsReceived, IsReceivedBy}
use Rattle.turn_client_proto_step_laws.specs.Payload.declared.payload.Payload.{Payload}
use Rattle.turn_client_proto_handshake_laws.specs.Coming.{IsFromServer, IsProcessedAs, IsLost}
use Rattle.turn_client_proto_handshake_laws.specs.Sent.{Beginning}
use Rattle.turn_client_proto_handshake_laws.specs.Stages.{IsOf}
use Rattle.turn_client_proto_progress_laws.proofs.TcpBinding.Arriving.{gives_none}

module _ (b : Beginning) (k : ClientState) (u : IsOf b k.core) {T : Type 0} (items : T → List ℕ) (came : Transmit T) (from : IsFromServer b came) (now : ℕ) (answer : TurnRecvRet T) (k2 : ClientState) where
  of_server : IsOfServer k.core came
  of_server = record {
    transport = from.transport ∙ sym u.transport;
    from = from.from ∙ sym u.server;
    to = from.to ∙ sym u.here;
  }

  read : (message : List ℕ) → IsMessageTaken k.core message came now answer k2.core → k2.control ≡ Datagrams → IsProcessedAs k message came now Datagrams answer k2 ⊎ IsLost k came answer k2
  read message (Processed handled processed as_it) control = inl (record { handled = handled; processed = processed; answer_is = as_it; control_is = control })
  read message (MessageLost reported grows failed) control = inr (reported, failed)

  own : refusal (items came.bytes) ≡ None → is_indication (class_of (kind_at (items came.bytes))) ≡ false → IsDatagramTaken items k.core came now answer k2.core → k2.control ≡ Datagrams
      → IsProcessedAs k (items came.bytes) came now Datagrams answer k2 ⊎ IsLost k came answer k2
  own is other (Foreign foreign back) control = absurd (foreign of_server)
  own is other (Own server taken) control =
      let reads = subst (λ (o : Option Payload). MatchOption o (IsRead (refusal (items came.bytes)) k.core (items came.bytes) came now answer k2.core)
      (λ payload. IsDelivered items came payload answer × (k2.core ≡ k.core))) (gives_none k.core (items came.bytes) is other) taken in
      read (items came.bytes) (subst (λ (o : Option StunParseError). IsRead o k.core (items came.bytes) came now answer k2.core) is reads) control

  pub response_processed : k.control ≡ Datagrams → refusal (items came.bytes) ≡ None → is_indication (class_of (kind_at (items came.bytes))) ≡ false → IsReceived items k came now answer k2
      → IsProcessedAs k (items came.bytes) came now Datagrams answer k2 ⊎ IsLost k came answer k2
  response_processed over is other received =
      let taken = subst (λ (c : Control). IsReceivedBy items now c k.core came answer k2) over received in
      own is other taken.0 taken.1
