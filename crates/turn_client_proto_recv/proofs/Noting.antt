-- Notes of frames that were handled one after another.
use Rattle.std.proofs.Common.{◌≡◌, ℕ, Bool, true, false, eqb, List, [], length, Option, Some, None, Result, Ok, Err, refl, sym, ap, subst}
use Rattle.std.specs.Prelude.{IfOk, MatchOption, MatchResult, OnErr, OnOk, if◌then◌else◌}
use Rattle.std.specs.declared.net.socket_addr.SocketAddr.{SocketAddr}
use Rattle.stun_types_base.specs.declared.transmit.Transmit.{Transmit}
use Rattle.turn_types_frame.specs.Streams.{Stream, alive}
use Rattle.turn_client_proto_allocation.specs.declared.connection.Connection.{Connection}
use Rattle.turn_client_proto_api.specs.Payloads.{PeerPayload}
use Rattle.turn_client_proto_api.specs.declared.answer.TurnRecvRet.{TurnRecvRet}
use Rattle.turn_client_proto_connection.specs.Streams.{emptied}
use Rattle.turn_client_proto_core.specs.Ending.{HasFailed}
use Rattle.turn_client_proto_core.specs.Receiving.{IsProcessed}
use Rattle.turn_client_proto_core.specs.declared.protocol.Protocol.{Protocol}
use Rattle.turn_client_proto_payload.specs.declared.payload.Payload.{Payload}
use Rattle.turn_client_proto_recv.specs.Chunks.{IsPayloadAnswered, Refused, ReportedApart}
use Rattle.turn_client_proto_recv.specs.Closing.{after_close, is_joined, without}
use Rattle.turn_client_proto_recv.specs.Notes.{AreNoted, Fails, IsFrameNoted, IsNotedAt, IsNotedBy, Moves, Next, OfControl, OfLoss, OfSocket, Start, before_of}
use Rattle.turn_client_proto_recv.specs.Processing.{IsProcessedAt}
use Rattle.turn_client_proto_recv.specs.SocketChunks.{Closes, GivesRaw, IsEnded, IsRawGiven, IsRawTaken, IsWaitingTaken, LostEnd, LostRaw, raw_waiting, with_stored}
use Rattle.turn_client_proto_recv.specs.declared.notes.Notes.{Notes}

-- ---- one frame

module _ (now : ℕ) (old : Protocol) (before : Notes) (bytes : List ℕ) (new : Protocol) (after : Notes) where
  -- A message of the control connection.
  pub control_noted : {E : Type 0} (r : Result Bool E) → IfOk r (λ handled. IsProcessed old bytes now handled new) → OnErr r (HasFailed old new)
      → MatchResult r (λ _. IsNotedBy (before_of old bytes) bytes new before after) (λ _. after ≡ before) → IsFrameNoted now old before bytes new after
  control_noted (Ok handled) ok err noted = OfControl handled ok noted
  control_noted (Err e) ok err noted = OfLoss err noted

  -- A message on the socket of a connection.
  pub socket_noted : (here : SocketAddr) {R E : Type 0} (r : Result R E) → OnOk r (IsProcessedAt here old bytes now new) → OnErr r (HasFailed old new)
      → MatchResult r (λ _. IsNotedAt (length old.events) bytes new before after) (λ _. after ≡ before) → IsFrameNoted now old before bytes new after
  socket_noted here (Ok x) ok err noted = OfSocket here ok noted
  socket_noted here (Err e) ok err noted = OfLoss err noted

  pub once : IsFrameNoted now old before bytes new after → AreNoted now old before new after
  once is = Next old before Start bytes new after is

-- ---- one after another

module _ (now : ℕ) (old : Protocol) (before : Notes) (p : Protocol) (n : Notes) (first : AreNoted now old before p n) where
  pub then_noted : (new : Protocol) (after : Notes) → AreNoted now p n new after → AreNoted now old before new after
  then_noted _ _ Start = first
  then_noted _ _ (Next q k rest bytes new after is) = Next q k (then_noted q k rest) bytes new after is
  then_noted _ _ (Moves q k rest allocations closing) = Moves q k (then_noted q k rest) allocations closing
  then_noted _ _ (Fails q k rest new failed) = Fails q k (then_noted q k rest) new failed

  pub same_then : (new : Protocol) (after : Notes) → new ≡ p → after ≡ n → AreNoted now old before new after
  same_then new after same unnoted =
      subst (λ (q : Protocol). AreNoted now old before q after) (sym same) (subst (λ (k : Notes). AreNoted now old before p k) (sym unnoted) first)

  -- A memory allocation failed afterwards.
  pub then_failed : (new : Protocol) → HasFailed p new → AreNoted now old before new n
  then_failed new failed = Fails p n first new failed

-- ---- what notes nothing

module _ (now : ℕ) (n : Notes) where
  -- The stream of a connection was replaced.
  pub stored_noted : (here : SocketAddr) (stream : Stream) (old new : Protocol) → new ≡ with_stored here stream old → AreNoted now old n new n
  stored_noted here stream old new is =
      subst (λ (p : Protocol). AreNoted now old n p n) (sym is) (Moves old n Start (with_stored here stream old).allocations old.closing)

  pub same_noted : (old new : Protocol) → new ≡ old → AreNoted now old n new n
  same_noted old new is = subst (λ (p : Protocol). AreNoted now old n p n) (sym is) Start

  closed_noted : (here server : SocketAddr) (old : Protocol) → AreNoted now old n (after_close here server old) n
  unfolding without
  closed_noted here server old =
      elim (is_joined here server old) as (λ b. AreNoted now old n (if b then without here old else old) n) [
        | true ↦ Moves old n Start (without here old).allocations (without here old).closing
        | false ↦ Start
      ]

  -- The socket of a connection was closed.
  pub ended_noted : {T : Type 0} (old : Protocol) (came : Transmit T) (answer : TurnRecvRet T) (new : Protocol) → IsEnded old came answer new → AreNoted now old n new n
  ended_noted old came answer new (Closes reported is) =
      subst (λ (p : Protocol). AreNoted now old n p n) (sym is) (closed_noted came.to old.server old)
  ended_noted old came answer new (LostEnd reported failed) = Fails old n Start new failed

  -- The bytes of a bound connection were delivered.
  pub raw_noted : {T : Type 0} (items : T → List ℕ) (c : Connection) (old : Protocol) (came : Transmit T) (answer : TurnRecvRet T) (new : Protocol) → IsRawTaken items c old came answer new → AreNoted now old n new n
  raw_noted items c old came answer new (GivesRaw reported is) =
      subst (λ (p : Protocol). AreNoted now old n p n) (sym is) (by (eqb (length c.stream.stored) 0))
    where
      by : (b : Bool) → AreNoted now old n (if b then old else with_stored came.to (alive []) old) n
      by true = Start
      by false = Moves old n Start (with_stored came.to (alive []) old).allocations old.closing
  raw_noted items c old came answer new (LostRaw some reported failed) = Fails old n Start new failed

-- The data of a frame was delivered in a vector of its own, or memory for that ran out.
pub payload_noted : {T : Type 0} (now : ℕ) (n : Notes) (frame : List ℕ) (payload : Payload) (came : Transmit T) (old : Protocol) (answer : TurnRecvRet T) (new : Protocol)
    → IsPayloadAnswered frame payload came old answer new → AreNoted now old n new n
payload_noted now n frame payload came old answer new (ReportedApart reported is) = same_noted now n old new is
payload_noted now n frame payload came old answer new (Refused gives reported failed) = Fails old n Start new failed

-- The buffered bytes of a connection were taken, if there were some.
pub waiting_noted : (now : ℕ) (n : Notes) (old : Protocol) (given : Option PeerPayload) (new : Protocol) → IsWaitingTaken old given new → AreNoted now old n new n
waiting_noted now n old given new is = by (raw_waiting old) is
  where
    by : (o : Option Connection) → MatchOption o ((given ≡ None) × (new ≡ old)) (λ c. IsRawGiven c old given new) → AreNoted now old n new n
    by None is = same_noted now n old new is.1
    by (Some c) is = subst (λ (p : Protocol). AreNoted now old n p n) (sym is.after) (Moves old n Start (emptied old.allocations) old.closing)
