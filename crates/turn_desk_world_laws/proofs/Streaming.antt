-- What a client does with a chunk of its stream is determined, wherever the chunk's bytes are in memory,
-- unless an allocation fails.
use Rattle.std.proofs.Common.{◌≡◌, ◌≢◌, ℕ, Bool, true, false, List, Option, Some, None, refl, sym, ap, ◌∙◌, subst}
use Rattle.std.specs.Prelude.{MatchOption}
use Rattle.turn_desk_core.specs.StunTypesWire.Grammar.{refusal}
use Rattle.stun_types_base.specs.declared.transmit.Transmit.{Transmit}
use Rattle.turn_desk_event.specs.TurnTypesFrame.StreamAnswers.{IsNone, after_look, joined, looked}
use Rattle.turn_desk_event.specs.TurnTypesFrame.Streams.{Stream}
use Rattle.turn_desk_event.specs.TurnClientProtoApi.Payloads.{PeerPayload}
use Rattle.turn_desk_event.specs.TurnClientProtoApi.declared.answer.TurnRecvRet.{TurnRecvRet}
use Rattle.turn_desk_event.specs.TurnClientProtoApi.declared.answer.TurnRecvRet.TheVariants as recv
use Rattle.turn_client_proto_step_laws.specs.Recv.Control.{Open}
use Rattle.turn_client_proto_step_laws.specs.Recv.HandingIn.{IsFrameTaken, IsDispatched, taken_as}
use Rattle.turn_client_proto_step_laws.specs.Recv.ClientState.{ClientState, Protocol}
use Rattle.turn_desk_world.specs.TurnClientProtoPayload.Payloads.{payload_of}
use Rattle.turn_client_proto_step_laws.specs.Recv.Chunks.{Following, Invalid, First, HasStarted, IsAnsweredAfter, IsFirstTaken, IsFrameHandled, IsDeliveredAs, IsChunkTaken, Lost, Takes, Waits, apart, index_if, placed}
use Rattle.turn_client_proto_step_laws.specs.Recv.Pulls.{IsPulled, frame_of}
use Rattle.turn_client_proto_step_laws.specs.Recv.Receipts.{End, IsOfStream, IsStreamed, Chunk, Strange}
use Rattle.turn_client_proto_step_laws.specs.Recv.declared.handing.Taken.{Taken}
use Rattle.turn_client_proto_step_laws.specs.Recv.declared.handing.Taken.TheVariants.{Given, Garbled}
use Rattle.turn_desk_world.specs.TurnClientProtoPayload.declared.payload.Payload.{Payload}
use Rattle.turn_desk_world.specs.TurnClientProtoPayload.declared.payload.Payload.TheVariants.{Data, Framed, Report}
use Rattle.turn_client_proto_step_laws.proofs.OneReading.{pulled_same, taken_same}
use Rattle.turn_desk_world_laws.specs.Copies.{AreAlike, BothData, BothHandled, BothReports, IsCopy}
use Rattle.turn_desk_world_laws.proofs.SocketOnce.{alike_as, received_at_same}

-- ---- what becomes of a frame is one thing

-- A frame that gives something gives nothing else, and is not ignored.
no_other : (old : Protocol) (frame : List ℕ) (now : ℕ) (payload : Payload) (taken : Taken) (new : Protocol) → payload_of old frame ≡ Some payload → IsFrameTaken old frame now taken new → taken ≡ Given payload
no_other old frame now payload taken new is takes = by (payload_of old frame) is takes
  where
    by : (found : Option Payload) → found ≡ Some payload → MatchOption found (IsDispatched (refusal frame) old frame now taken new) (λ payload'. (taken ≡ Given payload') × (new ≡ old)) → taken ≡ Given payload
    by None is takes = absurd (Prim.cc is)
    by (Some found) is takes = takes.0 ∙ ap Given (Prim.cc is)

pub not_garbled : (handled : Bool) → taken_as handled ≡ Garbled → ⊥
not_garbled true is = Prim.cc is
not_garbled false is = Prim.cc is

not_given : (handled : Bool) (payload : Payload) → taken_as handled ≡ Given payload → ⊥
not_given true payload is = Prim.cc is
not_given false payload is = Prim.cc is

same_handled : (one other : Bool) → taken_as one ≡ taken_as other → one ≡ other
same_handled true true is = refl
same_handled true false is = absurd (Prim.cc is)
same_handled false true is = absurd (Prim.cc is)
same_handled false false is = refl

module _ {T : Type 0} (came copy : Transmit T) (answer again : TurnRecvRet T) where
  alike_after : (handled : Bool) (given : Option PeerPayload) → IsAnsweredAfter handled given came answer → IsAnsweredAfter handled given copy again → AreAlike came copy answer again
  alike_after handled None a b = alike_as came copy answer again handled a b
  alike_after handled (Some given) a b = BothData given a b

  alike_first : (owned : Bool) (frame : List ℕ) (payload : Payload) → IsDeliveredAs owned frame payload answer → IsDeliveredAs owned frame payload again → AreAlike came copy answer again
  alike_first owned frame (Data transport peer start end) a b = BothData (placed (index_if owned start end) (apart frame transport peer start end)) a b
  alike_first owned frame (Report transport peer report) a b = BothReports transport peer report.icmp_type report.code report.details a b
  alike_first owned frame (Framed number transport peer start end) a b = BothData (placed (index_if owned start end) (apart frame transport peer start end)) a b

  module _ (now : ℕ) (owned : Bool) (frame : List ℕ) (stream : Stream) (old : Protocol) (left rest : Stream) (one other : Protocol) where
    abbrev Agree : Type 0
    Agree = AreAlike came copy answer again × (left ≡ rest) × (one ≡ other)

    first_same : IsFirstTaken now owned frame stream old came answer left one → IsFirstTaken now owned frame stream old copy again rest other → Agree
    first_same (First payload gives reported stays same) (First later gave known stayed as_it_was) =
        let equal : payload ≡ later = Prim.cc (sym gives ∙ gave) in
        (alike_first owned frame later (subst (λ (p : Payload). IsDeliveredAs owned frame p answer) equal reported) known, stays ∙ sym stayed, same ∙ sym as_it_was)
    first_same (First payload gives reported stays same) (Invalid takes known stayed) = absurd (Prim.cc (no_other old frame now payload Garbled other gives takes))
    first_same (First payload gives reported stays same) (Following handled middle takes given pull known) = absurd (not_given handled payload (no_other old frame now payload (taken_as handled) middle gives takes))
    first_same (Invalid takes reported stays) (First payload gives known stayed same) = absurd (Prim.cc (no_other old frame now payload Garbled one gives takes))
    first_same (Invalid takes reported stays) (Invalid takes_too known stayed) = (BothHandled reported known, stays ∙ sym stayed, (taken_same old frame now Garbled Garbled one other takes takes_too).1)
    first_same (Invalid takes reported stays) (Following handled middle takes_too given pull known) = absurd (not_garbled handled (sym (taken_same old frame now Garbled (taken_as handled) one middle takes takes_too).0))
    first_same (Following handled middle takes given pull reported) (First payload gives known stayed same) = absurd (not_given handled payload (no_other old frame now payload (taken_as handled) middle gives takes))
    first_same (Following handled middle takes given pull reported) (Invalid takes_too known stayed) = absurd (not_garbled handled (taken_same old frame now (taken_as handled) Garbled middle other takes takes_too).0)
    first_same (Following handled middle takes given pull reported) (Following later between takes_too gave pull_too known) =
        let same = taken_same old frame now (taken_as handled) (taken_as later) middle between takes takes_too in
        let pulls = pulled_same now stream between given gave left rest one other (subst (λ (p : Protocol). IsPulled (IsFrameHandled now) stream p given left one) same.1 pull) pull_too in
        let is : IsAnsweredAfter later gave came answer =
        subst (λ (o : Option PeerPayload). IsAnsweredAfter later o came answer) pulls.0 (subst (λ (h : Bool). IsAnsweredAfter h given came answer) (same_handled handled later same.0) reported) in
        (alike_after later gave is known, pulls.1, pulls.2)

-- Whether a frame began before the chunk is determined.
same_started : (stream : Stream) (one other : Bool) → HasStarted stream one → HasStarted stream other → one ≡ other
same_started stream true true a b = refl
same_started stream true false a b = absurd (a b)
same_started stream false true a b = absurd (b a)
same_started stream false false a b = refl

module _ {T : Type 0} (items : T → List ℕ) (now : ℕ) (stream : Stream) (old : Protocol) (came copy : Transmit T) (answer again : TurnRecvRet T) where
  module _ (left rest : Stream) (one other : Protocol) (enough : answer ≢ recv.NoMemory came) (ample : again ≢ recv.NoMemory copy) where
    abbrev Same : Type 0
    Same = AreAlike came copy answer again × (left ≡ rest) × (one ≡ other)

    -- Both have the same bytes.
    taken_alike : (bytes : List ℕ) → bytes ≡ items came.bytes → bytes ≡ items copy.bytes → IsChunkTaken items now stream old came answer left one → IsChunkTaken items now stream old copy again rest other → Same
    taken_alike bytes here there (Waits none reported stays same) (Waits none_too known stayed as_it_was) =
        (BothHandled reported known, stays ∙ ap (λ (l : List ℕ). after_look (joined stream l)) (sym here ∙ there) ∙ sym stayed, same ∙ sym as_it_was)
    taken_alike bytes here there (Waits none reported stays same) (Takes some owned started takes) = absurd (some (subst (λ (l : List ℕ). IsNone (looked (joined stream l))) (sym here ∙ there) none))
    taken_alike bytes here there (Takes some owned started takes) (Waits none known stayed same) = absurd (some (subst (λ (l : List ℕ). IsNone (looked (joined stream l))) (sym there ∙ here) none))
    taken_alike bytes here there (Takes some owned started takes) (Takes some_too again_owned started_too takes_too) =
        let as_owned = same_started stream again_owned owned started_too started in
        let other_takes : IsFirstTaken now owned (frame_of (joined stream (items copy.bytes))) (after_look (joined stream (items copy.bytes))) old copy again rest other =
        subst (λ (b : Bool). IsFirstTaken now b (frame_of (joined stream (items copy.bytes))) (after_look (joined stream (items copy.bytes))) old copy again rest other) as_owned takes_too in
        let on_these : IsFirstTaken now owned (frame_of (joined stream (items came.bytes))) (after_look (joined stream (items came.bytes))) old copy again rest other =
        subst (λ (l : List ℕ). IsFirstTaken now owned (frame_of (joined stream l)) (after_look (joined stream l)) old copy again rest other) (sym there ∙ here) other_takes in
        first_same came copy answer again now owned (frame_of (joined stream (items came.bytes))) (after_look (joined stream (items came.bytes))) old left rest one other takes on_these
    taken_alike bytes here there (Lost reported lost) b = absurd (enough reported)
    taken_alike bytes here there (Waits none reported stays same) (Lost known lost) = absurd (ample known)
    taken_alike bytes here there (Takes some owned started takes) (Lost known lost) = absurd (ample known)

  of_copy : IsCopy items came copy → IsOfStream old came → IsOfStream old copy
  of_copy c is = record {
    of_server = record { transport = c.transport ∙ is.of_server.transport; from = c.from ∙ is.of_server.from; to = c.to ∙ is.of_server.to };
    works = is.works;
  }

  copy_of : IsCopy items came copy → IsOfStream old copy → IsOfStream old came
  copy_of c is = record {
    of_server = record { transport = sym c.transport ∙ is.of_server.transport; from = sym c.from ∙ is.of_server.from; to = sym c.to ∙ is.of_server.to };
    works = is.works;
  }

  pub streamed_same : (one other : ClientState) → answer ≢ recv.NoMemory came → again ≢ recv.NoMemory copy → IsCopy items came copy → IsStreamed items now stream old came answer one → IsStreamed items now stream old copy again other
      → AreAlike came copy answer again × (one.core ≡ other.core) × (one.control ≡ other.control)
  streamed_same one other enough ample c (Chunk is some left occurs takes) (Chunk was some_too rest stood takes_too) =
      let same = taken_alike left rest one.core other.core enough ample (items came.bytes) refl (sym c.bytes) takes takes_too in
      (same.0, same.2, occurs ∙ ap Open same.1 ∙ sym stood)
  streamed_same one other enough ample c (Chunk is some left occurs takes) (End was none known same closed) = absurd (some (sym c.bytes ∙ none))
  streamed_same one other enough ample c (Chunk is some left occurs takes) (Strange not_so given stays) = absurd (not_so (of_copy c is))
  streamed_same one other enough ample c (End is none reported same closed) (Chunk was some rest stood takes) = absurd (some (c.bytes ∙ none))
  streamed_same one other enough ample c (End is none reported same closed) (End was none_too known as_it_was closed_too) = (BothHandled reported known, same ∙ sym as_it_was, closed ∙ sym closed_too)
  streamed_same one other enough ample c (End is none reported same closed) (Strange not_so given stays) = absurd (not_so (of_copy c is))
  streamed_same one other enough ample c (Strange not_so given stays) (Chunk was some rest stood takes) = absurd (not_so (copy_of c was))
  streamed_same one other enough ample c (Strange not_so given stays) (End was none known same closed) = absurd (not_so (copy_of c was))
  streamed_same one other enough ample c (Strange not_so given stays) (Strange nor given_too stays_too) =
      let same = received_at_same items came copy answer again enough ample c now old one.core other.core given given_too in
      (same.0, same.1, stays ∙ sym stays_too)
