-- After a failure is reported of bytes on a socket, no connection with its local address is left.
use Rattle.std.proofs.Common.{◌≡◌, ◌==◌, ◌++◌, ℕ, Bool, true, false, if◌then◌else◌, List, [], ◌∷◌, length, Option, Some, None, Ok, Err, Vec, Global, refl, sym, ap, ◌∙◌, subst, ◌⊎◌, inl, inr}
use Rattle.std.proofs.lemmas.List.{append_assoc, append_cancel_left}
use Rattle.std.specs.Bool.{MatchBool}
use Rattle.std.specs.Prelude.{MatchOption, Result}
use Rattle.std.specs.declared.net.socket_addr.SocketAddr.{SocketAddr}
use Rattle.turn_desk_core.specs.StunTypesWire.Attributes.{kind_at}
use Rattle.turn_desk_core.specs.StunTypesWire.Grammar.{refusal}
use Rattle.turn_desk_core.specs.StunTypesWire.Types.{class_of}
use Rattle.turn_desk_core.specs.StunTypesWire.declared.error.StunParseError.{StunParseError}
use Rattle.turn_client_proto_messages.specs.StunProtoClient.declared.error.LongTermClientAuthError.{LongTermClientAuthError}
use Rattle.turn_client_proto_messages.specs.StunProtoClient.declared.error.LongTermClientAuthError.TheVariants.{Unauthorized, IntegrityFailed, UnsupportedFeature, NoMemory}
use Rattle.turn_client_proto_messages.specs.StunProtoClient.declared.validation.LongTermClientValidation.{LongTermClientValidation}
use Rattle.turn_client_proto_messages.specs.StunProtoClient.declared.validation.LongTermClientValidation.TheVariants.{ResendRequest, Validated}
use Rattle.turn_client_proto_messages.specs.TurnRuns.Members.{IsIn}
use Rattle.turn_client_proto_api.specs.StunProtoAgent.Handling.{is_awaited}
use Rattle.turn_client_proto_api.specs.declared.answer.TurnRecvRet.{TurnRecvRet}
use Rattle.turn_client_proto_api.specs.declared.answer.TurnRecvRet.TheVariants as recv
use Rattle.turn_client_proto_api.specs.declared.event.TurnEvent.{TurnEvent}
use Rattle.turn_client_proto_api.specs.declared.event.TurnEvent.TheVariants.{TcpConnected, TcpConnectFailed}
use Rattle.turn_client_proto_core.specs.Receiving.{IsProcessed}
use Rattle.turn_client_proto_core.specs.Responding.{accepted, answered, judged}
use Rattle.turn_client_proto_step_laws.specs.Connection.Streams.{from}
use Rattle.turn_client_proto_step_laws.specs.Held.{Binding, Connection}
use Rattle.turn_client_proto_step_laws.specs.Recv.ClientState.{ClientState, Protocol}
use Rattle.turn_client_proto_step_laws.specs.Recv.Closing.{after_close}
use Rattle.turn_client_proto_step_laws.specs.Recv.Datagrams.{IsGivenBack}
use Rattle.turn_client_proto_step_laws.specs.Recv.Processing.{IsAnswerJudged, IsAnswerProcessed, IsOfBinding, IsProcessedAt, IsRequestedAnew, IsSettled, aborted, awaited_at, bound_at, is_answer, is_of_binding, is_success_class, requested_anew}
use Rattle.turn_client_proto_step_laws.specs.Recv.SocketChunks.{Closes, Fed, GivesRaw, IsBytesTaken, IsChunkFed, IsEnded, IsFed, IsFrameProcessed, IsMessageProcessed, IsRawTaken, IsTakenBy, LostEnd, LostFrames, LostRaw, Processes, Stops, Waits, after_raw, with_stored}
use Rattle.turn_client_proto_step_laws.specs.Recv.declared.processing.Joining.{Joining}
use Rattle.turn_client_proto_step_laws.proofs.Lists.{in_either, nothing_after}
use Rattle.turn_client_proto_step_laws.proofs.Polling.{by_test}
use Rattle.turn_client_proto_step_laws.proofs.SameHere.{processed_here}
use Rattle.turn_client_proto_step_laws.proofs.SameSockets.{same_address}
use Rattle.turn_desk_event.specs.TurnTypesFrame.StreamAnswers.{joined}
use Rattle.turn_desk_event.specs.TurnTypesFrame.Streams.{Stream, alive}
use Rattle.turn_desk_event.specs.declared.answer.Answer.{Answer}
use Rattle.turn_desk_event.specs.declared.event.Event.TheVariants as event
use Rattle.turn_desk_step_laws.specs.TurnClientProtoAllocation.Same.{is_same_address}
use Rattle.turn_desk_world.specs.Calls.{IsReported}
use Rattle.turn_desk_world.specs.Model.{World}
use Rattle.turn_desk_world.specs.Runs.{IsStep, is_in_range}
use Rattle.turn_desk_world_laws.specs.Ended.{AreNoneAt, HasNoneAt, HasReportedFailure, MayConnect}
use Rattle.turn_desk_world_laws.proofs.EndedBindings.{fed_none, is_aborted, none_exchanged}
use Rattle.turn_desk_world_laws.proofs.EndedStreams.{IsComing, coming, contents, none_after}

-- The events that were queued report no failure.
abbrev Unfailed : List TurnEvent → List TurnEvent → Type 0
Unfailed old new = (more : List TurnEvent) × (new ≡ old ++ more) × ((peer : SocketAddr) → IsIn (TcpConnectFailed peer) more → ⊥)

unfailed_same : (old new : List TurnEvent) → new ≡ old → Unfailed old new
unfailed_same old new same = ([], same ∙ nothing_after old, λ peer there. there)

unfailed_both : (old middle new : List TurnEvent) → Unfailed old middle → Unfailed middle new → Unfailed old new
unfailed_both old middle new one other = (
  one.0 ++ other.0,
  other.1 ∙ ap (λ (l : List TurnEvent). l ++ other.0) one.1 ∙ append_assoc old one.0 other.0,
  λ peer there. elim (in_either (TcpConnectFailed peer) one.0 other.0 there) [ inl first ↦ one.2 peer first | inr second ↦ other.2 peer second ],
)

module _ (here : SocketAddr) (now : ℕ) where
  -- No connection with that address is left, or no failure is reported.
  abbrev Is : Protocol → Protocol → Type 0
  Is old new = AreNoneAt here new.allocations ⊎ Unfailed old.events new.events

  abbrev same : (old new : Protocol) → new ≡ old → Is old new
  same old new is = inr (unfailed_same old.events new.events (ap (λ (p : Protocol). p.events) is))

  module _ (bytes : List ℕ) (new : Protocol) where
    binds : (peer : SocketAddr) (p : Protocol) → new ≡ bound_at here peer (accepted bytes p) → Is p new
    unfolding bound_at accepted
    binds peer p is = inr (TcpConnected peer ∷ [], ap (λ (q : Protocol). q.events) is, λ other there. elim there [ inl one ↦ Prim.cc one | inr none ↦ none ])

    asks_anew : (connection : ℕ) (p : Protocol) → IsRequestedAnew here connection now p new → Is p new
    unfolding requested_anew
    asks_anew connection p is = inr (unfailed_same p.events new.events (ap (λ (q : Protocol). q.events) is.after))

    settles : (peer : SocketAddr) (p : Protocol) → IsSettled here peer p bytes new → Is p new
    settles peer p h =
        by_test (is_awaited p.agent bytes)
        (λ (_ : is_awaited p.agent bytes ≡ true) one. by_test (is_success_class (class_of (kind_at bytes)))
        (λ (_ : is_success_class (class_of (kind_at bytes)) ≡ true) (o : new ≡ bound_at here peer (accepted bytes p)). binds peer p o)
        (λ (_ : is_success_class (class_of (kind_at bytes)) ≡ false) (o : new ≡ aborted here peer (accepted bytes p)). inl (is_aborted here peer (accepted bytes p) new o))
        one)
        (λ (_ : is_awaited p.agent bytes ≡ false) (o : new ≡ aborted here peer p). inl (is_aborted here peer p new o)) h

    judges : (verdict : Result LongTermClientValidation LongTermClientAuthError) (j : Joining) (p : Protocol) → IsAnswerJudged verdict here j p bytes now new → Is p new
    judges (Ok (ResendRequest choice)) j p h = asks_anew j.connection p h
    judges (Ok (Validated algorithm)) j p h = settles j.peer p h
    judges (Err NoMemory) j p h = absurd h
    judges (Err Unauthorized) j p h = inl (is_aborted here j.peer (answered bytes p) new h)
    judges (Err (IntegrityFailed algorithm)) j p h = inl (is_aborted here j.peer (answered bytes p) new h)
    judges (Err UnsupportedFeature) j p h = inl (is_aborted here j.peer (answered bytes p) new h)

    module _ (old : Protocol) where
      of_binding : (o : Option Joining) → IsOfBinding o here old bytes now new → Is old new
      of_binding None h = same old new h
      of_binding (Some j) h =
          by_test (is_answer j.number bytes)
          (λ (_ : is_answer j.number bytes ≡ true) (o : IsAnswerProcessed here j old bytes now new). judges o.verdict j (judged o.auth old) o.outcome)
          (λ (_ : is_answer j.number bytes ≡ false) (o : new ≡ aborted here j.peer old). inl (is_aborted here j.peer old new o)) h

      processed : IsProcessedAt here old bytes now new → Is old new
      processed is =
          by_test (is_of_binding old bytes)
          (λ (_ : is_of_binding old bytes ≡ true) (o : IsOfBinding (awaited_at here old.allocations) here old bytes now new). of_binding (awaited_at here old.allocations) o)
          (λ (_ : is_of_binding old bytes ≡ false) (o : new ≡ old). same old new o) is

  -- A frame, and then all.
  module _ (old : Protocol) (frame : List ℕ) (new : Protocol) (apart : here ≡ old.agent.here → ⊥) where
    abbrev Stays : Type 0
    Stays = Is old new × (new.agent.here ≡ old.agent.here)

    message_is : (b : Bool) → is_same_address here old.agent.here ≡ b → MatchBool b ((handled : Bool) × IsProcessed old frame now handled new) (IsProcessedAt here old frame now new) → Stays
    message_is true own is = absurd (apart (same_address here old.agent.here own))
    message_is false other is = (processed frame new old is, processed_here here frame now new old is)

    refused_is : (o : Option StunParseError) → MatchOption o (IsMessageProcessed here now old frame new) (λ error. new ≡ old) → Stays
    refused_is None is = message_is (is_same_address here old.agent.here) refl is
    refused_is (Some error) is = (same old new is, ap (λ (p : Protocol). p.agent.here) is)

    frame_is : IsFrameProcessed here now old frame new → Stays
    frame_is is = refused_is (refusal frame) is.1

  fed_is : (s : Stream) (state : Protocol) (left : Stream) (after : Protocol) → IsFed here now s state left after → (here ≡ state.agent.here → ⊥) → Is state after
  fed_is _ _ _ _ (Stops s state stops) apart = same state state refl
  fed_is _ _ _ _ (Waits s state joins none) apart = same state state refl
  fed_is _ _ _ _ (Processes s state middle left after joins some one more) apart =
      let first = frame_is state _ middle apart one in
      elim first.0 [
        | inl none ↦ inl (fed_none here now _ middle left after more none)
        | inr kept ↦ elim (fed_is _ middle left after more (λ e. apart (e ∙ first.1))) [
          | inl none ↦ inl none
          | inr later ↦ inr (unfailed_both state.events middle.events after.events kept later)
        ]
      ]

-- ---- by the step

same_events : (here : SocketAddr) (c : Connection) (p : Protocol) → (after_raw here c p).events ≡ p.events
same_events here c p = elim (length c.stream.stored == 0) as (λ b. (if b then p else with_stored here (alive []) p).events ≡ p.events) [ true ↦ refl | false ↦ refl ]

module _ (here there : SocketAddr) (w : World) (may : MayConnect here there w) (bytes : List ℕ) (now : ℕ) (ret : Answer) (new : Protocol) (is : IsComing here may.client bytes now ret new) where
  abbrev p : Protocol
  p = may.client.core

  never : {A : Type 0} → is.took ≡ recv.NoMemory is.came → A
  never lost = absurd (subst (λ (t : TurnRecvRet _). IsReported t ret) lost is.reported)

  chunk_is : (c : Connection) (left : Stream) (middle : Protocol) → new ≡ with_stored is.came.to left middle → IsChunkFed contents is.came.to now c.stream (with_stored is.came.to (alive []) p) is.came is.took left middle → Is here now p new
  chunk_is c left middle after (Fed fed handled) =
      let at : new ≡ with_stored here left middle = after ∙ ap (λ (h : SocketAddr). with_stored h left middle) is.to_is in
      elim (fed_is here now _ (with_stored here (alive []) p) left middle (subst (λ (h : SocketAddr). IsFed h now (joined c.stream is.came.bytes.now) (with_stored h (alive []) p) left middle) is.to_is fed) (λ e. may.apart (sym e))) [
        | inl none ↦ inl (subst (λ (q : Protocol). AreNoneAt here q.allocations) (sym at) (none_exchanged here left middle.allocations none))
        | inr kept ↦ inr (subst (λ (l : List TurnEvent). Unfailed p.events l) (sym (ap (λ (q : Protocol). q.events) at)) kept)
      ]
  chunk_is c left middle after (LostFrames lost feed) = never lost

  raw_is : (c : Connection) → IsRawTaken contents c p is.came is.took new → Is here now p new
  raw_is c (GivesRaw gives after) = inr (unfailed_same p.events new.events (ap (λ (q : Protocol). q.events) after ∙ same_events is.came.to c p))
  raw_is c (LostRaw some lost failed) = never lost

  bytes_are : (o : Option Binding) (c : Connection) → IsBytesTaken contents o c now p is.came is.took new → Is here now p new
  bytes_are (Some binding) c taken = chunk_is c taken.left taken.middle taken.after taken.fed
  bytes_are None c taken = raw_is c taken

  closes : IsEnded p is.came is.took new → Is here now p new
  closes (Closes handled after) = inl (subst (λ (q : Protocol). AreNoneAt here q.allocations) (sym (after ∙ ap (λ (h : SocketAddr). after_close h p.server p) is.to_is)) (none_after here p may.transport))
  closes (LostEnd lost failed) = never lost

  by_socket : (o : Option Connection) → MatchOption o (IsGivenBack p is.came is.took new) (λ c. IsTakenBy contents c now p is.came is.took new) → Is here now p new
  by_socket None back = same here now p new back.1
  by_socket (Some c) taken =
      by_test (length is.came.bytes.now == 0)
      (λ (_ : (length is.came.bytes.now == 0) ≡ true) (o : IsEnded p is.came is.took new). closes o)
      (λ (_ : (length is.came.bytes.now == 0) ≡ false) (o : IsBytesTaken contents c.awaited c now p is.came is.took new). bytes_are c.awaited c o) taken

pub failures_end : (here there : SocketAddr) (w v : World) (bytes : Vec ℕ Global) (now : ℕ) (ret : Answer) (may : MayConnect here there w) (k : ClientState) → is_in_range now ≡ true → IsStep (event.ToClient bytes there here now) w ret v
    → v.client ≡ Some k → HasReportedFailure may.client k → HasNoneAt here v
failures_end here there w v bytes now ret may k early step k_is failure other other_is =
    let same_client : k ≡ other = Prim.cc (sym k_is ∙ other_is) in
    let comes = coming here there w v bytes now ret early may step k k_is in
    subst (λ (x : ClientState). AreNoneAt here x.core.allocations) same_client
    (elim (by_socket here there w may bytes.items now ret k.core comes (from here may.client.core.allocations) comes.taken) [
      | inl none ↦ none
      | inr kept ↦
          let events : failure.events ≡ kept.0 = append_cancel_left may.client.core.events failure.events kept.0 (sym failure.events_are ∙ kept.1) in
          absurd (kept.2 failure.peer (subst (λ (l : List TurnEvent). IsIn (TcpConnectFailed failure.peer) l) events failure.reported))
    ])
