-- A refusal of a CONNECTION_BIND leaves no connection with the local address of its socket.
use Rattle.std.proofs.Common.{◌≡◌, ◌≢◌, ◌==◌, ◌++◌, ◌&&◌, ℕ, Bool, true, false, List, [], ◌∷◌, length, Option, Some, None, Ok, Err, Vec, Global, refl, sym, ap, ◌∙◌, subst, arith, inl, inr}
use Rattle.std.proofs.lemmas.Bool.{cases_Bool, eq-eqb, eqb-true}
use Rattle.std.specs.Bool.{MatchBool}
use Rattle.std.specs.Prelude.{MatchOption, Result, is_some, option_and_then, option_map}
use Rattle.std.specs.List.{find}
use Rattle.std.specs.Borrow.{Bor}
use Rattle.std.specs.declared.net.socket_addr.SocketAddr.{SocketAddr}
use Rattle.turn_desk_core.specs.StunTypesWire.Attributes.{kind_at}
use Rattle.turn_desk_core.specs.StunTypesWire.Grammar.{number_at}
use Rattle.turn_desk_core.specs.StunTypesWire.Types.{class_of, method_of}
use Rattle.turn_desk_core.specs.StunTypesWire.declared.class.MessageClass.TheVariants.{Error}
use Rattle.turn_desk_core.specs.StunTypesWire.declared.error.StunParseError.{StunParseError}
use Rattle.turn_desk_core.specs.TurnTypesAttributes.TurnRegistry.{connection_bind_method}
use Rattle.turn_client_proto_messages.specs.StunProtoClient.Client as auth
use Rattle.turn_client_proto_messages.specs.StunProtoClient.Challenges.{challenge_visible}
use Rattle.turn_client_proto_messages.specs.StunProtoClient.ClientValidation.{IsResent}
use Rattle.turn_client_proto_messages.specs.StunProtoClient.declared.error.LongTermClientAuthError.{LongTermClientAuthError}
use Rattle.turn_client_proto_messages.specs.StunProtoClient.declared.error.LongTermClientAuthError.TheVariants.{Unauthorized, IntegrityFailed, UnsupportedFeature, NoMemory}
use Rattle.turn_client_proto_messages.specs.StunProtoClient.declared.validation.LongTermClientValidation.{LongTermClientValidation}
use Rattle.turn_client_proto_messages.specs.StunProtoClient.declared.validation.LongTermClientValidation.TheVariants.{ResendRequest, Validated}
use Rattle.turn_client_proto_messages.specs.Judging.{IsJudged}
use Rattle.turn_client_proto_messages.specs.TurnRuns.Members.{IsIn}
use Rattle.turn_client_proto_messages.specs.Allocation.Changes.{change_first}
use Rattle.turn_client_proto_api.specs.StunProtoAgent.Handling.{is_awaited, is_response}
use Rattle.turn_client_proto_api.specs.declared.answer.TurnRecvRet.{TurnRecvRet}
use Rattle.turn_client_proto_api.specs.declared.event.TurnEvent.{TurnEvent}
use Rattle.turn_client_proto_api.specs.declared.event.TurnEvent.TheVariants.{TcpConnectFailed}
use Rattle.turn_client_proto_core.specs.Receiving.{IsProcessed}
use Rattle.turn_client_proto_core.specs.Responding.{accepted, answered, judged}
use Rattle.turn_client_proto_core.specs.declared.protocol.Phase.TheVariants.{Authenticated}
use Rattle.turn_client_proto_step_laws.specs.Connection.Sockets.{has_from, is_from}
use Rattle.turn_client_proto_step_laws.specs.Connection.Streams.{exchanged, exchanged_in, from, from_in, with_stream}
use Rattle.turn_client_proto_step_laws.specs.Held.{Allocation, Binding, Connection}
use Rattle.turn_client_proto_step_laws.specs.Recv.ClientState.{ClientState, Protocol}
use Rattle.turn_client_proto_step_laws.specs.Recv.Datagrams.{IsGivenBack}
use Rattle.turn_client_proto_step_laws.specs.Recv.Processing.{IsAnswerJudged, IsAnswerProcessed, IsOfBinding, IsProcessedAt, IsSettled, aborted, awaited_at, is_answer, is_of_binding, is_success_class, joining_by, joining_of}
use Rattle.turn_client_proto_step_laws.specs.Recv.SocketChunks.{Fed, IsBytesTaken, IsChunkFed, IsFed, IsFrameProcessed, IsMessageProcessed, IsTakenBy, IsTakenFor, LostFrames, Processes, Stops, Waits, is_joining, with_stored}
use Rattle.turn_client_proto_step_laws.specs.Recv.declared.processing.Joining.{Joining}
use Rattle.turn_client_proto_step_laws.proofs.Finding.{any_changed}
use Rattle.turn_client_proto_step_laws.proofs.Lists.{found_in, found_passes, in_changed, inside}
use Rattle.turn_client_proto_step_laws.proofs.Polling.{by_test}
use Rattle.turn_client_proto_step_laws.proofs.SameSockets.{same_address}
use Rattle.turn_client_proto_step_laws.proofs.Streaming.{from_first, from_here}
use Rattle.turn_client_proto_progress_laws.proofs.TcpBinding.Heads.{whole_frame, whole_look}
use Rattle.turn_desk_event.specs.TurnTypesFrame.StreamAnswers.{IsNone, joined}
use Rattle.turn_desk_event.specs.TurnTypesFrame.Streams.{Stream, alive}
use Rattle.turn_desk_event.specs.declared.answer.Answer.{Answer}
use Rattle.turn_desk_event.specs.declared.event.Event.TheVariants as event
use Rattle.turn_desk_world.specs.Calls.{IsReported}
use Rattle.turn_desk_world.specs.Model.{World}
use Rattle.turn_desk_world.specs.Runs.{IsStep, is_in_range}
use Rattle.turn_desk_step_laws.specs.TurnClientProtoAllocation.Same.{is_same_address}
use Rattle.turn_desk_world_laws.specs.Ended.{AreNoneAt, EndsBinding, HasNoneAt, IsBinding, IsUnbinding, NoResponse, OfOther, Rejects}
use Rattle.turn_desk_world_laws.proofs.EndedStreams.{IsComing, coming, contents, none_closed}

-- ---- the connection while its bytes are taken out

-- What is found, after it was changed.
found_first : {X : Type 0} (p : X → Bool) (f : X → X) (xs : List X) (y : X) → find p xs ≡ Some y → p (f y) ≡ true → find p (change_first p f xs) ≡ Some (f y)
found_first p f [] y found passes = absurd (Prim.cc found)
found_first p f (x ∷ xs) y found passes = elim (cases_Bool (p x)) [
  | inl is ↦
      let changed : change_first p f (x ∷ xs) ≡ f x ∷ xs = rw is refl in
      let at : find p (x ∷ xs) ≡ Some x = rw is refl in
      let one : x ≡ y = inside (sym at ∙ found) in
      let first : find p (f y ∷ xs) ≡ Some (f y) = rw passes refl in
      ap (find p) (changed ∙ ap (λ z. f z ∷ xs) one) ∙ first
  | inr fails ↦
      let changed : change_first p f (x ∷ xs) ≡ x ∷ change_first p f xs = rw fails refl in
      let at : find p (x ∷ xs) ≡ find p xs = rw fails refl in
      let later : find p (x ∷ change_first p f xs) ≡ find p (change_first p f xs) = rw fails refl in
      ap (find p) changed ∙ later ∙ found_first p f xs y (sym at ∙ found) passes
]

module _ (here : SocketAddr) where
  from_exchanged : (s : Stream) (all : List Allocation) (c : Connection) → from here all ≡ Some c → from here (exchanged here s all) ≡ Some (with_stream s c)
  from_exchanged s all c found =
      let first = from_first here all c found in
      let a = first.allocation in
      let has : has_from here (exchanged_in here s a) ≡ true =
      any_changed (is_from here) (with_stream s) (is_from here) (λ k. refl) a.connections ∙ found_passes (has_from here) all a first.found in
      let there : find (has_from here) (exchanged here s all) ≡ Some (exchanged_in here s a) = found_first (has_from here) (exchanged_in here s) all a first.found has in
      ap (option_and_then (from_in here)) there
      ∙ found_first (is_from here) (with_stream s) a.connections c first.at (found_passes (is_from here) a.connections c first.at)

  -- If there is none, nothing is found, and exchanging its bytes leaves none.
  none_found_there : (all : List Allocation) → AreNoneAt here all → from here all ≡ None
  none_found_there all none = by (from here all) refl
    where
      by : (o : Option Connection) → from here all ≡ o → from here all ≡ None
      by None is = is
      by (Some c) is =
          let first = from_first here all c is in
          absurd (none first.allocation (found_in (has_from here) all first.allocation first.found) c (found_in (is_from here) first.allocation.connections c first.at) (from_here here all c is))

  none_exchanged_in : (s : Stream) (a : Allocation) → ((c : Connection) → IsIn c a.connections → c.here ≢ here) → (c : Connection) → IsIn c (exchanged_in here s a).connections → c.here ≢ here
  none_exchanged_in s a none c there at = elim (in_changed (is_from here) (with_stream s) c a.connections there) [
    | inl was ↦ none c was at
    | inr image ↦ none image.source image.listed (sym (ap (λ (k : Connection). k.here) image.is) ∙ at)
  ]

  pub none_exchanged : (s : Stream) (all : List Allocation) → AreNoneAt here all → AreNoneAt here (exchanged here s all)
  none_exchanged s all none a listed c there at = elim (in_changed (has_from here) (exchanged_in here s) a all listed) [
    | inl was ↦ none a was c there at
    | inr image ↦ none_exchanged_in s image.source (none image.source image.listed) c (subst (λ (b : Allocation). IsIn c b.connections) image.is there) at
  ]

  none_joins : (p : Protocol) → AreNoneAt here p.allocations → is_joining here p ≡ false
  none_joins p none = ap (λ (o : Option Connection). is_some (option_and_then joining_of o)) (none_found_there p.allocations none)

  -- ---- the message

  none_aborted : (peer : SocketAddr) (p : Protocol) → AreNoneAt here (aborted here peer p).allocations
  unfolding aborted
  none_aborted peer p = none_closed here p.allocations

  pub is_aborted : (peer : SocketAddr) (p new : Protocol) → new ≡ aborted here peer p → AreNoneAt here new.allocations
  is_aborted peer p new is = subst (λ (q : Protocol). AreNoneAt here q.allocations) (sym is) (none_aborted peer p)

  module _ (transaction_id : ℕ) (message : List ℕ) (ends : EndsBinding transaction_id message) (now : ℕ) (p new : Protocol) (j : Joining) (number : j.number ≡ transaction_id) where
    -- The connection is removed, and an event reports it.
    abbrev Gone : Type 0
    Gone = AreNoneAt here new.allocations × (new.events ≡ p.events ++ TcpConnectFailed j.peer ∷ [])

    gone : (q : Protocol) → q.events ≡ p.events → new ≡ aborted here j.peer q → Gone
    unfolding aborted
    gone q same is = (
      is_aborted j.peer q new is,
      ap (λ (r : Protocol). r.events) is ∙ ap (λ (l : List TurnEvent). l ++ TcpConnectFailed j.peer ∷ []) same,
    )

    accepted_events : (q : Protocol) → (accepted message q).events ≡ q.events
    unfolding accepted
    accepted_events q = refl

    answered_events : (q : Protocol) → (answered message q).events ≡ q.events
    unfolding answered
    answered_events q = refl

    -- An error response, by the verdict on it.
    module _ (rejects : class_of (kind_at message) ≡ Error) (other : challenge_visible message ≡ None) where
      settled : (q : Protocol) → q.events ≡ p.events → IsSettled here j.peer q message new → Gone
      settled q same is =
          let fails : is_success_class (class_of (kind_at message)) ≡ false = ap is_success_class rejects in
          by_test (is_awaited q.agent message)
          (λ _ class.
          by_test (is_success_class (class_of (kind_at message)))
          (λ succeeds _. absurd (let never : ⊥ = Prim.cc (sym fails ∙ succeeds) in never))
          (λ _ is. gone (accepted message q) (accepted_events q ∙ same) is) class)
          (λ _ is. gone q same is) is

      by_verdict : (verdict : Result LongTermClientValidation LongTermClientAuthError) (a : auth.Client) → IsJudged p.auth message verdict a → IsAnswerJudged verdict here j (judged a p) message now new → Gone
      by_verdict (Ok (ResendRequest choice)) a is outcome = let r : IsResent p.auth message choice a = is in absurd (Prim.cc (sym other ∙ r.visible))
      by_verdict (Ok (Validated algorithm)) a is outcome = settled (judged a p) refl outcome
      by_verdict (Err Unauthorized) a is outcome = gone (answered message (judged a p)) (answered_events (judged a p)) outcome
      by_verdict (Err (IntegrityFailed algorithm)) a is outcome = gone (answered message (judged a p)) (answered_events (judged a p)) outcome
      by_verdict (Err UnsupportedFeature) a is outcome = gone (answered message (judged a p)) (answered_events (judged a p)) outcome
      by_verdict (Err NoMemory) a is outcome = absurd outcome

    -- Why it doesn't bind.
    by_cause : IsUnbinding transaction_id message → (b : Bool) → is_answer j.number message ≡ b → MatchBool b (IsAnswerProcessed here j p message now new) (new ≡ aborted here j.peer p) → Gone
    by_cause cause false at is = gone p refl is
    by_cause (NoResponse none) true at is =
        let fails : is_answer j.number message ≡ false = ap (λ (b : Bool). b && (number_at message == j.number)) none in
        absurd (let never : ⊥ = Prim.cc (sym at ∙ fails) in never)
    by_cause (OfOther other) true at is =
        let both : (is_response message && (number_at message == j.number)) ≡ true = at in
        absurd (other (eqb-true (number_at message) j.number (second (is_response message) (number_at message == j.number) both) ∙ number))
      where
        second : (x y : Bool) → (x && y) ≡ true → y ≡ true
        second true y is = is
        second false y is = absurd (Prim.cc is)
    by_cause (Rejects rejects other) true at is = by_verdict rejects other is.verdict is.auth is.is_judged is.outcome

    answered_gone : p.phase ≡ Authenticated → awaited_at here p.allocations ≡ Some j → IsProcessedAt here p message now new → Gone
    answered_gone phase awaited is =
        let of : is_of_binding p message ≡ true = rw (phase, eq-eqb (method_of (kind_at message)) connection_bind_method ends.method) refl in
        by_test (is_of_binding p message)
        (λ _ is. by_cause ends.unbinding (is_answer j.number message) refl (subst (λ (o : Option Joining). IsOfBinding o here p message now new) awaited is))
        (λ none _. absurd (let never : ⊥ = Prim.cc (sym of ∙ none) in never)) is

  -- ---- what follows it

  fed_same : (now : ℕ) (s : Stream) (state : Protocol) (left : Stream) (after : Protocol) → IsFed here now s state left after → AreNoneAt here state.allocations → after ≡ state
  fed_same now _ _ _ _ (Stops s state stops) none = refl
  fed_same now _ _ _ _ (Waits s state joins nothing) none = refl
  fed_same now _ _ _ _ (Processes s state middle left after joins some processed following) none = absurd (Prim.cc (sym joins ∙ none_joins state none))

  pub fed_none : (now : ℕ) (s : Stream) (state : Protocol) (left : Stream) (after : Protocol) → IsFed here now s state left after → AreNoneAt here state.allocations → AreNoneAt here after.allocations
  fed_none now s state left after fed none = subst (λ (q : Protocol). AreNoneAt here q.allocations) (sym (fed_same now s state left after fed none)) none

-- ---- the chunk that completes it

some_there : (b : List ℕ) → b ≢ [] → (length b == 0) ≡ false
some_there [] some = absurd (some refl)
some_there (x ∷ xs) some = elim (cases_Bool (length (x ∷ xs) == 0)) [
  | inl is ↦ absurd (let none = eqb-true (length (x ∷ xs)) 0 is in omega arith)
  | inr other ↦ other
]

module _ (here there : SocketAddr) (w : World) (transaction_id : ℕ) (head : List ℕ) (is : IsBinding here there transaction_id head w) (now : ℕ) where
  abbrev p : Protocol
  p = is.may.client.core

  abbrev c : Connection
  c = is.connection

  -- The client while the bytes of the connection are taken out.
  abbrev out : Protocol
  out = with_stored here (alive []) p

  abbrev awaiting : Joining
  awaiting = joining_by (with_stream (alive []) c) is.binding

  awaits : awaited_at here out.allocations ≡ Some awaiting
  awaits =
      ap (λ (o : Option Connection). option_and_then joining_of o) (from_exchanged here (alive []) p.allocations c is.first)
      ∙ ap (λ (o : Option Binding). option_map (joining_by (with_stream (alive []) c)) o) is.awaited

  -- The connection is removed, and an event reports it.
  abbrev Ends : Protocol → Type 0
  Ends q = AreNoneAt here q.allocations × (q.events ≡ p.events ++ TcpConnectFailed c.peer ∷ [])

  joins : is_joining here out ≡ true
  joins = ap is_some awaits

  other_address : is_same_address here out.agent.here ≡ false
  other_address = elim (cases_Bool (is_same_address here out.agent.here)) [
    | inl same ↦ absurd (is.may.apart (sym (same_address here out.agent.here same)))
    | inr other ↦ other
  ]

  module _ (message more : List ℕ) (ends : EndsBinding transaction_id message) where
    of_message : (q : Protocol) → IsFrameProcessed here now out message q → IsProcessedAt here out message now q
    of_message q frame =
        let m : IsMessageProcessed here now out message q = subst (λ (o : Option StunParseError). MatchOption o (IsMessageProcessed here now out message q) (λ error. q ≡ out)) ends.is_message frame.1 in
        subst (λ (b : Bool). MatchBool b ((handled : Bool) × IsProcessed out message now handled q) (IsProcessedAt here out message now q)) other_address m

    by_fed : (left : Stream) (middle : Protocol) → IsFed here now (alive (message ++ more)) out left middle → Ends middle
    by_fed _ _ (Stops stream state stops) = absurd (Prim.cc (sym joins ∙ stops))
    by_fed _ _ (Waits stream state still nothing) = absurd (subst IsNone (whole_look message more ends.is_message) nothing)
    by_fed _ _ (Processes stream state between left after still one processed following) =
        let gone = answered_gone here transaction_id message ends now out between awaiting is.number is.phase awaits
        (of_message between (subst (λ (l : List ℕ). IsFrameProcessed here now out l between) (whole_frame message more ends.is_message) processed)) in
        subst Ends (sym (fed_same here now _ between left after following gone.0)) gone

    module _ (bytes : List ℕ) (some : bytes ≢ []) (parts : head ++ bytes ≡ message ++ more) (ret : Answer) (new : Protocol) (comes : IsComing here is.may.client bytes now ret new) where
      whole : joined c.stream comes.came.bytes.now ≡ alive (message ++ more)
      whole = ap (λ (s : Stream). joined s comes.came.bytes.now) is.buffered ∙ ap (λ (l : List ℕ). alive (head ++ l)) comes.bytes_are ∙ ap alive parts

      chunk_fed : (left : Stream) (middle : Protocol) → new ≡ with_stored comes.came.to left middle → IsChunkFed contents comes.came.to now c.stream (with_stored comes.came.to (alive []) p) comes.came comes.took left middle → Ends new
      chunk_fed left middle after (Fed fed handled) =
          let fed_here : IsFed here now (alive (message ++ more)) out left middle =
          subst (λ (s : Stream). IsFed here now s out left middle) whole
          (subst (λ (h : SocketAddr). IsFed h now (joined c.stream comes.came.bytes.now) (with_stored h (alive []) p) left middle) comes.to_is fed) in
          let gone = by_fed left middle fed_here in
          subst Ends (sym (after ∙ ap (λ (h : SocketAddr). with_stored h left middle) comes.to_is))
          (none_exchanged here left middle.allocations gone.0, gone.1)
      chunk_fed left middle after (LostFrames lost feed) = absurd (subst (λ (t : TurnRecvRet (Bor (List ℕ))). IsReported t ret) lost comes.reported)

      taken_gone : IsTakenBy contents c now p comes.came comes.took new → Ends new
      taken_gone taken =
          by_test (length comes.came.bytes.now == 0)
          (λ none _. absurd (let never : ⊥ = Prim.cc (sym (ap (λ (l : List ℕ). length l == 0) comes.bytes_are ∙ some_there bytes some) ∙ none) in never))
          (λ _ is_taken. let fed : IsTakenFor contents c now p comes.came comes.took new = subst (λ (o : Option Binding). IsBytesTaken contents o c now p comes.came comes.took new) is.awaited is_taken in chunk_fed fed.left fed.middle fed.after fed.fed) taken

      pub refused_gone : Ends new
      refused_gone =
          taken_gone (subst (λ (o : Option Connection). MatchOption o (IsGivenBack p comes.came comes.took new) (λ k. IsTakenBy contents k now p comes.came comes.took new)) is.first comes.taken)

module _ (here there : SocketAddr) (w v : World) (bytes : Vec ℕ Global) (now : ℕ) (ret : Answer) (transaction_id : ℕ) (head message more : List ℕ) (some : bytes.items ≢ []) (early : is_in_range now ≡ true) (is : IsBinding here there transaction_id head w)
    (parts : head ++ bytes.items ≡ message ++ more) (ends : EndsBinding transaction_id message) (step : IsStep (event.ToClient bytes there here now) w ret v) where
  pub refused_so : (k : ClientState) → v.client ≡ Some k → AreNoneAt here k.core.allocations × (k.core.events ≡ is.may.client.core.events ++ TcpConnectFailed is.connection.peer ∷ [])
  refused_so k at = refused_gone here there w transaction_id head is now message more ends bytes.items some parts ret k.core (coming here there w v bytes now ret early is.may step k at)

  pub refusals_end : HasNoneAt here v
  refusals_end k at = (refused_so k at).0
