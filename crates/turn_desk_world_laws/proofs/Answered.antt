-- What the last result of a run lists or gives was granted in the run, and what it gives is what came.
use Rattle.std.proofs.Common.{Vec, Global, ◌≡◌, ℕ, Bool, true, false, List, [], ◌∷◌, ◌++◌, filter, map, Option, Some, None, is_none, refl, sym, ap, ◌∙◌, subst, inl, inr}
use Rattle.std.proofs.lemmas.Bool.{cases_Bool}
use Rattle.std.proofs.lemmas.List.{append_assoc}
use Rattle.std.specs.Borrow.{Bor}
use Rattle.std.specs.Net.Socket.{socket_ip}
use Rattle.std.specs.declared.net.socket_addr.SocketAddr.{SocketAddr}
use Rattle.turn_desk_core.specs.StunTypesWire.Grammar.{refusal}
use Rattle.stun_types_base.specs.declared.transport.TransportType.{TransportType}
use Rattle.stun_types_base.specs.declared.transport.TransportType.TheVariants.{Tcp}
use Rattle.turn_desk_event.specs.TurnTypesFrame.Streams.{Stream}
use Rattle.turn_desk_step_laws.specs.TurnRuns.Chains.{steps_of}
use Rattle.turn_desk_step_laws.specs.TurnClientProtoAllocation.declared.connection.Binding.{Binding}
use Rattle.turn_desk_step_laws.specs.TurnClientProtoAllocation.declared.connection.Connection.{Connection as Joined}
use Rattle.turn_desk_event.specs.TurnClientProtoApi.Payloads.{PeerPayload}
use Rattle.turn_desk_world.specs.TurnClientProtoConnection.Streams.{emptied}
use Rattle.turn_client_proto_step_laws.specs.Recv.Control.{Control, Datagrams, Open, Closed}
use Rattle.turn_desk_step_laws.specs.TurnRuns.Headline.{IsSafe, ShowsTraced, Traced}
use Rattle.turn_desk_step_laws.specs.TurnRuns.Indications.{Carries}
use Rattle.turn_client_proto_step_laws.specs.Recv.ClientState.{ClientState, Protocol}
use Rattle.turn_desk_step_laws.specs.TurnRuns.Members.{IsIn}
use Rattle.turn_desk_step_laws.specs.TurnRuns.Messages.{Connection, FromConnection, Held, NamesHeld, Payload, Permission, Reported}
use Rattle.turn_client_proto_step_laws.specs.Recv.Receipts.{End, IsReceivedBy, IsStreamed, Chunk, Strange}
use Rattle.turn_desk_step_laws.specs.TurnRuns.Runs.{Step, AtClient, AtEach, IsLawful}
use Rattle.turn_client_proto_step_laws.specs.Recv.SocketChunks.{after_raw, raw_given, raw_stored}
use Rattle.turn_desk_step_laws.specs.TurnRuns.Steps.{Call as StepCall, IsDelivered}
use Rattle.turn_client_proto_step_laws.specs.ClientWords.{client_words}
use Rattle.turn_client_proto_step_laws.specs.RunClient.{Client}
use Rattle.turn_client_proto_step_laws.proofs.Lists.{inside, nothing_after}
use Rattle.turn_client_proto_step_laws.proofs.Polling.{by_test}
use Rattle.turn_client_proto_step_laws.proofs.Streaming.{from_here}
use Rattle.turn_desk_event.specs.declared.answer.Answer.{Answer}
use Rattle.turn_desk_event.specs.declared.answer.Answer.TheVariants as answer
use Rattle.turn_desk_event.specs.declared.event.ClientCall.{ClientCall}
use Rattle.turn_desk_event.specs.declared.event.ClientCall.TheVariants as call
use Rattle.turn_desk_event.specs.declared.event.Event.{Event}
use Rattle.turn_desk_event.specs.declared.event.Event.TheVariants.{Call, ToClient}
use Rattle.turn_desk_step_laws.specs.DeskRun.{DeskCall}
use Rattle.turn_desk_world.specs.Calls.{IsFed}
use Rattle.turn_desk_world.specs.Model.{World}
use Rattle.turn_desk_world.specs.Runs.{IsAtClient, IsInRange, IsStep, is_in_range}
use Rattle.turn_desk_world_laws.specs.Safety.{IsCarried, IsDataBrought, IsDataCarried, IsDataStored, IsLastAnswered, IsPassedRaw, WasGranted, held_by, last_taken, words}
use Rattle.turn_desk_world_laws.specs.SocketCalls.{AreCallsBound, AreCallsOver, GivesNothing, IsOne, IsPassedOn}
use Rattle.turn_desk_world_laws.proofs.AtSocket.{socket_there}
use Rattle.turn_desk_world_laws.specs.Reported.{AreCallsBy, AreCallsOfAsking, AreCallsOfBytes, AreCallsOfChunk, AreCallsOverTcp, AreStepsBy, AreStepsOfClient, AreTakenUp, HandsNothing, IsCallOf, IsOneCall, IsReportedBy, OfStream, OverNone, OverSocket, arriving, connections_bound, data_of, given_of, raw_requested, listed_in}

-- The newest steps of a run are its last event's.
pub record IsNewest (pair : Event × Answer) (run : List (Step Client DeskCall)) (new : World) : Type 0 where
  pub before : World
  pub steps : List (Step Client DeskCall)
  pub earlier : List (Step Client DeskCall)
  pub run_is : run ≡ steps ++ earlier
  pub step : IsStep pair.0 before pair.1 new
  pub reported : AreStepsBy pair.0 pair.1 before steps new

pub newest : (pairs : List (Event × Answer)) (pair : Event × Answer) (old new : World) (run : List (Step Client DeskCall)) → IsReportedBy old (pairs ++ pair ∷ []) run new → IsNewest pair run new
unfolding IsReportedBy
newest [] pair old new run is = record {
  before = old;
  steps = is.1;
  earlier = [];
  run_is = is.3 ∙ ap (λ (l : List (Step Client DeskCall)). l ++ is.1) is.6.0 ∙ nothing_after is.1;
  step = subst (λ (w : World). IsStep pair.0 old pair.1 w) (sym is.6.1) is.4;
  reported = subst (λ (w : World). AreStepsBy pair.0 pair.1 old is.1 w) (sym is.6.1) is.5;
}
newest (first ∷ pairs) pair old new run is =
    let rest = newest pairs pair is.0 new is.2 is.6 in
    record {
      before = rest.before;
      steps = rest.steps;
      earlier = rest.earlier ++ is.1;
      run_is = is.3 ∙ ap (λ (l : List (Step Client DeskCall)). l ++ is.1) rest.run_is ∙ append_assoc rest.steps rest.earlier is.1;
      step = rest.step;
      reported = rest.reported;
    }

-- ---- what it shows

-- The newest step is a call of the client by that event.
record IsNewestCall (happening : Event) (ret : Answer) (run : List (Step Client DeskCall)) : Type 0 where
  call : StepCall Client
  earlier : List (Step Client DeskCall)
  run_is : run ≡ AtClient call ∷ earlier
  reported : IsCallOf happening ret call

newest_call : (happening : Event) (ret : Answer) (first last : Client) (calls : List (StepCall Client)) (run earlier : List (Step Client DeskCall)) → run ≡ steps_of calls ++ earlier → IsOneCall happening ret first calls last → IsNewestCall happening ret run
newest_call happening ret first last calls run earlier run_is (call, calls_are, begins, ends, is) = record {
  call = call;
  earlier = earlier;
  run_is = run_is ∙ ap (λ (l : List (StepCall Client)). steps_of l ++ earlier) calls_are;
  reported = is;
}

-- What that step lists is traced.
shows : (happening : Event) (ret : Answer) (run : List (Step Client DeskCall)) → IsNewestCall happening ret run → AtEach (ShowsTraced words) run → (h : Held) → IsIn h (listed_in happening ret) → Traced words run h
shows happening ret run n each h listed =
    let here : AtEach (ShowsTraced words) (AtClient n.call ∷ n.earlier) = subst (λ (l : List (Step Client DeskCall)). AtEach (ShowsTraced words) l) n.run_is each in
    subst (λ (l : List (Step Client DeskCall)). Traced words l h) (sym n.run_is) (here.0 h (subst (λ (l : List Held). IsIn h l) (sym n.reported.visible_is) listed))

pub listed_granted : (what : ClientCall) (now : ℕ) (ret : Answer) (first last : Client) (run : List (Step Client DeskCall))
    → ((stored : ClientState) (one other : Client) (calls : List (StepCall Client)) → AreCallsBy (Call what now) stored ret one calls other → IsOneCall (Call what now) ret one calls other)
    → IsLastAnswered (Call what now) ret first run last → (h : Held) → IsIn h (listed_in (Call what now) ret) → WasGranted first run last h
listed_granted what now ret first last run one is h listed forged distinct =
    let n = newest is.before (Call what now, ret) is.old is.new run is.account.reported in
    let by : AreStepsOfClient (Call what now) ret n.before.client is.new.client n.steps = n.reported in
    let run_is = n.run_is ∙ ap (λ (l : List (Step Client DeskCall)). l ++ n.earlier) by.steps_are in
    shows (Call what now) ret run (newest_call (Call what now) ret by.first by.last by.calls run n.earlier run_is (one by.stored by.first by.last by.calls by.are)) (is.promised.visible forged distinct) h listed

-- ---- what it gives

-- The newest step is one in which a frame was handled, and delivered what is in the result.
pub record IsLastFrame (ret : Answer) (run : List (Step Client DeskCall)) : Type 0 where
  call : StepCall Client
  earlier : List (Step Client DeskCall)
  run_is : run ≡ AtClient call ∷ earlier
  frame : List ℕ
  handled_is : call.handled ≡ frame ∷ []
  payloads_are : call.payloads ≡ given_of frame ret

-- Or the newest step is one in which bytes of such a connection's peer were delivered, which are in the
-- result.
pub record IsLastRaw (Of : Joined → PeerPayload → Type 0) (ret : Answer) (run : List (Step Client DeskCall)) : Type 0 where
  call : StepCall Client
  earlier : List (Step Client DeskCall)
  run_is : run ≡ AtClient call ∷ earlier
  k : Joined
  given : PeerPayload
  is_of : Of k given
  answered : ret ≡ answer.Peer given
  transport_is : given.transport ≡ Tcp
  peer_is : k.peer ≡ given.peer
  payloads_are : call.payloads ≡ FromConnection k.here k.peer given.payload ∷ []

pub data IsLastGiven (Of : Joined → PeerPayload → Type 0) (ret : Answer) (run : List (Step Client DeskCall)) : Type 0 where
  ByFrame : IsLastFrame ret run → IsLastGiven Of ret run
  ByPeer : IsLastRaw Of ret run → IsLastGiven Of ret run

-- These bytes came to the connection's local address, and are given after those that were buffered.
pub record IsBroughtTo (to : SocketAddr) (bytes : List ℕ) (k : Joined) (given : PeerPayload) : Type 0 where
  at : k.here ≡ to
  waited : List ℕ
  payload_is : given.payload ≡ waited ++ bytes

-- They were buffered.
abbrev pub HasWaited : Joined → PeerPayload → Type 0
HasWaited k given = Unit {0}

-- What gives nothing delivers nothing.
gives_nothing : (ret : Answer) → GivesNothing ret → HandsNothing ret
gives_nothing (answer.Peer given) is = absurd is
gives_nothing (answer.Icmp transport peer kind code details) is = absurd is
gives_nothing _ is = λ bytes. refl

module _ (ret : Answer) (gives : ¬ HandsNothing ret) (run : List (Step Client DeskCall)) where
  of_frames : (now : ℕ) (first last : Client) (calls : List (StepCall Client)) (earlier : List (Step Client DeskCall)) → run ≡ steps_of calls ++ earlier → AreTakenUp now ret first calls last → IsLastFrame ret run
  of_frames now first last [] earlier run_is are = absurd (gives are.1)
  of_frames now first last (call ∷ calls) earlier run_is (ends, up, others) = record {
    call = call;
    earlier = steps_of calls ++ earlier;
    run_is = run_is;
    frame = up.frame;
    handled_is = up.handled_is;
    payloads_are = up.payloads_are;
  }

  -- After the call in which they arrived.
  of_taken : (now : ℕ) (first last : Client) (calls : List (StepCall Client)) (coming : StepCall Client) (earlier : List (Step Client DeskCall)) → run ≡ steps_of (calls ++ coming ∷ []) ++ earlier → AreTakenUp now ret first calls last
      → IsLastFrame ret run
  of_taken now first last [] coming earlier run_is are = absurd (gives are.1)
  of_taken now first last (call ∷ calls) coming earlier run_is (ends, up, others) = record {
    call = call;
    earlier = steps_of (calls ++ coming ∷ []) ++ earlier;
    run_is = run_is;
    frame = up.frame;
    handled_is = up.handled_is;
    payloads_are = up.payloads_are;
  }

  module _ (now : ℕ) (stored : ClientState) (first last : Client) (calls : List (StepCall Client)) (earlier : List (Step Client DeskCall)) (run_is : run ≡ steps_of calls ++ earlier) where
    of_raw : (Of : Joined → PeerPayload → Type 0) (k : Joined) (given : PeerPayload) → Of k given → (core : Protocol) → given.transport ≡ Tcp → k.peer ≡ given.peer → IsOne (IsPassedOn k given core ret) first calls last → IsLastRaw Of ret run
    of_raw Of k given is_of core tcp peer (call, calls_are, begins, ends, is) = record {
      call = call;
      earlier = earlier;
      run_is = run_is ∙ ap (λ (l : List (StepCall Client)). steps_of l ++ earlier) calls_are;
      k = k;
      given = given;
      is_of = is_of;
      answered = is.answered;
      transport_is = tcp;
      peer_is = peer;
      payloads_are = is.payloads_are;
    }

    -- What came to a local address.
    abbrev Came : SocketAddr → List ℕ → Type 0
    Came to bytes = IsLastGiven (IsBroughtTo to bytes) ret run

    of_chunk : (bytes : List ℕ) (from to : SocketAddr) → AreCallsOfChunk stored bytes from to now ret first calls last → Came to bytes
    of_chunk bytes from to are = ByFrame (of_taken now are.coming.after last are.taking are.coming earlier (run_is ∙ ap (λ (l : List (StepCall Client)). steps_of l ++ earlier) are.calls_are) are.taken)

    of_bound : (awaited : Option Binding) (k : Joined) (to : SocketAddr) → k.here ≡ to → (bytes : List ℕ) → AreCallsBound awaited k to now bytes ret stored.core first calls last → Came to bytes
    of_bound (Some binding) k to at bytes are = absurd (gives (gives_nothing ret are.0))
    of_bound None k to at bytes are = ByPeer (of_raw (IsBroughtTo to bytes) k (record (raw_given k bytes) { index = None }) (record { at = at; waited = k.stream.stored; payload_is = refl }) (after_raw to k stored.core) refl refl are)

    of_over : (k : Joined) (to : SocketAddr) → k.here ≡ to → (bytes : List ℕ) → AreCallsOver k to now bytes ret stored.core first calls last → Came to bytes
    of_over k to at [] are = absurd (gives (gives_nothing ret are.0))
    of_over k to at (byte ∷ bytes) are = of_bound k.awaited k to at (byte ∷ bytes) are

    of_tcp : (bytes : List ℕ) (from to : SocketAddr) → AreCallsOverTcp stored bytes from to now ret first calls last → Came to bytes
    of_tcp bytes from to (OfStream is are) = of_chunk bytes from to are
    of_tcp bytes from to (OverSocket none inside_it k there are) = of_over k to (from_here to stored.core.allocations k (socket_there stored.core from to k there)) bytes are
    of_tcp bytes from to (OverNone none no_socket are) = of_chunk bytes from to are

    of_asking : (raw : Option Joined) → AreCallsOfAsking raw now stored ret first calls last → IsLastGiven HasWaited ret run
    of_asking (Some k) are = ByPeer (of_raw HasWaited k (raw_stored k) tt (record stored.core { allocations = emptied stored.core.allocations }) refl refl are)
    of_asking None are = ByFrame (of_frames now first last calls earlier run_is are)

    of_datagram : (bytes : Vec ℕ Global) (from to : SocketAddr) → IsOneCall (ToClient bytes from to now) ret first calls last → IsLastFrame ret run
    of_datagram bytes from to are =
        let n = newest_call (ToClient bytes from to now) ret first last calls run earlier run_is are in
        record { call = n.call; earlier = n.earlier; run_is = n.run_is; frame = bytes.items; handled_is = n.reported.handled_is; payloads_are = n.reported.payloads_are }

    of_bytes : (control : Control) (bytes : Vec ℕ Global) (from to : SocketAddr) → AreCallsOfBytes control stored bytes from to now ret first calls last → Came to bytes.items
    of_bytes Datagrams bytes from to are = ByFrame (of_datagram bytes from to are)
    of_bytes (Open stream) bytes from to are = of_tcp bytes.items from to are
    of_bytes Closed bytes from to are = of_tcp bytes.items from to are

-- A payload of that frame is what it carries, and names what was granted.
module _ (event : Event) (ret : Answer) (first last : Client) (run : List (Step Client DeskCall)) (is : IsLastAnswered event ret first run last) (n : IsLastFrame ret run) where
  -- What was delivered in that call is what the frame carries.
  of_frame : (p : Payload) → (f : List ℕ) × IsIn f n.call.handled × Carries f p → Carries n.frame p
  of_frame p (f, listed, carries) = elim (subst (λ (l : List (List ℕ)). IsIn f l) n.handled_is listed) [
    | inl same ↦ subst (λ (l : List ℕ). Carries l p) (sym same) carries
    | inr none ↦ absurd none
  ]

  carried : (payload : List ℕ → Payload) (held : List ℕ → Held) → IsIn (payload n.frame) (given_of n.frame ret)
      → (IsDelivered client_words n.call (payload n.frame) → (f : List ℕ) × IsIn f n.call.handled × Carries f (payload n.frame)) → ((g : Held) → NamesHeld (payload n.frame) g → g ≡ held n.frame) → IsCarried first run last payload held
  carried payload held listed as_came one =
      let p = payload n.frame in
      let delivered : IsIn p n.call.payloads = subst (λ (l : List Payload). IsIn p l) (sym n.payloads_are) listed in
      let lawful : AtEach (λ s _. IsLawful words s) (AtClient n.call ∷ n.earlier) = subst (λ (l : List (Step Client DeskCall)). AtEach (λ s _. IsLawful words s) l) n.run_is is.account.lawful in
      record {
        frame = n.frame;
        taken = subst (λ (l : List (Step Client DeskCall)). IsIn n.frame (last_taken l)) (sym n.run_is) (subst (λ (l : List (List ℕ)). IsIn n.frame l) (sym n.handled_is) (inl refl));
        carries = of_frame p (as_came (lawful.0.delivers p delivered));
        granted = λ forged distinct.
            let safe : AtEach (IsSafe words first last run) (AtClient n.call ∷ n.earlier) = subst (λ (l : List (Step Client DeskCall)). AtEach (IsSafe words first last run) l) n.run_is (is.promised.safe forged distinct) in
            let named = (safe.0.names p delivered).1 in
            subst (λ (l : List (Step Client DeskCall)). Traced words l (held n.frame)) (sym n.run_is) (subst (λ (g : Held). Traced words (AtClient n.call ∷ n.earlier) g) (one named.0 named.1) named.3);
      }

  data_delivered : (b : Bool) (frame : List ℕ) (given : PeerPayload) → IsDelivered client_words n.call (data_of b frame given) → (f : List ℕ) × IsIn f n.call.handled × Carries f (data_of b frame given)
  data_delivered true frame given came = came
  data_delivered false frame given came = came

  data_named : (b : Bool) (frame : List ℕ) (given : PeerPayload) (g : Held) → NamesHeld (data_of b frame given) g → g ≡ held_by b frame given
  data_named true frame given g named = named
  data_named false frame given g named = named

  data_carried : (given : PeerPayload) → ret ≡ answer.Peer given → IsDataCarried first run last given
  data_carried given answered =
      carried (λ frame. data_of (is_none (refusal frame)) frame given) (λ frame. held_by (is_none (refusal frame)) frame given)
      (subst (λ (r : Answer). IsIn (data_of (is_none (refusal n.frame)) n.frame given) (given_of n.frame r)) (sym answered) (inl refl))
      (data_delivered (is_none (refusal n.frame)) n.frame given) (data_named (is_none (refusal n.frame)) n.frame given)

  report_carried : (transport : TransportType) (peer : SocketAddr) (kind code details : ℕ) → ret ≡ answer.Icmp transport peer kind code details
      → IsCarried first run last (λ frame. Reported transport peer (record { icmp_type = kind; code = code; details = details })) (λ frame. Permission transport (socket_ip peer))
  report_carried transport peer kind code details answered =
      carried (λ frame. Reported transport peer (record { icmp_type = kind; code = code; details = details })) (λ frame. Permission transport (socket_ip peer))
      (subst (λ (r : Answer). IsIn (Reported transport peer (record { icmp_type = kind; code = code; details = details })) (given_of n.frame r)) (sym answered) (inl refl)) (λ came. came) (λ g named. named)

-- Bytes of a connection's peer name that connection, which was granted.
module _ (Of : Joined → PeerPayload → Type 0) (event : Event) (ret : Answer) (first last : Client) (run : List (Step Client DeskCall)) (is : IsLastAnswered event ret first run last) (n : IsLastRaw Of ret run) where
  abbrev passed : Payload
  passed = FromConnection n.k.here n.k.peer n.given.payload

  raw_named : (held : Held) → NamesHeld passed held → Traced words (AtClient n.call ∷ n.earlier) held → (number : ℕ) × Traced words run (Connection n.k.here n.given.peer number)
  raw_named held named traced = (
    named.0,
    subst (λ (l : List (Step Client DeskCall)). Traced words l (Connection n.k.here n.given.peer named.0)) (sym n.run_is)
        (subst (λ (p : SocketAddr). Traced words (AtClient n.call ∷ n.earlier) (Connection n.k.here p named.0)) n.peer_is
        (subst (λ (g : Held). Traced words (AtClient n.call ∷ n.earlier) g) named.1 traced)),
  )

  raw_passed : IsPassedRaw first run last n.k.here n.given
  raw_passed = record {
    transport_is = n.transport_is;
    granted = λ forged distinct.
        let safe : AtEach (IsSafe words first last run) (AtClient n.call ∷ n.earlier) = subst (λ (l : List (Step Client DeskCall)). AtEach (IsSafe words first last run) l) n.run_is (is.promised.safe forged distinct) in
        let delivered : IsIn passed n.call.payloads = subst (λ (l : List Payload). IsIn passed l) (sym n.payloads_are) (inl refl) in
        let named = (safe.0.names passed delivered).1 in
        raw_named named.0 named.1 named.3;
  }

  same_given : (given : PeerPayload) → ret ≡ answer.Peer given → n.given ≡ given
  same_given given answered = Prim.cc (sym n.answered ∙ answered)

  passed_raw : (given : PeerPayload) → ret ≡ answer.Peer given → IsPassedRaw first run last n.k.here given
  passed_raw given answered = subst (λ (g : PeerPayload). IsPassedRaw first run last n.k.here g) (same_given given answered) raw_passed

  passed_of : (given : PeerPayload) → ret ≡ answer.Peer given → Of n.k given
  passed_of given answered = subst (λ (g : PeerPayload). Of n.k g) (same_given given answered) n.is_of

  -- A report is no such bytes.
  never_report : (transport : TransportType) (peer : SocketAddr) (kind code details : ℕ) → ret ≡ answer.Icmp transport peer kind code details → ⊥
  never_report transport peer kind code details answered = Prim.cc (sym n.answered ∙ answered)

-- ---- by the last event

module _ (ret : Answer) (gives : ¬ HandsNothing ret) (first last : Client) (run : List (Step Client DeskCall)) (now : ℕ) where
  pub came_last : (bytes : Vec ℕ Global) (from to : SocketAddr) → IsLastAnswered (ToClient bytes from to now) ret first run last → IsLastGiven (IsBroughtTo to bytes.items) ret run
  came_last bytes from to is =
      let n = newest is.before (ToClient bytes from to now, ret) is.old is.new run is.account.reported in
      let by : AreStepsOfClient (ToClient bytes from to now) ret n.before.client is.new.client n.steps = n.reported in
      of_bytes ret gives run now by.stored by.first by.last by.calls n.earlier (n.run_is ∙ ap (λ (l : List (Step Client DeskCall)). l ++ n.earlier) by.steps_are) by.stored.control bytes from to by.are

  pub waited_last : IsLastAnswered (Call call.PollRecv now) ret first run last → IsLastGiven HasWaited ret run
  waited_last is =
      let n = newest is.before (Call call.PollRecv now, ret) is.old is.new run is.account.reported in
      let by : AreStepsOfClient (Call call.PollRecv now) ret n.before.client is.new.client n.steps = n.reported in
      of_asking ret gives run now by.stored by.first by.last by.calls n.earlier (n.run_is ∙ ap (λ (l : List (Step Client DeskCall)). l ++ n.earlier) by.steps_are) (raw_requested now by.stored) by.are

-- Data given by bytes that came.
pub data_brought : (event : Event) (first last : Client) (run : List (Step Client DeskCall)) (to : SocketAddr) (bytes : List ℕ) (given : PeerPayload) → IsLastAnswered event (answer.Peer given) first run last → IsLastGiven (IsBroughtTo to bytes) (answer.Peer given) run
    → IsDataBrought first run last to bytes given
data_brought event first last run to bytes given is (ByFrame n) = inl (data_carried event (answer.Peer given) first last run is n given refl)
data_brought event first last run to bytes given is (ByPeer n) =
    let brought : IsBroughtTo to bytes n.k given = passed_of (IsBroughtTo to bytes) event (answer.Peer given) first last run is n given refl in
    let passed : IsPassedRaw first run last n.k.here given = passed_raw (IsBroughtTo to bytes) event (answer.Peer given) first last run is n given refl in
    inr (record {
      passed = subst (λ (here : SocketAddr). IsPassedRaw first run last here given) brought.at passed;
      waited = brought.waited;
      payload_is = brought.payload_is;
    })

-- Data that was buffered.
pub data_stored : (event : Event) (first last : Client) (run : List (Step Client DeskCall)) (given : PeerPayload) → IsLastAnswered event (answer.Peer given) first run last → IsLastGiven HasWaited (answer.Peer given) run → IsDataStored first run last given
data_stored event first last run given is (ByFrame n) = inl (data_carried event (answer.Peer given) first last run is n given refl)
data_stored event first last run given is (ByPeer n) = inr (n.k.here, passed_raw HasWaited event (answer.Peer given) first last run is n given refl)

-- A report.
pub report_given : (Of : Joined → PeerPayload → Type 0) (event : Event) (first last : Client) (run : List (Step Client DeskCall)) (transport : TransportType) (peer : SocketAddr) (kind code details : ℕ) → IsLastAnswered event (answer.Icmp transport peer kind code details) first run last
    → IsLastGiven Of (answer.Icmp transport peer kind code details) run
    → IsCarried first run last (λ frame. Reported transport peer (record { icmp_type = kind; code = code; details = details })) (λ frame. Permission transport (socket_ip peer))
report_given Of event first last run transport peer kind code details is (ByFrame n) = report_carried event (answer.Icmp transport peer kind code details) first last run is n transport peer kind code details refl
report_given Of event first last run transport peer kind code details is (ByPeer n) = absurd (never_report Of event (answer.Icmp transport peer kind code details) first last run is n transport peer kind code details refl)

-- The results that deliver something.
pub data_hands : (given : PeerPayload) → ¬ HandsNothing (answer.Peer given)
data_hands given none = Prim.cc (none [])

pub report_hands : (transport : TransportType) (peer : SocketAddr) (kind code details : ℕ) → ¬ HandsNothing (answer.Icmp transport peer kind code details)
report_hands transport peer kind code details none = Prim.cc (none [])

-- ---- a datagram

-- What arrived in the newest call was handled last.
taken_last : (happening : Event) (ret : Answer) (run : List (Step Client DeskCall)) → IsNewestCall happening ret run → last_taken run ≡ arriving happening
taken_last happening ret run n = ap last_taken n.run_is ∙ n.reported.handled_is

-- A client that is over UDP afterwards was so before.
module _ (bytes : Vec ℕ Global) (from to : SocketAddr) (now : ℕ) (ret : Answer) where
  streamed_not : (items : Bor (List ℕ) → List ℕ) (p q : ClientState) (stream : Stream) (came : _) (took : _) → IsStreamed items now stream p.core came took q → q.control ≡ Datagrams → ⊥
  streamed_not items p q stream came took (Chunk of some left occurs taken) is = let never : Open left ≡ Datagrams = sym occurs ∙ is in Prim.cc never
  streamed_not items p q stream came took (End of none answered core closed) is = let never : Closed ≡ Datagrams = sym closed ∙ is in Prim.cc never
  streamed_not items p q stream came took (Strange others back occurs) is = let never : Open stream ≡ Datagrams = sym occurs ∙ is in Prim.cc never

  fed_so : (p q : ClientState) → IsFed ret p bytes.items from to now q → q.control ≡ Datagrams → p.control ≡ Datagrams
  fed_so p q is udp = by p.control refl is.received
    where
      by : (control : Control) → p.control ≡ control → IsReceivedBy (λ (b : Bor (List ℕ)). b.now) now control p.core is.came is.took q → p.control ≡ Datagrams
      by Datagrams at received = at
      by (Open stream) at received = absurd (streamed_not (λ (b : Bor (List ℕ)). b.now) p q stream is.came is.took received udp)
      by Closed at received = absurd (let never : Closed ≡ Datagrams = sym received.1 ∙ udp in let no : ⊥ = Prim.cc never in no)

  udp_before : (before left : Option ClientState) (p q : ClientState) → before ≡ Some p → left ≡ Some q → q.control ≡ Datagrams → IsAtClient now (λ p q. IsFed ret p bytes.items from to now q) before ret left → p.control ≡ Datagrams
  unfolding IsAtClient IsInRange
  udp_before None left p q is after udp h = absurd (Prim.cc is)
  udp_before (Some x) None p q is after udp h = absurd h
  udp_before (Some x) (Some y) p q is after udp h =
      let so : y.control ≡ Datagrams = ap (λ (k : ClientState). k.control) (inside after) ∙ udp in
      ap (λ (k : ClientState). k.control) (sym (inside is))
      ∙ by_test (is_in_range now)
      (λ (_ : is_in_range now ≡ true) fed. fed_so x y fed so)
      (λ (_ : is_in_range now ≡ false) out. sym (ap (λ (k : ClientState). k.control) out.1) ∙ so) h

  -- What was handled last is the datagram.
  pub datagram_last : (first last : Client) (run : List (Step Client DeskCall)) (is : IsLastAnswered (ToClient bytes from to now) ret first run last) (k : ClientState) → is.new.client ≡ Some k → k.control ≡ Datagrams → last_taken run ≡ bytes.items ∷ []
  datagram_last first last run is k left udp =
      let n = newest is.before (ToClient bytes from to now, ret) is.old is.new run is.account.reported in
      let by : AreStepsOfClient (ToClient bytes from to now) ret n.before.client is.new.client n.steps = n.reported in
      let was : by.stored.control ≡ Datagrams = udp_before n.before.client is.new.client by.stored k by.stored_is left udp n.step.0 in
      let one : IsOneCall (ToClient bytes from to now) ret by.first by.calls by.last = subst (λ (o : Control). AreCallsOfBytes o by.stored bytes from to now ret by.first by.calls by.last) was by.are in
      taken_last (ToClient bytes from to now) ret run (newest_call (ToClient bytes from to now) ret by.first by.last by.calls run n.earlier (n.run_is ∙ ap (λ (l : List (Step Client DeskCall)). l ++ n.earlier) by.steps_are) one)

pub in_image : {X Y : Type 0} (f : X → Y) (x : X) (xs : List X) → IsIn x xs → IsIn (f x) (map f xs)
in_image f x [] i = absurd i
in_image f x (y ∷ xs) i = elim i [
  | inl e ↦ inl (ap f e)
  | inr j ↦ inr (in_image f x xs j)
]

in_passing : {X : Type 0} (p : X → Bool) (x : X) (xs : List X) → p x ≡ true → IsIn x xs → IsIn x (filter p xs)
in_passing p x [] is i = absurd i
in_passing {X} p x (y ∷ xs) is i = elim (cases_Bool (p y)) [
  | inl passes ↦
      let here : filter p (y ∷ xs) ≡ y ∷ filter p xs = rw passes refl in
      subst (λ (l : List X). IsIn x l) (sym here) (elim i [ inl same ↦ inl same | inr later ↦ inr (in_passing p x xs is later) ])
  | inr fails ↦
      let here : filter p (y ∷ xs) ≡ filter p xs = rw fails refl in
      subst (λ (l : List X). IsIn x l) (sym here) (elim i [
        | inl same ↦ absurd (let never : false ≡ true = sym fails ∙ ap p same ∙ is in let none : ⊥ = Prim.cc never in none)
        | inr later ↦ in_passing p x xs is later
      ])
]

-- A connection that is listed as bound is among the bound ones.
pub in_bound : (here peer : SocketAddr) (number : ℕ) (rows : List (SocketAddr × SocketAddr × ℕ × Bool)) → IsIn (here, peer, number, true) rows → IsIn (Connection here peer number) (connections_bound rows)
in_bound here peer number rows listed =
    in_image (λ (r : SocketAddr × SocketAddr × ℕ × Bool). Connection r.0 r.1 r.2) (here, peer, number, true) (filter (λ (r : SocketAddr × SocketAddr × ℕ × Bool). r.3) rows)
    (in_passing (λ (r : SocketAddr × SocketAddr × ℕ × Bool). r.3) (here, peer, number, true) rows refl listed)
