-- The results of some events are steps of a run, each of which meets its contract.
use Rattle.std.proofs.Common.{Vec, Global, ◌≡◌, ℕ, Bool, true, false, if◌then◌else◌, List, [], ◌∷◌, ◌++◌, Option, Some, None, Ok, Err, refl, sym, ap, ◌∙◌, subst, inl, inr}
use Rattle.std.specs.Borrow.{Bor}
use Rattle.std.specs.List.{AllByRecursion}
use Rattle.std.specs.Prelude.{MatchOption, ◌&&◌}
use Rattle.std.specs.declared.net.socket_addr.SocketAddr.{SocketAddr}
use Rattle.turn_desk_core.specs.StunTypesWire.Headers.{AreBytes}
use Rattle.turn_desk_event.specs.TurnTypesFrame.StreamAnswers.{joined}
use Rattle.turn_desk_event.specs.TurnTypesFrame.Streams.{Stream}
use Rattle.turn_desk_step_laws.specs.TurnRuns.Chains.{AreLawful, IsChain, steps_of}
use Rattle.turn_desk_step_laws.proofs.TurnRunsLaws.Chains.{chain_on, lawful_on, leads_on}
use Rattle.turn_desk_step_laws.specs.TurnRuns.Members.{IsIn}
use Rattle.turn_desk_step_laws.specs.TurnRuns.Messages.{Held}
use Rattle.turn_desk_step_laws.specs.TurnRuns.Runs.{Step, AtDesk, AtEach, IsLawful, Leads}
use Rattle.turn_desk_step_laws.specs.TurnClientProtoAllocation.declared.connection.Connection.{Connection}
use Rattle.turn_desk_event.specs.TurnClientProtoApi.Payloads.{PeerPayload}
use Rattle.turn_client_proto_step_laws.specs.Recv.Control.{Control, Datagrams, Open, Closed}
use Rattle.turn_client_proto_step_laws.specs.Recv.Datagrams.{IsGivenBack}
use Rattle.turn_client_proto_step_laws.specs.Recv.ClientState.{ClientState, Protocol}
use Rattle.turn_client_proto_step_laws.specs.Recv.Chunks.{IsChunkTaken}
use Rattle.turn_client_proto_step_laws.specs.Recv.Receipts.{End, IsFirstGiven, IsGivenBy, IsOfStream, IsStreamRequested, IsStreamed, Chunk, Strange}
use Rattle.turn_client_proto_step_laws.specs.Recv.SocketChunks.{IsRawGiven, IsReceivedAt, IsTakenBy, raw_stored, raw_waiting}
use Rattle.turn_desk_step_laws.specs.TurnRuns.Steps.{Call}
use Rattle.turn_client_proto_step_laws.specs.Recv.Waiting.{bytes_waiting, completed, frames_waiting, whole_frames}
use Rattle.turn_client_proto_step_laws.proofs.Recv.Waiting.{joined_bytes}
use Rattle.turn_client_proto_step_laws.specs.ClientWords.{IsHeld, client_words}
use Rattle.turn_client_proto_step_laws.specs.RunClient.{Client}
use Rattle.turn_client_proto_step_laws.specs.RunSteps.{IsComing}
use Rattle.turn_client_proto_step_laws.specs.Sound.{IsSound}
use Rattle.turn_client_proto_step_laws.proofs.Frames.{coming_step, losing_step, waits_sound}
use Rattle.turn_client_proto_step_laws.proofs.Lists.{inside, nothing_after}
use Rattle.turn_client_proto_step_laws.proofs.Polling.{by_test}
use Rattle.turn_client_proto_step_laws.proofs.Showing.{shows_step}
use Rattle.turn_desk_event.specs.declared.answer.Answer.{Answer}
use Rattle.turn_desk_event.specs.declared.answer.Answer.TheVariants as answer
use Rattle.turn_desk_event.specs.declared.answer.Answer.TheVariants.{OutOfRange}
use Rattle.turn_desk_event.specs.declared.event.ClientCall.{ClientCall}
use Rattle.turn_desk_event.specs.declared.event.ClientCall.TheVariants as call
use Rattle.turn_desk_event.specs.declared.event.Event.{Event}
use Rattle.turn_desk_event.specs.declared.event.Event.TheVariants as event
use Rattle.turn_desk_event.specs.declared.event.Event.TheVariants.{Draw, ToClient, ToDesk}
use Rattle.turn_desk_step_laws.specs.DeskRun.{DeskCall}
use Rattle.turn_desk_world.specs.Model.{World}
use Rattle.turn_desk_world.specs.TurnClientProto.SocketsReported.{replaced, takes_place}
use Rattle.turn_desk_event.specs.declared.answer.Refusal.TheVariants.{TcpAllocate as SocketRefused}
use Rattle.turn_desk_world.specs.Calls.{IsCallReported, IsFed, IsSocketTaken, IsWaitingReported, own_tuple}
use Rattle.turn_desk_world.specs.Runs.{IsAtClient, IsInRange, IsRun, IsStep, is_in_range}
use Rattle.turn_desk_world_laws.specs.Safety.{words}
use Rattle.turn_desk_world_laws.specs.SocketCalls.{AreCallsOfWaiting, AreCallsOver, socket_at}
use Rattle.turn_desk_world_laws.specs.Reported.{AreBrought, AreCallsBy, AreCallsOfAsking, AreCallsOfChunk, AreCallsOverTcp, OfStream, OverNone, OverSocket, AreStepsBy, AreStepsOfClient, ByEnd, ByNone, ByOthers, ByChunk, HandsNothing, IsAt, IsFair, IsFairEvent, IsStoredAs, IsOneCall, IsChunkOf, IsStreams, IsReportedBy, desk_call, given_by, given_of, is_over_tcp, raw_requested, listed_in}
use Rattle.turn_desk_world_laws.proofs.AtClient.{IsAnswered, called, transmitted, fed, nothing_done, socket_reported, reporting_call}
use Rattle.turn_desk_world_laws.proofs.AtDesk.{desk_step}
use Rattle.turn_desk_world_laws.proofs.AtSocket.{AreLedBy, one_socket, over_led, socket_there, waiting_led}
use Rattle.turn_desk_world_laws.proofs.AtStream.{AreLed, are_coming, coming_call, data_list, none_led, nothing_hands, chunk_comes, chunk_led, pulled_led}
use Rattle.turn_desk_world_laws.proofs.Chain.{each_after, leads_after}

-- ---- one event

-- The event is steps that preserve the client's invariant.
record IsOne (event : Event) (ret : Answer) (c : Client) (old new : World) : Type 0 where
  steps : List (Step Client DeskCall)
  reported : AreStepsBy event ret old steps new
  after : Client
  left : IsAt new.client after
  sound : IsSound after
  leads : Leads c steps after
  lawful : AtEach (λ s _. IsLawful words s) steps

-- What a client of a run stores, by how bytes come.
abbrev held : Client → Control → ClientState
held c control = record { core = c.core; control = control }

-- An event with this result leaves the client in this state, by these calls.
record IsLeft (event : Event) (c : Client) (control : Control) (ret : Answer) (k : ClientState) : Type 0 where
  calls : List (Call Client)
  last : Client
  keeps : IsStoredAs last k
  sound : IsSound last
  are : AreCallsBy event (held c control) ret c calls last
  chain : IsChain c calls last
  lawful : AreLawful client_words calls

module _ (c : Client) (sound : IsSound c) (control : Control) (keeps : IsStoredAs c (held c control)) where
  -- One call leaves the stream unchanged.
  by_one : (event : Event) (ret : Answer) (k : ClientState) → ((calls : List (Call Client)) (last : Client) → IsOneCall event ret c calls last → AreCallsBy event (held c control) ret c calls last)
      → (k.control ≡ control) × IsAnswered event c ret k.core → IsLeft event c control ret k
  by_one event ret k by (same, is) =
      let call : Call Client = record (reporting_call event c ret is.after) { visible = listed_in event ret } in
      let shows : (x : Held) → IsIn x (listed_in event ret) → client_words.IsHeld is.after x = λ x i. subst (λ (p : Protocol). IsHeld p.allocations x) (sym is.core_is) (is.shows x i) in
      record {
        calls = call ∷ [];
        last = is.after;
        keeps = record {
          core = sym is.core_is;
          waits = ap frames_waiting same ∙ keeps.waits ∙ sym is.waits;
          are_bytes = subst (λ (o : Control). AreBytes (bytes_waiting o)) (sym same) keeps.are_bytes;
        };
        sound = is.sound;
        are = by (call ∷ []) is.after (
          call,
          refl,
          refl,
          refl,
          record {
            came_is = refl;
            handled_is = refl;
            transmitted_is = refl;
            answered_is = refl;
            payloads_are = refl;
            visible_is = refl;
          },
        );
        chain = (refl, refl);
        lawful = (shows_step client_words (reporting_call event c ret is.after) (listed_in event ret) shows is.step, tt);
      }

  -- By one call the stream ends, and what was buffered in it is lost.
  by_lost : (event : Event) (ret : Answer) (k : ClientState) → ((calls : List (Call Client)) (last : Client) → IsOneCall event ret c calls last → AreCallsBy event (held c control) ret c calls last)
      → k.control ≡ Closed → IsAnswered event c ret k.core → IsLeft event c control ret k
  by_lost event ret k by closed is =
      let after : Client = record is.after { waiting = [] } in
      let call : Call Client = record (reporting_call event c ret after) { visible = listed_in event ret } in
      let shows : (x : Held) → IsIn x (listed_in event ret) → client_words.IsHeld after x = λ x i. subst (λ (p : Protocol). IsHeld p.allocations x) (sym is.core_is) (is.shows x i) in
      record {
        calls = call ∷ [];
        last = after;
        keeps = record {
          core = sym is.core_is;
          waits = ap frames_waiting closed;
          are_bytes = subst (λ (o : Control). AreBytes (bytes_waiting o)) (sym closed) refl;
        };
        sound = waits_sound [] is.after is.sound;
        are = by (call ∷ []) after (
          call,
          refl,
          refl,
          refl,
          record {
            came_is = refl;
            handled_is = refl;
            transmitted_is = refl;
            answered_is = refl;
            payloads_are = refl;
            visible_is = refl;
          },
        );
        chain = (refl, refl);
        lawful = (shows_step client_words (reporting_call event c ret after) (listed_in event ret) shows (losing_step (reporting_call event c ret is.after) is.step), tt);
      }

  -- ---- what comes over the socket of a connection, and what waits of it

  -- The same frames are buffered in the stream afterwards.
  by_led : (event : Event) (ret : Answer) (k : ClientState) (Are : Client → List (Call Client) → Client → Type 0) → ((calls : List (Call Client)) (last : Client) → Are c calls last → AreCallsBy event (held c control) ret c calls last)
      → k.control ≡ control → AreLedBy Are c k.core → IsLeft event c control ret k
  by_led event ret k Are by same led = record {
    calls = led.calls;
    last = led.last;
    keeps = record {
      core = sym led.core_is;
      waits = ap frames_waiting same ∙ keeps.waits ∙ sym led.waits;
      are_bytes = subst (λ (o : Control). AreBytes (bytes_waiting o)) (sym same) keeps.are_bytes;
    };
    sound = led.sound;
    are = by led.calls led.last led.are;
    chain = led.chain;
    lawful = led.lawful;
  }

  -- ---- what waits

  -- Frames were handled, since no bytes of a connection's peer were buffered.
  by_frames : (now : ℕ) (ret : Answer) (k : ClientState) (waiting : List (List ℕ)) → raw_requested now (held c control) ≡ None → frames_waiting k.control ≡ waiting → AreBytes (bytes_waiting k.control) → AreLed now ret c k.core waiting
      → IsLeft (event.Call call.PollRecv now) c control ret k
  by_frames now ret k waiting no_raw waits are_bytes led = record {
    calls = led.calls;
    last = led.last;
    keeps = record { core = sym led.core_is; waits = waits ∙ sym led.waits; are_bytes = are_bytes };
    sound = led.sound;
    are = subst (λ (o : Option Connection). AreCallsOfAsking o now (held c control) ret c led.calls led.last) (sym no_raw) led.are;
    chain = led.chain;
    lawful = led.lawful;
  }

  none_taken : (now : ℕ) (ret : Answer) (k : ClientState) → raw_requested now (held c control) ≡ None → HandsNothing ret → k.core ≡ c.core → k.control ≡ control → IsLeft (event.Call call.PollRecv now) c control ret k
  none_taken now ret k no_raw hands core same =
      by_frames now ret k c.waiting no_raw (ap frames_waiting same ∙ keeps.waits) (subst (λ (o : Control). AreBytes (bytes_waiting o)) (sym same) keeps.are_bytes)
      (none_led now ret c k.core c.waiting sound (sym core) refl hands)

  stream_given : (now : ℕ) (ret : Answer) (given : Option PeerPayload) (k : ClientState) → raw_requested now (held c control) ≡ None → ((frame : List ℕ) → data_list frame given ≡ given_of frame ret) → (given ≡ None → HandsNothing ret)
      → (at : Control) → control ≡ at → IsStreamRequested now at c.core given k → IsLeft (event.Call call.PollRecv now) c control ret k
  stream_given now ret given k no_raw hands none Datagrams at (gave, core, same) = none_taken now ret k no_raw (none gave) core (same ∙ sym at)
  stream_given now ret given k no_raw hands none Closed at (gave, core, same) = none_taken now ret k no_raw (none gave) core (same ∙ sym at)
  stream_given now ret given k no_raw hands none (Open stream) at is =
      let occurs = ap frames_waiting (sym at) ∙ keeps.waits in
      let led = pulled_led now stream is.left given k.core c sound (sym occurs) (subst (λ (o : Control). AreBytes (bytes_waiting o)) at keeps.are_bytes) is.pulled ret hands in
      by_frames now ret k (whole_frames is.left) no_raw (ap frames_waiting is.occurs) (subst (λ (o : Control). AreBytes (bytes_waiting o)) (sym is.occurs) led.1) led.0

  -- Bytes of a connection's peer come first.
  first_given : (now : ℕ) (ret : Answer) (given : Option PeerPayload) (k : ClientState) (raw : Option Connection) → raw_requested now (held c control) ≡ raw → ((frame : List ℕ) → data_list frame given ≡ given_of frame ret) → (given ≡ None → HandsNothing ret)
      → ((x : Connection) → raw ≡ Some x → IsRawGiven x c.core given k.core → AreLedBy (λ first calls last. AreCallsOfWaiting x ret c.core first calls last) c k.core)
      → (at : Control) → control ≡ at → IsFirstGiven now raw at c.core given k → IsLeft (event.Call call.PollRecv now) c control ret k
  first_given now ret given k None asks hands none passes at same is = stream_given now ret given k asks hands none at same is
  first_given now ret given k (Some x) asks hands none passes at same is =
      by_led (event.Call call.PollRecv now) ret k (λ first calls last. AreCallsOfWaiting x ret c.core first calls last)
      (λ calls last are. subst (λ (o : Option Connection). AreCallsOfAsking o now (held c control) ret c calls last) (sym asks) are) (is.1 ∙ sym same) (passes x refl is.0)

  -- They are buffered only over TCP.
  no_raw_at : (now : ℕ) → control ≡ Datagrams → raw_requested now (held c control) ≡ None
  no_raw_at now at = ap (λ (o : Control). raw_requested now (held c o)) at ∙ by (is_in_range now)
    where
      by : (b : Bool) → (if b && false then raw_waiting c.core else None) ≡ None
      by true = refl
      by false = refl

  raw_over_tcp : (now : ℕ) (at : Control) → is_in_range now ≡ true → control ≡ at → is_over_tcp at ≡ true → raw_requested now (held c control) ≡ raw_waiting c.core
  raw_over_tcp now at inside_it same tcp =
      ap (λ (o : Control). raw_requested now (held c o)) same
      ∙ ap (λ (b : Bool). if b && is_over_tcp at then raw_waiting c.core else None) inside_it
      ∙ ap (λ (b : Bool). if b then raw_waiting c.core else None) tcp

  waiting_given : (now : ℕ) (ret : Answer) (given : Option PeerPayload) (k : ClientState) → is_in_range now ≡ true → ((frame : List ℕ) → data_list frame given ≡ given_of frame ret) → (given ≡ None → HandsNothing ret)
      → ((x : Connection) → raw_waiting c.core ≡ Some x → IsRawGiven x c.core given k.core → AreLedBy (λ first calls last. AreCallsOfWaiting x ret c.core first calls last) c k.core)
      → (at : Control) → control ≡ at → IsGivenBy now at c.core given k → IsLeft (event.Call call.PollRecv now) c control ret k
  waiting_given now ret given k inside_it hands none passes Datagrams at is = stream_given now ret given k (no_raw_at now at) hands none Datagrams at is
  waiting_given now ret given k inside_it hands none passes (Open stream) at is = first_given now ret given k (raw_waiting c.core) (raw_over_tcp now (Open stream) inside_it at refl) hands none passes (Open stream) at is
  waiting_given now ret given k inside_it hands none passes Closed at is = first_given now ret given k (raw_waiting c.core) (raw_over_tcp now Closed inside_it at refl) hands none passes Closed at is

  waiting_reported : (now : ℕ) (ret : Answer) (k : ClientState) → is_in_range now ≡ true → IsWaitingReported ret (held c control) now k → IsLeft (event.Call call.PollRecv now) c control ret k
  waiting_reported now (answer.Peer given) k inside_it is =
      waiting_given now (answer.Peer given) (Some given) k inside_it (λ frame. refl) (λ none. absurd (Prim.cc none)) (λ x there raw. waiting_led x given c k.core sound there raw) control refl is
  waiting_reported now answer.Nothing k inside_it is =
      waiting_given now answer.Nothing None k inside_it (λ frame. refl) (λ none bytes. refl) (λ x there raw. absurd (let never : None ≡ Some (raw_stored x) = raw.gives in let no : ⊥ = Prim.cc never in no)) control refl is
  waiting_reported now _ k inside_it is = absurd is

  -- ---- what comes

  module _ (bytes : Vec ℕ Global) (from to : SocketAddr) (now : ℕ) where
    -- Frames arrived, and some were handled.
    by_chunk : (ret : Answer) (k : ClientState) (came waiting left : List (List ℕ)) → AreBrought (held c control) bytes.items from to now came waiting → (comes : IsComing c came waiting) → AreLed now ret comes.after k.core left
        → frames_waiting k.control ≡ left → AreBytes (bytes_waiting k.control)
        → ((calls : List (Call Client)) (last : Client) → AreCallsOfChunk (held c control) bytes.items from to now ret c calls last → AreCallsBy (event.ToClient bytes from to now) (held c control) ret c calls last)
        → IsLeft (event.ToClient bytes from to now) c control ret k
    by_chunk ret k came waiting left brought comes led waits are_bytes by =
        let coming = coming_call c came waiting comes in
        record {
          calls = led.calls ++ coming ∷ [];
          last = led.last;
          keeps = record { core = sym led.core_is; waits = waits ∙ sym led.waits; are_bytes = are_bytes };
          sound = led.sound;
          are = by (led.calls ++ coming ∷ []) led.last (record {
            came = came;
            waiting = waiting;
            brought = brought;
            coming = coming;
            begins = refl;
            comes = are_coming c came waiting comes;
            taking = led.calls;
            taken = led.are;
            calls_are = refl;
          });
          chain = chain_on c comes.after led.last led.calls (coming ∷ []) (refl, refl) led.chain;
          lawful = each_after _ (coming ∷ []) led.calls (comes.step, tt) led.lawful;
        }

    -- Nothing arrived, and the buffered frames stay buffered or are lost.
    by_nothing : (ret : Answer) (k : ClientState) (waiting : List (List ℕ)) → AreBrought (held c control) bytes.items from to now [] waiting → ((f : List ℕ) → IsIn f waiting → IsIn f c.waiting) → HandsNothing ret → k.core ≡ c.core
        → frames_waiting k.control ≡ waiting → AreBytes (bytes_waiting k.control)
        → ((calls : List (Call Client)) (last : Client) → AreCallsOfChunk (held c control) bytes.items from to now ret c calls last → AreCallsBy (event.ToClient bytes from to now) (held c control) ret c calls last)
        → IsLeft (event.ToClient bytes from to now) c control ret k
    by_nothing ret k waiting brought waited hands core waits are_bytes by =
        let comes = coming_step c sound [] waiting (λ f i. inr (waited f i)) in
        by_chunk ret k [] waiting waiting brought comes (none_led now ret comes.after k.core waiting comes.sound (comes.core_is ∙ sym core) comes.waits hands) waits are_bytes by

    by_closed : (ret : Answer) (k : ClientState) → control ≡ Closed → HandsNothing ret → k.core ≡ c.core → k.control ≡ Closed
        → ((calls : List (Call Client)) (last : Client) → AreCallsOfChunk (held c control) bytes.items from to now ret c calls last → AreCallsBy (event.ToClient bytes from to now) (held c control) ret c calls last)
        → IsLeft (event.ToClient bytes from to now) c control ret k
    by_closed ret k at hands core same by =
        by_nothing ret k [] (ByNone at refl refl) (λ f i. absurd i) hands core (ap frames_waiting same) (subst (λ (o : Control). AreBytes (bytes_waiting o)) (sym same) refl) by

    by_others : (ret : Answer) (k : ClientState) (stream : Stream) → control ≡ Open stream → ¬ IsChunkOf c.core from to now → HandsNothing ret → k.core ≡ c.core → k.control ≡ control
        → ((calls : List (Call Client)) (last : Client) → AreCallsOfChunk (held c control) bytes.items from to now ret c calls last → AreCallsBy (event.ToClient bytes from to now) (held c control) ret c calls last)
        → IsLeft (event.ToClient bytes from to now) c control ret k
    by_others ret k stream at others hands core same by =
        by_nothing ret k (whole_frames stream) (ByOthers stream at others refl refl) (λ f i. subst (λ (l : List (List ℕ)). IsIn f l) (ap frames_waiting (sym at) ∙ keeps.waits) i) hands core
        (ap frames_waiting (same ∙ at)) (subst (λ (o : Control). AreBytes (bytes_waiting o)) (sym same) keeps.are_bytes) by

-- No stream is open after it has ended.
no_stream : (c : Client) (from to : SocketAddr) (now : ℕ) → ¬ IsStreams (held c Closed) from to now
no_stream c from to now is = let never : Closed ≡ Open is.stream = is.opens in Prim.cc never

module _ (c : Client) (sound : IsSound c) (bytes : Vec ℕ Global) (from to : SocketAddr) (now : ℕ) (in_range : is_in_range now ≡ true) (ret : Answer) (k : ClientState) where
  -- Bytes came on the socket of a connection, or on none.
  module _ (control : Control) (keeps : IsStoredAs c (held c control)) (is : IsFed ret (held c control) bytes.items from to now k) where
    abbrev Received : Option Connection → Type 0
    Received found = MatchOption found (IsGivenBack c.core is.came is.took k.core) (λ x. IsTakenBy (λ (b : Bor (List ℕ)). b.now) x now c.core is.came is.took k.core)

    at_socket : k.control ≡ control → ¬ IsStreams (held c control) from to now → ((calls : List (Call Client)) (last : Client) → AreCallsOverTcp (held c control) bytes.items from to now ret c calls last → AreCallsBy (event.ToClient bytes from to now) (held c control) ret c calls last)
        → (HandsNothing ret → k.core ≡ c.core → ((calls : List (Call Client)) (last : Client) → AreCallsOfChunk (held c control) bytes.items from to now ret c calls last → AreCallsBy (event.ToClient bytes from to now) (held c control) ret c calls last)
        → IsLeft (event.ToClient bytes from to now) c control ret k)
        → (found : Option Connection) → socket_at c.core from to ≡ found → Received found → IsLeft (event.ToClient bytes from to now) c control ret k
    at_socket same none by nowhere None at back =
        nowhere (nothing_hands ret is.came is.took is.reported (λ f. ap (given_by f) back.0)) back.1 (λ calls last are. by calls last (OverNone none (inr at) are))
    at_socket same none by nowhere (Some x) at taken =
        by_led c sound control keeps (event.ToClient bytes from to now) ret k (λ first calls last. AreCallsOver x to now bytes.items ret c.core first calls last)
        (λ calls last are. by calls last (OverSocket none in_range x at are)) same
        (over_led ret is.came is.took is.reported x to now bytes.items c k.core sound is.to_is is.bytes_are (socket_there c.core from to x at) taken)

    received_at : k.control ≡ control → ¬ IsStreams (held c control) from to now → ((calls : List (Call Client)) (last : Client) → AreCallsOverTcp (held c control) bytes.items from to now ret c calls last → AreCallsBy (event.ToClient bytes from to now) (held c control) ret c calls last)
        → (HandsNothing ret → k.core ≡ c.core → ((calls : List (Call Client)) (last : Client) → AreCallsOfChunk (held c control) bytes.items from to now ret c calls last → AreCallsBy (event.ToClient bytes from to now) (held c control) ret c calls last)
        → IsLeft (event.ToClient bytes from to now) c control ret k)
        → IsReceivedAt (λ (b : Bor (List ℕ)). b.now) now c.core is.came is.took k.core → IsLeft (event.ToClient bytes from to now) c control ret k
    received_at same none by nowhere received =
        at_socket same none by nowhere (socket_at c.core from to) refl (subst (λ (o : Option Connection). Received o) (one_socket c.core is.came from to is.transport_is is.from_is is.to_is) received)

  fed_stream : (stream : Stream) → IsStoredAs c (held c (Open stream)) → IsFed ret (held c (Open stream)) bytes.items from to now k → IsLeft (event.ToClient bytes from to now) c (Open stream) ret k
  fed_stream stream keeps is = by is.received
    where
      items : Bor (List ℕ) → List ℕ
      items b = b.now

      own : IsOfStream c.core is.came → IsChunkOf c.core from to now
      own of = record { from_is = sym is.from_is ∙ of.of_server.from; to_is = sym is.to_is ∙ of.of_server.to; works = of.works; in_range = in_range }

      of_stream : IsChunkOf c.core from to now → IsOfStream c.core is.came
      of_stream of = record { of_server = record { transport = is.transport_is; from = is.from_is ∙ of.from_is; to = is.to_is ∙ of.to_is }; works = of.works }

      streams : IsOfStream c.core is.came → IsStreams (held c (Open stream)) from to now
      streams of = record { stream = stream; opens = refl; chunk = own of }

      by : IsStreamed items now stream c.core is.came is.took k → IsLeft (event.ToClient bytes from to now) c (Open stream) ret k
      by (Chunk of some left occurs taken) =
          let comes = chunk_comes c stream bytes.items sound keeps.waits in
          let grown = joined_bytes stream bytes.items keeps.are_bytes is.are_bytes in
          let takes : IsChunkTaken items now stream comes.after.core is.came is.took left k.core = subst (λ (p : Protocol). IsChunkTaken items now stream p is.came is.took left k.core) (sym comes.core_is) taken in
          let led = chunk_led ret is.came is.took is.reported items now stream left k.core comes.after comes.sound
          (comes.waits ∙ ap (λ (b : List ℕ). whole_frames (joined stream b)) (sym is.bytes_are)) (subst (λ (b : List ℕ). AreBytes (joined stream b).stored) (sym is.bytes_are) grown) takes in
          by_chunk c sound (Open stream) keeps bytes from to now ret k (completed stream bytes.items) (whole_frames (joined stream bytes.items)) (whole_frames left)
          (ByChunk stream refl (own of) (λ none. some (is.bytes_are ∙ none)) refl refl) comes led.0 (ap frames_waiting occurs) (subst (λ (o : Control). AreBytes (bytes_waiting o)) (sym occurs) led.1)
          (λ calls last are. OfStream (streams of) are)
      by (End of none answered core closed) =
          by_nothing c sound (Open stream) keeps bytes from to now ret k [] (ByEnd stream refl (own of) (sym is.bytes_are ∙ none) refl refl) (λ f i. absurd i)
          (nothing_hands ret is.came is.took is.reported (λ f. ap (given_by f) answered)) core (ap frames_waiting closed) (subst (λ (o : Control). AreBytes (bytes_waiting o)) (sym closed) refl)
          (λ calls last are. OfStream (streams of) are)
      by (Strange others received occurs) =
          received_at (Open stream) keeps is occurs (λ s. others (of_stream s.chunk)) (λ calls last are. are)
          (λ hands core by. by_others c sound (Open stream) keeps bytes from to now ret k stream refl (λ of. others (of_stream of)) hands core occurs by) received

  fed_closed : IsStoredAs c (held c Closed) → IsFed ret (held c Closed) bytes.items from to now k → IsLeft (event.ToClient bytes from to now) c Closed ret k
  fed_closed keeps is =
      received_at Closed keeps is is.received.1 (no_stream c from to now) (λ calls last are. are)
      (λ hands core by. by_closed c sound Closed keeps bytes from to now ret k refl hands core is.received.1 by) is.received.0

  fed_left : (control : Control) → IsStoredAs c (held c control) → IsFed ret (held c control) bytes.items from to now k → IsLeft (event.ToClient bytes from to now) c control ret k
  fed_left Datagrams keeps is = by_one c sound Datagrams keeps (event.ToClient bytes from to now) ret k (λ calls last one. one) (fed c sound ret bytes from to now k is)
  fed_left (Open stream) keeps is = fed_stream stream keeps is
  fed_left Closed keeps is = fed_closed keeps is

-- ---- a socket is reported

-- The stream of the client's own connection stays, or another one has replaced it.
module _ (c : Client) (sound : IsSound c) (connection : ℕ) (peer : SocketAddr) (here : Option SocketAddr) (now : ℕ) (ret : Answer) (k : ClientState) where
  abbrev reporting : Event
  reporting = event.Call (call.AllocatedTcpSocket connection peer here) now

  socket_by : (control : Control) → IsStoredAs c (held c control) → (b : Bool) → k.control ≡ (if b then replaced control else control) → IsAnswered reporting c ret k.core → IsLeft reporting c control ret k
  socket_by control keeps false same is = by_one c sound control keeps reporting ret k (λ calls last one. one) (same, is)
  socket_by Datagrams keeps true same is = by_one c sound Datagrams keeps reporting ret k (λ calls last one. one) (same, is)
  socket_by (Open stream) keeps true same is = by_lost c sound (Open stream) keeps reporting ret k (λ calls last one. one) same is
  socket_by Closed keeps true same is = by_one c sound Closed keeps reporting ret k (λ calls last one. one) (same, is)

socket_left : (c : Client) (sound : IsSound c) (connection : ℕ) (peer : SocketAddr) (here : Option SocketAddr) (now : ℕ) (ret : Answer) (control : Control) (k : ClientState) → IsStoredAs c (held c control)
    → IsSocketTaken ret connection peer here (held c control) now k → IsLeft (event.Call (call.AllocatedTcpSocket connection peer here) now) c control ret k
socket_left c sound connection peer here now answer.Done control k keeps is =
    socket_by c sound connection peer here now answer.Done k control keeps (takes_place c.core here (Ok tt)) is.control
    (socket_reported c sound now k.core connection (own_tuple c.core) peer here answer.Done (Ok tt) is.core refl (λ h i. absurd i))
socket_left c sound connection peer here now (answer.Refused (SocketRefused error)) control k keeps is =
    socket_by c sound connection peer here now (answer.Refused (SocketRefused error)) k control keeps (takes_place c.core here (Err error)) is.0.control
    (socket_reported c sound now k.core connection (own_tuple c.core) peer here (answer.Refused (SocketRefused error)) (Err error) is.0.core refl (λ h i. absurd i))
socket_left c sound connection peer here now _ control k keeps is = absurd is

-- ---- nothing happens

module _ (c : Client) (sound : IsSound c) where
  idle : (event : Event) (control : Control) → IsStoredAs c (held c control) → ((calls : List (Call Client)) (last : Client) → IsOneCall event OutOfRange c calls last → AreCallsBy event (held c control) OutOfRange c calls last)
      → IsLeft event c control OutOfRange (held c control)
  idle event control keeps by = by_one c sound control keeps event OutOfRange (held c control) by (refl, nothing_done event c c.core sound refl)

  fed_out : (bytes : Vec ℕ Global) (from to : SocketAddr) (now : ℕ) → is_in_range now ≡ false → (control : Control) → IsStoredAs c (held c control) → IsLeft (event.ToClient bytes from to now) c control OutOfRange (held c control)
  fed_out bytes from to now out Datagrams keeps = idle (event.ToClient bytes from to now) Datagrams keeps (λ calls last one. one)
  fed_out bytes from to now out (Open stream) keeps =
      by_others c sound (Open stream) keeps bytes from to now OutOfRange (held c (Open stream)) stream refl (λ of. Prim.cc (sym of.in_range ∙ out)) (λ b. refl) refl refl
      (λ calls last are. OverNone (λ s. Prim.cc (sym s.chunk.in_range ∙ out)) (inl out) are)
  fed_out bytes from to now out Closed keeps = by_closed c sound Closed keeps bytes from to now OutOfRange (held c Closed) refl (λ b. refl) refl refl (λ calls last are. OverNone (no_stream c from to now) (inl out) are)

  call_out : (what : ClientCall) (now : ℕ) → is_in_range now ≡ false → (control : Control) → IsStoredAs c (held c control) → IsLeft (event.Call what now) c control OutOfRange (held c control)
  call_out call.PollRecv now out control keeps = none_taken c sound control keeps now OutOfRange (held c control) (ap (λ (b : Bool). if b && is_over_tcp control then raw_waiting c.core else None) out) (λ b. refl) refl refl
  call_out call.Poll now out control keeps = idle (event.Call call.Poll now) control keeps (λ calls last one. one)
  call_out call.PollEvent now out control keeps = idle (event.Call call.PollEvent now) control keeps (λ calls last one. one)
  call_out call.Delete now out control keeps = idle (event.Call call.Delete now) control keeps (λ calls last one. one)
  call_out (call.CreatePermission transport ip) now out control keeps = idle (event.Call (call.CreatePermission transport ip) now) control keeps (λ calls last one. one)
  call_out (call.CreatePermissions transport ips) now out control keeps = idle (event.Call (call.CreatePermissions transport ips) now) control keeps (λ calls last one. one)
  call_out (call.HavePermission transport ip) now out control keeps = idle (event.Call (call.HavePermission transport ip) now) control keeps (λ calls last one. one)
  call_out (call.Permissions transport relayed) now out control keeps = idle (event.Call (call.Permissions transport relayed) now) control keeps (λ calls last one. one)
  call_out (call.BindChannel transport peer) now out control keeps = idle (event.Call (call.BindChannel transport peer) now) control keeps (λ calls last one. one)
  call_out (call.TcpConnect peer) now out control keeps = idle (event.Call (call.TcpConnect peer) now) control keeps (λ calls last one. one)
  call_out (call.AllocatedTcpSocket id peer here) now out control keeps = idle (event.Call (call.AllocatedTcpSocket id peer here) now) control keeps (λ calls last one. one)
  call_out (call.TcpClosed here there) now out control keeps = idle (event.Call (call.TcpClosed here there) now) control keeps (λ calls last one. one)
  call_out call.Connections now out control keeps = idle (event.Call call.Connections now) control keeps (λ calls last one. one)
  call_out call.Channels now out control keeps = idle (event.Call call.Channels now) control keeps (λ calls last one. one)
  call_out (call.SendTo transport to bytes) now out control keeps = idle (event.Call (call.SendTo transport to bytes) now) control keeps (λ calls last one. one)
  call_out call.ProtocolError now out control keeps = idle (event.Call call.ProtocolError now) control keeps (λ calls last one. one)
  call_out call.RelayedAddresses now out control keeps = idle (event.Call call.RelayedAddresses now) control keeps (λ calls last one. one)

  call_left : (what : ClientCall) (now : ℕ) → is_in_range now ≡ true → (ret : Answer) (control : Control) (k : ClientState) → IsStoredAs c (held c control) → IsFairEvent (event.Call what now) → IsCallReported what ret (held c control) now k → IsLeft (event.Call what now) c control ret k
  unfolding IsCallReported
  call_left call.PollRecv now inside_it ret control k keeps fair is = waiting_reported c sound control keeps now ret k inside_it is
  call_left call.Poll now inside_it ret control k keeps fair is = by_one c sound control keeps (event.Call call.Poll now) ret k (λ calls last one. one) (is.1, called c sound now k.core call.Poll ret fair is.0)
  call_left call.PollEvent now inside_it ret control k keeps fair is = by_one c sound control keeps (event.Call call.PollEvent now) ret k (λ calls last one. one) (is.1, called c sound now k.core call.PollEvent ret fair is.0)
  call_left call.Delete now inside_it ret control k keeps fair is = by_one c sound control keeps (event.Call call.Delete now) ret k (λ calls last one. one) (is.1, called c sound now k.core call.Delete ret fair is.0)
  call_left (call.CreatePermission transport ip) now inside_it ret control k keeps fair is = by_one c sound control keeps (event.Call (call.CreatePermission transport ip) now) ret k (λ calls last one. one) (is.1, called c sound now k.core (call.CreatePermission transport ip) ret fair is.0)
  call_left (call.CreatePermissions transport ips) now inside_it ret control k keeps fair is = by_one c sound control keeps (event.Call (call.CreatePermissions transport ips) now) ret k (λ calls last one. one) (is.1, called c sound now k.core (call.CreatePermissions transport ips) ret fair is.0)
  call_left (call.HavePermission transport ip) now inside_it ret control k keeps fair is = by_one c sound control keeps (event.Call (call.HavePermission transport ip) now) ret k (λ calls last one. one) (is.1, called c sound now k.core (call.HavePermission transport ip) ret fair is.0)
  call_left (call.Permissions transport relayed) now inside_it ret control k keeps fair is = by_one c sound control keeps (event.Call (call.Permissions transport relayed) now) ret k (λ calls last one. one) (is.1, called c sound now k.core (call.Permissions transport relayed) ret fair is.0)
  call_left (call.BindChannel transport peer) now inside_it ret control k keeps fair is = by_one c sound control keeps (event.Call (call.BindChannel transport peer) now) ret k (λ calls last one. one) (is.1, called c sound now k.core (call.BindChannel transport peer) ret fair is.0)
  call_left (call.TcpConnect peer) now inside_it ret control k keeps fair is = by_one c sound control keeps (event.Call (call.TcpConnect peer) now) ret k (λ calls last one. one) (is.1, called c sound now k.core (call.TcpConnect peer) ret fair is.0)
  call_left (call.AllocatedTcpSocket id peer here) now inside_it ret control k keeps fair is = socket_left c sound id peer here now ret control k keeps is
  call_left (call.TcpClosed here there) now inside_it ret control k keeps fair is = by_one c sound control keeps (event.Call (call.TcpClosed here there) now) ret k (λ calls last one. one) (is.1, called c sound now k.core (call.TcpClosed here there) ret fair is.0)
  call_left call.Connections now inside_it ret control k keeps fair is = by_one c sound control keeps (event.Call call.Connections now) ret k (λ calls last one. one) (is.1, called c sound now k.core call.Connections ret fair is.0)
  call_left call.Channels now inside_it ret control k keeps fair is = by_one c sound control keeps (event.Call call.Channels now) ret k (λ calls last one. one) (is.1, called c sound now k.core call.Channels ret fair is.0)
  call_left (call.SendTo transport to bytes) now inside_it ret control k keeps fair is = by_one c sound control keeps (event.Call (call.SendTo transport to bytes) now) ret k (λ calls last one. one) (is.1, called c sound now k.core (call.SendTo transport to bytes) ret fair is.0)
  call_left call.ProtocolError now inside_it ret control k keeps fair is = by_one c sound control keeps (event.Call call.ProtocolError now) ret k (λ calls last one. one) (is.1, called c sound now k.core call.ProtocolError ret fair is.0)
  call_left call.RelayedAddresses now inside_it ret control k keeps fair is = by_one c sound control keeps (event.Call call.RelayedAddresses now) ret k (λ calls last one. one) (is.1, called c sound now k.core call.RelayedAddresses ret fair is.0)

-- ---- where there is a client, at a time in range

module _ (c : Client) (control : Control) (event : Event) (ret : Answer) where
  in_range : (now : ℕ) (Does : ClientState → ClientState → Type 0) (k : ClientState) → ((q : ClientState) → is_in_range now ≡ true → Does (held c control) q → IsLeft event c control ret q) → (is_in_range now ≡ false → IsLeft event c control OutOfRange (held c control))
      → IsInRange now Does (held c control) ret k → IsLeft event c control ret k
  unfolding IsInRange
  in_range now Does k f g h =
      by_test (is_in_range now)
      (λ (inside_it : is_in_range now ≡ true) is. f k inside_it is)
      (λ (out : is_in_range now ≡ false) is. subst (λ (q : ClientState). IsLeft event c control ret q) (sym is.1) (subst (λ (r : Answer). IsLeft event c control r (held c control)) (sym is.0) (g out))) h

  at_client : (now : ℕ) (Does : ClientState → ClientState → Type 0) (before left : Option ClientState) → before ≡ Some (held c control) → ((q : ClientState) → is_in_range now ≡ true → Does (held c control) q → IsLeft event c control ret q)
      → (is_in_range now ≡ false → IsLeft event c control OutOfRange (held c control)) → IsAtClient now Does before ret left → (k : ClientState) × (left ≡ Some k) × IsLeft event c control ret k
  unfolding IsAtClient
  at_client now Does None left is f g h = absurd (Prim.cc is)
  at_client now Does (Some p) None is f g h = absurd h
  at_client now Does (Some p) (Some q) is f g h = (q, refl, in_range now Does q f g (subst (λ (x : ClientState). IsInRange now Does x ret q) (inside is) h))

  -- So these are steps.
  client_step : (old new : World) → old.client ≡ Some (held c control) → IsStoredAs c (held c control) → ((steps : List (Step Client DeskCall)) → AreStepsOfClient event ret old.client new.client steps → AreStepsBy event ret old steps new)
      → (k : ClientState) × (new.client ≡ Some k) × IsLeft event c control ret k → IsOne event ret c old new
  client_step old new before keeps by (k, after, is) =
      let left : IsAt new.client is.last = subst (λ (o : Option ClientState). IsAt o is.last) (sym after) is.keeps in
      record {
        steps = steps_of is.calls;
        reported = by (steps_of is.calls) (record {
          stored = held c control;
          stored_is = before;
          first = c;
          before = keeps;
          calls = is.calls;
          steps_are = refl;
          last = is.last;
          after = left;
          are = is.are;
        });
        after = is.last;
        left = left;
        sound = is.sound;
        leads = subst (λ (l : List (Step Client DeskCall)). Leads c l is.last) (sym (nothing_after (steps_of is.calls))) (leads_on c c is.last is.calls [] refl is.chain);
        lawful = subst (λ (l : List (Step Client DeskCall)). AtEach (λ s _. IsLawful words s) l) (sym (nothing_after (steps_of is.calls))) (lawful_on words is.calls [] is.lawful tt);
      }

by_event : (event : Event) (ret : Answer) (c : Client) (control : Control) (old new : World) → IsSound c → old.client ≡ Some (held c control) → IsStoredAs c (held c control) → IsFairEvent event → IsStep event old ret new → IsOne event ret c old new
by_event (event.Call what now) ret c control old new sound before keeps fair is =
    client_step c control (event.Call what now) ret old new before keeps (λ steps are. are)
    (at_client c control (event.Call what now) ret now _ old.client new.client before (λ q inside_it h. call_left c sound what now inside_it ret control q keeps fair h) (λ out. call_out c sound what now out control keeps) is.0)
by_event (Draw now) ret c control old new sound before keeps fair is =
    client_step c control (Draw now) ret old new before keeps (λ steps are. are)
    (at_client c control (Draw now) ret now _ old.client new.client before
    (λ q inside_it h. by_one c sound control keeps (Draw now) ret q (λ calls last one. one) (h.1, transmitted c sound now q.core ret h.0))
    (λ out. idle c sound (Draw now) control keeps (λ calls last one. one)) is.0)
by_event (ToClient bytes from to now) ret c control old new sound before keeps fair is =
    client_step c control (ToClient bytes from to now) ret old new before keeps (λ steps are. are)
    (at_client c control (ToClient bytes from to now) ret now _ old.client new.client before (λ q inside_it h. fed_left c sound bytes from to now inside_it ret q control keeps h) (λ out. fed_out c sound bytes from to now out control keeps) is.0)
by_event (ToDesk bytes from now decision seed) ret c control old new sound before keeps fair is = record {
  steps = AtDesk (desk_call old bytes.items from now decision seed ret new) ∷ [];
  reported = refl;
  after = c;
  left = subst (λ (o : Option ClientState). IsAt o c) (sym (ap (λ (w : World). w.client) is.1 ∙ before)) keeps;
  sound = sound;
  leads = refl;
  lawful = (desk_step old new bytes.items from now decision seed ret fair is.0, tt);
}

-- The client is described by `c`.
record IsThere (client : Option ClientState) (c : Client) : Type 0 where
  control : Control
  is : client ≡ Some (held c control)
  keeps : IsStoredAs c (held c control)

there : (client : Option ClientState) (c : Client) → IsAt client c → IsThere client c
there None c at = absurd at
there (Some k) c at = record {
  control = k.control;
  is = ap (λ (p : Protocol). Some (record { core = p; control = k.control })) at.core;
  keeps = record { core = refl; waits = at.waits; are_bytes = at.are_bytes };
}

any_event : (event : Event) (ret : Answer) (c : Client) (old new : World) → IsSound c → IsAt old.client c → IsFairEvent event → IsStep event old ret new → IsOne event ret c old new
any_event event ret c old new sound at fair is = let h = there old.client c at in by_event event ret c h.control old new sound h.is h.keeps fair is

-- ---- all of them

pub record AreReported (c : Client) (old : World) (pairs : List (Event × Answer)) (new : World) : Type 0 where
  pub run : List (Step Client DeskCall)
  pub reported : IsReportedBy old pairs run new
  pub last : Client
  pub left : IsAt new.client last
  pub leads : Leads c run last
  pub lawful : AtEach (λ s _. IsLawful words s) run
  pub sound : IsSound last

pub all_decoded : (pairs : List (Event × Answer)) (c : Client) (old new : World) → IsSound c → IsAt old.client c → AllByRecursion IsFair pairs → IsRun old pairs new → AreReported c old pairs new
unfolding IsRun IsReportedBy
all_decoded [] c old new sound held fair is = record {
  run = [];
  reported = (refl, is);
  last = c;
  left = subst (λ (w : World). IsAt w.client c) (sym is) held;
  leads = refl;
  lawful = tt;
  sound = sound;
}
all_decoded (pair ∷ pairs) c old new sound held fair is =
    let one = any_event pair.0 pair.1 c old is.0 sound held fair.0 is.1 in
    let rest = all_decoded pairs one.after is.0 new one.sound one.left fair.1 is.2 in
    record {
      run = rest.run ++ one.steps;
      reported = (is.0, one.steps, rest.run, refl, is.1, one.reported, rest.reported);
      last = rest.last;
      left = rest.left;
      leads = leads_after c one.after rest.last one.steps rest.run one.leads rest.leads;
      lawful = each_after (λ s. IsLawful words s) one.steps rest.run one.lawful rest.lawful;
      sound = rest.sound;
    }
