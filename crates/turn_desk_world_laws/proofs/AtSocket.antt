-- What the client of a simulation does with bytes on the sockets of connections is steps of a run.
use Rattle.std.proofs.Common.{◌≡◌, ℕ, ◌==◌, Bool, true, false, if◌then◌else◌, List, [], ◌∷◌, ◌++◌, length, Option, Some, None, refl, sym, ap, ◌∙◌, subst, inl, inr}
use Rattle.std.proofs.lemmas.Bool.{cases_Bool, eqb-true}
use Rattle.std.specs.Bool.{MatchBool}
use Rattle.std.specs.Borrow.{Bor}
use Rattle.std.specs.Prelude.{MatchOption, ◌&&◌}
use Rattle.std.specs.declared.net.socket_addr.SocketAddr.{SocketAddr}
use Rattle.turn_desk_core.specs.StunTypesWire.Grammar.{refusal}
use Rattle.turn_desk_core.specs.StunTypesWire.Headers.{AreBytes}
use Rattle.turn_desk_core.specs.StunTypesWire.declared.error.StunParseError.{StunParseError}
use Rattle.stun_types_base.specs.declared.transmit.Transmit.{Transmit}
use Rattle.stun_types_base.specs.declared.transport.TransportType.{TransportType}
use Rattle.stun_types_base.specs.declared.transport.TransportType.TheVariants.{Udp, Tcp}
use Rattle.turn_desk_event.specs.TurnTypesFrame.StreamAnswers.{IsNone, after_look, joined, looked}
use Rattle.turn_desk_event.specs.TurnTypesFrame.Streams.{Stream, alive}
use Rattle.turn_desk_step_laws.specs.TurnRuns.Chains.{AreLawful, IsChain}
use Rattle.turn_desk_step_laws.proofs.TurnRunsLaws.Chains.{chain_on}
use Rattle.turn_desk_step_laws.specs.TurnClientProtoAllocation.declared.connection.Binding.{Binding}
use Rattle.turn_desk_step_laws.specs.TurnClientProtoAllocation.declared.connection.Connection.{Connection}
use Rattle.turn_desk_event.specs.TurnClientProtoApi.Payloads.{PeerPayload}
use Rattle.turn_desk_event.specs.TurnClientProtoApi.declared.answer.TurnRecvRet.{TurnRecvRet}
use Rattle.turn_desk_event.specs.TurnClientProtoApi.declared.answer.TurnRecvRet.TheVariants as recv
use Rattle.turn_client_proto_step_laws.specs.Recv.Closing.{after_close}
use Rattle.turn_desk_world.specs.TurnClientProtoConnection.Streams.{emptied, first_raw, from as over}
use Rattle.turn_client_proto_step_laws.specs.Recv.Datagrams.{IsHandledAs}
use Rattle.turn_client_proto_step_laws.specs.Recv.Processing.{IsProcessedAt}
use Rattle.turn_client_proto_step_laws.specs.Recv.ClientState.{Protocol}
use Rattle.turn_desk_step_laws.specs.TurnRuns.Messages.{FromConnection}
use Rattle.turn_desk_step_laws.specs.TurnClientProtoAllocation.Same.{is_same_address, is_same_transport}
use Rattle.turn_client_proto_step_laws.specs.Recv.Pulls.{frame_of}
use Rattle.turn_client_proto_step_laws.specs.Recv.SocketChunks.{Closes, Fed, GivesRaw, Processes as FrameProcesses, Stops as FrameStops, Waits as FrameWaits, IsBytesTaken, IsEnded, IsFed, IsFrameProcessed, IsMessageProcessed, IsChunkFed, IsRawGiven, IsRawTaken, IsTakenBy, LostEnd, LostFrames, LostRaw, after_raw, is_for_client, is_joining, raw_given, raw_stored, socket_of, with_stored}
use Rattle.turn_desk_step_laws.specs.TurnRuns.Steps.{Call}
use Rattle.turn_client_proto_step_laws.specs.ClientWords.{client_words}
use Rattle.turn_client_proto_step_laws.specs.RunClient.{Client}
use Rattle.turn_client_proto_step_laws.specs.RunSteps.{IsPassingOn, IsRunStep, IsSilent, call_of}
use Rattle.turn_client_proto_step_laws.specs.Sound.{IsSound}
use Rattle.turn_desk_world.specs.TurnClientProtoCore.Receiving.{IsProcessed}
use Rattle.turn_client_proto_step_laws.proofs.Answering.{answer_step}
use Rattle.turn_client_proto_step_laws.proofs.Polling.{by_test}
use Rattle.turn_client_proto_step_laws.proofs.Receiving.{receive_step}
use Rattle.turn_client_proto_step_laws.proofs.Socketing.{close_step}
use Rattle.turn_client_proto_step_laws.proofs.Streaming.{exchange_step, from_stored, passing_emptying, passing_exchange, passing_still, raw_stored as raw_is_stored}
use Rattle.turn_desk_event.specs.declared.answer.Answer.{Answer}
use Rattle.turn_desk_event.specs.declared.answer.Answer.TheVariants as answer
use Rattle.turn_desk_world.specs.Calls.{IsReported}
use Rattle.turn_desk_world_laws.specs.SocketCalls.{AreCallsBound, AreCallsOfJoining, AreCallsOfWaiting, AreCallsOver, AreProcessedOver, GivesNothing, Processes, IsMessageOver, IsOne, IsPassedOn, IsStill, Passes, Stops, Waits, socket_at}
use Rattle.turn_desk_world_laws.proofs.Chain.{each_after}

-- Calls that preserve the client's invariant and lead it to this core, while the same frames stay buffered in
-- its stream.
pub record AreLedBy (Are : Client → List (Call Client) → Client → Type 0) (c : Client) (core : Protocol) : Type 0 where
  pub calls : List (Call Client)
  pub last : Client
  pub core_is : last.core ≡ core
  pub waits : last.waiting ≡ c.waiting
  pub sound : IsSound last
  pub are : Are c calls last
  pub chain : IsChain c calls last
  pub lawful : AreLawful client_words calls

pub led_so : (Are So : Client → List (Call Client) → Client → Type 0) (c : Client) (core : Protocol) → ((calls : List (Call Client)) (last : Client) → Are c calls last → So c calls last) → AreLedBy Are c core → AreLedBy So c core
led_so Are So c core f led = record {
  calls = led.calls;
  last = led.last;
  core_is = led.core_is;
  waits = led.waits;
  sound = led.sound;
  are = f led.calls led.last led.are;
  chain = led.chain;
  lawful = led.lawful;
}

-- ---- one call

-- Only the core changes.
abbrev still_call : (c : Client) (core : Protocol) → IsSilent c core → Call Client
still_call c core is = call_of c [] None [] is.after

is_still : (c : Client) (core : Protocol) (is : IsSilent c core) → IsStill core (still_call c core is)
is_still c core is = record {
  quiet = record { transmitted_is = refl; answered_is = refl; visible_is = refl };
  came_is = refl;
  handled_is = refl;
  payloads_are = refl;
  core_is = is.core_is;
  waits = is.waits;
}

one_still : (c : Client) (core : Protocol) → IsSilent c core → AreLedBy (IsOne (IsStill core)) c core
one_still c core is = record {
  calls = still_call c core is ∷ [];
  last = is.after;
  core_is = is.core_is;
  waits = is.waits;
  sound = is.sound;
  are = (still_call c core is, refl, refl, refl, is_still c core is);
  chain = (refl, refl);
  lawful = (is.step, tt);
}

-- Bytes of a peer are delivered.
one_passed : (c : Client) (k : Connection) (given : PeerPayload) (core : Protocol) (ret : Answer) → ret ≡ answer.Peer given → IsPassingOn c (FromConnection k.here k.peer given.payload ∷ []) core → AreLedBy (IsOne (IsPassedOn k given core ret)) c core
one_passed c k given core ret answered is =
    let call : Call Client = record (call_of c [] None [] is.after) { payloads = FromConnection k.here k.peer given.payload ∷ [] } in
    record {
      calls = call ∷ [];
      last = is.after;
      core_is = is.core_is;
      waits = is.waits;
      sound = is.sound;
      are = (
        call,
        refl,
        refl,
        refl,
        record {
          quiet = record { transmitted_is = refl; answered_is = refl; visible_is = refl };
          came_is = refl;
          handled_is = refl;
          answered = answered;
          payloads_are = refl;
          core_is = is.core_is;
          waits = is.waits;
        },
      );
      chain = (refl, refl);
      lawful = (is.step, tt);
    }

-- ---- frames one after another

module _ (here : SocketAddr) (now : ℕ) where
  message_step : (c : Client) (frame : List ℕ) (new : Protocol) → IsSound c → AreBytes frame → refusal frame ≡ None → IsMessageProcessed here now c.core frame new → IsRunStep c (frame ∷ []) None [] new
  message_step c frame new sound are_bytes message is =
      by_test (is_same_address here c.core.agent.here)
      (λ (_ : is_same_address here c.core.agent.here ≡ true) (o : (handled : Bool) × IsProcessed c.core frame now handled new). receive_step c frame now o.0 new sound are_bytes message o.1)
      (λ (_ : is_same_address here c.core.agent.here ≡ false) (o : IsProcessedAt here c.core frame now new). answer_step c frame now new here sound are_bytes message o) is

  abbrev ProcessedSo : Stream → Client → Stream → Protocol → Type 0
  ProcessedSo stream c left core = AreLedBy (λ first calls last. AreProcessedOver here now stream first calls left last) c core

  -- The frame at the head is handled, and those after it.
  module _ (stream : Stream) (left : Stream) (middle after : Protocol) (some : ¬ IsNone (looked stream)) (following : (d : Client) → IsSound d → d.core ≡ middle → ProcessedSo (after_look stream) d left after) (c : Client) (sound : IsSound c) (joining : is_joining here c.core ≡ true) where
    processed_on : AreBytes (frame_of stream) → refusal (frame_of stream) ≡ None → IsMessageProcessed here now c.core (frame_of stream) middle → ProcessedSo stream c left after
    processed_on are_bytes message is =
        let frame = frame_of stream in
        let one = message_step c frame middle sound are_bytes message is in
        let call : Call Client = call_of c (frame ∷ []) None [] one.after in
        let rest = following one.after one.sound one.core_is in
        let over_it : IsMessageOver here now frame call = record {
          quiet = record { transmitted_is = refl; answered_is = refl; visible_is = refl };
          came_is = refl;
          handled_is = refl;
          payloads_are = refl;
          message = message;
          processed = subst (λ (p : Protocol). IsMessageProcessed here now c.core frame p) (sym one.core_is) is;
          waits = one.waits;
        } in
        record {
          calls = rest.calls ++ call ∷ [];
          last = rest.last;
          core_is = rest.core_is;
          waits = rest.waits ∙ one.waits;
          sound = rest.sound;
          are = Processes stream call rest.calls left rest.last joining some over_it rest.are;
          chain = chain_on c one.after rest.last rest.calls (call ∷ []) (refl, refl) rest.chain;
          lawful = each_after _ (call ∷ []) rest.calls (one.step, tt) rest.lawful;
        }

    passed_on : (error : StunParseError) → refusal (frame_of stream) ≡ Some error → middle ≡ c.core → ProcessedSo stream c left after
    passed_on error refused same =
        let rest = following c sound (sym same) in
        record {
          calls = rest.calls;
          last = rest.last;
          core_is = rest.core_is;
          waits = rest.waits;
          sound = rest.sound;
          are = Passes stream c rest.calls left rest.last error joining some refused rest.are;
          chain = rest.chain;
          lawful = rest.lawful;
        }

    frame_on : (refused : Option StunParseError) → refusal (frame_of stream) ≡ refused → AreBytes (frame_of stream) → MatchOption refused (IsMessageProcessed here now c.core (frame_of stream) middle) (λ error. middle ≡ c.core) → ProcessedSo stream c left after
    frame_on None message are_bytes is = processed_on are_bytes message is
    frame_on (Some error) refused are_bytes is = passed_on error refused is

  processed_over : (stream : Stream) (state : Protocol) (left : Stream) (after : Protocol) → IsFed here now stream state left after → (c : Client) → IsSound c → c.core ≡ state → ProcessedSo stream c left after
  processed_over _ _ _ _ (FrameStops stream state not_so) c sound core = record {
    calls = [];
    last = c;
    core_is = core;
    waits = refl;
    sound = sound;
    are = Stops stream c (ap (is_joining here) core ∙ not_so);
    chain = refl;
    lawful = tt;
  }
  processed_over _ _ _ _ (FrameWaits stream state joining none) c sound core = record {
    calls = [];
    last = c;
    core_is = core;
    waits = refl;
    sound = sound;
    are = Waits stream c (ap (is_joining here) core ∙ joining) none;
    chain = refl;
    lawful = tt;
  }
  processed_over _ _ _ _ (FrameProcesses stream state middle left after joining some processed more) c sound core =
      let is : IsFrameProcessed here now c.core (frame_of stream) middle = subst (λ (p : Protocol). IsFrameProcessed here now p (frame_of stream) middle) (sym core) processed in
      frame_on stream left middle after some (λ d safe at. processed_over (after_look stream) middle left after more d safe at) c sound (ap (is_joining here) core ∙ joining)
      (refusal (frame_of stream)) refl is.0 is.1

-- ---- until the connection is bound

joining_led : (k : Connection) (to : SocketAddr) (now : ℕ) (bytes : List ℕ) (left : Stream) (middle core : Protocol) (c : Client) → IsSound c → IsFed to now (joined k.stream bytes) (with_stored to (alive []) c.core) left middle → core ≡ with_stored to left middle
    → AreLedBy (AreCallsOfJoining k to now bytes) c core
joining_led k to now bytes left middle core c sound fed after =
    let out : IsSilent c (with_stored to (alive []) c.core) = exchange_step c to (alive []) sound in
    let processed = processed_over to now (joined k.stream bytes) (with_stored to (alive []) c.core) left middle fed out.after out.sound out.core_is in
    let back : IsSilent processed.last (with_stored to left processed.last.core) = exchange_step processed.last to left processed.sound in
    let first : Call Client = still_call c (with_stored to (alive []) c.core) out in
    let final : Call Client = still_call processed.last (with_stored to left processed.last.core) back in
    record {
      calls = final ∷ processed.calls ++ first ∷ [];
      last = back.after;
      core_is = back.core_is ∙ ap (λ (p : Protocol). with_stored to left p) processed.core_is ∙ sym after;
      waits = back.waits ∙ processed.waits ∙ out.waits;
      sound = back.sound;
      are = record {
        out = first;
        begins = refl;
        taken_out = is_still c (with_stored to (alive []) c.core) out;
        processed = processed.calls;
        left = left;
        middle = processed.last;
        are_processed = processed.are;
        back = final;
        continues = refl;
        put_back = is_still processed.last (with_stored to left processed.last.core) back;
        ends = refl;
        calls_are = refl;
      };
      chain = (refl, chain_on c out.after processed.last processed.calls (first ∷ []) (refl, refl) processed.chain);
      lawful = (back.step, each_after _ (first ∷ []) processed.calls (out.step, tt) processed.lawful);
    }

-- ---- the result

reported_nothing : (ret : Answer) → IsReported recv.Handled ret → GivesNothing ret
reported_nothing answer.Handled is = tt
reported_nothing _ is = absurd is

decoded_back : (came : Transmit (Bor (List ℕ))) (ret : Answer) → IsReported (recv.Ignored came) ret → GivesNothing ret
decoded_back came answer.Ignored is = tt
decoded_back came _ is = absurd is

reported_data : (given : PeerPayload) (ret : Answer) → IsReported (recv.PeerData given) ret → ret ≡ answer.Peer (record given { index = None })
reported_data given (answer.Peer owned) is = ap (λ (g : PeerPayload). answer.Peer g) is
reported_data given _ is = absurd is

-- ---- bytes over a socket

some_bytes : (byte : ℕ) (bytes : List ℕ) → (length (byte ∷ bytes) == 0) ≡ false
some_bytes byte bytes = elim (cases_Bool (length (byte ∷ bytes) == 0)) [
  | inl none ↦ absurd (Prim.cc (eqb-true (length (byte ∷ bytes)) 0 none))
  | inr some ↦ some
]

module _ (ret : Answer) (came : Transmit (Bor (List ℕ))) (took : TurnRecvRet (Bor (List ℕ))) (reported : IsReported took ret) where
  reported_as : (answered : TurnRecvRet (Bor (List ℕ))) → took ≡ answered → IsReported answered ret
  reported_as answered is = subst (λ (t : TurnRecvRet (Bor (List ℕ))). IsReported t ret) is reported

  handled_nothing : (handled : Bool) → IsHandledAs came handled took → GivesNothing ret
  handled_nothing true is = reported_nothing ret (reported_as recv.Handled is)
  handled_nothing false is = decoded_back came ret (reported_as (recv.Ignored came) is)

  module _ (k : Connection) (now : ℕ) (c : Client) (sound : IsSound c) (core : Protocol) (there : over came.to c.core.allocations ≡ Some k) where
    abbrev chunk : List ℕ
    chunk = came.bytes.now

    fed_led : (left : Stream) (middle : Protocol) → core ≡ with_stored came.to left middle → IsChunkFed (λ (b : Bor (List ℕ)). b.now) came.to now k.stream (with_stored came.to (alive []) c.core) came took left middle
        → GivesNothing ret × AreLedBy (AreCallsOfJoining k came.to now chunk) c core
    fed_led left middle after (Fed fed answered) = (
      handled_nothing (is_for_client (looked (joined k.stream chunk))) answered,
      joining_led k came.to now chunk left middle core c sound fed after,
    )
    fed_led left middle after (LostFrames answered lost) = absurd (reported_as (recv.NoMemory came) answered)

    -- Bytes of the connection's peer are delivered.
    passing : k.awaited ≡ None → (bytes : List ℕ) (b : Bool) → IsPassingOn c (FromConnection k.here k.peer bytes ∷ []) (if b then c.core else with_stored came.to (alive []) c.core)
    passing bound bytes true = passing_still c k bytes sound (from_stored came.to c.core.allocations k there bound)
    passing bound bytes false = passing_exchange c came.to (alive []) k bytes sound (from_stored came.to c.core.allocations k there bound)

    raw_led : k.awaited ≡ None → IsRawTaken (λ (b : Bor (List ℕ)). b.now) k c.core came took core → AreLedBy (IsOne (IsPassedOn k (record (raw_given k chunk) { index = None }) (after_raw came.to k c.core) ret)) c core
    raw_led bound (GivesRaw answered same) =
        subst (λ (p : Protocol). AreLedBy (IsOne (IsPassedOn k (record (raw_given k chunk) { index = None }) (after_raw came.to k c.core) ret)) c p) (sym same)
        (one_passed c k (record (raw_given k chunk) { index = None }) (after_raw came.to k c.core) ret (reported_data (raw_given k chunk) ret (reported_as (recv.PeerData (raw_given k chunk)) answered))
        (passing bound (k.stream.stored ++ chunk) (length k.stream.stored == 0)))
    raw_led bound (LostRaw some answered failed) = absurd (reported_as (recv.NoMemory came) answered)

    closed_led : IsEnded c.core came took core → GivesNothing ret × AreLedBy (IsOne (IsStill (after_close came.to c.core.server c.core))) c core
    closed_led (Closes answered same) = (
      reported_nothing ret (reported_as recv.Handled answered),
      subst (λ (p : Protocol). AreLedBy (IsOne (IsStill (after_close came.to c.core.server c.core))) c p) (sym same)
          (one_still c (after_close came.to c.core.server c.core) (close_step c came.to c.core.server (after_close came.to c.core.server c.core) sound refl)),
    )
    closed_led (LostEnd answered failed) = absurd (reported_as (recv.NoMemory came) answered)

    bound_led : (awaited : Option Binding) → k.awaited ≡ awaited → IsBytesTaken (λ (b : Bor (List ℕ)). b.now) awaited k now c.core came took core
        → AreLedBy (λ first calls last. AreCallsBound awaited k came.to now chunk ret c.core first calls last) c core
    bound_led (Some binding) at is =
        let led = fed_led is.left is.middle is.after is.fed in
        led_so (AreCallsOfJoining k came.to now chunk) (λ first calls last. AreCallsBound (Some binding) k came.to now chunk ret c.core first calls last) c core (λ calls last are. (led.0, are)) led.1
    bound_led None at is = raw_led at is

    -- By what came.
    abbrev IsTakenOf : List ℕ → Type 0
    IsTakenOf l = MatchBool (length l == 0) (IsEnded c.core came took core) (IsBytesTaken (λ (b : Bor (List ℕ)). b.now) k.awaited k now c.core came took core)

    over_by : (bytes : List ℕ) → bytes ≡ chunk → IsTakenBy (λ (b : Bor (List ℕ)). b.now) k now c.core came took core → AreLedBy (λ first calls last. AreCallsOver k came.to now bytes ret c.core first calls last) c core
    over_by [] same is =
        let ended : IsEnded c.core came took core = subst (λ (l : List ℕ). IsTakenOf l) (sym same) is in
        let led = closed_led ended in
        led_so (IsOne (IsStill (after_close came.to c.core.server c.core))) (λ first calls last. AreCallsOver k came.to now [] ret c.core first calls last) c core (λ calls last are. (led.0, are)) led.1
    over_by (byte ∷ bytes) same is =
        let taken : IsBytesTaken (λ (b : Bor (List ℕ)). b.now) k.awaited k now c.core came took core =
        subst (λ (b : Bool). MatchBool b (IsEnded c.core came took core) (IsBytesTaken (λ (b : Bor (List ℕ)). b.now) k.awaited k now c.core came took core)) (some_bytes byte bytes) (subst (λ (l : List ℕ). IsTakenOf l) (sym same) is) in
        subst (λ (l : List ℕ). AreLedBy (λ first calls last. AreCallsBound k.awaited k came.to now l ret c.core first calls last) c core) (sym same) (bound_led k.awaited refl taken)

-- Bytes came on the socket of this connection, from these addresses.
pub over_led : (ret : Answer) (came : Transmit (Bor (List ℕ))) (took : TurnRecvRet (Bor (List ℕ))) → IsReported took ret → (k : Connection) (to : SocketAddr) (now : ℕ) (bytes : List ℕ) (c : Client) (core : Protocol) → IsSound c → came.to ≡ to → came.bytes.now ≡ bytes
    → over to c.core.allocations ≡ Some k → IsTakenBy (λ (b : Bor (List ℕ)). b.now) k now c.core came took core → AreLedBy (λ first calls last. AreCallsOver k to now bytes ret c.core first calls last) c core
over_led ret came took reported k to now bytes c core sound to_is bytes_are there is =
    subst (λ (h : SocketAddr). AreLedBy (λ first calls last. AreCallsOver k h now bytes ret c.core first calls last) c core) to_is
    (over_by ret came took reported k now c sound core (ap (λ (h : SocketAddr). over h c.core.allocations) to_is ∙ there) bytes (sym bytes_are) is)

-- ---- which socket it is

same_transport : (t : TransportType) → is_same_transport t t ≡ true
same_transport Udp = refl
same_transport Tcp = refl

module _ (p : Protocol) where
  abbrev found : Bool → (from to : SocketAddr) → Option Connection
  found b f h = if b && is_same_address f p.server then over h p.allocations else None

  pub one_socket : {T : Type 0} (came : Transmit T) (from to : SocketAddr) → came.transport ≡ p.agent.transport → came.from ≡ from → came.to ≡ to → socket_of p came ≡ socket_at p from to
  one_socket came from to transport_is from_is to_is =
      ap (λ (t : TransportType). found (is_same_transport t p.agent.transport) came.from came.to) transport_is
      ∙ ap (λ (b : Bool). found b came.from came.to) (same_transport p.agent.transport)
      ∙ ap (λ (f : SocketAddr). found true f came.to) from_is
      ∙ ap (λ (h : SocketAddr). found true from h) to_is

  pub socket_there : (from to : SocketAddr) (k : Connection) → socket_at p from to ≡ Some k → over to p.allocations ≡ Some k
  socket_there from to k is = by (is_same_address from p.server) is
    where
      by : (b : Bool) → (if b then over to p.allocations else None) ≡ Some k → over to p.allocations ≡ Some k
      by true found_it = found_it
      by false none = absurd (let never : None ≡ Some k = none in let no : ⊥ = Prim.cc never in no)

-- ---- bytes that wait

pub waiting_led : (k : Connection) (given : PeerPayload) (c : Client) (core : Protocol) → IsSound c → first_raw c.core.allocations ≡ Some k → IsRawGiven k c.core (Some given) core → AreLedBy (λ first calls last. AreCallsOfWaiting k (answer.Peer given) c.core first calls last) c core
waiting_led k given c core sound there is =
    let left : Protocol = record c.core { allocations = emptied c.core.allocations } in
    let same : given ≡ raw_stored k = Prim.cc is.gives in
    subst (λ (p : Protocol). AreLedBy (λ first calls last. AreCallsOfWaiting k (answer.Peer given) c.core first calls last) c p) (sym is.after)
    (one_passed c k (raw_stored k) left (answer.Peer given) (ap (λ (g : PeerPayload). answer.Peer g) same) (passing_emptying c k k.stream.stored sound (raw_is_stored c.core.allocations k there)))
