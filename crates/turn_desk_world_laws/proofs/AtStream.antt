-- What the client of a simulation does with its stream is steps of a run.
use Rattle.std.proofs.Common.{◌≡◌, ◌⊎◌, ℕ, Bool, true, false, List, [], ◌∷◌, ◌++◌, Option, Some, None, is_none, refl, sym, ap, ◌∙◌, subst, inl, inr}
use Rattle.std.specs.Borrow.{Bor}
use Rattle.std.specs.Prelude.{MatchOption}
use Rattle.turn_desk_core.specs.StunTypesWire.Grammar.{refusal}
use Rattle.turn_desk_core.specs.StunTypesWire.Headers.{AreBytes}
use Rattle.turn_desk_core.specs.StunTypesWire.declared.error.StunParseError.{StunParseError}
use Rattle.stun_types_base.specs.declared.transmit.Transmit.{Transmit}
use Rattle.turn_desk_event.specs.TurnTypesFrame.ChannelFrames.{channel_refusal}
use Rattle.turn_desk_event.specs.TurnTypesFrame.StreamAnswers.{IsNone, after_look, joined, looked}
use Rattle.turn_desk_event.specs.TurnTypesFrame.Streams.{Stream}
use Rattle.turn_desk_step_laws.specs.TurnRuns.Chains.{AreLawful, IsChain}
use Rattle.turn_desk_step_laws.proofs.TurnRunsLaws.Chains.{chain_on}
use Rattle.turn_desk_event.specs.TurnClientProtoApi.Payloads.{PeerPayload}
use Rattle.turn_desk_event.specs.TurnClientProtoApi.declared.answer.TurnRecvRet.{TurnRecvRet}
use Rattle.turn_desk_event.specs.TurnClientProtoApi.declared.answer.TurnRecvRet.TheVariants as recv
use Rattle.turn_client_proto_step_laws.specs.Recv.Datagrams.{IsHandledAs}
use Rattle.turn_client_proto_step_laws.specs.Recv.HandingIn.{IsFrameTaken, IsDispatched, taken_as, unread_as}
use Rattle.turn_client_proto_step_laws.specs.Recv.ClientState.{Protocol}
use Rattle.turn_desk_step_laws.specs.TurnRuns.Members.{IsIn}
use Rattle.turn_desk_step_laws.specs.TurnRuns.Messages.{Payload as Reported}
use Rattle.turn_desk_world.specs.TurnClientProtoPayload.OfPeers.{reported_of}
use Rattle.turn_desk_world.specs.TurnClientProtoPayload.Payloads.{payload_of}
use Rattle.turn_client_proto_step_laws.specs.Recv.Chunks.{Following, Invalid, First, IsAnsweredAfter, IsFirstTaken, IsFrameHandled, IsChunkTaken, Lost, Takes, Waits, data_given, data_taken}
use Rattle.turn_client_proto_step_laws.specs.Recv.Pulls.{Ends, Gives, Goes, IsPulled, frame_of}
use Rattle.turn_desk_step_laws.specs.TurnRuns.Steps.{Call}
use Rattle.turn_client_proto_step_laws.specs.Recv.declared.handing.Taken.{Taken}
use Rattle.turn_client_proto_step_laws.specs.Recv.declared.handing.Taken.TheVariants.{Given, Garbled}
use Rattle.turn_client_proto_step_laws.specs.Recv.Waiting.{completed, whole_frames}
use Rattle.turn_client_proto_step_laws.proofs.Recv.Waiting.{first_waits, frame_bytes, left_bytes, none_after, none_waits, chunk_completes}
use Rattle.turn_desk_world.specs.TurnClientProtoPayload.declared.payload.Payload.{Payload}
use Rattle.turn_client_proto_step_laws.specs.ClientWords.{client_words}
use Rattle.turn_client_proto_step_laws.specs.RunClient.{Client}
use Rattle.turn_client_proto_step_laws.specs.RunSteps.{IsComing, IsTakingUp, call_of}
use Rattle.turn_client_proto_step_laws.specs.Sound.{IsSound}
use Rattle.turn_client_proto_step_laws.proofs.Frames.{coming_step, handing_step, processing_step, passing_step}
use Rattle.turn_client_proto_step_laws.proofs.Lists.{in_either}
use Rattle.turn_desk_event.specs.declared.answer.Answer.{Answer}
use Rattle.turn_desk_event.specs.declared.answer.Answer.TheVariants as answer
use Rattle.turn_desk_world.specs.Calls.{IsReported}
use Rattle.turn_desk_world_laws.specs.Reported.{AreComing, AreTakenUp, HandsNothing, data_of, given_by, given_of}
use Rattle.turn_desk_world_laws.proofs.AtClient.{reported_of_it}
use Rattle.turn_desk_world_laws.proofs.Chain.{each_after}
use Rattle.turn_desk_world_laws.proofs.Delivered.{data_reported, delivered_as}

-- ---- one frame

-- Data from a peer as a payload of a run.
abbrev pub data_list : List ℕ → Option PeerPayload → List Reported
data_list frame None = []
data_list frame (Some given) = data_of (is_none (refusal frame)) frame given ∷ []

no_data : (frame : List ℕ) (given : Option PeerPayload) → given ≡ None → [] ≡ data_list frame given
no_data frame given is = ap (data_list frame) (sym is)

no_data_as : (frame : List ℕ) (handled : Bool) → data_taken frame (taken_as handled) ≡ None
no_data_as frame true = refl
no_data_as frame false = refl

no_data_unread : (frame : List ℕ) (refused : Option StunParseError) → data_taken frame (unread_as refused) ≡ None
no_data_unread frame None = refl
no_data_unread frame (Some error) = refl

module _ (c : Client) (sound : IsSound c) (frame : List ℕ) (rest : List (List ℕ)) (waited : c.waiting ≡ frame ∷ rest) (are_bytes : AreBytes frame) (now : ℕ) (core : Protocol) where
  processed : (taken : Taken) (refused : Option StunParseError) → refusal frame ≡ refused → IsDispatched refused c.core frame now taken core → IsTakingUp c frame [] core
  processed taken None message (handled, is, processes) = processing_step c sound frame rest waited now handled core are_bytes message processes
  processed taken (Some error) message is = passing_step c sound frame rest waited core is.1

  -- Whatever the outcome, nothing is delivered.
  passed_by : (taken : Taken) (found : Option Payload) → MatchOption found (IsDispatched (refusal frame) c.core frame now taken core) (λ payload. (taken ≡ Given payload) × (core ≡ c.core)) → IsTakingUp c frame [] core
  passed_by taken None is = processed taken (refusal frame) refl is
  passed_by taken (Some payload) is = passing_step c sound frame rest waited core is.1

  pub passed : (taken : Taken) → IsFrameTaken c.core frame now taken core → IsTakingUp c frame [] core
  passed taken is = passed_by taken (payload_of c.core frame) is

  delivered_back : (payload : Payload) → payload_of c.core frame ≡ Some payload → core ≡ c.core → IsTakingUp c frame (reported_of frame payload ∷ []) core
  delivered_back payload gives same = subst (λ (p : Protocol). IsTakingUp c frame (reported_of frame payload ∷ []) p) (sym same) (handing_step c sound frame rest waited payload gives)

  none_given : (taken : Taken) (given : Option PeerPayload) (refused : Option StunParseError) → IsDispatched refused c.core frame now taken core → given ≡ data_taken frame taken → given ≡ None
  none_given taken given None (handled, is, processes) gives = gives ∙ ap (data_taken frame) is ∙ no_data_as frame handled
  none_given taken given (Some error) is gives = gives ∙ ap (data_taken frame) is.0 ∙ no_data_unread frame (channel_refusal frame)

  -- Data is delivered, and nothing else.
  by_payload : (given reported : Option PeerPayload) (payload : Payload) → payload_of c.core frame ≡ Some payload → core ≡ c.core → given ≡ reported → data_given frame payload ≡ reported → IsTakingUp c frame (data_list frame given) core
  by_payload given None payload gives same is gave = subst (λ (l : List Reported). IsTakingUp c frame l core) (no_data frame given is) (passing_step c sound frame rest waited core same)
  by_payload given (Some one) payload gives same is gave =
      subst (λ (l : List Reported). IsTakingUp c frame l core)
      (ap (λ (x : Reported). x ∷ []) (sym (data_reported c.core frame one.index payload one gives gave)) ∙ ap (data_list frame) (sym is))
      (delivered_back payload gives same)

  handled_by : (taken : Taken) (given : Option PeerPayload) (found : Option Payload) → payload_of c.core frame ≡ found
      → MatchOption found (IsDispatched (refusal frame) c.core frame now taken core) (λ payload. (taken ≡ Given payload) × (core ≡ c.core)) → given ≡ data_taken frame taken → IsTakingUp c frame (data_list frame given) core
  handled_by taken given None at is gives =
      subst (λ (l : List Reported). IsTakingUp c frame l core) (no_data frame given (none_given taken given (refusal frame) is gives)) (processed taken (refusal frame) refl is)
  handled_by taken given (Some payload) at is gives = by_payload given (data_given frame payload) payload at is.1 (gives ∙ ap (data_taken frame) is.0) refl

  pub handled : (given : Option PeerPayload) → IsFrameHandled now c.core frame given core → IsTakingUp c frame (data_list frame given) core
  handled given is = handled_by is.taken given (payload_of c.core frame) refl is.is_taken is.gives

-- A frame that gives something is handled by giving it.
given_taken : (p : Protocol) (frame : List ℕ) (now : ℕ) (payload : Payload) → payload_of p frame ≡ Some payload → IsFrameTaken p frame now (Given payload) p
given_taken p frame now payload gives = rw gives (refl, refl)

-- ---- frames one after another

-- A client, and the frames that were handled from there on.
pub record AreLed (now : ℕ) (ret : Answer) (c : Client) (core : Protocol) (waiting : List (List ℕ)) : Type 0 where
  pub calls : List (Call Client)
  pub last : Client
  pub core_is : last.core ≡ core
  pub waits : last.waiting ≡ waiting
  pub sound : IsSound last
  pub are : AreTakenUp now ret c calls last
  pub chain : IsChain c calls last
  pub lawful : AreLawful client_words calls

module _ (now : ℕ) where
  -- A result that delivers nothing may be replaced by any other that delivers nothing.
  other_answer : (ret : Answer) (c mid : Client) (calls : List (Call Client)) → HandsNothing ret → AreTakenUp now answer.Nothing c calls mid → AreTakenUp now ret c calls mid
  other_answer ret c mid [] hands are = (are.0, hands)
  other_answer ret c mid (call ∷ earlier) hands (is, up, others) = (
    is,
    record {
      quiet = up.quiet;
      came_is = up.came_is;
      frame = up.frame;
      handled_is = up.handled_is;
      waited = up.waited;
      taken = up.taken;
      is_taken = up.is_taken;
      payloads_are = up.payloads_are ∙ sym (hands up.frame);
    },
    others,
  )

  taken_on : (ret : Answer) (c mid last : Client) (later earlier : List (Call Client)) → AreTakenUp now answer.Nothing c earlier mid → AreTakenUp now ret mid later last → AreTakenUp now ret c (later ++ earlier) last
  taken_on ret c mid last [] earlier one two = subst (λ (x : Client). AreTakenUp now ret c earlier x) (sym two.0) (other_answer ret c mid earlier two.1 one)
  taken_on ret c mid last (call ∷ later) earlier one (is, up, others) = (is, up, taken_on answer.Nothing c mid call.before later earlier one others)

  -- Nothing is handled.
  pub none_led : (ret : Answer) (c : Client) (core : Protocol) (waiting : List (List ℕ)) → IsSound c → c.core ≡ core → c.waiting ≡ waiting → HandsNothing ret → AreLed now ret c core waiting
  none_led ret c core waiting sound core_is waits hands = record {
    calls = [];
    last = c;
    core_is = core_is;
    waits = waits;
    sound = sound;
    are = (refl, hands);
    chain = refl;
    lawful = tt;
  }

  -- One frame is handled.
  one_led : (ret : Answer) (c : Client) (frame : List ℕ) (rest : List (List ℕ)) (payloads : List Reported) (core : Protocol) (taken : Taken) → c.waiting ≡ frame ∷ rest → IsFrameTaken c.core frame now taken core
      → payloads ≡ given_of frame ret → IsTakingUp c frame payloads core → AreLed now ret c core rest
  one_led ret c frame rest payloads core taken waited takes hands up = record {
    calls = record (call_of c [] None [] up.after) { handled = frame ∷ []; payloads = payloads } ∷ [];
    last = up.after;
    core_is = up.core_is;
    waits = Prim.cc (sym up.waits ∙ waited);
    sound = up.sound;
    are = (
      refl,
      record {
        quiet = record { transmitted_is = refl; answered_is = refl; visible_is = refl };
        came_is = refl;
        frame = frame;
        handled_is = refl;
        waited = up.waits;
        taken = taken;
        is_taken = subst (λ (p : Protocol). IsFrameTaken c.core frame now taken p) (sym up.core_is) takes;
        payloads_are = hands;
      },
      (refl, λ bytes. refl),
    );
    chain = (refl, refl);
    lawful = (up.step, tt);
  }

  -- One frame after another is handled.
  led_on : (ret : Answer) (c : Client) (middle core : Protocol) (between waiting : List (List ℕ)) (one : AreLed now answer.Nothing c middle between) → AreLed now ret one.last core waiting → AreLed now ret c core waiting
  led_on ret c middle core between waiting one more = record {
    calls = more.calls ++ one.calls;
    last = more.last;
    core_is = more.core_is;
    waits = more.waits;
    sound = more.sound;
    are = taken_on ret c one.last more.last more.calls one.calls one.are more.are;
    chain = chain_on c one.last more.last more.calls one.calls one.chain more.chain;
    lawful = each_after _ one.calls more.calls one.lawful more.lawful;
  }

  -- ---- what is pulled

  -- What is buffered in a stream is handled, and these bytes stay buffered.
  abbrev pub IsPulledSo : Answer → Client → Protocol → Stream → Type 0
  IsPulledSo ret c core left = AreLed now ret c core (whole_frames left) × AreBytes left.stored

  pulled : (s : Stream) (state : Protocol) (given : Option PeerPayload) (left : Stream) (new : Protocol) → IsPulled (IsFrameHandled now) s state given left new → (c : Client) → IsSound c → c.core ≡ state → c.waiting ≡ whole_frames s → AreBytes s.stored
      → (ret : Answer) → ((frame : List ℕ) → data_list frame given ≡ given_of frame ret) → IsPulledSo ret c new left
  pulled _ _ _ _ _ (Ends s state none) c sound core waits are_bytes ret hands = (
    none_led ret c state (whole_frames (after_look s)) sound core (waits ∙ none_waits s none ∙ sym (none_after s none)) (λ bytes. sym (hands bytes)),
    left_bytes s are_bytes,
  )
  pulled _ _ _ _ _ (Gives s state payload new some holds) c sound core waits are_bytes ret hands =
      let waited = waits ∙ first_waits s some in
      let is = subst (λ (p : Protocol). IsFrameHandled now p (frame_of s) (Some payload) new) (sym core) holds in (
        one_led ret c (frame_of s) (whole_frames (after_look s)) (data_list (frame_of s) (Some payload)) new is.taken waited is.is_taken (hands (frame_of s))
            (handled c sound (frame_of s) (whole_frames (after_look s)) waited (frame_bytes s are_bytes) now new (Some payload) is),
        left_bytes s are_bytes,
      )
  pulled _ _ _ _ _ (Goes s state middle given left new some holds more) c sound core waits are_bytes ret hands =
      let waited = waits ∙ first_waits s some in
      let is = subst (λ (p : Protocol). IsFrameHandled now p (frame_of s) None middle) (sym core) holds in
      let one = one_led answer.Nothing c (frame_of s) (whole_frames (after_look s)) [] middle is.taken waited is.is_taken refl
      (handled c sound (frame_of s) (whole_frames (after_look s)) waited (frame_bytes s are_bytes) now middle None is) in
      let rest = pulled (after_look s) middle given left new more one.last one.sound one.core_is one.waits (left_bytes s are_bytes) ret hands in
      (led_on ret c middle new (whole_frames (after_look s)) (whole_frames left) one rest.0, rest.1)

  pub pulled_led : (s left : Stream) (given : Option PeerPayload) (new : Protocol) (c : Client) → IsSound c → c.waiting ≡ whole_frames s → AreBytes s.stored → IsPulled (IsFrameHandled now) s c.core given left new
      → (ret : Answer) → ((frame : List ℕ) → data_list frame given ≡ given_of frame ret) → IsPulledSo ret c new left
  pulled_led s left given new c sound waits are_bytes is ret hands = pulled s c.core given left new is c sound refl waits are_bytes ret hands

-- ---- a chunk

module _ (ret : Answer) (came : Transmit (Bor (List ℕ))) (took : TurnRecvRet (Bor (List ℕ))) (reported : IsReported took ret) where
  -- What the result delivers.
  hands : (l : (frame : List ℕ) → List Reported) → ((frame : List ℕ) → given_by frame took ≡ l frame) → (frame : List ℕ) → l frame ≡ given_of frame ret
  hands l is frame = sym (is frame) ∙ (reported_of_it frame took ret reported).hands

  handled_hands : (handled : Bool) → IsHandledAs came handled took → (frame : List ℕ) → given_by frame took ≡ []
  handled_hands true is frame = ap (given_by frame) is
  handled_hands false is frame = ap (given_by frame) is

  after_hands : (handled : Bool) (given : Option PeerPayload) → IsAnsweredAfter handled given came took → (frame : List ℕ) → given_by frame took ≡ data_list frame given
  after_hands handled None is frame = handled_hands handled is frame
  after_hands handled (Some given) is frame = ap (given_by frame) is

  pub nothing_hands : ((frame : List ℕ) → given_by frame took ≡ []) → HandsNothing ret
  nothing_hands is frame = sym (hands (λ _. []) is frame)

  module _ (now : ℕ) (grown : Stream) (c : Client) (sound : IsSound c) (waits : c.waiting ≡ whole_frames grown) (are_bytes : AreBytes grown.stored) (left : Stream) (new : Protocol) where
    abbrev frame : List ℕ
    frame = frame_of grown

    abbrev rest : List (List ℕ)
    rest = whole_frames (after_look grown)

    abbrev Led : Type 0
    Led = IsPulledSo now ret c new left

    -- Only the first frame is handled.
    alone : (payloads : List Reported) (taken : Taken) → c.waiting ≡ frame ∷ rest → left ≡ after_look grown → IsFrameTaken c.core frame now taken new → payloads ≡ given_of frame ret → IsTakingUp c frame payloads new → Led
    alone payloads taken waited left_is takes delivered up =
        subst (λ (s : Stream). IsPulledSo now ret c new s) (sym left_is)
        (one_led now ret c frame rest payloads new taken waited takes delivered up, left_bytes grown are_bytes)

    first : (owned : Bool) → ¬ IsNone (looked grown) → IsFirstTaken now owned frame (after_look grown) c.core came took left new → Led
    first owned some (First payload gives answered left_is same) =
        let waited = waits ∙ first_waits grown some in
        alone (reported_of frame payload ∷ []) (Given payload) waited left_is (subst (λ (p : Protocol). IsFrameTaken c.core frame now (Given payload) p) (sym same) (given_taken c.core frame now payload gives))
        (sym (delivered_as c.core frame owned payload took gives answered) ∙ (reported_of_it frame took ret reported).hands)
        (subst (λ (p : Protocol). IsTakingUp c frame (reported_of frame payload ∷ []) p) (sym same) (handing_step c sound frame rest waited payload gives))
    first owned some (Invalid takes answered left_is) =
        let waited = waits ∙ first_waits grown some in
        alone [] Garbled waited left_is takes (hands (λ _. []) (λ f. ap (given_by f) answered) frame) (passed c sound frame rest waited (frame_bytes grown are_bytes) now new Garbled takes)
    first owned some (Following handled middle takes given pull answered) =
        let waited = waits ∙ first_waits grown some in
        let one = one_led now answer.Nothing c frame rest [] middle (taken_as handled) waited takes refl (passed c sound frame rest waited (frame_bytes grown are_bytes) now middle (taken_as handled) takes) in
        let more = pulled_led now (after_look grown) left given new one.last one.sound one.waits (left_bytes grown are_bytes)
        (subst (λ (p : Protocol). IsPulled (IsFrameHandled now) (after_look grown) p given left new) (sym one.core_is) pull) ret (hands (λ f. data_list f given) (after_hands handled given answered)) in
        (led_on now ret c middle new rest (whole_frames left) one more.0, more.1)

  -- What is done with the frames that a chunk completes.
  pub chunk_led : (items : Bor (List ℕ) → List ℕ) (now : ℕ) (stream left : Stream) (new : Protocol) (c : Client) → IsSound c → c.waiting ≡ whole_frames (joined stream (items came.bytes)) → AreBytes (joined stream (items came.bytes)).stored
      → IsChunkTaken items now stream c.core came took left new → IsPulledSo now ret c new left
  chunk_led items now stream left new c sound waits are_bytes (Waits none answered left_is same) =
      let grown = joined stream (items came.bytes) in
      subst (λ (s : Stream). IsPulledSo now ret c new s) (sym left_is) (
        none_led now ret c new (whole_frames (after_look grown)) sound (sym same) (waits ∙ none_waits grown none ∙ sym (none_after grown none)) (nothing_hands (λ f. ap (given_by f) answered)),
        left_bytes grown are_bytes,
      )
  chunk_led items now stream left new c sound waits are_bytes (Takes some owned started is) = first now (joined stream (items came.bytes)) c sound waits are_bytes left new owned some is
  chunk_led items now stream left new c sound waits are_bytes (Lost answered lost) = absurd (no_memory answered)
    where
      no_memory : took ≡ recv.NoMemory came → ⊥
      no_memory is = subst (λ (t : TurnRecvRet (Bor (List ℕ))). IsReported t ret) is reported

-- ---- frames come

-- Each frame that is then buffered was buffered before or arrived.
of_these : (stream : Stream) (chunk : List ℕ) (f : List ℕ) → IsIn f (whole_frames (joined stream chunk)) → IsIn f (completed stream chunk) ⊎ IsIn f (whole_frames stream)
of_these stream chunk f i = elim (in_either f (whole_frames stream) (completed stream chunk) (subst (IsIn f) (chunk_completes stream chunk) i)) [
  | inl before ↦ inr before
  | inr came ↦ inl came
]

pub chunk_comes : (c : Client) (stream : Stream) (chunk : List ℕ) → IsSound c → whole_frames stream ≡ c.waiting → IsComing c (completed stream chunk) (whole_frames (joined stream chunk))
chunk_comes c stream chunk sound waits =
    coming_step c sound (completed stream chunk) (whole_frames (joined stream chunk))
    (λ f i. subst (λ (l : List (List ℕ)). IsIn f (completed stream chunk) ⊎ IsIn f l) waits (of_these stream chunk f i))

-- Those calls in the terms of a run.
abbrev pub coming_call : (c : Client) (came waiting : List (List ℕ)) → IsComing c came waiting → Call Client
coming_call c came waiting is = record (call_of c came None [] is.after) { handled = [] }

pub are_coming : (c : Client) (came waiting : List (List ℕ)) (is : IsComing c came waiting) → AreComing came waiting (coming_call c came waiting is)
are_coming c came waiting is = record {
  quiet = record { transmitted_is = refl; answered_is = refl; visible_is = refl };
  came_is = refl;
  handled_is = refl;
  payloads_are = refl;
  core_is = is.core_is;
  waits = is.waits;
}
