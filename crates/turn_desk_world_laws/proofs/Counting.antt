-- All accounts of a run count equally many generated transaction IDs.
use Rattle.std.proofs.Common.{Vec, Global, ◌≡◌, ℕ, ◌+◌, true, false, List, [], ◌∷◌, ◌++◌, length, Option, Some, None, refl, sym, ap, ◌∙◌, subst, arith, inl, inr}
use Rattle.std.proofs.lemmas.List.{append_assoc, length-append}
use Rattle.std.specs.declared.net.socket_addr.SocketAddr.{SocketAddr}
use Rattle.turn_desk_core.specs.StunTypesWire.Grammar.{refusal}
use Rattle.turn_desk_core.specs.StunTypesWire.declared.error.StunParseError.{StunParseError}
use Rattle.turn_desk_event.specs.TurnTypesFrame.StreamAnswers.{IsNone, after_look, joined, looked}
use Rattle.turn_desk_event.specs.TurnTypesFrame.Streams.{Stream, alive}
use Rattle.turn_desk_step_laws.specs.TurnRuns.Chains.{steps_of}
use Rattle.turn_desk_step_laws.specs.TurnClientProtoAllocation.declared.connection.Binding.{Binding}
use Rattle.turn_desk_step_laws.specs.TurnClientProtoAllocation.declared.connection.Connection.{Connection}
use Rattle.turn_client_proto_step_laws.specs.Recv.Closing.{after_close}
use Rattle.turn_desk_world.specs.TurnClientProtoConnection.Streams.{emptied}
use Rattle.turn_client_proto_step_laws.specs.Recv.Pulls.{frame_of}
use Rattle.turn_desk_step_laws.specs.TurnRuns.Runs.{Step, AtClient, AtDesk, given_in}
use Rattle.turn_client_proto_step_laws.specs.Recv.SocketChunks.{IsMessageProcessed, after_raw, is_joining, raw_given, raw_stored, with_stored}
use Rattle.turn_client_proto_step_laws.specs.Recv.Control.{Control, Datagrams, Open, Closed}
use Rattle.turn_client_proto_step_laws.specs.Recv.HandingIn.{IsFrameTaken}
use Rattle.turn_client_proto_step_laws.specs.Recv.ClientState.{ClientState, Leaves, Protocol}
use Rattle.turn_desk_step_laws.specs.TurnRuns.Steps.{Call as StepCall}
use Rattle.turn_client_proto_step_laws.specs.Recv.Waiting.{whole_frames}
use Rattle.turn_client_proto_step_laws.proofs.OneReading.{taken_same}
use Rattle.turn_client_proto_step_laws.specs.RunClient.{Client, numbers_between}
use Rattle.turn_client_proto_step_laws.proofs.Lists.{inside}
use Rattle.turn_desk_event.specs.declared.answer.Answer.{Answer}
use Rattle.turn_desk_event.specs.declared.answer.Answer.TheVariants as answer
use Rattle.turn_desk_event.specs.declared.event.ClientCall.{ClientCall}
use Rattle.turn_desk_event.specs.declared.event.ClientCall.TheVariants as call
use Rattle.turn_desk_event.specs.declared.event.Event.{Event}
use Rattle.turn_desk_event.specs.declared.event.Event.TheVariants.{Call, Draw, ToClient, ToDesk}
use Rattle.turn_desk_step_laws.specs.DeskRun.{DeskCall}
use Rattle.turn_desk_world.specs.Calls.{IsCallReported, IsTransmittedAs, IsFed}
use Rattle.turn_desk_world.specs.Model.{World}
use Rattle.turn_desk_world.specs.Runs.{IsAtClient, IsStep, is_in_range}
use Rattle.turn_desk_world_laws.specs.Safety.{words}
use Rattle.turn_desk_world_laws.specs.SocketCalls.{AreCallsBound, AreCallsOfJoining, AreCallsOver, AreProcessedOver, Processes, IsMessageOver, IsOne, IsPassedOn, IsStill, Passes, Stops, Waits, socket_at}
use Rattle.turn_desk_world_laws.specs.Reported.{AreBrought, AreCallsBy, AreCallsOfAsking, AreCallsOfBytes, AreCallsOfChunk, AreCallsOverTcp, AreStepsBy, AreStepsOfClient, AreTakenUp, ByEnd, ByNone, ByOthers, ByChunk, IsAt, IsCallOf, IsStoredAs, IsNoSocket, IsOneCall, IsReportedBy, OfStream, OverNone, OverSocket, raw_requested}
use Rattle.turn_desk_world_laws.proofs.Determined.{at_client_once, called_once, transmitted_once, fed_once}
use Rattle.turn_desk_world_laws.proofs.SocketOnce.{message_once}

following : (steps later : List (Step Client DeskCall)) → given_in words (later ++ steps) ≡ given_in words steps + given_in words later
following steps [] = omega arith
following steps (AtClient call ∷ later) = let rest = following steps later in omega (arith, rest)
following steps (AtDesk d ∷ later) = following steps later

-- The count of transaction IDs that these calls give.
abbrev given_by_calls : List (StepCall Client) → ℕ
given_by_calls calls = given_in words (steps_of calls)

calls_after : (later : List (StepCall Client)) (one : StepCall Client) → given_by_calls (later ++ one ∷ []) ≡ given_by_calls (one ∷ []) + given_by_calls later
calls_after [] one = omega arith
calls_after (call ∷ later) one = let rest = calls_after later one in omega (arith, rest)

calls_before : (one : StepCall Client) (earlier : List (StepCall Client)) → given_by_calls (one ∷ earlier) ≡ given_by_calls (one ∷ []) + given_by_calls earlier
calls_before one earlier = omega arith

-- Two calls that begin and end with the same cores give equally many.
one_given : (c d : StepCall Client) → c.before.core ≡ d.before.core → c.after.core ≡ d.after.core → numbers_between c.before.core.rng c.after.core.rng ≡ numbers_between d.before.core.rng d.after.core.rng
one_given c d before after = ap (λ (p : Protocol). numbers_between p.rng c.after.core.rng) before ∙ ap (λ (p : Protocol). numbers_between d.before.core.rng p.rng) after

-- ---- frames that are taken up

-- Two halves of one list.
same_halves : {X : Type 0} (xs ys us vs : List X) → length xs ≡ length ys → xs ++ us ≡ ys ++ vs → us ≡ vs
same_halves [] [] us vs long is = is
same_halves [] (y ∷ ys) us vs long is = absurd (Prim.cc long)
same_halves (x ∷ xs) [] us vs long is = absurd (Prim.cc long)
same_halves (x ∷ xs) (y ∷ ys) us vs long is = same_halves xs ys us vs (Prim.cc long) (Prim.cc is)

-- The frames that were handled came before those that are still buffered.
record StoodBefore (first last : Client) (count : ℕ) : Type 0 where
  taken : List (List ℕ)
  parts : first.waiting ≡ taken ++ last.waiting
  many : length taken ≡ count

stood_before : (now : ℕ) (ret : Answer) (first last : Client) (calls : List (StepCall Client)) → AreTakenUp now ret first calls last → StoodBefore first last (length calls)
stood_before now ret first last [] is = record { taken = []; parts = ap (λ (c : Client). c.waiting) (sym is.0); many = refl }
stood_before now ret first last (one ∷ earlier) (ends, up, others) =
    let rest = stood_before now answer.Nothing first one.before earlier others in
    record {
      taken = rest.taken ++ up.frame ∷ [];
      parts = rest.parts ∙ ap (λ (l : List (List ℕ)). rest.taken ++ l) (up.waited ∙ ap (λ (c : Client). up.frame ∷ c.waiting) (sym ends)) ∙ sym (append_assoc rest.taken (up.frame ∷ []) last.waiting);
      many = omega (arith, length-append rest.taken (up.frame ∷ []), rest.many);
    }

abbrev AreAlike : (calls others : List (StepCall Client)) (last last' : Client) → Type 0
AreAlike calls others last last' = (last.core ≡ last'.core) × (given_by_calls calls ≡ given_by_calls others)

-- Equally many calls that begin with the same frames are the same.
taken_alike : (now : ℕ) (ret again : Answer) (first first' last last' : Client) (calls others : List (StepCall Client)) → first.core ≡ first'.core → first.waiting ≡ first'.waiting → length calls ≡ length others
    → AreTakenUp now ret first calls last → AreTakenUp now again first' others last' → AreAlike calls others last last'
taken_alike now ret again first first' last last' [] [] cores waits long a b = (ap (λ (c : Client). c.core) a.0 ∙ cores ∙ sym (ap (λ (c : Client). c.core) b.0), refl)
taken_alike now ret again first first' last last' [] (d ∷ others) cores waits long a b = absurd (Prim.cc long)
taken_alike now ret again first first' last last' (c ∷ calls) [] cores waits long a b = absurd (Prim.cc long)
taken_alike now ret again first first' last last' (c ∷ calls) (d ∷ others) cores waits long (ends, up, earlier) (ends', up', earlier') =
    let as_long : length calls ≡ length others = Prim.cc long in
    let rest = taken_alike now answer.Nothing answer.Nothing first first' c.before d.before calls others cores waits as_long earlier earlier' in
    let one = stood_before now answer.Nothing first c.before calls earlier in
    let other = stood_before now answer.Nothing first' d.before others earlier' in
    let waited : c.before.waiting ≡ d.before.waiting = same_halves one.taken other.taken c.before.waiting d.before.waiting (one.many ∙ as_long ∙ sym other.many) (sym one.parts ∙ waits ∙ other.parts) in
    let frame : up.frame ≡ up'.frame = Prim.cc (sym up.waited ∙ waited ∙ up'.waited) in
    let takes : IsFrameTaken d.before.core up'.frame now up.taken c.after.core =
    subst (λ (f : List ℕ). IsFrameTaken d.before.core f now up.taken c.after.core) frame (subst (λ (p : Protocol). IsFrameTaken p up.frame now up.taken c.after.core) rest.0 up.is_taken) in
    let after : c.after.core ≡ d.after.core = (taken_same d.before.core up'.frame now up.taken up'.taken c.after.core d.after.core takes up'.is_taken).1 in
    let given = one_given c d rest.0 after in (
      ap (λ (x : Client). x.core) ends ∙ after ∙ sym (ap (λ (x : Client). x.core) ends'),
      omega (arith, rest.1, given),
    )

-- The frames that are buffered before and afterwards determine how many were handled.
as_many : (now : ℕ) (ret again : Answer) (first first' last last' : Client) (calls others : List (StepCall Client)) → first.waiting ≡ first'.waiting → last.waiting ≡ last'.waiting
    → AreTakenUp now ret first calls last → AreTakenUp now again first' others last' → length calls ≡ length others
as_many now ret again first first' last last' calls others waits left a b =
    let one = stood_before now ret first last calls a in
    let other = stood_before now again first' last' others b in
    let whole : length (one.taken ++ last.waiting) ≡ length (other.taken ++ last'.waiting) = ap length (sym one.parts ∙ waits ∙ other.parts) in
    omega (arith, whole, length-append one.taken last.waiting, length-append other.taken last'.waiting, ap length left, one.many, other.many)

-- ---- frames over the socket of a connection

module _ (here : SocketAddr) (now : ℕ) where
  -- How it begins: the connection is not to be bound; or no frame is complete; or the one at the head is no
  -- message; or it is handled.
  data IsStarted (stream : Stream) (first : Client) (calls : List (StepCall Client)) (left : Stream) (last : Client) : Type 0 where
    Stopped : is_joining here first.core ≡ false → calls ≡ [] → left ≡ stream → last ≡ first → IsStarted stream first calls left last
    Waited : is_joining here first.core ≡ true → IsNone (looked stream) → calls ≡ [] → left ≡ after_look stream → last ≡ first → IsStarted stream first calls left last
    Passed : (error : StunParseError) → is_joining here first.core ≡ true → ¬ IsNone (looked stream) → refusal (frame_of stream) ≡ Some error → AreProcessedOver here now (after_look stream) first calls left last → IsStarted stream first calls left last
    Processed : (call : StepCall Client) (later : List (StepCall Client)) → is_joining here first.core ≡ true → ¬ IsNone (looked stream) → call.before ≡ first → IsMessageOver here now (frame_of stream) call
        → AreProcessedOver here now (after_look stream) call.after later left last → calls ≡ later ++ call ∷ [] → IsStarted stream first calls left last

  started : (stream : Stream) (first : Client) (calls : List (StepCall Client)) (left : Stream) (last : Client) → AreProcessedOver here now stream first calls left last → IsStarted stream first calls left last
  started _ _ _ _ _ (Stops stream c not_so) = Stopped not_so refl refl refl
  started _ _ _ _ _ (Waits stream c joining none) = Waited joining none refl refl refl
  started _ _ _ _ _ (Passes stream c calls left last error joining some refused more) = Passed error joining some refused more
  started _ _ _ _ _ (Processes stream call later left last joining some over_it more) = Processed call later joining some refl over_it more refl

  abbrev Agree : (left left' : Stream) (last last' : Client) (calls others : List (StepCall Client)) → Type 0
  Agree left left' last last' calls others = (left ≡ left') × (last.core ≡ last'.core) × (given_by_calls calls ≡ given_by_calls others)

  -- Whether the connection is to be bound is the same for both.
  never_both : {A : Type 0} (first first' : Client) → first.core ≡ first'.core → is_joining here first.core ≡ true → is_joining here first'.core ≡ false → A
  never_both first first' cores joining not_so = absurd (Prim.cc (sym joining ∙ ap (is_joining here) cores ∙ not_so))

  module _ (stream : Stream) (first first' : Client) (others : List (StepCall Client)) (left' : Stream) (last' : Client) (cores : first.core ≡ first'.core) where
    stopped_alike : is_joining here first.core ≡ false → IsStarted stream first' others left' last' → Agree stream left' first last' [] others
    stopped_alike not_so (Stopped nor none left last) = (sym left, cores ∙ sym (ap (λ (x : Client). x.core) last), sym (ap given_by_calls none))
    stopped_alike not_so (Waited joining nothing none left last) = never_both first' first (sym cores) joining not_so
    stopped_alike not_so (Passed error joining some refused more) = never_both first' first (sym cores) joining not_so
    stopped_alike not_so (Processed call later joining some begins over_it more calls_are) = never_both first' first (sym cores) joining not_so

    waited_alike : is_joining here first.core ≡ true → IsNone (looked stream) → IsStarted stream first' others left' last' → Agree (after_look stream) left' first last' [] others
    waited_alike joining nothing (Stopped not_so none left last) = never_both first first' cores joining not_so
    waited_alike joining nothing (Waited joining_too nor none left last) = (sym left, cores ∙ sym (ap (λ (x : Client). x.core) last), sym (ap given_by_calls none))
    waited_alike joining nothing (Passed error joining_too some refused more) = absurd (some nothing)
    waited_alike joining nothing (Processed call later joining_too some begins over_it more calls_are) = absurd (some nothing)

    passed_alike : (calls : List (StepCall Client)) (left : Stream) (last : Client) (error : StunParseError) → is_joining here first.core ≡ true → ¬ IsNone (looked stream) → refusal (frame_of stream) ≡ Some error
        → (AreProcessedOver here now (after_look stream) first' others left' last' → Agree left left' last last' calls others) → IsStarted stream first' others left' last' → Agree left left' last last' calls others
    passed_alike calls left last error joining some refused after_it (Stopped not_so none left_is last_is) = never_both first first' cores joining not_so
    passed_alike calls left last error joining some refused after_it (Waited joining_too nothing none left_is last_is) = absurd (some nothing)
    passed_alike calls left last error joining some refused after_it (Passed another joining_too some_too refused_too more) = after_it more
    passed_alike calls left last error joining some refused after_it (Processed call later joining_too some_too begins over_it more calls_are) =
        absurd (let never : None ≡ Some error = sym over_it.message ∙ refused in let no : ⊥ = Prim.cc never in no)

  processed_on : (stream : Stream) (call : StepCall Client) (later : List (StepCall Client)) (left : Stream) (last : Client) (first' : Client) (others : List (StepCall Client)) (left' : Stream) (last' : Client) → call.before.core ≡ first'.core
      → is_joining here call.before.core ≡ true → ¬ IsNone (looked stream) → IsMessageOver here now (frame_of stream) call
      → ((d : Client) (more : List (StepCall Client)) → AreProcessedOver here now (after_look stream) d more left' last' → call.after.core ≡ d.core → Agree left left' last last' later more)
      → IsStarted stream first' others left' last' → Agree left left' last last' (later ++ call ∷ []) others
  processed_on stream call later left last first' others left' last' cores joining some over_it after_it (Stopped not_so none left_is last_is) = never_both call.before first' cores joining not_so
  processed_on stream call later left last first' others left' last' cores joining some over_it after_it (Waited joining_too nothing none left_is last_is) = absurd (some nothing)
  processed_on stream call later left last first' others left' last' cores joining some over_it after_it (Passed error joining_too some_too refused more) =
      absurd (let never : None ≡ Some error = sym over_it.message ∙ refused in let no : ⊥ = Prim.cc never in no)
  processed_on stream call later left last first' others left' last' cores joining some over_it after_it (Processed again more joining_too some_too begins over_too more_processed calls_are) =
      let before : call.before.core ≡ again.before.core = cores ∙ sym (ap (λ (x : Client). x.core) begins) in
      let processed : IsMessageProcessed here now again.before.core (frame_of stream) call.after.core = subst (λ (p : Protocol). IsMessageProcessed here now p (frame_of stream) call.after.core) before over_it.processed in
      let after : call.after.core ≡ again.after.core = message_once here now again.before.core (frame_of stream) call.after.core again.after.core processed over_too.processed in
      let rest = after_it again.after more more_processed after in
      let given = one_given call again before after in
      let one = calls_after later call in
      let other : given_by_calls others ≡ given_by_calls (again ∷ []) + given_by_calls more = ap given_by_calls calls_are ∙ calls_after more again in
      (rest.0, rest.1, omega (arith, one, other, rest.2, given))

-- Calls that begin with the same stream and core are the same.
processed_alike : (here : SocketAddr) (now : ℕ) (stream : Stream) (first first' : Client) (calls others : List (StepCall Client)) (left left' : Stream) (last last' : Client) → AreProcessedOver here now stream first calls left last
    → AreProcessedOver here now stream first' others left' last' → first.core ≡ first'.core → (left ≡ left') × (last.core ≡ last'.core) × (given_by_calls calls ≡ given_by_calls others)
processed_alike here now _ _ first' _ others _ left' _ last' (Stops stream c not_so) b cores = stopped_alike here now stream c first' others left' last' cores not_so (started here now stream first' others left' last' b)
processed_alike here now _ _ first' _ others _ left' _ last' (Waits stream c joining none) b cores = waited_alike here now stream c first' others left' last' cores joining none (started here now stream first' others left' last' b)
processed_alike here now _ _ first' _ others _ left' _ last' (Passes stream c calls left last error joining some refused more) b cores =
    passed_alike here now stream c first' others left' last' cores calls left last error joining some refused
    (λ more_too. processed_alike here now (after_look stream) c first' calls others left left' last last' more more_too cores) (started here now stream first' others left' last' b)
processed_alike here now _ _ first' _ others _ left' _ last' (Processes stream call later left last joining some over_it more) b cores =
    processed_on here now stream call later left last first' others left' last' cores joining some over_it
    (λ d again more_too after. processed_alike here now (after_look stream) call.after d later again left left' last last' more more_too after) (started here now stream first' others left' last' b)

-- Bytes on a connection's socket are not on no socket.
some_socket : (p : Protocol) (from to : SocketAddr) (now : ℕ) (k : Connection) → is_in_range now ≡ true → socket_at p from to ≡ Some k → IsNoSocket p from to now → ⊥
some_socket p from to now k inside_it at none = elim none [
  | inl out ↦ Prim.cc (sym inside_it ∙ out)
  | inr nothing ↦ (let never : Some k ≡ None = sym at ∙ nothing in let no : ⊥ = Prim.cc never in no)
]

-- ---- what a chunk brings

open_same : (k : ClientState) (s t : Stream) → k.control ≡ Open s → k.control ≡ Open t → s ≡ t
open_same k s t one other = let same : Open s ≡ Open t = sym one ∙ other in Prim.cc same

not_closed : {A : Type 0} (k : ClientState) (s : Stream) → k.control ≡ Open s → k.control ≡ Closed → A
not_closed k s one other = absurd (let never : Open s ≡ Closed = sym one ∙ other in let no : ⊥ = Prim.cc never in no)

brought_alike : (k : ClientState) (bytes : List ℕ) (from to : SocketAddr) (now : ℕ) (came came' waiting waiting' : List (List ℕ)) → AreBrought k bytes from to now came waiting → AreBrought k bytes from to now came' waiting' → waiting ≡ waiting'
brought_alike k bytes from to now came came' waiting waiting' (ByChunk s at of some comes waits) (ByChunk t at' of' some' comes' waits') =
    waits ∙ ap (λ (u : Stream). whole_frames (joined u bytes)) (open_same k s t at at') ∙ sym waits'
brought_alike k bytes from to now came came' waiting waiting' (ByChunk s at of some comes waits) (ByEnd t at' of' none comes' waits') = absurd (some none)
brought_alike k bytes from to now came came' waiting waiting' (ByChunk s at of some comes waits) (ByOthers t at' others comes' waits') = absurd (others of)
brought_alike k bytes from to now came came' waiting waiting' (ByChunk s at of some comes waits) (ByNone at' comes' waits') = not_closed k s at at'
brought_alike k bytes from to now came came' waiting waiting' (ByEnd s at of none comes waits) (ByChunk t at' of' some comes' waits') = absurd (some none)
brought_alike k bytes from to now came came' waiting waiting' (ByEnd s at of none comes waits) (ByEnd t at' of' none' comes' waits') = waits ∙ sym waits'
brought_alike k bytes from to now came came' waiting waiting' (ByEnd s at of none comes waits) (ByOthers t at' others comes' waits') = absurd (others of)
brought_alike k bytes from to now came came' waiting waiting' (ByEnd s at of none comes waits) (ByNone at' comes' waits') = waits ∙ sym waits'
brought_alike k bytes from to now came came' waiting waiting' (ByOthers s at others comes waits) (ByChunk t at' of some comes' waits') = absurd (others of)
brought_alike k bytes from to now came came' waiting waiting' (ByOthers s at others comes waits) (ByEnd t at' of none comes' waits') = absurd (others of)
brought_alike k bytes from to now came came' waiting waiting' (ByOthers s at others comes waits) (ByOthers t at' others' comes' waits') = waits ∙ ap whole_frames (open_same k s t at at') ∙ sym waits'
brought_alike k bytes from to now came came' waiting waiting' (ByOthers s at others comes waits) (ByNone at' comes' waits') = not_closed k s at at'
brought_alike k bytes from to now came came' waiting waiting' (ByNone at comes waits) (ByChunk t at' of some comes' waits') = not_closed k t at' at
brought_alike k bytes from to now came came' waiting waiting' (ByNone at comes waits) (ByEnd t at' of none comes' waits') = waits ∙ sym waits'
brought_alike k bytes from to now came came' waiting waiting' (ByNone at comes waits) (ByOthers t at' others comes' waits') = not_closed k t at' at
brought_alike k bytes from to now came came' waiting waiting' (ByNone at comes waits) (ByNone at' comes' waits') = waits ∙ sym waits'

-- ---- the calls by one event

-- From clients with the same core and frames to clients with the same core and frames.
module _ (stored : ClientState) (ret : Answer) (first first' last last' : Client) (calls others : List (StepCall Client)) (cores : first.core ≡ first'.core) (waits : first.waiting ≡ first'.waiting) (left : last.core ≡ last'.core) (stay : last.waiting ≡ last'.waiting) where
  abbrev Alike : Type 0
  Alike = given_by_calls calls ≡ given_by_calls others

  -- One call.
  single_alike : (Is : StepCall Client → Type 0) → IsOne Is first calls last → IsOne Is first' others last' → Alike
  single_alike Is (c, calls_are, begins, ends, is) (d, others_are, begins', ends', is') =
      let before : c.before.core ≡ d.before.core = ap (λ (x : Client). x.core) begins ∙ cores ∙ sym (ap (λ (x : Client). x.core) begins') in
      let after : c.after.core ≡ d.after.core = sym (ap (λ (x : Client). x.core) ends) ∙ left ∙ ap (λ (x : Client). x.core) ends' in
      ap given_by_calls calls_are ∙ ap (λ n. 0 + n) (one_given c d before after) ∙ sym (ap given_by_calls others_are)

  one_alike : (event : Event) → IsOneCall event ret first calls last → IsOneCall event ret first' others last' → Alike
  one_alike event a b = single_alike (IsCallOf event ret) a b

  frames_alike : (now : ℕ) → AreTakenUp now ret first calls last → AreTakenUp now ret first' others last' → Alike
  frames_alike now a b = (taken_alike now ret ret first first' last last' calls others cores waits (as_many now ret ret first first' last last' calls others waits stay a b) a b).1

  chunk_alike : (bytes : List ℕ) (from to : SocketAddr) (now : ℕ) → AreCallsOfChunk stored bytes from to now ret first calls last → AreCallsOfChunk stored bytes from to now ret first' others last' → Alike
  chunk_alike bytes from to now a b =
      let waiting : a.waiting ≡ b.waiting = brought_alike stored bytes from to now a.came b.came a.waiting b.waiting a.brought b.brought in
      let before : a.coming.before.core ≡ b.coming.before.core = ap (λ (x : Client). x.core) a.begins ∙ cores ∙ sym (ap (λ (x : Client). x.core) b.begins) in
      let after : a.coming.after.core ≡ b.coming.after.core = a.comes.core_is ∙ before ∙ sym b.comes.core_is in
      let then_wait : a.coming.after.waiting ≡ b.coming.after.waiting = a.comes.waits ∙ waiting ∙ sym b.comes.waits in
      let many = as_many now ret ret a.coming.after b.coming.after last last' a.taking b.taking then_wait stay a.taken b.taken in
      let rest = taken_alike now ret ret a.coming.after b.coming.after last last' a.taking b.taking after then_wait many a.taken b.taken in
      let given = one_given a.coming b.coming before after in
      let one : given_by_calls calls ≡ given_by_calls (a.coming ∷ []) + given_by_calls a.taking = ap given_by_calls a.calls_are ∙ calls_after a.taking a.coming in
      let other : given_by_calls others ≡ given_by_calls (b.coming ∷ []) + given_by_calls b.taking = ap given_by_calls b.calls_are ∙ calls_after b.taking b.coming in
      omega (arith, one, other, rest.1, given)

  -- A chunk on the socket of a connection that is to be bound.
  joining_alike : (k : Connection) (to : SocketAddr) (now : ℕ) (bytes : List ℕ) → AreCallsOfJoining k to now bytes first calls last → AreCallsOfJoining k to now bytes first' others last' → Alike
  joining_alike k to now bytes a b =
      let before : a.out.before.core ≡ b.out.before.core = ap (λ (x : Client). x.core) a.begins ∙ cores ∙ sym (ap (λ (x : Client). x.core) b.begins) in
      let taken_out : a.out.after.core ≡ b.out.after.core = a.taken_out.core_is ∙ ap (λ (p : Protocol). with_stored to (alive []) p) cores ∙ sym b.taken_out.core_is in
      let rest = processed_alike to now (joined k.stream bytes) a.out.after b.out.after a.processed b.processed a.left b.left a.middle b.middle a.are_processed b.are_processed taken_out in
      let continues : a.back.before.core ≡ b.back.before.core = ap (λ (x : Client). x.core) a.continues ∙ rest.1 ∙ sym (ap (λ (x : Client). x.core) b.continues) in
      let put_back : a.back.after.core ≡ b.back.after.core = sym (ap (λ (x : Client). x.core) a.ends) ∙ left ∙ ap (λ (x : Client). x.core) b.ends in
      let first_given = one_given a.out b.out before taken_out in
      let last_given = one_given a.back b.back continues put_back in
      let one : given_by_calls calls ≡ given_by_calls (a.back ∷ []) + (given_by_calls (a.out ∷ []) + given_by_calls a.processed) = ap given_by_calls a.calls_are ∙ calls_before a.back (a.processed ++ a.out ∷ []) ∙ ap (λ n. given_by_calls (a.back ∷ []) + n) (calls_after a.processed a.out) in
      let other : given_by_calls others ≡ given_by_calls (b.back ∷ []) + (given_by_calls (b.out ∷ []) + given_by_calls b.processed) = ap given_by_calls b.calls_are ∙ calls_before b.back (b.processed ++ b.out ∷ []) ∙ ap (λ n. given_by_calls (b.back ∷ []) + n) (calls_after b.processed b.out) in
      omega (arith, one, other, rest.2, first_given, last_given)

  bound_alike : (awaited : Option Binding) (k : Connection) (to : SocketAddr) (now : ℕ) (bytes : List ℕ) → AreCallsBound awaited k to now bytes ret stored.core first calls last → AreCallsBound awaited k to now bytes ret stored.core first' others last' → Alike
  bound_alike (Some binding) k to now bytes a b = joining_alike k to now bytes a.1 b.1
  bound_alike None k to now bytes a b = single_alike (IsPassedOn k (record (raw_given k bytes) { index = None }) (after_raw to k stored.core) ret) a b

  over_alike : (k : Connection) (to : SocketAddr) (now : ℕ) (bytes : List ℕ) → AreCallsOver k to now bytes ret stored.core first calls last → AreCallsOver k to now bytes ret stored.core first' others last' → Alike
  over_alike k to now [] a b = single_alike (IsStill (after_close to stored.core.server stored.core)) a.1 b.1
  over_alike k to now (byte ∷ bytes) a b = bound_alike k.awaited k to now (byte ∷ bytes) a b

  tcp_alike : (bytes : List ℕ) (from to : SocketAddr) (now : ℕ) → AreCallsOverTcp stored bytes from to now ret first calls last → AreCallsOverTcp stored bytes from to now ret first' others last' → Alike
  tcp_alike bytes from to now (OfStream is a) (OfStream too b) = chunk_alike bytes from to now a b
  tcp_alike bytes from to now (OfStream is a) (OverSocket none inside_it k at b) = absurd (none is)
  tcp_alike bytes from to now (OfStream is a) (OverNone none no_socket b) = absurd (none is)
  tcp_alike bytes from to now (OverSocket none inside_it k at a) (OfStream is b) = absurd (none is)
  tcp_alike bytes from to now (OverSocket none inside_it k at a) (OverSocket nor inside_too k' at' b) =
      let same : k' ≡ k = inside (sym at' ∙ at) in
      over_alike k to now bytes a (subst (λ (x : Connection). AreCallsOver x to now bytes ret stored.core first' others last') same b)
  tcp_alike bytes from to now (OverSocket none inside_it k at a) (OverNone nor no_socket b) = absurd (some_socket stored.core from to now k inside_it at no_socket)
  tcp_alike bytes from to now (OverNone none no_socket a) (OfStream is b) = absurd (none is)
  tcp_alike bytes from to now (OverNone none no_socket a) (OverSocket nor inside_it k at b) = absurd (some_socket stored.core from to now k inside_it at no_socket)
  tcp_alike bytes from to now (OverNone none no_socket a) (OverNone nor no_socket_too b) = chunk_alike bytes from to now a b

  bytes_alike : (control : Control) (bytes : Vec ℕ Global) (from to : SocketAddr) (now : ℕ) → AreCallsOfBytes control stored bytes from to now ret first calls last → AreCallsOfBytes control stored bytes from to now ret first' others last' → Alike
  bytes_alike Datagrams bytes from to now a b = one_alike (ToClient bytes from to now) a b
  bytes_alike (Open stream) bytes from to now a b = tcp_alike bytes.items from to now a b
  bytes_alike Closed bytes from to now a b = tcp_alike bytes.items from to now a b

  -- The client is polled for what is buffered.
  asking_alike : (raw : Option Connection) (now : ℕ) → AreCallsOfAsking raw now stored ret first calls last → AreCallsOfAsking raw now stored ret first' others last' → Alike
  asking_alike (Some k) now a b = single_alike (IsPassedOn k (raw_stored k) (record stored.core { allocations = emptied stored.core.allocations }) ret) a b
  asking_alike None now a b = frames_alike now a b

  call_alike : (what : ClientCall) (now : ℕ) → AreCallsBy (Call what now) stored ret first calls last → AreCallsBy (Call what now) stored ret first' others last' → Alike
  call_alike call.PollRecv now a b = asking_alike (raw_requested now stored) now a b
  call_alike call.Poll now a b = one_alike (Call call.Poll now) a b
  call_alike call.PollEvent now a b = one_alike (Call call.PollEvent now) a b
  call_alike call.Delete now a b = one_alike (Call call.Delete now) a b
  call_alike (call.CreatePermission transport ip) now a b = one_alike (Call (call.CreatePermission transport ip) now) a b
  call_alike (call.CreatePermissions transport ips) now a b = one_alike (Call (call.CreatePermissions transport ips) now) a b
  call_alike (call.HavePermission transport ip) now a b = one_alike (Call (call.HavePermission transport ip) now) a b
  call_alike (call.Permissions transport relayed) now a b = one_alike (Call (call.Permissions transport relayed) now) a b
  call_alike (call.BindChannel transport peer) now a b = one_alike (Call (call.BindChannel transport peer) now) a b
  call_alike (call.TcpConnect peer) now a b = one_alike (Call (call.TcpConnect peer) now) a b
  call_alike (call.AllocatedTcpSocket id peer here) now a b = one_alike (Call (call.AllocatedTcpSocket id peer here) now) a b
  call_alike (call.TcpClosed here there) now a b = one_alike (Call (call.TcpClosed here there) now) a b
  call_alike call.Connections now a b = one_alike (Call call.Connections now) a b
  call_alike call.Channels now a b = one_alike (Call call.Channels now) a b
  call_alike (call.SendTo transport to bytes) now a b = one_alike (Call (call.SendTo transport to bytes) now) a b
  call_alike call.ProtocolError now a b = one_alike (Call call.ProtocolError now) a b
  call_alike call.RelayedAddresses now a b = one_alike (Call call.RelayedAddresses now) a b

-- ---- one event

stored_alike : (k l : ClientState) (c d : Client) → k ≡ l → IsStoredAs c k → IsStoredAs d l → (c.core ≡ d.core) × (c.waiting ≡ d.waiting)
stored_alike k l c d same one other =
    let here = subst (λ (x : ClientState). IsStoredAs c x) same one in
    (sym here.core ∙ other.core, sym here.waits ∙ other.waits)

at_alike : (o p : Option ClientState) (c d : Client) → o ≡ p → IsAt o c → IsAt p d → (c.core ≡ d.core) × (c.waiting ≡ d.waiting)
at_alike None p c d same one other = absurd one
at_alike (Some k) None c d same one other = absurd other
at_alike (Some k) (Some l) c d same one other = stored_alike k l c d (inside same) one other

-- The steps of one event with one result, from simulations with the same client, give equally many
-- transaction IDs.
module _ (old old' next next' : World) (same : old.client ≡ old'.client) where
  abbrev Both : (steps others : List (Step Client DeskCall)) → Type 0
  Both steps others = (next.client ≡ next'.client) × (given_in words steps ≡ given_in words others)

  by_calls : (event : Event) (ret : Answer) (steps others : List (Step Client DeskCall)) → next.client ≡ next'.client
      → ((stored : ClientState) (first first' last last' : Client) (calls again : List (StepCall Client)) → first.core ≡ first'.core → first.waiting ≡ first'.waiting → last.core ≡ last'.core → last.waiting ≡ last'.waiting
      → AreCallsBy event stored ret first calls last → AreCallsBy event stored ret first' again last' → given_by_calls calls ≡ given_by_calls again)
      → AreStepsOfClient event ret old.client next.client steps → AreStepsOfClient event ret old'.client next'.client others → Both steps others
  by_calls event ret steps others left alike_by a b =
      let stored : a.stored ≡ b.stored = inside (sym a.stored_is ∙ same ∙ b.stored_is) in
      let here = stored_alike a.stored b.stored a.first b.first stored a.before b.before in
      let then_at = at_alike next.client next'.client a.last b.last left a.after b.after in
      let are : AreCallsBy event b.stored ret a.first a.calls a.last = subst (λ (k : ClientState). AreCallsBy event k ret a.first a.calls a.last) stored a.are in
      (left, ap (given_in words) a.steps_are ∙ alike_by b.stored a.first b.first a.last b.last a.calls b.calls here.0 here.1 then_at.0 then_at.1 are b.are ∙ sym (ap (given_in words) b.steps_are))

  from_one : (now : ℕ) (Does : ClientState → ClientState → Type 0) (ret : Answer) → IsAtClient now Does old'.client ret next'.client → IsAtClient now Does old.client ret next'.client
  from_one now Does ret is = subst (λ (o : Option ClientState). IsAtClient now Does o ret next'.client) (sym same) is

  alike : (event : Event) (ret : Answer) (steps others : List (Step Client DeskCall)) → IsStep event old ret next → IsStep event old' ret next' → AreStepsBy event ret old steps next → AreStepsBy event ret old' others next' → Both steps others
  alike (Call what now) ret steps others a b x y =
      by_calls (Call what now) ret steps others
      (at_client_once now (λ r p q. IsCallReported what r p now q) (λ p v w q r. called_once what p now v w q r) old.client ret ret next.client next'.client a.0
      (from_one now (λ p q. IsCallReported what ret p now q) ret b.0)).1
      (λ stored first first' last last' calls again cores waits left stay one other. call_alike stored ret first first' last last' calls again cores waits left stay what now one other) x y
  alike (Draw now) ret steps others a b x y =
      by_calls (Draw now) ret steps others
      (at_client_once now (λ r p q. Leaves (λ v w. IsTransmittedAs r v now w) p q) (λ p v w q r. transmitted_once p now v w q r) old.client ret ret next.client next'.client a.0
      (from_one now (Leaves (λ v w. IsTransmittedAs ret v now w)) ret b.0)).1
      (λ stored first first' last last' calls again cores waits left stay one other. one_alike stored ret first first' last last' calls again cores waits left stay (Draw now) one other) x y
  alike (ToClient bytes from to now) ret steps others a b x y =
      by_calls (ToClient bytes from to now) ret steps others
      (at_client_once now (λ r p q. IsFed r p bytes.items from to now q) (λ p v w q r. fed_once p bytes.items from to now v w q r) old.client ret ret next.client next'.client a.0
      (from_one now (λ p q. IsFed ret p bytes.items from to now q) ret b.0)).1
      (λ stored first first' last last' calls again cores waits left stay one other. bytes_alike stored ret first first' last last' calls again cores waits left stay stored.control bytes from to now one other) x y
  alike (ToDesk bytes from now decision seed) ret steps others a b x y = (
    ap (λ (w : World). w.client) a.1 ∙ same ∙ sym (ap (λ (w : World). w.client) b.1),
    ap (given_in words) x ∙ sym (ap (given_in words) y),
  )

given_alike : (pairs : List (Event × Answer)) (old old' new new' : World) (run run' : List (Step Client DeskCall)) → old.client ≡ old'.client → IsReportedBy old pairs run new → IsReportedBy old' pairs run' new' → given_in words run ≡ given_in words run'
unfolding IsReportedBy
given_alike [] old old' new new' run run' same a b = ap (given_in words) a.0 ∙ sym (ap (given_in words) b.0)
given_alike (pair ∷ pairs) old old' new new' run run' same a b =
    let here = alike old old' a.0 b.0 same pair.0 pair.1 a.1 b.1 a.4 b.4 a.5 b.5 in
    let rest = given_alike pairs a.0 b.0 new new' a.2 b.2 here.0 a.6 b.6 in
    let one : given_in words run ≡ given_in words a.1 + given_in words a.2 = ap (given_in words) a.3 ∙ following a.1 a.2 in
    let other : given_in words run' ≡ given_in words b.1 + given_in words b.2 = ap (given_in words) b.3 ∙ following b.1 b.2 in
    omega (arith, here.1, rest, one, other)

pub count_alike : (first : Client) (pairs : List (Event × Answer)) (old new : World) (run run' : List (Step Client DeskCall)) (last last' : Client) → IsReportedBy old pairs run new → IsReportedBy old pairs run' new
    → last.transmitted ≡ first.transmitted + given_in words run → last'.transmitted ≡ first.transmitted + given_in words run' → last.transmitted ≡ last'.transmitted
count_alike first pairs old new run run' last last' reported reported' counted counted' = let same = given_alike pairs old old new new run run' refl reported reported' in omega (arith, same, counted, counted')
