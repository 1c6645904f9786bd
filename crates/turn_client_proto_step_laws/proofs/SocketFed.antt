-- Frames that come over the socket of a connection are handled in one way, wherever the bytes are cut.
use Rattle.std.proofs.Common.{◌≡◌, ◌≢◌, ℕ, Bool, true, false, List, [], Option, Some, None, refl, sym, ap, ◌∙◌, subst, inl, inr}
use Rattle.std.specs.Bool.{MatchBool}
use Rattle.std.specs.Prelude.{MatchOption}
use Rattle.std.specs.declared.net.socket_addr.SocketAddr.{SocketAddr}
use Rattle.turn_client_proto_timers.specs.StunTypesWire.Grammar.{refusal}
use Rattle.turn_client_proto_timers.specs.StunTypesWire.declared.error.StunParseError.{StunParseError}
use Rattle.turn_client_proto_recv.specs.TurnTypesFrame.declared.head.FrameHead.{FrameHead}
use Rattle.turn_client_proto_recv.specs.TurnTypesFrame.declared.head.FrameHead.TheVariants.{Invalid}
use Rattle.turn_client_proto_recv.specs.TurnTypesFrame.StreamAnswers.{IsNone, looked, after_look, joined}
use Rattle.turn_client_proto_recv.specs.TurnTypesFrame.Streams.{Stream, alive, dead_stream, left_by}
use Rattle.turn_client_proto_timers.specs.Allocation.declared.connection.Connection.{Connection}
use Rattle.turn_client_proto_timers.specs.Connection.Streams.{first_raw, from}
use Rattle.turn_client_proto_timers.specs.Core.Receiving.{IsProcessed}
use Rattle.turn_client_proto_timers.specs.Core.declared.protocol.Protocol.{Protocol}
use Rattle.turn_client_proto_recv.specs.Processing.{IsProcessedAt}
use Rattle.turn_client_proto_timers.specs.Allocation.Same.{is_same_address}
use Rattle.turn_client_proto_recv.specs.Pulls.{frame_of}
use Rattle.turn_client_proto_recv.specs.SocketChunks.{Processes, IsFed, IsFrameProcessed, IsMessageProcessed, Stops, Waits, is_joining}
use Rattle.turn_client_proto_step_laws.proofs.AnsweredSockets.{answered_keeps, answered_none}
use Rattle.turn_client_proto_step_laws.proofs.Once.Answers.{processed_single}
use Rattle.turn_client_proto_step_laws.proofs.Once.Processing.{processed_definite}
use Rattle.turn_client_proto_step_laws.proofs.SameSockets.{same_address}
use Rattle.turn_client_proto_step_laws.proofs.Longer.{longer, still}
use Rattle.turn_client_proto_recv.proofs.Loops.{alive_of}
use Rattle.turn_client_proto_step_laws.proofs.SameHere.{processed_here}
use Rattle.turn_client_proto_recv.proofs.Steps.{step_of}

-- After a complete frame the rest of the stream is valid.
left_alive : (s : Stream) → ¬ IsNone (looked s) → after_look s ≡ alive (after_look s).stored
left_alive s some =
    let lives = alive_of s some in
    subst (λ (x : Stream). after_look x ≡ alive (after_look x).stored) (sym lives) (step_of s.stored (subst (λ (x : Stream). ¬ IsNone (looked x)) lives some)).lives

invalid_left : (s : Stream) → looked s ≡ Invalid → after_look s ≡ dead_stream
invalid_left s is = ap (λ (f : FrameHead). left_by f s.stored) is

-- A client with another own address that buffers no bytes of a peer, and nothing of the connection.
pub record IsCalm (here : SocketAddr) (p : Protocol) : Type 0 where
  pub apart : here ≢ p.agent.here
  pub none_raw : first_raw p.allocations ≡ None
  pub nothing : (k : Connection) → from here p.allocations ≡ Some k → k.stream ≡ alive []

module _ (here : SocketAddr) (now : ℕ) where
  -- ---- one frame

  module _ (old : Protocol) (frame : List ℕ) (one other : Protocol) where
    message_same : (b : Bool) → MatchBool b ((handled : Bool) × IsProcessed old frame now handled one) (IsProcessedAt here old frame now one)
        → MatchBool b ((handled : Bool) × IsProcessed old frame now handled other) (IsProcessedAt here old frame now other) → one ≡ other
    message_same true a b = ((processed_definite old frame now).same a.0 b.0 one other a.1 b.1).1
    message_same false a b = (processed_single here frame now old).same one other a b

    refused_same : (o : Option StunParseError) → MatchOption o (IsMessageProcessed here now old frame one) (λ error. one ≡ old) → MatchOption o (IsMessageProcessed here now old frame other) (λ error. other ≡ old) → one ≡ other
    refused_same None a b = message_same (is_same_address here old.agent.here) a b
    refused_same (Some error) a b = a ∙ sym b

    frame_same : IsFrameProcessed here now old frame one → IsFrameProcessed here now old frame other → one ≡ other
    frame_same a b = refused_same (refusal frame) a.1 b.1

  module _ (old : Protocol) (frame : List ℕ) (new : Protocol) (calm : IsCalm here old) where
    same_calm : new ≡ old → IsCalm here new
    same_calm is = subst (IsCalm here) (sym is) calm

    answer_calm : IsProcessedAt here old frame now new → IsCalm here new
    answer_calm is = record {
      apart = λ e. calm.apart (e ∙ processed_here here frame now new old is);
      none_raw = answered_none old new here frame now is (λ k found. ap (λ (s : Stream). s.stored) (calm.nothing k found)) calm.none_raw;
      nothing = λ k found.
          let keeps = answered_keeps old new here here frame now k is found in
          keeps.same ∙ calm.nothing keeps.before keeps.was;
    }

    message_calm : (b : Bool) → is_same_address here old.agent.here ≡ b → MatchBool b ((handled : Bool) × IsProcessed old frame now handled new) (IsProcessedAt here old frame now new) → IsCalm here new
    message_calm true same is = absurd (calm.apart (same_address here old.agent.here same))
    message_calm false same is = answer_calm is

    refused_calm : (o : Option StunParseError) → MatchOption o (IsMessageProcessed here now old frame new) (λ error. new ≡ old) → IsCalm here new
    refused_calm None is = message_calm (is_same_address here old.agent.here) refl is
    refused_calm (Some error) is = same_calm is

    frame_calm : IsFrameProcessed here now old frame new → IsCalm here new
    frame_calm is = refused_calm (refusal frame) is.1

  -- ---- frames

  stops_so : (s : Stream) (state : Protocol) (left : Stream) (after : Protocol) → IsFed here now s state left after → is_joining here state ≡ false → (left ≡ s) × (after ≡ state)
  stops_so _ _ _ _ (Stops s state stops) is = (refl, refl)
  stops_so _ _ _ _ (Waits s state joins none) is = absurd (Prim.cc (sym joins ∙ is))
  stops_so _ _ _ _ (Processes s state middle left after joins some processed more) is = absurd (Prim.cc (sym joins ∙ is))

  waits_so : (s : Stream) (state : Protocol) (left : Stream) (after : Protocol) → IsFed here now s state left after → is_joining here state ≡ true → IsNone (looked s) → (left ≡ after_look s) × (after ≡ state)
  waits_so _ _ _ _ (Stops s state stops) is nothing = absurd (Prim.cc (sym is ∙ stops))
  waits_so _ _ _ _ (Waits s state joins none) is nothing = (refl, refl)
  waits_so _ _ _ _ (Processes s state middle left after joins some processed more) is nothing = absurd (some nothing)

  processes_so : (s : Stream) (state : Protocol) (left : Stream) (after : Protocol) → IsFed here now s state left after → is_joining here state ≡ true → ¬ IsNone (looked s)
      → (middle : Protocol) × IsFrameProcessed here now state (frame_of s) middle × IsFed here now (after_look s) middle left after
  processes_so _ _ _ _ (Stops s state stops) is one = absurd (Prim.cc (sym is ∙ stops))
  processes_so _ _ _ _ (Waits s state joins none) is one = absurd (one none)
  processes_so _ _ _ _ (Processes s state middle left after joins some processed more) is one = (middle, processed, more)

  -- Both have the same outcome.
  pub fed_same : (s : Stream) (state : Protocol) (left : Stream) (after : Protocol) → IsFed here now s state left after → (rest : Stream) (other : Protocol) → IsFed here now s state rest other → (left ≡ rest) × (after ≡ other)
  fed_same _ _ _ _ (Stops s state stops) rest other again = let is = stops_so s state rest other again stops in (sym is.0, sym is.1)
  fed_same _ _ _ _ (Waits s state joins none) rest other again = let is = waits_so s state rest other again joins none in (sym is.0, sym is.1)
  fed_same _ _ _ _ (Processes s state middle left after joins some processed more) rest other again =
      let is = processes_so s state rest other again joins some in
      let same : is.0 ≡ middle = frame_same state (frame_of s) is.0 middle is.1 processed in
      fed_same (after_look s) middle left after more rest other (subst (λ (p : Protocol). IsFed here now (after_look s) p rest other) same is.2)

  pub fed_calm : (s : Stream) (state : Protocol) (left : Stream) (after : Protocol) → IsFed here now s state left after → IsCalm here state → IsCalm here after
  fed_calm _ _ _ _ (Stops s state stops) calm = calm
  fed_calm _ _ _ _ (Waits s state joins none) calm = calm
  fed_calm _ _ _ _ (Processes s state middle left after joins some processed more) calm =
      fed_calm (after_look s) middle left after more (frame_calm state (frame_of s) middle calm processed)

  fed_alive : (s : Stream) (state : Protocol) (left : Stream) (after : Protocol) → IsFed here now s state left after → s ≡ alive s.stored → is_joining here after ≡ false → left ≡ alive left.stored
  fed_alive _ _ _ _ (Stops s state stops) lives bound = lives
  fed_alive _ _ _ _ (Waits s state joins none) lives bound = absurd (Prim.cc (sym joins ∙ bound))
  fed_alive _ _ _ _ (Processes s state middle left after joins some processed more) lives bound = fed_alive (after_look s) middle left after more (left_alive s some) bound

  -- If one of them bound the connection, the rest of the stream is valid.
  pub bound_alive : (s : Stream) (state : Protocol) (left : Stream) (after : Protocol) → IsFed here now s state left after → is_joining here state ≡ true → is_joining here after ≡ false → left ≡ alive left.stored
  bound_alive _ _ _ _ (Stops s state stops) started bound = absurd (Prim.cc (sym started ∙ stops))
  bound_alive _ _ _ _ (Waits s state joins none) started bound = absurd (Prim.cc (sym joins ∙ bound))
  bound_alive _ _ _ _ (Processes s state middle left after joins some processed more) started bound = fed_alive (after_look s) middle left after more (left_alive s some) bound

  -- It does not matter whether more bytes come before or after these were handled.
  waited : (s : Stream) (state : Protocol) (more : List ℕ) (last : Stream) (end : Protocol) → is_joining here state ≡ true → IsNone (looked s) → IsFed here now (joined (after_look s) more) state last end → IsFed here now (joined s more) state last end
  waited s state more last end joins none fed =
      elim (still s more none) [
        | inl same ↦ subst (λ (x : Stream). IsFed here now (joined x more) state last end) same fed
        | inr invalid ↦ by invalid.0 invalid.1
      ]
    where
      by : looked (joined s more) ≡ Invalid → looked (joined (after_look s) more) ≡ Invalid → IsFed here now (joined s more) state last end
      by invalid again =
          let is = waits_so (joined (after_look s) more) state last end fed joins (subst IsNone (sym again) tt) in
          let end_is : last ≡ after_look (joined s more) = is.0 ∙ invalid_left (joined (after_look s) more) again ∙ sym (invalid_left (joined s more) invalid) in
          subst (λ (x : Stream). IsFed here now (joined s more) state x end) (sym end_is)
          (subst (λ (p : Protocol). IsFed here now (joined s more) state (after_look (joined s more)) p) (sym is.1)
          (Waits (joined s more) state joins (subst IsNone (sym invalid) tt)))

  pub fed_more : (s : Stream) (state : Protocol) (left : Stream) (after : Protocol) → IsFed here now s state left after → (more : List ℕ) (last : Stream) (end : Protocol) → IsFed here now (joined left more) after last end
      → IsFed here now (joined s more) state last end
  fed_more _ _ _ _ (Stops s state stops) more last end following = following
  fed_more _ _ _ _ (Waits s state joins none) more last end following = waited s state more last end joins none following
  fed_more _ _ _ _ (Processes s state middle left after joins some processed rest) more last end following =
      let long = longer s more some in
      Processes (joined s more) state middle last end joins (subst (λ (f : FrameHead). ¬ IsNone f) (sym long.look) some)
      (subst (λ (f : List ℕ). IsFrameProcessed here now state f middle) (sym long.frame) processed)
      (subst (λ (x : Stream). IsFed here now x middle last end) (sym long.left) (fed_more (after_look s) middle left after rest more last end following))
