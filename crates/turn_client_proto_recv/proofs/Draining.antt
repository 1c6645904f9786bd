-- A stream may be drained from any point on.
use Rattle.std.proofs.Common.{◌≡◌, ℕ, false, List, [], ◌∷◌, Option, Some, None, refl, sym, ◌∙◌, subst, inl, inr}
use Rattle.std.proofs.lemmas.Bool.{cases_Bool}
use Rattle.turn_types_frame.specs.declared.head.FrameHead.{FrameHead}
use Rattle.turn_types_frame.specs.declared.head.FrameHead.TheVariants.{Message, Channel, Incomplete, Invalid}
use Rattle.turn_types_frame.specs.StreamAnswers.{IsNone, looked, after_look}
use Rattle.turn_types_frame.specs.StreamHeads.{head}
use Rattle.turn_types_frame.specs.Streams.{Stream, left_by}
use Rattle.turn_client_proto_recv.specs.Pulls.{Handling, IsDrained, IsPulled, Ends, Gives, Goes, Last, More, frame_of}

-- Looking again at a stream without a complete frame changes nothing.
still : (stored : List ℕ) (f : FrameHead) → head stored ≡ f → IsNone f → IsNone (looked (left_by f stored)) × (after_look (left_by f stored) ≡ left_by f stored)
still stored (Message n) is none = absurd none
still stored (Channel n) is none = absurd none
still stored Incomplete is none = rw is (tt, refl)
still stored Invalid is none = (tt, refl)

pub looked_again : (stream : Stream) → IsNone (looked stream) → IsNone (looked (after_look stream)) × (after_look (after_look stream) ≡ after_look stream)
looked_again stream none =
    elim (cases_Bool stream.dead) [
      | inl dead ↦ rw dead (tt, refl)
      | inr lives ↦ by lives
    ]
  where
    by : stream.dead ≡ false → IsNone (looked (after_look stream)) × (after_look (after_look stream) ≡ after_look stream)
    by lives =
        let is : looked stream ≡ head stream.stored = rw lives refl in
        subst (λ (f : FrameHead). IsNone (looked (left_by f stream.stored)) × (after_look (left_by f stream.stored) ≡ left_by f stream.stored)) (sym is)
        (still stream.stored (head stream.stored) refl (subst IsNone is none))

module _ {S P : Type 0} (Is : Handling S P) where
  none_pulled : (stream : Stream) (state : S) (given : Option P) (left : Stream) (after : S) → IsPulled Is stream state given left after → IsNone (looked stream) → (given ≡ None) × (left ≡ after_look stream) × (after ≡ state)
  none_pulled _ _ _ _ _ (Ends stream state none) is = (refl, refl, refl)
  none_pulled _ _ _ _ _ (Gives stream state payload after some holds) is = absurd (some is)
  none_pulled _ _ _ _ _ (Goes stream state middle given left after some holds more) is = absurd (some is)

  none_drained : (stream : Stream) (state : S) (ps : List P) (left : Stream) (after : S) → IsDrained Is stream state ps left after → IsNone (looked stream) → (ps ≡ []) × (left ≡ after_look stream) × (after ≡ state)
  none_drained _ _ _ _ _ (Last stream state left after pull) is = let all = none_pulled stream state None left after pull is in (refl, all.1, all.2)
  none_drained _ _ _ _ _ (More stream state payload middle between ps left after pull others) is = let all = none_pulled stream state (Some payload) middle between pull is in absurd (Prim.cc all.0)

  -- Draining if no frame is complete.
  pub drained_none : (stream : Stream) (state : S) (ps : List P) (left : Stream) (after : S) → IsNone (looked stream) → IsDrained Is (after_look stream) state ps left after → IsDrained Is stream state ps left after
  drained_none stream state ps left after none drains =
      let again = looked_again stream none in
      let all = none_drained (after_look stream) state ps left after drains again.0 in
      subst (λ (l : List P). IsDrained Is stream state l left after) (sym all.0)
      (subst (λ (s : Stream). IsDrained Is stream state [] s after) (sym (all.1 ∙ again.1))
      (subst (λ (a : S). IsDrained Is stream state [] (after_look stream) a) (sym all.2) (Last stream state (after_look stream) state (Ends stream state none))))

  -- Draining after a frame that delivers nothing.
  pub drained_after : (stream : Stream) (state middle : S) (ps : List P) (left : Stream) (after : S) → ¬ IsNone (looked stream) → Is state (frame_of stream) None middle → IsDrained Is (after_look stream) middle ps left after → IsDrained Is stream state ps left after
  drained_after stream state middle ps left after some holds drains = by (after_look stream) middle ps left after drains (λ given last end pull. Goes stream state middle given last end some holds pull)
    where
      by : (rest : Stream) (middle : S) (ps : List P) (left : Stream) (after : S) → IsDrained Is rest middle ps left after
          → ((given : Option P) (last : Stream) (end : S) → IsPulled Is rest middle given last end → IsPulled Is stream state given last end) → IsDrained Is stream state ps left after
      by _ _ _ _ _ (Last rest middle left after pull) longer = Last stream state left after (longer None left after pull)
      by _ _ _ _ _ (More rest middle payload mid between ps left after pull others) longer = More stream state payload mid between ps left after (longer (Some payload) mid between pull) others

  -- Draining after a frame that delivers something.
  pub drained_first : (stream : Stream) (state middle : S) (payload : P) (ps : List P) (left : Stream) (after : S) → ¬ IsNone (looked stream) → Is state (frame_of stream) (Some payload) middle → IsDrained Is (after_look stream) middle ps left after
      → IsDrained Is stream state (payload ∷ ps) left after
  drained_first stream state middle payload ps left after some holds drains =
      More stream state payload (after_look stream) middle ps left after (Gives stream state payload middle some holds) drains

  -- Draining after a pull that delivers nothing.
  pub drained_out : (stream : Stream) (state : S) (given : Option P) (left : Stream) (middle : S) → IsPulled Is stream state given left middle → given ≡ None → (ps : List P) (last : Stream) (after : S) → IsDrained Is left middle ps last after
      → IsDrained Is stream state ps last after
  drained_out _ _ _ _ _ (Ends stream state none) is ps last after drains = drained_none stream state ps last after none drains
  drained_out _ _ _ _ _ (Gives stream state payload middle some holds) is ps last after drains = absurd (Prim.cc is)
  drained_out _ _ _ _ _ (Goes stream state between given left middle some holds more) is ps last after drains =
      drained_after stream state between ps last after some holds (drained_out (after_look stream) between given left middle more is ps last after drains)
