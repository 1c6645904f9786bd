-- It does not matter to the handler of its frames where a stream is cut.
use Rattle.std.proofs.Common.{◌≡◌, ℕ, Bool, true, false, List, [], ◌∷◌, ◌++◌, Option, Some, None, refl, sym, ap, ◌∙◌, subst, inl, inr}
use Rattle.std.specs.Prelude.{option_to_list}
use Rattle.std.specs.List.{concat}
use Rattle.std.proofs.lemmas.Bool.{cases_Bool}
use Rattle.std.proofs.lemmas.List.{append_assoc}
use Rattle.turn_client_proto_recv.specs.TurnTypesFrame.declared.head.FrameHead.{FrameHead}
use Rattle.turn_client_proto_recv.specs.TurnTypesFrame.declared.head.FrameHead.TheVariants.{Message, Channel, Incomplete, Invalid}
use Rattle.turn_client_proto_recv.specs.TurnTypesFrame.StreamAnswers.{IsNone, looked, after_look, joined as grown}
use Rattle.turn_client_proto_recv.specs.TurnTypesFrame.StreamHeads.{head}
use Rattle.turn_client_proto_recv.specs.TurnTypesFrame.Streams.{Fed, Stream, alive, dead_stream, fed, left_by}
use Rattle.turn_client_proto_recv.proofs.TurnTypesFrame.Feeding.{cut_anywhere}
use Rattle.turn_client_proto_recv.proofs.TurnTypesFrame.Framing.{given_are_frames}
use Rattle.turn_client_proto_recv.specs.Pulls.{AreFed, AreHandled, Handling, IsDefinite, IsDrained, IsPulled, Ends, Gives, Goes, Last, More, bare, frame_of}
use Rattle.turn_client_proto_recv.proofs.Steps.{IsStep, step_of, none_of}

module _ {S P : Type 0} (Is : Handling S P) where
  -- Frames are handled, and then more of them.
  joined : (xs ys : List (List ℕ)) (state middle after : S) (ps qs : List P) → AreHandled Is state xs ps middle → AreHandled Is middle ys qs after → AreHandled Is state (xs ++ ys) (ps ++ qs) after
  joined [] ys state middle after ps qs one two =
      subst (λ (l : List P). AreHandled Is state ys (l ++ qs) after) (sym one.0) (subst (λ (m : S). AreHandled Is m ys qs after) one.1 two)
  joined (x ∷ xs) ys state middle after ps qs (between, given, later, is, parts, others) two =
      (between, given, later ++ qs, is, ap (λ (l : List P). l ++ qs) parts ∙ append_assoc (option_to_list given) later qs, joined xs ys between middle after later qs others two)

  -- What follows a pull, stated for all frames.
  abbrev Rest : Option P → Stream → S → List P → Stream → S → Type 0
  Rest None middle between ps left after = (ps ≡ []) × (left ≡ middle) × (after ≡ between)
  Rest (Some p) middle between ps left after = AreHandled Is between (fed middle.stored).frames ps after × (left ≡ (fed middle.stored).stream)

  same_frame : (stream : Stream) (stored frame : List ℕ) (state after : S) (given : Option P) → stream ≡ alive stored → bare frame ≡ frame_of (alive stored) → Is state (frame_of stream) given after → Is state (bare frame) given after
  same_frame stream stored frame state after given is same holds =
      subst (λ (f : List ℕ). Is state f given after) (ap frame_of is ∙ sym same) holds

  one_first : (stored : List ℕ) (state middle after : S) (given : Option P) (ps : List P) (left : Stream) (step : IsStep stored) → Is state (bare step.frame) given middle
      → AreHandled Is middle (fed (after_look (alive stored)).stored).frames ps after × (left ≡ (fed (after_look (alive stored)).stored).stream)
      → AreHandled Is state (fed stored).frames (option_to_list given ++ ps) after × (left ≡ (fed stored).stream)
  one_first stored state middle after given ps left step holds (others, stream) = (
    subst (λ (f : Fed). AreHandled Is state f.frames (option_to_list given ++ ps) after) (sym step.fed_is) (middle, given, ps, holds, refl, others),
    stream ∙ ap (λ (f : Fed). f.stream) (sym step.fed_is),
  )

  pulled : (stream : Stream) (state : S) (given : Option P) (middle : Stream) (between : S) → IsPulled Is stream state given middle between → (stored : List ℕ) → stream ≡ alive stored
      → (ps : List P) (left : Stream) (after : S) → Rest given middle between ps left after → AreHandled Is state (fed stored).frames (option_to_list given ++ ps) after × (left ≡ (fed stored).stream)
  pulled _ _ _ _ _ (Ends stream state none) stored is ps left after (nothing, left_is, after_is) =
      let empty = none_of stored (subst (λ (s : Stream). IsNone (looked s)) is none) in (
        subst (λ (l : List (List ℕ)). AreHandled Is state l ps after) (sym empty.0) (nothing, after_is),
        left_is ∙ ap after_look is ∙ sym empty.1,
      )
  pulled _ _ _ _ _ (Gives stream state payload between some holds) stored is ps left after (others, left_is) =
      let step = step_of stored (subst (λ (s : Stream). IsNone (looked s) → ⊥) is some) in
      let same : (after_look stream).stored ≡ (after_look (alive stored)).stored = ap (λ (s : Stream). (after_look s).stored) is in
      one_first stored state between after (Some payload) ps left step (same_frame stream stored step.frame state between (Some payload) is step.is_bare holds)
      (subst (λ (l : List ℕ). AreHandled Is between (fed l).frames ps after × (left ≡ (fed l).stream)) same (others, left_is))
  pulled _ _ _ _ _ (Goes stream state between given middle end some holds more) stored is ps left after rest =
      let step = step_of stored (subst (λ (s : Stream). IsNone (looked s) → ⊥) is some) in
      one_first stored state between after None (option_to_list given ++ ps) left step (same_frame stream stored step.frame state between None is step.is_bare holds)
      (pulled (after_look stream) between given middle end more (after_look (alive stored)).stored (ap after_look is ∙ step.lives) ps left after rest)

  stays_alive : (stream : Stream) (state : S) (given : Option P) (middle : Stream) (between : S) → IsPulled Is stream state given middle between → (stored : List ℕ) → stream ≡ alive stored
      → (payload : P) → given ≡ Some payload → middle ≡ alive middle.stored
  stays_alive _ _ _ _ _ (Ends stream state none) stored is payload some = absurd (Prim.cc some)
  stays_alive _ _ _ _ _ (Gives stream state p between some holds) stored is payload reported =
      let step = step_of stored (subst (λ (s : Stream). IsNone (looked s) → ⊥) is some) in
      subst (λ (s : Stream). after_look s ≡ alive (after_look s).stored) (sym is) step.lives
  stays_alive _ _ _ _ _ (Goes stream state between given middle end some holds more) stored is payload reported =
      let step = step_of stored (subst (λ (s : Stream). IsNone (looked s) → ⊥) is some) in
      stays_alive (after_look stream) between given middle end more (after_look (alive stored)).stored (ap after_look is ∙ step.lives) payload reported

  drained : (stream : Stream) (state : S) (ps : List P) (left : Stream) (after : S) → IsDrained Is stream state ps left after → (stored : List ℕ) → stream ≡ alive stored
      → AreHandled Is state (fed stored).frames ps after × (left ≡ (fed stored).stream)
  drained _ _ _ _ _ (Last stream state left after pull) stored is = pulled stream state None left after pull stored is [] left after (refl, refl, refl)
  drained _ _ _ _ _ (More stream state payload middle between ps left after pull others) stored is =
      let lives = stays_alive stream state (Some payload) middle between pull stored is payload refl in
      pulled stream state (Some payload) middle between pull stored is ps left after (drained middle between ps left after others middle.stored lives)

  -- ---- a dead stream

  pulled_dead : (stream : Stream) (state : S) (given : Option P) (left : Stream) (after : S) → IsPulled Is stream state given left after → stream.dead ≡ true → (given ≡ None) × (left ≡ dead_stream) × (after ≡ state)
  pulled_dead _ _ _ _ _ (Ends stream state none) dead = (refl, rw dead refl, refl)
  pulled_dead _ _ _ _ _ (Gives stream state p after some holds) dead = absurd (some (rw dead tt))
  pulled_dead _ _ _ _ _ (Goes stream state between given left after some holds more) dead = absurd (some (rw dead tt))

  drained_dead : (stream : Stream) (state : S) (ps : List P) (left : Stream) (after : S) → IsDrained Is stream state ps left after → stream.dead ≡ true → (ps ≡ []) × (left ≡ dead_stream) × (after ≡ state)
  drained_dead _ _ _ _ _ (Last stream state left after pull) dead = let all = pulled_dead stream state None left after pull dead in (refl, all.1, all.2)
  drained_dead _ _ _ _ _ (More stream state payload middle between ps left after pull others) dead =
      absurd (Prim.cc (pulled_dead stream state (Some payload) middle between pull dead).0)

  -- ---- chunks

  is_alive : (s : Stream) → s.dead ≡ false → s ≡ alive s.stored
  is_alive s lives = ap (λ (d : Bool). record { stored = s.stored; dead = d }) lives

  dead_by : (f : FrameHead) (bytes : List ℕ) → (left_by f bytes).dead ≡ true → left_by f bytes ≡ dead_stream
  dead_by (Message size) bytes dead = absurd (Prim.cc dead)
  dead_by (Channel len) bytes dead = absurd (Prim.cc dead)
  dead_by Incomplete bytes dead = absurd (Prim.cc dead)
  dead_by Invalid bytes dead = refl

  dead_fed : (bytes : List ℕ) → (fed bytes).stream.dead ≡ true → (fed bytes).stream ≡ dead_stream
  dead_fed bytes dead =
      let all = given_are_frames bytes in
      let is : (fed bytes).stream ≡ left_by (head all.0) all.0 = all.2 in
      is ∙ dead_by (head all.0) all.0 (ap (λ (s : Stream). s.dead) (sym is) ∙ dead)

  fed_more_dead : (bytes more : List ℕ) → (fed bytes).stream.dead ≡ true → fed (bytes ++ more) ≡ fed bytes
  fed_more_dead bytes more dead = sym (cut_anywhere bytes more) ∙ rw dead refl

  fed_more : (bytes more : List ℕ) → (fed bytes).stream.dead ≡ false
      → fed (bytes ++ more) ≡ record { frames = (fed bytes).frames ++ (fed ((fed bytes).stream.stored ++ more)).frames; stream = (fed ((fed bytes).stream.stored ++ more)).stream }
  fed_more bytes more lives = sym (cut_anywhere bytes more) ∙ rw lives refl

  fed_on : (chunks : List (List ℕ)) (bytes : List ℕ) (stream : Stream) (first state after : S) (before ps : List P) (left : Stream) → stream ≡ (fed bytes).stream
      → AreHandled Is first (fed bytes).frames before state → AreFed Is stream state chunks ps left after
      → AreHandled Is first (fed (bytes ++ concat chunks)).frames (before ++ ps) after × (left ≡ (fed (bytes ++ concat chunks)).stream)
  fed_on [] bytes stream first state after before ps left is done (nothing, left_is, after_is) =
      let whole : bytes ++ [] ≡ bytes = nil bytes in
      subst (λ (b : List ℕ). AreHandled Is first (fed b).frames (before ++ ps) after × (left ≡ (fed b).stream)) (sym whole) (
        subst (λ (l : List P). AreHandled Is first (fed bytes).frames l after) (sym (ap (λ (l : List P). before ++ l) nothing ∙ nil before))
            (subst (λ (a : S). AreHandled Is first (fed bytes).frames before a) (sym after_is) done),
        left_is ∙ is,
      )
    where
      nil : {X : Type 0} (xs : List X) → xs ++ [] ≡ xs
      nil [] = refl
      nil {X} (x ∷ xs) = ap (λ (l : List X). x ∷ l) (nil xs)
  fed_on (chunk ∷ chunks) bytes stream first state after before ps left is done (middle, between, now, later, drains, parts, others) =
      let assoc : (bytes ++ chunk) ++ concat chunks ≡ bytes ++ (chunk ++ concat chunks) = append_assoc bytes chunk (concat chunks) in
      let payloads : (before ++ now) ++ later ≡ before ++ ps = append_assoc before now later ∙ ap (λ (l : List P). before ++ l) (sym parts) in
      let next : (middle ≡ (fed (bytes ++ chunk)).stream) × AreHandled Is first (fed (bytes ++ chunk)).frames (before ++ now) between = (elim (cases_Bool (fed bytes).stream.dead) [
        | inl dead ↦ died dead
        | inr lives ↦ lived lives
      ]) in
      subst (λ (l : List P). AreHandled Is first (fed (bytes ++ (chunk ++ concat chunks))).frames l after × (left ≡ (fed (bytes ++ (chunk ++ concat chunks))).stream)) payloads
      (subst (λ (b : List ℕ). AreHandled Is first (fed b).frames ((before ++ now) ++ later) after × (left ≡ (fed b).stream)) assoc
      (fed_on chunks (bytes ++ chunk) middle first between after (before ++ now) later left next.0 next.1 others))
    where
      died : (fed bytes).stream.dead ≡ true → (middle ≡ (fed (bytes ++ chunk)).stream) × AreHandled Is first (fed (bytes ++ chunk)).frames (before ++ now) between
      died dead =
          let all = drained_dead (grown stream chunk) state now middle between drains (ap (λ (s : Stream). s.dead) is ∙ dead) in
          let same = fed_more_dead bytes chunk dead in (
            all.1 ∙ sym (dead_fed bytes dead) ∙ ap (λ (f : Fed). f.stream) (sym same),
            subst (λ (f : Fed). AreHandled Is first f.frames (before ++ now) between) (sym same)
                (subst (λ (l : List P). AreHandled Is first (fed bytes).frames (before ++ l) between) (sym all.0)
                (subst (λ (l : List P). AreHandled Is first (fed bytes).frames l between) (sym (none before)) (subst (λ (a : S). AreHandled Is first (fed bytes).frames before a) (sym all.2) done))),
          )
        where
          none : {X : Type 0} (xs : List X) → xs ++ [] ≡ xs
          none [] = refl
          none {X} (x ∷ xs) = ap (λ (l : List X). x ∷ l) (none xs)

      lived : (fed bytes).stream.dead ≡ false → (middle ≡ (fed (bytes ++ chunk)).stream) × AreHandled Is first (fed (bytes ++ chunk)).frames (before ++ now) between
      lived lives =
          let stored : List ℕ = (fed bytes).stream.stored in
          let alive_is : grown stream chunk ≡ alive (stored ++ chunk) = ap (λ (s : Stream). grown s chunk) (is ∙ is_alive (fed bytes).stream lives) in
          let all = drained (grown stream chunk) state now middle between drains (stored ++ chunk) alive_is in
          let same = fed_more bytes chunk lives in (
            all.1 ∙ ap (λ (f : Fed). f.stream) (sym same),
            subst (λ (f : Fed). AreHandled Is first f.frames (before ++ now) between) (sym same)
                (joined (fed bytes).frames (fed (stored ++ chunk)).frames first state between before now done all.0),
          )

  -- ---- for every cut

  one_way : IsDefinite Is → (frames : List (List ℕ)) (state left right : S) (ps qs : List P) → AreHandled Is state frames ps left → AreHandled Is state frames qs right → (ps ≡ qs) × (left ≡ right)
  one_way definite [] state left right ps qs one two = (one.0 ∙ sym two.0, one.1 ∙ sym two.1)
  one_way definite (f ∷ frames) state left right ps qs (m, g, later, is, parts, others) (m', g', later', is', parts', others') =
      let same = definite state (bare f) g g' m m' is is' in
      let rest = one_way definite frames m left right later later' others (subst (λ (s : S). AreHandled Is s frames later' right) (sym same.1) others') in
      (parts ∙ ap (λ (o : Option P). option_to_list o ++ later) same.0 ∙ ap (λ (l : List P). option_to_list g' ++ l) rest.0 ∙ sym parts', rest.1)

  pub all_frames : (state after : S) (stored : List ℕ) (chunks : List (List ℕ)) (ps : List P) (left : Stream) → (fed stored).frames ≡ [] → (fed stored).stream ≡ alive stored
      → AreFed Is (alive stored) state chunks ps left after → AreHandled Is state (fed (stored ++ concat chunks)).frames ps after × (left ≡ (fed (stored ++ concat chunks)).stream)
  all_frames state after stored chunks ps left none stream feeds =
      fed_on chunks stored (alive stored) state state after [] ps left (sym stream) (subst (λ (l : List (List ℕ)). AreHandled Is state l [] state) (sym none) (refl, refl)) feeds

  pub every_cut : (state one other : S) (stored : List ℕ) (chunks cuts : List (List ℕ)) (ps qs : List P) (left right : Stream) → IsDefinite Is → (fed stored).frames ≡ [] → (fed stored).stream ≡ alive stored
      → concat chunks ≡ concat cuts → AreFed Is (alive stored) state chunks ps left one → AreFed Is (alive stored) state cuts qs right other → (ps ≡ qs) × (left ≡ right) × (one ≡ other)
  every_cut state one other stored chunks cuts ps qs left right definite none stream same first second =
      let a = all_frames state one stored chunks ps left none stream first in
      let b = all_frames state other stored cuts qs right none stream second in
      let b' : AreHandled Is state (fed (stored ++ concat chunks)).frames qs other × (right ≡ (fed (stored ++ concat chunks)).stream) =
      subst (λ (l : List ℕ). AreHandled Is state (fed (stored ++ l)).frames qs other × (right ≡ (fed (stored ++ l)).stream)) (sym same) b in
      let both = one_way definite (fed (stored ++ concat chunks)).frames state one other ps qs a.0 b'.0 in
      (both.0, a.1 ∙ sym b'.1, both.1)
