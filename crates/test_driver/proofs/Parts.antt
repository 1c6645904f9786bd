-- Parts of a driver's loop, joined.
use Rattle.std.proofs.Common.{◌≡◌, ◌≤◌, ◌++◌, ℕ, max, min, List, [], ◌∷◌, refl, ◌∙◌, subst, arith, inl, inr}
use Rattle.std.specs.Prelude.{Bool, true, false, IfOk, Result, Ok, Err}
use Rattle.turn_desk_event.specs.declared.answer.Answer.{Answer}
use Rattle.turn_desk_event.specs.declared.answer.Answer.TheVariants as answer
use Rattle.turn_desk_event.specs.declared.event.ClientCall.TheVariants.{Poll, PollEvent}
use Rattle.turn_desk_event.specs.declared.event.Event.{Event}
use Rattle.turn_desk_event.specs.declared.event.Event.TheVariants.{Call, Draw}
use Rattle.turn_desk_world.specs.Model.{World}
use Rattle.turn_desk_world.specs.Runs.{IsRun}
use Rattle.test_driver.specs.Driving.{Drives, Happened, HasRested, HasTransmitted, HasWaited, IsAlike, IsAny, IsDriven, IsDrivenTo, IsNoMessage, IsQuiet, IsStill, IsTaken, IsTurn}
use Rattle.test_driver.specs.declared.driving.Turn.{Turn}
use Rattle.test_driver.specs.declared.driving.Turn.TheVariants.{Transmits, Waits, Connects, Ends}
use Rattle.test_driver.specs.declared.network.Network.{Network}

pub run_on : (old middle new : World) (pairs others : List (Event × Answer)) → IsRun old pairs middle → IsRun middle others new → IsRun old (pairs ++ others) new
unfolding IsRun
run_on old middle new [] others first second = subst (λ (w : World). IsRun w others new) first second
run_on old middle new (pair ∷ pairs) others first second = (first.0, first.1, run_on first.0 middle new pairs others first.2 second)

-- ---- networks

pub same_network : (a : Network) → IsAlike a a
same_network a = record { latency = refl; lead = refl; forges = refl }

pub alike_on : (a b c : Network) → IsAlike a b → IsAlike b c → IsAlike a c
alike_on a b c first second = record { latency = second.latency ∙ first.latency; lead = second.lead ∙ first.lead; forges = second.forges ∙ first.forges }

-- ---- times

at_most : (a b c until : ℕ) → b ≤ max a until → c ≤ max b until → c ≤ max a until
at_most a b c until first second = omega (arith, first, second)

no_later : (a until later : ℕ) (b : ℕ) → b ≤ max a until → until ≤ max a later → b ≤ max a later
no_later a until later b first second = omega (arith, first, second)

at_once : (a until : ℕ) → a ≤ max a until
at_once a until = omega arith

at_most_of : (a b c : ℕ) → a ≤ b → b ≤ c → a ≤ c
at_most_of a b c first second = omega (arith, first, second)

same_time : (a : ℕ) → a ≤ a
same_time a = omega arith

-- ---- logs

module _ (Is : Answer → Type 0) where
  earlier : (a b c : ℕ) (log : List (Event × Answer)) → a ≤ b → IsDriven Is b log c → IsDriven Is a log c
  unfolding IsDriven
  earlier a b c [] before is = at_most_of a b c before is
  earlier a b c (pair ∷ pairs) before is = (is.0, at_most_of a b is.0 before is.1, is.2, is.3)

  later : (a b c : ℕ) (log : List (Event × Answer)) → IsDriven Is a log b → b ≤ c → IsDriven Is a log c
  unfolding IsDriven
  later a b c [] is after = at_most_of a b c is after
  later a b c (pair ∷ pairs) is after = (is.0, is.1, is.2, later is.0 b c pairs is.3 after)

  pub in_order : (a b : ℕ) (log : List (Event × Answer)) → IsDriven Is a log b → a ≤ b
  unfolding IsDriven
  in_order a b [] is = is
  in_order a b (pair ∷ pairs) is = at_most_of a is.0 b is.1 (in_order is.0 b pairs is.3)

  driven_on : (a b c : ℕ) (log others : List (Event × Answer)) → IsDriven Is a log b → IsDriven Is b others c → IsDriven Is a (log ++ others) c
  unfolding IsDriven
  driven_on a b c [] others first second = earlier a b c others first second
  driven_on a b c (pair ∷ pairs) others first second = (first.0, first.1, first.2, driven_on first.0 b c pairs others first.3 second)

  one_turn : (now : ℕ) (event : Event) (ret : Answer) → IsTurn Is now event ret → IsDriven Is now ((event, ret) ∷ []) now
  unfolding IsDriven
  one_turn now event ret turn = (now, same_time now, turn, same_time now)

  -- ---- runs

  pub one : (until : ℕ) (a : Network) (old new : World) (event : Event) (ret : Answer) → Happened event old ret new → IsTurn Is a.time event ret → Drives Is until a old a new
  one until a old new event ret step turn = record {
    log = (event, ret) ∷ [];
    run = step;
    driven = one_turn a.time event ret turn;
    in_time = at_once a.time until;
    alike = same_network a;
  }

  pub nowhere : (until : ℕ) (a : Network) (u : World) → Drives Is until a u a u
  unfolding IsDriven IsRun
  nowhere until a u = record {
    log = [];
    run = refl;
    driven = same_time a.time;
    in_time = at_once a.time until;
    alike = same_network a;
  }

  pub then_on : (until : ℕ) (a : Network) (u : World) (b : Network) (v : World) (c : Network) (w : World) → Drives Is until a u b v → Drives Is until b v c w → Drives Is until a u c w
  then_on until a u b v c w first second = record {
    log = first.log ++ second.log;
    run = run_on u v w first.log second.log first.run second.run;
    driven = driven_on a.time b.time c.time first.log second.log first.driven second.driven;
    in_time = at_most a.time b.time c.time until first.in_time second.in_time;
    alike = alike_on a b c first.alike second.alike;
  }

  pub longer : (until longer : ℕ) (a : Network) (u : World) (b : Network) (v : World) → until ≤ max a.time longer → Drives Is until a u b v → Drives Is longer a u b v
  longer until until_later a u b v le is = record {
    log = is.log;
    run = is.run;
    driven = is.driven;
    in_time = no_later a.time until until_later b.time is.in_time le;
    alike = is.alike;
  }

  -- The network's clock goes on.
  pub goes_on : (until : ℕ) (a : Network) (u : World) (b : Network) (v : World) (c : Network) → Drives Is until a u b v → b.time ≤ c.time → c.time ≤ max a.time until → IsAlike b c → Drives Is until a u c v
  goes_on until a u b v c is after le alike = record {
    log = is.log;
    run = is.run;
    driven = later a.time b.time c.time is.log is.driven after;
    in_time = le;
    alike = alike_on a b c is.alike alike;
  }

  pub from_still : (until : ℕ) (a b : Network) (u : World) (c : Network) (v : World) → IsStill a b → Drives Is until b u c v → Drives Is until a u c v
  from_still until a b u c v still is = record {
    log = is.log;
    run = is.run;
    driven = subst (λ (n : ℕ). IsDriven Is n is.log c.time) still.time is.driven;
    in_time = subst (λ (n : ℕ). c.time ≤ max n until) still.time is.in_time;
    alike = alike_on a b c still.alike is.alike;
  }

weaken_turn : (Is Other : Answer → Type 0) → ((ret : Answer) → Is ret → Other ret) → (now : ℕ) (event : Event) (ret : Answer) → IsTurn Is now event ret → IsTurn Other now event ret
weaken_turn Is Other weaker now event ret (inl is) = inl (is.0, weaker ret is.1)
weaken_turn Is Other weaker now event ret (inr is) = inr is

weaken_log : (Is Other : Answer → Type 0) → ((ret : Answer) → Is ret → Other ret) → (a b : ℕ) (log : List (Event × Answer)) → IsDriven Is a log b → IsDriven Other a log b
unfolding IsDriven
weaken_log Is Other weaker a b [] is = is
weaken_log Is Other weaker a b (pair ∷ pairs) is = (is.0, is.1, weaken_turn Is Other weaker is.0 pair.0 pair.1 is.2, weaken_log Is Other weaker is.0 b pairs is.3)

pub to_any : (until : ℕ) (a : Network) (u : World) (b : Network) (v : World) → Drives IsQuiet until a u b v → Drives IsAny until a u b v
to_any until a u b v is = record {
  log = is.log;
  run = is.run;
  driven = weaken_log IsQuiet IsAny (λ ret quiet. tt) a.time b.time is.log is.driven;
  in_time = is.in_time;
  alike = is.alike;
}

pub on_ok : {A E : Type 0} (P Q : A → Type 0) → ((x : A) → P x → Q x) → (result : Result A E) → IfOk result P → IfOk result Q
on_ok P Q onward (Ok x) is = onward x is
on_ok P Q onward (Err error) is = tt

-- ---- one turn

pub still_last : (Is : Answer → Type 0) (until : ℕ) (a : Network) (u : World) (b : Network) (v : World) (c : Network) → Drives Is until a u b v → IsStill b c → Drives Is until a u c v
still_last Is until a u b v c is still = goes_on Is until a u b v c is (no_less b.time c.time still.time) (as_late a.time b.time c.time until still.time is.in_time) still.alike
  where
    no_less : (m n : ℕ) → n ≡ m → m ≤ n
    no_less m n same = omega (arith, same)

    as_late : (l m n o : ℕ) → n ≡ m → m ≤ max l o → n ≤ max l o
    as_late l m n o same le = omega (arith, same, le)

-- An event was polled.
pub event_on : (a b : Network) (u v : World) (ret : Answer) → Happened (Call PollEvent a.time) u ret v → IsStill a b → Drives IsQuiet a.time a u b v
event_on a b u v ret step still = still_last IsQuiet a.time a u a v b (one IsQuiet a.time a u v (Call PollEvent a.time) ret step (inr (inr refl))) still

pub events_on : {E : Type 0} (a b : Network) (u v : World) (c : Network) (w : World) (ret : Answer) → Happened (Call PollEvent a.time) u ret v → IsStill a b → (result : Result Unit E)
    → IfOk result (λ polled. Drives IsQuiet b.time b v c w) → IfOk result (λ polled. Drives IsQuiet a.time a u c w)
events_on a b u v c w ret step still (Ok polled) is = then_on IsQuiet a.time a u b v c w (event_on a b u v ret step still) (subst (λ (n : ℕ). Drives IsQuiet n b v c w) still.time is)
events_on a b u v c w ret step still (Err error) is = tt

-- The client was polled, and its events.
pub polled_on : (a : Network) (u v : World) (b : Network) (w : World) (ret : Answer) (turn : Turn) → Happened (Call Poll a.time) u ret v → Drives IsQuiet a.time a v b w → IsNoMessage turn → IsTaken a u turn b w
polled_on a u v b w ret (Transmits sent) step is none = absurd none
polled_on a u v b w ret (Waits time) step is none = then_on IsQuiet a.time a u a v b w (one IsQuiet a.time a u v (Call Poll a.time) ret step (inr (inl refl))) is
polled_on a u v b w ret (Connects id peer) step is none = then_on IsQuiet a.time a u a v b w (one IsQuiet a.time a u v (Call Poll a.time) ret step (inr (inl refl))) is
polled_on a u v b w ret Ends step is none = then_on IsQuiet a.time a u a v b w (one IsQuiet a.time a u v (Call Poll a.time) ret step (inr (inl refl))) is

quiet_of : (ret : Answer) → ((sent : _) → ret ≡ answer.Transmit sent → ⊥) → IsQuiet ret
quiet_of (answer.Transmit sent) other = other sent refl
quiet_of _ other = tt

-- The client was polled for a message, and transmitted one.
pub transmitted : (a : Network) (u v : World) (sent : _) → Happened (Draw a.time) u (answer.Transmit sent) v → HasTransmitted a.time a u sent a v
transmitted a u v sent step = record { quiet = u; drives = nowhere IsQuiet a.time a u; step = step }

module _ (until : ℕ) (a : Network) (u : World) (b : Network) (v : World) (first : Drives IsQuiet until a u b v) where
  pub transmits_on : (sent : _) (c : Network) (w : World) → HasTransmitted until b v sent c w → HasTransmitted until a u sent c w
  transmits_on sent c w is = record { quiet = is.quiet; drives = then_on IsQuiet until a u b v c is.quiet first is.drives; step = is.step }

  pub driven_to_on : (turn : Turn) (c : Network) (w : World) → IsDrivenTo until b v turn c w → IsDrivenTo until a u turn c w
  driven_to_on (Transmits sent) c w is = transmits_on sent c w is
  driven_to_on (Waits time) c w is = record { drives = then_on IsQuiet until a u b v c w first is.drives; late = is.late }
  driven_to_on (Connects id peer) c w is = then_on IsQuiet until a u b v c w first is
  driven_to_on Ends c w is = then_on IsQuiet until a u b v c w first is

-- It transmitted none, and was polled.
pub taken_on : {E : Type 0} (a : Network) (u v : World) (b : Network) (w : World) (ret : Answer) → Happened (Draw a.time) u ret v → ((sent : _) → ret ≡ answer.Transmit sent → ⊥) → (result : Result Turn E)
    → IfOk result (λ turn. IsTaken a v turn b w) → IfOk result (λ turn. IsTaken a u turn b w)
taken_on {E} a u v b w ret step other result is = on_ok (λ turn. IsTaken a v turn b w) (λ turn. IsTaken a u turn b w) so result is
  where
    first : Drives IsQuiet a.time a u a v
    first = one IsQuiet a.time a u v (Draw a.time) ret step (inl (refl, quiet_of ret other))

    so : (turn : Turn) → IsTaken a v turn b w → IsTaken a u turn b w
    so (Transmits sent) is = transmits_on a.time a u a v first sent b w is
    so (Waits time) is = then_on IsQuiet a.time a u a v b w first is
    so (Connects id peer) is = then_on IsQuiet a.time a u a v b w first is
    so Ends is = then_on IsQuiet a.time a u a v b w first is

-- ---- the loop

-- After a turn the clock went on.
pub advanced : (a : Network) (u : World) (b : Network) (v : World) (c : Network) (time until : ℕ) → Drives IsQuiet a.time a u b v → c.time ≡ max b.time (min time until) → IsAlike b c → Drives IsQuiet until a u c v
advanced a u b v c time until is time_is alike =
    goes_on IsQuiet until a u b v c (longer IsQuiet a.time until a u b v (at_once a.time until) is) (on b.time c.time time until time_is) (in_time a.time b.time c.time time until is.in_time time_is) alike
  where
    on : (m n t o : ℕ) → n ≡ max m (min t o) → m ≤ n
    on m n t o same = omega (arith, same)

    in_time : (l m n t o : ℕ) → m ≤ max l l → n ≡ max m (min t o) → n ≤ max l o
    in_time l m n t o le same = omega (arith, le, same)

-- The loop ended within that turn.
pub taken_to : (until : ℕ) (a : Network) (u : World) (b : Network) (v : World) (turn : Turn) → ((time : ℕ) → turn ≡ Waits time → ⊥) → IsTaken a u turn b v → IsDrivenTo until a u turn b v
taken_to until a u b v (Transmits sent) other is = record { quiet = is.quiet; drives = longer IsQuiet a.time until a u b is.quiet (at_once a.time until) is.drives; step = is.step }
taken_to until a u b v (Waits time) other is = absurd (other time refl)
taken_to until a u b v (Connects id peer) other is = longer IsQuiet a.time until a u b v (at_once a.time until) is
taken_to until a u b v Ends other is = longer IsQuiet a.time until a u b v (at_once a.time until) is

pub rested : (a : Network) (u : World) (b : Network) (v : World) (c : Network) (time until : ℕ) → Drives IsQuiet a.time a u b v → c.time ≡ max b.time (min time until) → IsAlike b c → until ≤ time → HasRested until a u c v
rested a u b v c time until is time_is alike le = record { drives = advanced a u b v c time until is time_is alike; late = so b.time c.time time until time_is le }
  where
    so : (m n t o : ℕ) → n ≡ max m (min t o) → o ≤ t → o ≤ n
    so m n t o same le = omega (arith, same, le)

-- ---- a wait

-- The client transmitted something, which is lost.
pub lost : (until : ℕ) (a : Network) (u : World) (sent : _) (b : Network) (v : World) (c : Network) → HasTransmitted until a u sent b v → IsStill b c → Drives IsAny until a u c v
lost until a u sent b v c is still =
    still_last IsAny until a u b v c (then_on IsAny until a u b is.quiet b v (to_any until a u b is.quiet is.drives) (one IsAny until b is.quiet v (Draw b.time) (answer.Transmit sent) is.step (inl (refl, tt)))) still

pub stopped : (until : ℕ) (a : Network) (u : World) (b : Network) (v : World) → Drives IsAny until a u b v → HasWaited until a u false b v
stopped until a u b v is = record { drives = is; late = λ yes. absurd (Prim.cc yes) }

pub waited : (until : ℕ) (a : Network) (u : World) (b : Network) (v : World) → HasRested until a u b v → HasWaited until a u true b v
waited until a u b v is = record { drives = to_any until a u b v is.drives; late = λ yes. is.late }

pub waits_on : {E : Type 0} (until : ℕ) (a : Network) (u : World) (b : Network) (v : World) (c : Network) (w : World) → Drives IsAny until a u b v → (result : Result Bool E)
    → IfOk result (λ came. HasWaited until b v came c w) → IfOk result (λ came. HasWaited until a u came c w)
waits_on until a u b v c w first (Ok came) is = record { drives = then_on IsAny until a u b v c w first is.drives; late = is.late }
waits_on until a u b v c w first (Err error) is = tt
