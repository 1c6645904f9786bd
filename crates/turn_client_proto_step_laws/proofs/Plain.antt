-- A call in which nothing is gained is a step of a run.
use Rattle.std.proofs.Common.{◌≡◌, ◌≢◌, ℕ, ◌+◌, ◌≤◌, List, [], ◌∷◌, ◌++◌, map, Option, Some, None, refl, sym, ap, ◌∙◌, arith, inl, inr}
use Rattle.std.specs.List.{filter_map}
use Rattle.rand_chacha.specs.ChaCha.{ChaCha}
use Rattle.turn_client_proto_timers.specs.StunTypesWire.declared.class.MessageClass.TheVariants.{Request}
use Rattle.turn_client_proto_timers.specs.StunTypesBase.declared.family.AddressFamily.{AddressFamily}
use Rattle.turn_client_proto_recv.specs.TurnTypesAttributes.TurnRegistry.{connection_attempt_method}
use Rattle.turn_client_proto_timers.specs.TurnRuns.Members.{IsIn}
use Rattle.turn_client_proto_timers.specs.TurnRuns.Messages as run
use Rattle.turn_client_proto_timers.specs.TurnRuns.Steps.{AreNumbered, ClientStep, MayDraw}
use Rattle.turn_client_proto_timers.specs.TurnRuns.StunWire.{stun_wire}
use Rattle.turn_client_proto_timers.specs.Api.declared.event.TurnEvent.{TurnEvent}
use Rattle.turn_client_proto_timers.specs.Api.declared.event.TurnEvent.TheVariants.{AllocationCreateFailed}
use Rattle.turn_client_proto_timers.specs.Core.Numbering.{after_draw}
use Rattle.turn_client_proto_timers.specs.Core.declared.protocol.Protocol.{Protocol}
use Rattle.turn_client_proto_step_laws.specs.ClientWords.{IsHeld, IsStored, client_words, notice_of}
use Rattle.turn_client_proto_step_laws.specs.Held.{Allocation}
use Rattle.turn_client_proto_step_laws.specs.RunClient.{Client, moved, numbers_between, parts_of}
use Rattle.turn_client_proto_step_laws.specs.RunSteps.{IsRunStep, call_of}
use Rattle.turn_client_proto_step_laws.specs.Sound.{CanAsk, IsOrderly, UntilEnded}
use Rattle.turn_client_proto_step_laws.proofs.Adding.{Adds}
use Rattle.turn_client_proto_step_laws.proofs.Lists.{nothing_after}
use Rattle.turn_client_proto_step_laws.proofs.Realms.{TakesRealm}

-- ---- what is reported

abbrev pub notices : List TurnEvent → List run.Notice
notices events = filter_map notice_of events

joined_by : (e : TurnEvent) (one two : List TurnEvent) (n : Option run.Notice) → notice_of e ≡ n → notices (one ++ two) ≡ notices one ++ notices two → notices (e ∷ (one ++ two)) ≡ notices (e ∷ one) ++ notices two
joined_by e one two None is rest = rw (is, rest) refl
joined_by e one two (Some n) is rest = rw (is, rest) refl

pub joined : (one two : List TurnEvent) → notices (one ++ two) ≡ notices one ++ notices two
joined [] two = refl
joined (e ∷ one) two = joined_by e one two (notice_of e) refl (joined one two)

-- Events that report nothing as created.
pub none_decoded : (events more : List TurnEvent) → notices more ≡ [] → notices (events ++ more) ≡ notices events
none_decoded events more none = joined events more ∙ ap (λ l. notices events ++ l) none ∙ sym (nothing_after (notices events))

pub failures_report_nothing : (families : List AddressFamily) → notices (map AllocationCreateFailed families) ≡ []
failures_report_nothing [] = refl
failures_report_nothing (f ∷ families) = failures_report_nothing families

-- ---- the step

-- What getters list is held.
pub held_is_stored : (allocations : List Allocation) (h : run.Held) → IsHeld allocations h → IsStored allocations h
held_is_stored allocations h is = record { allocation = is.allocation; listed = is.listed; has = is.has }

-- The count of transaction IDs grows by as many as the generator gave: at most two.
pub record IsCounted (c : Client) (count : ℕ) (core : Protocol) : Type 0 where
  pub counted : count ≡ c.transmitted + numbers_between c.core.rng core.rng
  pub few : numbers_between c.core.rng core.rng ≤ 2

none_between : (rng : ChaCha) → numbers_between rng rng ≡ 0
none_between rng = omega arith

one_between : (rng : ChaCha) → numbers_between rng (after_draw rng) ≡ 1
unfolding after_draw
one_between rng = omega arith

counts : (c : Client) (count n : ℕ) (core : Protocol) → n ≤ 2 → count ≡ c.transmitted + n → numbers_between c.core.rng core.rng ≡ n → IsCounted c count core
counts c count n core few more is = record { counted = omega (arith, more, is); few = omega (arith, few, is) }

-- None was given.
pub counts_none : (c : Client) (core : Protocol) → core.rng ≡ c.core.rng → IsCounted c c.transmitted core
counts_none c core same = counts c c.transmitted 0 core (omega arith) (omega arith) (ap (λ (r : ChaCha). numbers_between c.core.rng r) same ∙ none_between c.core.rng)

-- One was given.
pub counts_one : (c : Client) (core : Protocol) → core.rng ≡ after_draw c.core.rng → IsCounted c (c.transmitted + 1) core
counts_one c core same = counts c (c.transmitted + 1) 1 core (omega arith) (omega arith) (ap (λ (r : ChaCha). numbers_between c.core.rng r) same ∙ one_between c.core.rng)

-- These requests were made, this is the count of transaction IDs, and nothing is gained. A newly stored realm
-- came in a received challenge.
pub record IsPlain (started : List run.Message) (came : List (List ℕ)) (generated : Option (List ℕ)) (answered : List run.Notice) (c : Client) (count : ℕ) (core : Protocol) : Type 0 where
  pub requests : (m : run.Message) → IsIn m started → (m.class ≡ Request) × (m.method ≢ connection_attempt_method)
  pub counts : IsCounted c count core
  pub realms : TakesRealm came c.core core
  pub numbered : AreNumbered client_words c [] c.transmitted count started
  pub adds : Adds started (parts_of c.core) (parts_of core)
  pub draws : (bytes : List ℕ) (m : run.Message) → generated ≡ Some bytes → stun_wire.visible bytes ≡ Some m → MayDraw client_words c started m
  pub reported : answered ++ notices core.events ≡ notices c.core.events

plain_step : (started : List run.Message) (came : List (List ℕ)) (generated : Option (List ℕ)) (answered : List run.Notice) (c : Client) (count : ℕ) (core : Protocol) → IsPlain started came generated answered c count core
    → ClientStep client_words (call_of c came generated answered (moved c count core))
plain_step started came generated answered c count core is = record {
  account = refl;
  seed = refl;
  accepts = λ a. a;
  realms = is.realms;
  counted = is.counts.counted;
  few = is.counts.few;
  started = started;
  requests = is.requests;
  numbered = is.numbered;
  outstanding = is.adds.outstanding;
  queued = is.adds.queued;
  taken = λ n h. elim (is.adds.taken n h) [ inl was ↦ inl was | inr now ↦ inr (inl (now.one, now.listed, now.is)) ];
  draws = is.draws;
  handles = λ bytes h. inl h;
  buffers = λ bytes h. inr h;
  gained = [];
  gains = λ h k. inl (is.adds.stored h k);
  answers = λ t h. absurd h;
  once = tt;
  spent = λ t m h. absurd h;
  known = λ t h. absurd h;
  is_of = λ t h. absurd h;
  decodes = is.reported ∙ nothing_after (notices c.core.events);
  shows = λ h k. held_is_stored core.allocations h k;
  visible = λ h i. absurd i;
  waits = λ n peer h. inl (is.adds.waits n peer h);
  attempted = λ n h. inl (is.adds.attempted n h);
  delivers = λ p h. absurd h;
  names = λ p h. absurd h;
}

pub run_step : (started : List run.Message) (came : List (List ℕ)) (generated : Option (List ℕ)) (answered : List run.Notice) (c : Client) (count : ℕ) (core : Protocol) → IsPlain started came generated answered c count core
    → IsOrderly (parts_of core) → UntilEnded core.phase (CanAsk (moved c count core)) → IsRunStep c came generated answered core
run_step started came generated answered c count core plain orderly can_ask = record {
  after = moved c count core;
  core_is = refl;
  waits = refl;
  step = plain_step started came generated answered c count core plain;
  sound = record { orderly = orderly; can_ask = can_ask };
}

-- ---- nothing is requested

pub nothing_transmitted : (started : List run.Message) (c : Client) (bytes : List ℕ) (m : run.Message) → None ≡ Some bytes → stun_wire.visible bytes ≡ Some m → MayDraw client_words c started m
nothing_transmitted started c bytes m h shows = absurd (Prim.cc h)

growing : (c : Client) (count : ℕ) (core : Protocol) → IsCounted c count core → c.transmitted ≤ count
growing c count core is = omega (arith, is.counted)

pub quiet : {came : List (List ℕ)} (generated : Option (List ℕ)) (answered : List run.Notice) (c : Client) (count : ℕ) (core : Protocol) → IsCounted c count core → TakesRealm came c.core core → Adds [] (parts_of c.core) (parts_of core)
    → ((bytes : List ℕ) (m : run.Message) → generated ≡ Some bytes → stun_wire.visible bytes ≡ Some m → MayDraw client_words c [] m)
    → answered ++ notices core.events ≡ notices c.core.events → IsPlain [] came generated answered c count core
quiet generated answered c count core more realms adds draws reported = record {
  requests = λ m h. absurd h;
  counts = more;
  realms = realms;
  numbered = growing c count core more;
  adds = adds;
  draws = draws;
  reported = reported;
}
