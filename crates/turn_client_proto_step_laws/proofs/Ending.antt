-- Calls by which a client ends, and those that report what happened.
use Rattle.std.proofs.Common.{◌≡◌, ℕ, ◌+◌, ◌≤◌, List, [], ◌++◌, length, map, Option, Some, None, refl, sym, ap, ◌∙◌, subst, inl, inr}
use Rattle.std.specs.FinMap as finite
use Rattle.std.specs.Ordering.{nat_cmp}
use Rattle.std.specs.Prelude.{option_to_list}
use Rattle.turn_client_proto_timers.specs.StunTypesBase.declared.family.AddressFamily.{AddressFamily}
use Rattle.turn_client_proto_timers.specs.StunProtoTransaction.Agents.{Transaction}
use Rattle.turn_client_proto_recv.specs.StunProtoClient.Client as signers
use Rattle.turn_client_proto_timers.proofs.StunProtoAgent.Numbers.{fresh_shows}
use Rattle.turn_client_proto_timers.specs.TurnRuns.Members.{IsIn}
use Rattle.turn_client_proto_timers.specs.Api.declared.event.TurnEvent.{TurnEvent}
use Rattle.turn_client_proto_timers.specs.Api.declared.event.TurnEvent.TheVariants.{AllocationCreateFailed}
use Rattle.turn_client_proto_timers.specs.Messages.ShortTexts.{HasShortTexts}
use Rattle.turn_client_proto_timers.specs.Core.Authenticating.{numbers_sent}
use Rattle.turn_client_proto_timers.specs.Core.Ending.{HasFailed, ended}
use Rattle.turn_client_proto_timers.specs.Messages.Waiting.{Queued}
use Rattle.turn_client_proto_timers.specs.Core.declared.protocol.Phase.{Phase}
use Rattle.turn_client_proto_timers.specs.Core.declared.protocol.Phase.TheVariants.{Ended}
use Rattle.turn_client_proto_timers.specs.Core.declared.protocol.Protocol.{Protocol}
use Rattle.turn_client_proto_step_laws.specs.ClientWords.{IsAttempted, IsWaiting, IsAnswered, IsTaken, Outstanding, Allocating, Pending}
use Rattle.turn_client_proto_step_laws.specs.Held.{Allocation}
use Rattle.turn_client_proto_step_laws.specs.RunClient.{Client, moved, parts_of}
use Rattle.turn_client_proto_step_laws.specs.RunSteps.{IsRunStep}
use Rattle.turn_client_proto_step_laws.specs.Sound.{AreAllocates, BeforeAllocated, CanAsk, IsOrderly, IsSound, UntilEnded, stream_from}
use Rattle.turn_client_proto_step_laws.proofs.Adding.{Adds, adds_both, adds_none, phase_moved}
use Rattle.turn_client_proto_timers.specs.Peers.Channel.Numbers.{AreDistinct}
use Rattle.turn_client_proto_step_laws.proofs.Lessening.{none_distinct}
use Rattle.turn_client_proto_step_laws.proofs.Orderly.{phase_orderly, until_map}
use Rattle.turn_client_proto_step_laws.proofs.Plain.{IsCounted, counts_none, counts_one, failures_report_nothing, joined, none_decoded, nothing_transmitted, notices, quiet, run_step}
use Rattle.turn_client_proto_step_laws.proofs.Realms.{ended_realm}

-- ---- nothing changes that a run says of

-- What a client needs to make requests stays.
pub still_can : (c : Client) (core : Protocol) → core.auth ≡ c.core.auth → core.families ≡ c.core.families → core.attempt_indications ≡ c.core.attempt_indications → core.rng ≡ c.core.rng → CanAsk c → CanAsk (moved c c.transmitted core)
still_can c core same_auth same_families same_offers same_rng can = record {
  account = ap (λ (a : signers.Client). a.account) same_auth ∙ can.account;
  settled = ap (λ (a : signers.Client). a.next_account) same_auth ∙ can.settled;
  texts = subst HasShortTexts (sym same_auth) can.texts;
  settings = (subst (λ (l : List AddressFamily). length l ≤ 2) (sym same_families) can.settings.0, same_offers ∙ can.settings.1);
  words = ap stream_from same_rng ∙ can.words;
}

pub still : (c : Client) (came : List (List ℕ)) (new : Protocol) → IsSound c → new ≡ c.core → IsRunStep c came None [] new
still c came new sound is =
    subst (λ (p : Protocol). IsRunStep c came None [] p) (sym is)
    (run_step [] came None [] c c.transmitted c.core
    (quiet None [] c c.transmitted c.core (counts_none c c.core refl) (λ realm is. inl is) (adds_none [] (parts_of c.core)) (nothing_transmitted [] c) refl)
    sound.orderly (until_map c.core.phase (still_can c c.core refl refl refl refl) sound.can_ask))

-- ---- an end

pub ends : (c : Client) (came : List (List ℕ)) (mid : Protocol) → Adds [] (parts_of c.core) (parts_of mid) → IsOrderly (parts_of mid) → notices mid.events ≡ notices c.core.events → mid.rng ≡ c.core.rng
    → IsRunStep c came None [] (ended mid)
unfolding ended
ends c came mid adds orderly reported same =
    let over = phase_moved [] (parts_of mid) Ended (λ n h. absurd h) in
    run_step [] came None [] c c.transmitted _
    (quiet None [] c c.transmitted _ (counts_none c (ended mid) same) (ended_realm came c.core (ended mid) refl) (adds_both [] (parts_of c.core) (parts_of mid) _ adds over) (nothing_transmitted [] c)
    (none_decoded mid.events (map AllocationCreateFailed mid.families) (failures_report_nothing mid.families) ∙ reported))
    (phase_orderly (parts_of mid) Ended tt orderly) tt

pub ended_step : (c : Client) → IsSound c → IsRunStep c [] None [] (ended c.core)
ended_step c sound = ends c [] c.core (adds_none [] (parts_of c.core)) sound.orderly refl refl

-- ---- memory was refused

module _ (c : Client) (new : Protocol) (is : HasFailed c.core new) where
  none_there : {A : Type 0} (n : ℕ) (t : Transaction) → finite.get new.agent.outstanding n ≡ Some t → A
  none_there n t there = absurd (Prim.cc (sym (finite.get-empty nat_cmp n) ∙ sym (ap (λ (m : finite.FinMap nat_cmp Transaction). finite.get m n) is.none_outstanding) ∙ there))

  none_listed : {A : Type 0} (a : Allocation) → IsIn a new.allocations → A
  none_listed a listed = absurd (subst (λ (l : List Allocation). IsIn a l) is.none_allocated listed)

  none_queued : {A : Type 0} (q : Queued) → IsIn q new.queue → A
  none_queued q listed = absurd (subst (λ (l : List Queued). IsIn q l) is.none_queued listed)

  none_sent : {A : Type 0} (n : ℕ) → IsIn n (numbers_sent new.phase) → A
  none_sent n listed = absurd (subst (λ (f : Phase). IsIn n (numbers_sent f)) is.phase listed)

  failed_taken : (n : ℕ) → IsTaken (parts_of new) n → IsTaken (parts_of c.core) n
  failed_taken n (Outstanding t there) = none_there n t there
  failed_taken n (Allocating listed) = none_sent n listed
  failed_taken n (Pending a listed pending) = none_listed a listed

  failed_attempted : (n : ℕ) → IsAttempted new.allocations new.queue n → IsAttempted c.core.allocations c.core.queue n
  failed_attempted n (IsWaiting a listed w has number) = none_listed a listed
  failed_attempted n (IsAnswered q listed response number) = none_queued q listed

  failed_adds : Adds [] (parts_of c.core) (parts_of new)
  failed_adds = record {
    outstanding = λ m h. none_there h.number h.transaction h.there;
    queued = λ m h. none_queued h.queued h.listed;
    taken = λ n h. inl (failed_taken n h);
    stored = λ h k. none_listed k.allocation k.listed;
    waits = λ n peer h. none_listed h.allocation h.listed;
    attempted = failed_attempted;
  }

  failed_orderly : IsOrderly (parts_of new)
  failed_orderly = record {
    numbers = fresh_shows new.agent is.none_outstanding;
    messages = λ n t there. none_there n t there;
    allocates = subst (λ (f : Phase). BeforeAllocated f (AreAllocates new.allocates new.agent)) (sym is.phase) tt;
    queued = λ q h. none_queued q h;
    lifetimes = λ a h. none_listed a h;
    permissions = λ a h. none_listed a h;
    channels = λ a h. none_listed a h;
    peers = λ a h. none_listed a h;
    connects = λ a h. none_listed a h;
    distinct = subst AreDistinct (sym is.none_allocated) none_distinct;
  }

  failed_at : (came : List (List ℕ)) (count : ℕ) → IsCounted c count new → IsRunStep c came None [] new
  failed_at came count counts =
      run_step [] came None [] c count new
      (quiet None [] c count new counts (ended_realm came c.core new is.phase) failed_adds (nothing_transmitted [] c) (ap notices is.events))
      failed_orderly (subst (λ (f : Phase). UntilEnded f (CanAsk (moved c count new))) (sym is.phase) tt)

  pub failed_step : (came : List (List ℕ)) → IsRunStep c came None [] new
  failed_step came = elim is.drew [
    | inl none ↦ failed_at came c.transmitted (counts_none c new none)
    | inr one ↦ failed_at came (c.transmitted + 1) (counts_one c new one)
  ]

-- ---- an event is reported

pub event_step : (c : Client) (event : Option TurnEvent) (new : Protocol) → IsSound c → c.core.events ≡ option_to_list event ++ new.events → new ≡ record c.core { events = new.events }
    → IsRunStep c [] None (notices (option_to_list event)) new
event_step c event new sound reported others = by new.events reported others
  where
    by : (events : List TurnEvent) → c.core.events ≡ option_to_list event ++ events → new ≡ record c.core { events = events } → IsRunStep c [] None (notices (option_to_list event)) new
    by events before is =
        let left : Protocol = record c.core { events = events } in
        subst (λ (p : Protocol). IsRunStep c [] None (notices (option_to_list event)) p) (sym is)
        (run_step [] [] None (notices (option_to_list event)) c c.transmitted left
        (quiet None (notices (option_to_list event)) c c.transmitted left (counts_none c left refl) (λ realm is. inl is) (adds_none [] (parts_of c.core)) (nothing_transmitted [] c)
        (sym (joined (option_to_list event) events) ∙ ap notices (sym before)))
        sound.orderly (until_map c.core.phase (still_can c left refl refl refl refl) sound.can_ask))
