-- A success response to an ALLOCATE is a step of a run: the addresses that it brings are gained.
use Rattle.std.proofs.Common.{◌≡◌, ℕ, true, List, [], ◌∷◌, ◌++◌, map, Option, Some, None, refl, sym, ap, ◌∙◌, subst, arith, inl, inr}
use Rattle.std.specs.FinMap as finite
use Rattle.std.specs.List.{filter}
use Rattle.std.specs.Prelude.{is_some}
use Rattle.std.specs.declared.net.socket_addr.SocketAddr.{SocketAddr}
use Rattle.turn_client_proto_timers.specs.StunTypesWire.Attributes.{kind_at}
use Rattle.turn_client_proto_timers.specs.StunTypesWire.Grammar.{number_at, refusal}
use Rattle.turn_client_proto_timers.specs.StunTypesWire.declared.class.MessageClass.TheVariants.{Success}
use Rattle.turn_client_proto_timers.specs.StunTypesWire.Types.{class_of}
use Rattle.turn_client_proto_timers.specs.StunTypesBase.declared.transport.TransportType.{TransportType}
use Rattle.turn_client_proto_timers.specs.StunProtoTransaction.Agents.{Transaction}
use Rattle.turn_client_proto_recv.specs.StunProtoClient.Client as signers
use Rattle.turn_client_proto_timers.specs.StunProtoAgent.Handling.{after_message, ends_one, is_awaited}
use Rattle.turn_client_proto_timers.specs.StunProtoAgent.Numbers.{IsWithout, ShowsNumbers}
use Rattle.turn_client_proto_timers.specs.StunProtoAgent.State.{Agent}
use Rattle.turn_client_proto_timers.proofs.StunProtoAgent.Numbers.{answered_without, handled_new, still_shows}
use Rattle.turn_client_proto_recv.specs.TurnTypesAttributes.TurnRegistry.{allocate_method}
use Rattle.turn_client_proto_timers.specs.TurnRuns.Members.{IsIn}
use Rattle.turn_client_proto_timers.specs.TurnRuns.Messages as run
use Rattle.turn_client_proto_timers.specs.TurnRuns.Steps.{ClientStep, IsAnswered, Reported, WasKnown}
use Rattle.turn_client_proto_timers.specs.TurnRuns.StunWire.{decoded_by}
use Rattle.turn_client_proto_timers.specs.Api.declared.event.TurnEvent.TheVariants.{AllocationCreateFailed}
use Rattle.turn_client_proto_timers.specs.Messages.Granting.{are_of_one_family, families_without, first_of_each, is_wanted}
use Rattle.turn_client_proto_timers.specs.Messages.Reporting.{created}
use Rattle.turn_client_proto_timers.specs.Messages.Reported.{relayed_reported}
use Rattle.turn_client_proto_timers.specs.Core.Allocating.{allocated, brought, phase_by}
use Rattle.turn_client_proto_timers.specs.Core.Authenticating.{numbers_sent}
use Rattle.turn_client_proto_timers.specs.Core.Responding.{accepted, judged}
use Rattle.turn_client_proto_timers.specs.Core.declared.protocol.Phase.{Phase}
use Rattle.turn_client_proto_timers.specs.Core.declared.protocol.Protocol.{Protocol}
use Rattle.turn_client_proto_step_laws.specs.Adding.{IsSignedFor}
use Rattle.turn_client_proto_step_laws.specs.ClientWords.{IsTaken, Outstanding, Allocating, Pending, client_words}
use Rattle.turn_client_proto_step_laws.specs.Held.{Allocation}
use Rattle.turn_client_proto_step_laws.specs.RunClient.{Client, moved, parts_of}
use Rattle.turn_client_proto_step_laws.specs.RunSteps.{IsRunStep, call_of}
use Rattle.turn_client_proto_step_laws.specs.Sound.{AreAllocates, IsOrderly}
use Rattle.turn_client_proto_step_laws.proofs.Agents.{has_other, message_listed, outstanding_before}
use Rattle.turn_client_proto_step_laws.proofs.Asking.{IsUnderWay}
use Rattle.turn_client_proto_step_laws.proofs.Lists.{in_filter, in_map}
use Rattle.turn_client_proto_step_laws.proofs.Firsts.{in_firsts}
use Rattle.turn_client_proto_step_laws.proofs.Gaining.{anything, fresh, fresh_distinct, stored_gained, none_requested, none_attempted, none_bound, none_connects, none_peers, none_pending, none_sent, none_short, none_twice, none_waits, relayed_listed, reported_created, reported_of}
use Rattle.turn_client_proto_step_laws.proofs.Orderly.{until_all}
use Rattle.turn_client_proto_step_laws.proofs.Plain.{counts_none, failures_report_nothing, held_is_stored, joined, none_decoded, notices}
use Rattle.turn_client_proto_step_laws.proofs.Realms.{IsGoing, TakesRealm, realm_going, realm_stored}
use Rattle.turn_client_proto_step_laws.proofs.Signed.{signed_arrives}

-- ---- the request

-- The request with this transaction ID is an ALLOCATE for the client's transport.
pub record IsAllocateSent (c : Client) (number : ℕ) : Type 0 where
  pub transaction : Transaction
  pub there : finite.get c.core.agent.outstanding number ≡ Some transaction
  pub method : (decoded_by transaction.bytes).method ≡ allocate_method
  pub transport : (decoded_by transaction.bytes).transport ≡ Some c.core.allocates

sent_by : (c : Client) (number : ℕ) (found : Option Transaction) → AreAllocates c.core.allocates c.core.agent → finite.get c.core.agent.outstanding number ≡ found → is_some found ≡ true → IsAllocateSent c number
sent_by c number None are there h = absurd (Prim.cc h)
sent_by c number (Some t) are there h = record { transaction = t; there = there; method = (are number t there).0; transport = (are number t there).1 }

pub allocate_sent : (c : Client) (bytes : List ℕ) → AreAllocates c.core.allocates c.core.agent → is_awaited c.core.agent bytes ≡ true → IsAllocateSent c (number_at bytes)
allocate_sent c bytes are h = sent_by c (number_at bytes) (finite.get c.core.agent.outstanding (number_at bytes)) are refl h

-- ---- the step

module _ (c : Client) (signer : signers.Client) (bytes : List ℕ) (lifetime now : ℕ) (message : refusal bytes ≡ None) (success : class_of (kind_at bytes) ≡ Success) (ends : ends_one c.core.agent bytes ≡ true)
    (own : IsSignedFor c bytes) (sent : IsAllocateSent c (number_at bytes)) (orderly : IsOrderly (parts_of c.core)) (going : IsGoing c.core.phase)
    (under_way : IsUnderWay c (bytes ∷ []) (accepted bytes (judged signer c.core))) where
  abbrev number : ℕ
  number = number_at bytes

  abbrev transport : TransportType
  transport = c.core.allocates

  -- The addresses that the client accepts.
  abbrev all : List SocketAddr
  all = first_of_each are_of_one_family (filter (is_wanted c.core.families) (relayed_reported bytes))

  abbrev gained : List Reported
  gained = map (reported_of transport number) all

  abbrev agent : Agent
  agent = after_message c.core.agent bytes c.core.server

  abbrev core : Protocol
  core = allocated (brought (accepted bytes (judged signer c.core)) bytes lifetime now) (accepted bytes (judged signer c.core))

  without : IsWithout c.core.agent number agent
  without = answered_without c.core.agent bytes c.core.server ends

  shows_numbers : ShowsNumbers agent
  shows_numbers = still_shows c.core.agent agent (handled_new c.core.agent bytes c.core.server) orderly.numbers

  -- Each gained item is one of the addresses.
  by_address : (P : Reported → Type 0) → ((x : SocketAddr) → IsIn x all → P (reported_of transport number x)) → (t : Reported) → IsIn t gained → P t
  by_address P f t listed =
      let image = in_map (reported_of transport number) t all listed in
      subst P (sym image.is) (f image.source image.listed)

  taken : (phase : Phase) → phase ≡ phase_by (map (fresh transport number lifetime now) all) → (n : ℕ)
      → IsTaken (record { agent = agent; phase = phase; allocates = transport; allocations = map (fresh transport number lifetime now) all; queue = c.core.queue }) n → IsTaken (parts_of c.core) n
  taken phase is n (Outstanding t there) = let was = handled_new c.core.agent bytes c.core.server n t there in Outstanding was.before was.there
  taken phase is n (Allocating listed) = none_sent n (map (fresh transport number lifetime now) all) (subst (λ (f : Phase). IsIn n (numbers_sent f)) is listed)
  taken phase is n (Pending a listed pending) = none_pending transport number lifetime now all n a listed pending

  answers : (t : Reported) → IsIn t gained → IsAnswered client_words (call_of c (bytes ∷ []) None [] (moved c c.transmitted core)) [] (run.Holds t.held) t.number
  answers = by_address (λ (t : Reported). IsAnswered client_words (call_of c (bytes ∷ []) None [] (moved c c.transmitted core)) [] (run.Holds t.held) t.number) (λ x listed. record {
    bytes = bytes;
    response = decoded_by bytes;
    arrives = signed_arrives c bytes (moved c c.transmitted core) message own;
    number_is = refl;
    request = decoded_by sent.transaction.bytes;
    waited = inl (record { number = number; transaction = sent.transaction; there = sent.there; shows = message_listed sent.transaction.bytes (orderly.messages number sent.transaction sent.there) });
    request_is = orderly.numbers number sent.transaction sent.there;
    asks = (sent.method, sent.transport);
    brings = (success, relayed_listed bytes x (in_filter (is_wanted c.core.families) x (relayed_reported bytes) (in_firsts are_of_one_family x (filter (is_wanted c.core.families) (relayed_reported bytes)) listed)).0);
  })

  -- One event for each gained item is queued.
  reported : notices core.events ≡ notices c.core.events ++ map (λ (t : Reported). t.notice) gained
  unfolding allocated accepted
  reported =
      let allocations : List Allocation = map (fresh transport number lifetime now) all in
      none_decoded (c.core.events ++ map created allocations) (map AllocationCreateFailed (families_without c.core.families allocations)) (failures_report_nothing (families_without c.core.families allocations))
      ∙ joined c.core.events (map created allocations)
      ∙ ap (λ (l : List run.Notice). notices c.core.events ++ l) (reported_created transport number lifetime now all)

  -- The client has not ended, neither before nor afterwards.
  realms : TakesRealm (bytes ∷ []) c.core core
  unfolding allocated accepted
  realms realm is =
      under_way.realms realm (realm_going c.core.phase signer.challenge realm going (realm_stored (phase_by (map (fresh transport number lifetime now) all)) signer.challenge realm is))

  step : ClientStep client_words (call_of c (bytes ∷ []) None [] (moved c c.transmitted core))
  unfolding allocated accepted
  step = record {
    account = refl;
    seed = refl;
    accepts = λ a. a;
    realms = realms;
    counted = (counts_none c core refl).counted;
    few = (counts_none c core refl).few;
    started = [];
    requests = λ m h. absurd h;
    numbered = omega arith;
    outstanding = λ m h. inl (outstanding_before c.core.agent agent (handled_new c.core.agent bytes c.core.server) m h);
    queued = λ m h. inl h;
    taken = λ n h. inl (taken (phase_by (map (fresh transport number lifetime now) all)) refl n h);
    draws = λ generated m h shows. absurd (Prim.cc h);
    handles = λ x h. inl h;
    buffers = λ x h. inr h;
    gained = gained;
    gains = λ h k. inr (stored_gained transport number lifetime now all h k);
    answers = answers;
    once = none_twice transport number (filter (is_wanted c.core.families) (relayed_reported bytes));
    spent = λ t m listed h same. absurd (has_other c.core.agent agent number m shows_numbers without h (same ∙ by_address (λ (x : Reported). x.number ≡ number) (λ x there. refl) t listed));
    known = by_address (λ (t : Reported). WasKnown client_words c t.held) (λ x listed. tt);
    is_of = by_address (λ (t : Reported). run.IsOf t.notice t.held) (λ x listed. refl);
    decodes = reported;
    shows = λ h k. held_is_stored core.allocations h k;
    visible = λ h i. absurd i;
    waits = λ n peer w. none_waits transport number lifetime now all n peer w;
    attempted = λ n h. inl (none_attempted transport number lifetime now all c.core.allocations c.core.queue n h);
    delivers = λ p h. absurd h;
    names = λ p h. absurd h;
  }

  pub allocated_step : IsRunStep c (bytes ∷ []) None [] core
  unfolding allocated accepted
  allocated_step = record {
    after = moved c c.transmitted core;
    core_is = refl;
    waits = refl;
    step = step;
    sound = record {
      orderly = record {
        numbers = shows_numbers;
        messages = under_way.orderly.messages;
        allocates = anything _ (map (fresh transport number lifetime now) all);
        queued = orderly.queued;
        lifetimes = λ a listed. none_short transport number lifetime now all a listed;
        permissions = λ a listed. none_requested transport number lifetime now all agent a listed;
        channels = λ a listed. none_bound transport number lifetime now all agent a listed;
        peers = λ a listed. none_peers transport number lifetime now all a listed;
        connects = λ a listed. none_connects transport number lifetime now all agent a listed;
        distinct = fresh_distinct transport number lifetime now all;
      };
      can_ask = until_all (phase_by (map (fresh transport number lifetime now) all)) (record {
        account = under_way.can_ask.account;
        settled = under_way.can_ask.settled;
        texts = under_way.can_ask.texts;
        settings = under_way.can_ask.settings;
        words = under_way.can_ask.words;
      });
    };
  }
