-- What a client stores at any step of an unforged run was granted before, in an allocation that is marked as expired too.
use Rattle.std.proofs.Common.{ℕ, ◌≤◌, List, [], ◌∷◌, refl, sym, subst, arith, inl, inr}
use Rattle.turn_client_proto_messages.specs.TurnRuns.Headline.{Traced}
use Rattle.turn_client_proto_messages.specs.TurnRuns.Messages.{Held}
use Rattle.turn_client_proto_messages.specs.TurnRuns.Runs.{AreDistinct, AtClient, AtDesk, AtEach, AtSome, IsAuthentic, IsLawful, IsNew, IsRealmOf, Leads, NamesRealm, NoForgery, Step}
use Rattle.turn_client_proto_messages.specs.TurnRuns.Steps.{ClientStep}
use Rattle.turn_client_proto_messages.specs.TurnRuns.Words.{WireLaws, Words}
use Rattle.turn_desk_step_laws.proofs.TurnRunsLaws.Keeps.{Stored, keeps_call, traced_later, waited_later, with_later}
use Rattle.turn_desk_step_laws.proofs.TurnRunsLaws.Numbers.{numbered_growing}

module _ {C D : Type 0} (W : Words C D) (laws : WireLaws W.wire) (first last : C) (whole : List (Step C D)) (distinct : AreDistinct W (W.client.seed first) (W.client.count last)) where
  abbrev StoredBy : List (Step C D) → C → Type 0
  StoredBy run c = Stored W first (W.client.count last) whole run c

  at_desk : (earlier : List (Step C D)) (d : D) (c : C) → StoredBy earlier c → StoredBy (AtDesk d ∷ earlier) c
  at_desk earlier d c stored = record {
    account = stored.account;
    seed = stored.seed;
    all = stored.all;
    numbered = stored.numbered;
    unique = stored.unique;
    requests = stored.requests;
    outstanding = stored.outstanding;
    queued = stored.queued;
    taken = stored.taken;
    attempted = stored.attempted;
    drew = (tt, stored.drew);
    stored = λ h k. traced_later W laws (AtDesk d) earlier h (stored.stored h k);
    accepts = stored.accepts;
    waits = λ number peer w. waited_later W laws (AtDesk d) earlier number peer (stored.waits number peer w);
    realm = stored.realm;
    buffered_realm = stored.buffered_realm;
    buffered = λ bytes key text a m b own valid shows for_it. inr (stored.buffered bytes key text a m b own valid shows for_it);
    pending = stored.pending;
    pending_is = stored.pending_is;
    pending_traced = λ t i. with_later W laws (AtDesk d) earlier t (stored.pending_traced t i);
    pending_of = stored.pending_of;
    pending_once = stored.pending_once;
    reported = stored.reported;
    reported_is = stored.reported_is;
    reported_once = stored.reported_once;
    apart = stored.apart;
    gone = stored.gone;
  }

  -- Nothing is stored by a new client.
  at_first : IsNew W first → StoredBy [] first
  at_first new = record {
    account = refl;
    seed = refl;
    all = [];
    numbered = λ m i. absurd i;
    unique = λ a b i j e. absurd i;
    requests = λ m i. absurd i;
    outstanding = λ m o. absurd (new.none_outstanding m o);
    queued = λ m o. absurd (new.none_queued m o);
    taken = λ n t. absurd (new.none_taken n t);
    attempted = new.none_attempted;
    drew = tt;
    stored = λ h k. absurd (new.none_stored h k);
    accepts = λ a. a;
    waits = λ number peer w. absurd (new.none_waits number peer w);
    realm = λ r is. inl is;
    buffered_realm = λ bytes r b reported. absurd (new.none_buffered bytes b);
    buffered = λ bytes key text a m b own valid shows for_it. absurd (new.none_buffered bytes b);
    pending = [];
    pending_is = sym new.none_created;
    pending_traced = λ t i. absurd i;
    pending_of = λ t i. absurd i;
    pending_once = tt;
    reported = [];
    reported_is = refl;
    reported_once = tt;
    apart = λ t u i j e. i;
    gone = λ t i. elim i [
      | inl p ↦ absurd p
      | inr q ↦ absurd q
    ];
  }

  -- For the older part of the whole run, whose steps name only realms that count.
  pub stored_from : IsNew W first → (run : List (Step C D)) (c : C) → Leads first run c → AtEach (λ s _. IsLawful W s) run → AtEach (IsAuthentic W first (W.client.count last) whole) run
      → ((r : List ℕ) → AtSome (λ s _. NamesRealm W r s) run → IsRealmOf W first whole r) → W.client.count c ≤ W.client.count last → Stored W first (W.client.count last) whole run c
  stored_from new [] c leads lawful authentic named fits = subst (λ (x : C). StoredBy [] x) (sym leads) (at_first new)
  stored_from new (AtDesk d ∷ earlier) c leads lawful authentic named fits =
      at_desk earlier d c (stored_from new earlier c leads lawful.1 authentic.1 (λ r n. named r (inr n)) fits)
  stored_from new (AtClient call ∷ earlier) c leads lawful authentic named fits =
      let step : ClientStep W.client call = lawful.0 in
      let there : W.client.count call.after ≤ W.client.count last = subst (λ (x : C). W.client.count x ≤ W.client.count last) leads.0 fits in
      let grows = numbered_growing W.client call.before (W.client.count call.before) (W.client.count call.after) [] step.started step.numbered in
      let before = stored_from new earlier call.before leads.1 lawful.1 authentic.1 (λ r n. named r (inr n)) (omega (arith, grows, there)) in
      let here : (r : List ℕ) → NamesRealm W r (AtClient call) → IsRealmOf W first whole r = λ r n. named r (inl n) in
      subst (λ (x : C). StoredBy (AtClient call ∷ earlier) x) (sym leads.0) (keeps_call W laws first (W.client.count last) distinct whole earlier call here before step lawful.1 authentic.1 authentic.0 there)

-- What the client stores at the end was granted in the run.
pub stored_traced : {C D : Type 0} (W : Words C D) → WireLaws W.wire → (first : C) (run : List (Step C D)) (last : C) → IsNew W first → Leads first run last → AtEach (λ s _. IsLawful W s) run
    → NoForgery W first (W.client.count last) run → AreDistinct W (W.client.seed first) (W.client.count last) → (h : Held) → W.client.IsStored last h → Traced W run h
stored_traced W laws first run last new leads lawful authentic distinct h is =
    (stored_from W laws first last run distinct new run last leads lawful authentic (λ r n. inr n) (omega arith)).stored h is
