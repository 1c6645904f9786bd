-- Whatever the network does, each step of a run is safe, and nothing is reported twice.
use Rattle.std.proofs.Common.{◌∙◌, ap, inl, inr, ℕ, ◌≤◌, List, [], ◌∷◌, refl, sym, subst, arith}
use Rattle.turn_runs.specs.Words.{Words, WireLaws}
use Rattle.turn_runs.specs.Steps.{Call, ClientStep, DeskStep}
use Rattle.turn_runs.specs.Runs.{Step, AtClient, AtDesk, AtEach, AtSome, Leads, IsLawful, IsSignedByClient, IsSignedByDesk, IsSigned, AreDistinct, IsAuthentic, IsCounted, IsRealmOf, NamesRealm, NoForgery, IsNew, IsUnforged}
use Rattle.turn_runs.specs.Headline.{IsSafe, AnswersOnce, IsPromised, ShowsTraced}
use Rattle.turn_runs_laws.proofs.Tools.{both_at, some_weaker, from_some}
use Rattle.turn_runs_laws.proofs.Numbers.{numbered_growing}
use Rattle.turn_runs_laws.proofs.Keeps.{Stored, DrewWell, not_own, by_desk, past_of, request_transmitted, traced_later, waited_later, with_later, handled_signed, keeps_call}

module _ {C D : Type 0} (W : Words C D) (laws : WireLaws W.wire) (first last : C) (whole : List (Step C D)) (distinct : AreDistinct W (W.client.seed first) (W.client.count last)) where
  keeps_desk : (earlier : List (Step C D)) (d : D) (c : C) → Stored W first (W.client.count last) whole earlier c → Stored W first (W.client.count last) whole (AtDesk d ∷ earlier) c
  keeps_desk earlier d c stored = record {
    account = stored.account;
    seed = stored.seed;
    all = stored.all;
    numbered = stored.numbered;
    unique = stored.unique;
    requests = stored.requests;
    outstanding = stored.outstanding;
    queued = stored.queued;
    taken = stored.taken;
    attempted = stored.attempted;
    drew = (tt, stored.drew);
    stored = λ h k. traced_later W laws (AtDesk d) earlier h (stored.stored h k);
    accepts = stored.accepts;
    waits = λ number peer w. waited_later W laws (AtDesk d) earlier number peer (stored.waits number peer w);
    realm = stored.realm;
    buffered_realm = stored.buffered_realm;
    buffered = λ bytes key text a m b own valid shows for_it. inr (stored.buffered bytes key text a m b own valid shows for_it);
    pending = stored.pending;
    pending_is = stored.pending_is;
    pending_traced = λ t i. with_later W laws (AtDesk d) earlier t (stored.pending_traced t i);
    pending_of = stored.pending_of;
    pending_once = stored.pending_once;
    reported = stored.reported;
    reported_is = stored.reported_is;
    reported_once = stored.reported_once;
    apart = stored.apart;
    gone = stored.gone;
  }

  safe_desk : (earlier : List (Step C D)) (d : D) (c : C) → Stored W first (W.client.count last) whole earlier c → DeskStep W.wire W.desk d →
      AtEach (λ s _. IsLawful W s) earlier → AtEach (IsAuthentic W first (W.client.count last) whole) earlier → IsAuthentic W first (W.client.count last) whole (AtDesk d) earlier →
      IsSafe W first last whole (AtDesk d) earlier
  safe_desk earlier d c stored step lawful no_forgery authentic = record {
    desks = tt;
    realms = tt;
    offers = tt;
    clients = λ key b m own validated shows is has.
        let v = step.validates key b validated in (
          v.0,
          v.1,
          some_weaker _ (λ one _. IsSignedByClient W key b v.0 one) (λ one _ h. h.0) earlier
              (request_transmitted W laws first (W.client.count last) whole stored.all d earlier key v.0 b m authentic
              (past_of W laws first (W.client.count last) whole stored.all earlier no_forgery stored.drew lawful) own v.1 shows is has),
        );
    reflects = tt;
    holds = tt;
    names = tt;
  }

  safe_call : (earlier : List (Step C D)) (call : Call C) → ((r : List ℕ) → NamesRealm W r (AtClient call) → IsRealmOf W first whole r) → Stored W first (W.client.count last) whole earlier call.before → (step : ClientStep W.client call) →
      AtEach (λ s _. IsLawful W s) earlier → AtEach (IsAuthentic W first (W.client.count last) whole) earlier → IsAuthentic W first (W.client.count last) whole (AtClient call) earlier → W.client.count call.after ≤ W.client.count last →
      Stored W first (W.client.count last) whole (AtClient call ∷ earlier) call.after → IsSafe W first last whole (AtClient call) earlier
  safe_call earlier call named stored step lawful no_forgery authentic fits after = record {
    desks = λ bytes key text a m came own valid shows responds has.
        some_weaker _ (λ one _. IsSignedByDesk W key a text one)
        (λ one before h. by_desk W laws stored.all stored.requests bytes key text a m valid shows responds one h.1 h.0)
        earlier (both_at (λ s _. DrewWell W stored.all s) (λ one _. IsSigned W key a text one) earlier stored.drew (handled_signed W laws first (W.client.count last) distinct whole earlier call named stored step lawful no_forgery authentic fits bytes key text a m came own valid shows (inl has)));
    realms = stored.realm;
    offers = stored.accepts;
    clients = tt;
    reflects = λ bytes key text a m came valid shows responds signed.
        from_some _ ⊥ (λ one before h. not_own W laws stored.all stored.requests bytes key text a m valid shows responds one h.1 h.0)
        earlier (both_at (λ s _. DrewWell W stored.all s) (λ one _. IsSignedByClient W key a text one) earlier stored.drew signed);
    holds = λ h k. after.stored h (step.shows h k);
    names = λ p i. let n = step.names p i in (step.delivers p i, (n.0, n.1, n.2, after.stored n.0 n.2));
  }

  -- For the older part of the whole run, whose steps name only realms that count.
  safe_from : IsNew W first → (run : List (Step C D)) (c : C) → Leads first run c → AtEach (λ s _. IsLawful W s) run → AtEach (IsAuthentic W first (W.client.count last) whole) run →
      ((r : List ℕ) → AtSome (λ s _. NamesRealm W r s) run → IsRealmOf W first whole r) →
      W.client.count c ≤ W.client.count last → Stored W first (W.client.count last) whole run c × AtEach (IsSafe W first last whole) run
  safe_from new [] c leads lawful no_forgery named fits = (
    subst (λ (x : C). Stored W first (W.client.count last) whole [] x) (sym leads) (record {
      account = refl;
      seed = refl;
      all = [];
      numbered = λ m i. absurd i;
      unique = λ a b i j e. absurd i;
      requests = λ m i. absurd i;
      outstanding = λ m o. absurd (new.none_outstanding m o);
      queued = λ m o. absurd (new.none_queued m o);
      taken = λ n t. absurd (new.none_taken n t);
      attempted = new.none_attempted;
      drew = tt;
      stored = λ h k. absurd (new.none_stored h k);
      accepts = λ a. a;
      waits = λ number peer w. absurd (new.none_waits number peer w);
      realm = λ r is. inl is;
      buffered_realm = λ bytes r b reported. absurd (new.none_buffered bytes b);
      buffered = λ bytes key text a m b own valid shows for_it. absurd (new.none_buffered bytes b);
      pending = [];
      pending_is = sym new.none_created;
      pending_traced = λ t i. absurd i;
      pending_of = λ t i. absurd i;
      pending_once = tt;
      reported = [];
      reported_is = refl;
      reported_once = tt;
      apart = λ t u i j e. i;
      gone = λ t i. elim i [
        | inl p ↦ absurd p
        | inr q ↦ absurd q
      ];
    }),
    tt,
  )
  safe_from new (AtDesk d ∷ earlier) c leads lawful no_forgery named fits =
      let h = safe_from new earlier c leads lawful.1 no_forgery.1 (λ r n. named r (inr n)) fits in
      (keeps_desk earlier d c h.0, (safe_desk earlier d c h.0 lawful.0 lawful.1 no_forgery.1 no_forgery.0, h.1))
  safe_from new (AtClient call ∷ earlier) c leads lawful no_forgery named fits =
      let step : ClientStep W.client call = lawful.0 in
      let there : W.client.count call.after ≤ W.client.count last = subst (λ (x : C). W.client.count x ≤ W.client.count last) leads.0 fits in
      let grows = numbered_growing W.client call.before (W.client.count call.before) (W.client.count call.after) [] step.started step.numbered in
      let h = safe_from new earlier call.before leads.1 lawful.1 no_forgery.1 (λ r n. named r (inr n)) (omega (arith, grows, there)) in
      let here : (r : List ℕ) → NamesRealm W r (AtClient call) → IsRealmOf W first whole r = λ r n. named r (inl n) in
      let stored : Stored W first (W.client.count last) whole earlier call.before = h.0 in
      let after = keeps_call W laws first (W.client.count last) distinct whole earlier call here stored step lawful.1 no_forgery.1 no_forgery.0 there in (
        subst (λ (x : C). Stored W first (W.client.count last) whole (AtClient call ∷ earlier) x) (sym leads.0) after,
        (safe_call earlier call here stored step lawful.1 no_forgery.1 no_forgery.0 there after, h.1),
      )

-- The theorem: each step is safe, and nothing is reported twice for one request.
pub safe : {C D : Type 0} (W : Words C D) → WireLaws W.wire → (first : C) (run : List (Step C D)) (last : C) → IsUnforged W first run last →
    AtEach (IsSafe W first last run) run × AnswersOnce W run
safe W laws first run last is =
    let h = safe_from W laws first last run is.distinct is.new run last is.leads is.lawful is.authentic (λ r n. inr n) (omega arith) in
    (h.1, (h.0.reported, h.0.reported_is, h.0.reported_once))

-- What a getter returns as held was granted before.
listed_traced : {C D : Type 0} (W : Words C D) (first last : C) (whole run : List (Step C D)) → AtEach (λ s _. IsLawful W s) run → AtEach (IsSafe W first last whole) run → AtEach (ShowsTraced W) run
listed_traced W first last whole [] lawful safe = tt
listed_traced W first last whole (AtClient call ∷ earlier) lawful safe = ((λ h i. safe.0.holds h (lawful.0.visible h i)), listed_traced W first last whole earlier lawful.1 safe.1)
listed_traced W first last whole (AtDesk d ∷ earlier) lawful safe = (tt, listed_traced W first last whole earlier lawful.1 safe.1)

pub visible : {C D : Type 0} (W : Words C D) → WireLaws W.wire → (first : C) (run : List (Step C D)) (last : C) → IsUnforged W first run last → AtEach (ShowsTraced W) run
visible W laws first run last is = listed_traced W first last run run is.lawful (safe W laws first run last is).0

-- The count of generated transaction IDs grows by what the generator gave.
pub counted : {C D : Type 0} (W : Words C D) (first : C) (run : List (Step C D)) (last : C) → Leads first run last → AtEach (λ s _. IsLawful W s) run → IsCounted W first run last
counted W first [] last leads lawful = ap W.client.count leads ∙ omega arith
counted W first (AtClient call ∷ earlier) last leads lawful =
    let before = counted W first earlier call.before leads.1 lawful.1 in
    omega (arith, ap W.client.count leads.0, lawful.0.counted, before)
counted W first (AtDesk d ∷ earlier) last leads lawful = counted W first earlier last leads lawful.1

-- Each lawful run of a new client meets the promise.
module _ {C D : Type 0} (W : Words C D) (laws : WireLaws W.wire) (first : C) (run : List (Step C D)) (last : C) (new : IsNew W first) (leads : Leads first run last) (lawful : AtEach (λ s _. IsLawful W s) run) where
  unforged : NoForgery W first (W.client.count last) run → AreDistinct W (W.client.seed first) (W.client.count last) → IsUnforged W first run last
  unforged authentic distinct = record { new = new; leads = leads; lawful = lawful; authentic = authentic; distinct = distinct }

  pub promised : IsPromised W first run last
  promised = record {
    safe = λ authentic distinct. (safe W laws first run last (unforged authentic distinct)).0;
    once = λ authentic distinct. (safe W laws first run last (unforged authentic distinct)).1;
    visible = λ authentic distinct. visible W laws first run last (unforged authentic distinct);
  }
