-- What each step preserves, from the contracts of client and server core alone.
use Rattle.std.proofs.Common.{◌≡◌, ◌≢◌, ℕ, ◌<◌, ◌≤◌, List, [], ◌∷◌, ◌++◌, map, Some, None, refl, ap, sym, ◌∙◌, subst, ◌⊎◌, inl, inr, arith}
use Rattle.turn_runs.specs.Members.{IsIn, NoneTwice}
use Rattle.turn_runs.specs.Messages.{Message, Held, Allocation, Permission, Channel, Connection, Gain, Holds, Knows, Asks, Brings, IsResponse, Notice, IsOf}
use Rattle.turn_runs.specs.Names.{SocketAddr, IntegrityAlgorithm, Request, Indication, Success}
use Rattle.turn_types.specs.Attributes.TurnRegistry.{connection_attempt_method}
use Rattle.turn_runs.specs.Words.{Words, WireLaws}
use Rattle.turn_runs.specs.Steps.{Call, Reported, reported_for, IsOwnKey, Arrives, IsAnswered, IsTried, WasKnown, ClientStep, Grants, DeskStep}
use Rattle.turn_runs.specs.Runs.{Step, AtClient, AtDesk, AtSome, AtEach, IsLawful, IsSignedByClient, IsSignedByDesk, IsSigned, WasSigned, HasNumber, AreDistinct, IsAuthentic, IsForClient, IsKeyOf, IsRealmOf, NamesRealm}
use Rattle.turn_runs.specs.Headline.{DrawsSame, IsGrantedAt, TracedBy, WasOffered, IsConnected, TracedWith, Traced, AnswersGranted}
use Rattle.turn_runs_laws.proofs.Tools.{in_either, in_left, in_right, none_twice, none_parts, map_joined, Parts, in_parts, both_at, some_weaker, each_weaker, from_some}
use Rattle.turn_runs_laws.proofs.Grants.{granted_is, brings_by, brings_response, response_no_request, response_no_indication, request_no_indication}
use Rattle.turn_runs_laws.proofs.Numbers.{AreAt, at_growing, at_index, at_unique, same_index, no_number_taken}

module _ {C D : Type 0} (W : Words C D) where
  -- What the client transmitted is one of its requests, or an indication.
  abbrev pub DrewWell : List Message → Step C D → Type 0
  DrewWell all (AtClient call) = (bytes : List ℕ) (m : Message) → call.transmitted ≡ Some bytes → W.wire.visible bytes ≡ Some m →
      IsIn m all ⊎ (m.class ≡ Indication)
  DrewWell all (AtDesk d) = Unit {0}

  -- What is known of a client after the run so far, which is the older part of the whole run.
  pub record Stored (first : C) (count : ℕ) (whole run : List (Step C D)) (c : C) : Type 0 where
    pub account : W.client.account c ≡ W.client.account first
    pub seed : W.client.seed c ≡ W.client.seed first
    -- The requests that the client has made.
    pub all : List Message
    pub numbered : (m : Message) → IsIn m all → HasNumber W (W.client.seed first) (W.client.count c) m.number
    pub unique : (a b : Message) → IsIn a all → IsIn b all → a.number ≡ b.number → a ≡ b
    pub requests : (m : Message) → IsIn m all → (m.class ≡ Request) × (m.method ≢ connection_attempt_method)
    pub outstanding : (m : Message) → W.client.IsOutstanding c m → IsIn m all
    pub queued : (m : Message) → W.client.IsQueued c m → IsIn m all
    pub taken : (n : ℕ) → W.client.IsTaken c n → HasNumber W (W.client.seed first) (W.client.count c) n
    pub attempted : (n : ℕ) → W.client.IsAttempted c n → ⊥
    pub drew : AtEach (λ s _. DrewWell all s) run
    pub stored : (h : Held) → W.client.IsStored c h → Traced W run h
    pub accepts : W.client.AcceptsOffers c → W.client.AcceptsOffers first
    pub waits : (number : ℕ) (peer : SocketAddr) → W.client.Waits c number peer →
        ((n : ℕ) × TracedBy W run n (Knows number peer)) ⊎ WasOffered W run number peer
    -- The realm that is remembered counts, and so does one in a buffered challenge.
    pub realm : (r : List ℕ) → W.client.realm c ≡ Some r → IsRealmOf W first whole r
    pub buffered_realm : (bytes r : List ℕ) → W.client.IsBuffered c bytes → W.wire.reported_realm bytes ≡ Some r → IsRealmOf W first whole r
    -- What is buffered, validates and is for the client was signed.
    pub buffered : (bytes key text : List ℕ) (a : IntegrityAlgorithm) (m : Message) → W.client.IsBuffered c bytes → IsKeyOf W first whole a key →
        W.wire.Validates bytes key a text → W.wire.visible bytes ≡ Some m → IsForClient W first count m → WasSigned W key a text run
    -- What is still to be reported as created, and what was reported, with the transaction IDs of the
    -- answered requests.
    pub pending : List Reported
    pub pending_is : map (λ t. t.notice) pending ≡ W.client.created c
    pub pending_traced : (t : Reported) → IsIn t pending → TracedWith W run t.number t.held
    pub pending_of : (t : Reported) → IsIn t pending → IsOf t.notice t.held
    pub pending_once : NoneTwice reported_for pending
    pub reported : List Reported
    pub reported_is : AnswersGranted W run reported
    pub reported_once : NoneTwice reported_for reported
    pub apart : (t u : Reported) → IsIn t pending → IsIn u reported → reported_for u ≡ reported_for t → ⊥
    pub gone : (t : Reported) → IsIn t pending ⊎ IsIn t reported →
        HasNumber W (W.client.seed first) (W.client.count c) t.number × ((m : Message) → W.client.IsOutstanding c m → m.number ≡ t.number → ⊥)

  -- ---- texts

  module _ (laws : WireLaws W.wire) where
    shows_so : (one other key text : List ℕ) (a : IntegrityAlgorithm) (m : Message) → W.wire.Validates one key a text → W.wire.Validates other key a text → W.wire.visible other ≡ Some m → W.wire.visible one ≡ Some m
    shows_so one other key text a m first valid shows =
        laws.same one other (laws.fixed one other key a text first valid) ∙ shows

    -- The client signed no response.
    pub not_own : (all : List Message) (requests : (m : Message) → IsIn m all → (m.class ≡ Request) × (m.method ≢ connection_attempt_method)) (bytes key text : List ℕ) (a : IntegrityAlgorithm) (m : Message) →
        W.wire.Validates bytes key a text → W.wire.visible bytes ≡ Some m → IsResponse m.class →
        (s : Step C D) → DrewWell all s → IsSignedByClient W key a text s → ⊥
    not_own all requests bytes key text a m valid shows responds (AtClient call) drew signed =
        let same = shows_so signed.0 bytes key text a m signed.2 valid shows in
        elim (drew signed.0 m signed.1 same) [
          | inl i ↦ response_no_request m.class responds (requests m i).0
          | inr e ↦ response_no_indication m.class responds e
        ]
    not_own all requests bytes key text a m valid shows responds (AtDesk d) drew signed = signed

    -- The server core signed a response that was signed.
    pub by_desk : (all : List Message) (requests : (m : Message) → IsIn m all → (m.class ≡ Request) × (m.method ≢ connection_attempt_method)) (bytes key text : List ℕ) (a : IntegrityAlgorithm) (m : Message) →
        W.wire.Validates bytes key a text → W.wire.visible bytes ≡ Some m → IsResponse m.class →
        (s : Step C D) → DrewWell all s → IsSigned W key a text s → IsSignedByDesk W key a text s
    by_desk all requests bytes key text a m valid shows responds s drew signed = elim signed [
      | inl c ↦ absurd (not_own all requests bytes key text a m valid shows responds s drew c)
      | inr d ↦ d
    ]

    -- The client signed a request that was signed.
    by_client : (all : List Message) (bytes key text : List ℕ) (a : IntegrityAlgorithm) (m : Message) →
        W.wire.Validates bytes key a text → W.wire.visible bytes ≡ Some m → m.class ≡ Request →
        (s : Step C D) → DrewWell all s → IsLawful W s → IsSigned W key a text s →
        IsSignedByClient W key a text s × DrawsSame W bytes s × IsIn m all
    by_client all bytes key text a m valid shows is (AtClient call) drew lawful signed = elim signed [
      | inl c ↦ (
          let same = shows_so c.0 bytes key text a m c.2 valid shows in (
            c,
            (c.0, c.1, laws.fixed c.0 bytes key a text c.2 valid),
            elim (drew c.0 m c.1 same) [ inl i ↦ i | inr e ↦ absurd (request_no_indication m.class is e) ],
          ))
      | inr d ↦ absurd d
    ]
    by_client all bytes key text a m valid shows is (AtDesk d) drew lawful signed = elim signed [
      | inl c ↦ absurd c
      | inr r ↦ absurd (response_no_request m.class (lawful.responds r.0 m r.1 (shows_so r.0 bytes key text a m (lawful.signs key text r.0 a r.3 r.1 r.2) valid shows)) is)
    ]

    -- ---- grants

    -- What is known of each past step.
    abbrev pub IsPast : C → (count : ℕ) → (whole : List (Step C D)) → List Message → Step C D → List (Step C D) → Type 0
    IsPast first count whole all s earlier = IsAuthentic W first count whole s earlier × DrewWell all s × IsLawful W s

    pub past_of : (first : C) (count : ℕ) (whole : List (Step C D)) (all : List Message) (run : List (Step C D)) → AtEach (IsAuthentic W first count whole) run → AtEach (λ s _. DrewWell all s) run → AtEach (λ s _. IsLawful W s) run → AtEach (IsPast first count whole all) run
    past_of first count whole all [] n d l = tt
    past_of first count whole all (s ∷ earlier) n d l = ((n.0, d.0, l.0), past_of first count whole all earlier n.1 d.1 l.1)

    -- The client transmitted a request earlier if the server core validated it under a client's key.
    pub request_transmitted : (first : C) (count : ℕ) (whole : List (Step C D)) (all : List Message) (d : D) (before : List (Step C D)) (key text : List ℕ) (a : IntegrityAlgorithm) (m : Message) →
        IsAuthentic W first count whole (AtDesk d) before → AtEach (IsPast first count whole all) before →
        IsKeyOf W first whole a key → W.wire.Validates (W.desk.request d) key a text → W.wire.visible (W.desk.request d) ≡ Some m → m.class ≡ Request → HasNumber W (W.client.seed first) count m.number →
        AtSome (λ one _. IsSignedByClient W key a text one × DrawsSame W (W.desk.request d) one × IsIn m all) before
    request_transmitted first count whole all d before key text a m authentic past own valid shows is number =
        some_weaker _ (λ one _. IsSignedByClient W key a text one × DrawsSame W (W.desk.request d) one × IsIn m all)
        (λ one older h. by_client all (W.desk.request d) key text a m valid shows is one h.1.1 h.1.2 h.0)
        before (both_at (IsPast first count whole all) (λ one _. IsSigned W key a text one) before past (authentic key text a m own valid shows number))

    module _ (first : C) (count : ℕ) (whole : List (Step C D)) (all : List Message)
        (requests : (m : Message) → IsIn m all → (m.class ≡ Request) × (m.method ≢ connection_attempt_method)) where
      -- The server core's success response to a request with this transaction ID was a grant of what that
      -- request is for.
      granted_here : (bytes key text : List ℕ) (a : IntegrityAlgorithm) (response : Message) (gain : Gain) (number : ℕ) →
          W.wire.Validates bytes key a text → W.wire.visible bytes ≡ Some response → response.number ≡ number → Brings response gain →
          IsKeyOf W first whole a key → HasNumber W (W.client.seed first) count number →
          ((m : Message) → IsIn m all → m.number ≡ number → Asks m gain) →
          (s : Step C D) (before : List (Step C D)) → IsSignedByDesk W key a text s → IsPast first count whole all s before → AtEach (IsPast first count whole all) before →
          IsGrantedAt W number gain s before × ((m : Message) × IsIn m all × (m.number ≡ number))
      granted_here bytes key text a response gain number valid shows is brings own has asks (AtClient call) before signed here past = absurd signed
      granted_here bytes key text a response gain number valid shows is brings own has asks (AtDesk d) before signed here past =
          let lawful : DeskStep W.wire W.desk d = here.2 in
          let shows_reply = shows_so signed.0 bytes key text a response (lawful.signs key text signed.0 a signed.3 signed.1 signed.2) valid shows in
          let success : response.class ≡ Success = elim (brings_by response gain brings) [
            | inl e ↦ e
            | inr f ↦ (let none : None ≡ Some f.1.0 = sym (lawful.refuses signed.0 response signed.1 shows_reply f.0) ∙ f.1.1 in let never : ⊥ = cc in absurd never)
          ] in
          let grants : Grants W.wire W.desk d signed.0 response = lawful.grants signed.0 response signed.1 shows_reply success in
          let v = lawful.validates key a signed.3 in
          let number_is : grants.request.number ≡ number = sym grants.for.number_answered ∙ is in
          let transmitted = request_transmitted first count whole all d before key v.0 a grants.request here.0 past own v.1 grants.shows grants.class_is
          (subst (HasNumber W (W.client.seed first) count) (sym number_is) has) in
          let known : IsIn grants.request all = from_some _ (IsIn grants.request all) (λ x y h. h.2) before transmitted in (
            record {
              reply = signed.0;
              replied = signed.1;
              response = response;
              shows = shows_reply;
              class_is = success;
              grants = grants;
              number_is = grants.for.number_is ∙ number_is;
              grant_is = granted_is grants.request response grants.grant gain grants.for (asks grants.request known number_is) brings;
              transmitted = some_weaker _ (λ one _. DrawsSame W (W.desk.request d) one) (λ x y h. h.1) before transmitted;
            },
            (grants.request, known, number_is),
          )

    -- ---- one call of a client

    -- What was traced stays traced.
    pub waited_later : (s : Step C D) (earlier : List (Step C D)) (number : ℕ) (peer : SocketAddr)
        → ((n : ℕ) × TracedBy W earlier n (Knows number peer)) ⊎ WasOffered W earlier number peer
        → ((n : ℕ) × TracedBy W (s ∷ earlier) n (Knows number peer)) ⊎ WasOffered W (s ∷ earlier) number peer
    waited_later s earlier number peer (inl granted) = inl (granted.0, inr granted.1)
    waited_later s earlier number peer (inr offered) = inr (inr offered)

    pub connected_later : (s : Step C D) (earlier : List (Step C D)) (h : Held) → IsConnected W earlier h → IsConnected W (s ∷ earlier) h
    connected_later s earlier (Allocation transport address) k = tt
    connected_later s earlier (Permission transport ip) k = tt
    connected_later s earlier (Channel number peer) k = tt
    connected_later s earlier (Connection local peer number) k = waited_later s earlier number peer k

    pub traced_later : (s : Step C D) (earlier : List (Step C D)) (h : Held) → Traced W earlier h → Traced W (s ∷ earlier) h
    traced_later s earlier h t = (t.0, (inr t.1.0, connected_later s earlier h t.1.1))

    drew_more : (started all : List Message) (s : Step C D) → DrewWell all s → DrewWell (started ++ all) s
    drew_more started all (AtClient call) h = λ bytes m e shows. elim (h bytes m e shows) [
      | inl i ↦ inl (in_right m started all i)
      | inr k ↦ inr k
    ]
    drew_more started all (AtDesk d) h = tt

    pub with_later : (s : Step C D) (earlier : List (Step C D)) (t : Reported) → TracedWith W earlier t.number t.held → TracedWith W (s ∷ earlier) t.number t.held
    with_later s earlier t h = (inr h.0, connected_later s earlier t.held h.1)

    module _ (first : C) (count : ℕ) (distinct : AreDistinct W (W.client.seed first) count) (whole earlier : List (Step C D)) (call : Call C)
        (named : (r : List ℕ) → NamesRealm W r (AtClient call) → IsRealmOf W first whole r) (stored : Stored first count whole earlier call.before) (step : ClientStep W.client call)
        (lawful : AtEach (λ s _. IsLawful W s) earlier) (no_forgery : AtEach (IsAuthentic W first count whole) earlier)
        (authentic : IsAuthentic W first count whole (AtClient call) earlier) (fits : W.client.count call.after ≤ count) where
      started_at : AreAt (W.wire.number (W.client.seed first)) (W.client.count call.before) (W.client.count call.after) step.started
      started_at = subst (λ (x : W.wire.Seed). AreAt (W.wire.number x) (W.client.count call.before) (W.client.count call.after) step.started) stored.seed
          (no_number_taken W.client call.before count (W.client.count call.before)
          (subst (λ (x : W.wire.Seed). AreDistinct W x count) (sym stored.seed) distinct)
          (λ n t. subst (λ (x : W.wire.Seed). HasNumber W x (W.client.count call.before) n) (sym stored.seed) (stored.taken n t))
          (W.client.count call.before) (W.client.count call.after) [] step.started (omega arith) fits (λ m i. absurd i) step.numbered)

      later : W.client.count call.before ≤ W.client.count call.after
      later = at_growing (W.wire.number (W.client.seed first)) count distinct (W.client.count call.before) (W.client.count call.after) step.started started_at

      started_index : (m : Message) → IsIn m step.started → (k : ℕ) × (W.client.count call.before ≤ k) × (k < W.client.count call.after) × (m.number ≡ W.wire.number (W.client.seed first) k)
      started_index m i = at_index (W.wire.number (W.client.seed first)) count distinct (W.client.count call.before) (W.client.count call.after) step.started m started_at i

      more_numbers : (n : ℕ) → HasNumber W (W.client.seed first) (W.client.count call.before) n → HasNumber W (W.client.seed first) (W.client.count call.after) n
      more_numbers n h = (h.0, omega (arith, h.1, later), h.2)

      started_number : (m : Message) → IsIn m step.started → HasNumber W (W.client.seed first) (W.client.count call.after) m.number
      started_number m i = let k = started_index m i in (k.0, k.2, k.3)

      fitting : (n : ℕ) → HasNumber W (W.client.seed first) (W.client.count call.after) n → HasNumber W (W.client.seed first) count n
      fitting n h = (h.0, omega (arith, h.1, fits), h.2)

      -- No request made by this call has an old transaction ID.
      clash : (n : ℕ) (m : Message) → HasNumber W (W.client.seed first) (W.client.count call.before) n → IsIn m step.started → m.number ≡ n → ⊥
      clash n m h i e =
          let k = started_index m i in
          same_index (W.wire.number (W.client.seed first)) count distinct h.0 k.0 n m.number (omega (arith, h.1, k.1)) (omega (arith, k.2, fits)) h.2 k.3 (sym e)

      -- The key in the realm that is remembered counts.
      own_key : (a : IntegrityAlgorithm) (key : List ℕ) → IsOwnKey W.client call.before a key → IsKeyOf W first whole a key
      own_key a key own = (own.0, stored.realm own.0 own.1, own.3 ∙ ap (λ (x : W.wire.Account). W.wire.key x own.0 a) stored.account)

      -- The realm of a challenge that is handled counts: the challenge has arrived.
      handled_realm : (bytes r : List ℕ) → IsIn bytes call.handled → W.wire.reported_realm bytes ≡ Some r → IsRealmOf W first whole r
      handled_realm bytes r i reported = elim (step.handles bytes i) [
        | inl came ↦ named r (bytes, came, reported)
        | inr b ↦ stored.buffered_realm bytes r b reported
      ]

      past : AtEach (IsPast first count whole stored.all) earlier
      past = past_of first count whole stored.all earlier no_forgery stored.drew lawful

      -- What is handled and is for the client was signed before.
      pub handled_signed : (bytes key text : List ℕ) (a : IntegrityAlgorithm) (m : Message) → IsIn bytes call.handled → IsKeyOf W first whole a key →
          W.wire.Validates bytes key a text → W.wire.visible bytes ≡ Some m → IsForClient W first count m → WasSigned W key a text earlier
      handled_signed bytes key text a m i own valid shows for_it = elim (step.handles bytes i) [
        | inl came ↦ authentic bytes key text a m came own valid shows for_it
        | inr b ↦ stored.buffered bytes key text a m b own valid shows for_it
      ]

      was_signed : (bytes : List ℕ) (m : Message) (a : Arrives W.client call bytes m) → IsForClient W first count m → WasSigned W a.key a.algorithm a.text earlier
      was_signed bytes m a for_it = handled_signed bytes a.key a.text a.algorithm m a.handled (own_key a.algorithm a.key a.own) a.valid a.shows for_it

      answer_here : (gain : Gain) (number : ℕ) → IsAnswered W.client call step.started gain number →
          AtSome (λ s before. IsGrantedAt W number gain s before × ((m : Message) × IsIn m stored.all × (m.number ≡ number))) earlier
      answer_here gain number a =
          let r = a.arrives in
          let own = own_key r.algorithm r.key r.own in
          let has : HasNumber W (W.client.seed first) (W.client.count call.after) number = subst (HasNumber W (W.client.seed first) (W.client.count call.after)) a.request_is (elim a.waited [
            | inl o ↦ more_numbers a.request.number (stored.numbered a.request (stored.outstanding a.request o))
            | inr b ↦ started_number a.request b
          ]) in
          let asks : (m : Message) → IsIn m stored.all → m.number ≡ number → Asks m gain = λ m i e. elim a.waited [
            | inl o ↦ subst (λ (x : Message). Asks x gain) (stored.unique a.request m (stored.outstanding a.request o) i (a.request_is ∙ sym e)) a.asks
            | inr b ↦ absurd (clash m.number a.request (stored.numbered m i) b (a.request_is ∙ sym e))
          ] in
          some_weaker _ (λ s before. IsGrantedAt W number gain s before × ((m : Message) × IsIn m stored.all × (m.number ≡ number)))
          (λ s before h. granted_here first count whole stored.all stored.requests a.bytes r.key r.text r.algorithm a.response gain number
          r.valid r.shows a.number_is a.brings own (fitting number has) asks s before
          (by_desk stored.all stored.requests a.bytes r.key r.text r.algorithm a.response r.valid r.shows (brings_response a.response gain a.brings) s h.1.1 h.0)
          h.1 h.2)
          earlier (both_at (IsPast first count whole stored.all) (λ s _. IsSigned W r.key r.algorithm r.text s) earlier past
          (was_signed a.bytes a.response r (inl (subst (HasNumber W (W.client.seed first) count) (sym a.number_is) (fitting number has)))))

      answer_traced : (gain : Gain) (number : ℕ) → IsAnswered W.client call step.started gain number → TracedBy W earlier number gain
      answer_traced gain number a = some_weaker _ (IsGrantedAt W number gain) (λ s before h. h.0) earlier (answer_here gain number a)

      answer_old : (gain : Gain) (number : ℕ) → IsAnswered W.client call step.started gain number → HasNumber W (W.client.seed first) (W.client.count call.before) number
      answer_old gain number a = from_some _ (HasNumber W (W.client.seed first) (W.client.count call.before) number)
          (λ s before h. subst (HasNumber W (W.client.seed first) (W.client.count call.before)) h.1.2 (stored.numbered h.1.0 h.1.1)) earlier (answer_here gain number a)

      -- The server sends no request under the client's key.
      never_tried : IsTried W.client call → ⊥
      never_tried t =
          let r = t.arrives in
          let signed = was_signed t.bytes t.attempt r (inr (t.class_is, t.method_is)) in
          from_some _ ⊥
          (λ s before h. (let i = (by_client stored.all t.bytes r.key r.text r.algorithm t.attempt r.valid r.shows t.class_is s h.1.1 h.1.2 h.0).2 in
          (stored.requests t.attempt i).1 t.method_is))
          earlier (both_at (IsPast first count whole stored.all) (λ s _. IsSigned W r.key r.algorithm r.text s) earlier past signed)

      was_connected : (h : Held) → WasKnown W.client call.before h → IsConnected W earlier h
      was_connected (Allocation transport address) k = tt
      was_connected (Permission transport ip) k = tt
      was_connected (Channel number peer) k = tt
      was_connected (Connection local peer number) k = stored.waits number peer k

      gained_traced : (t : Reported) → IsIn t step.gained → TracedWith W earlier t.number t.held
      gained_traced t i = (answer_traced (Holds t.held) t.number (step.answers t i), was_connected t.held (step.known t i))

      pub stored_traced : (h : Held) → W.client.IsStored call.after h → Traced W (AtClient call ∷ earlier) h
      stored_traced h k = elim (step.gains h k) [
        | inl o ↦ traced_later (AtClient call) earlier h (stored.stored h o)
        | inr t ↦ traced_later (AtClient call) earlier h (t.0.number, subst (λ (x : Held). TracedWith W earlier t.0.number x) t.2 (gained_traced t.0 t.1))
      ]

      -- ---- what waits to be reported, and what is reported

      pending_traced : (t : Reported) → IsIn t (stored.pending ++ step.gained) → TracedWith W earlier t.number t.held
      pending_traced t i = elim (in_either t stored.pending step.gained i) [
        | inl p ↦ stored.pending_traced t p
        | inr g ↦ gained_traced t g
      ]

      pending_of : (t : Reported) → IsIn t (stored.pending ++ step.gained) → IsOf t.notice t.held
      pending_of t i = elim (in_either t stored.pending step.gained i) [
        | inl p ↦ stored.pending_of t p
        | inr g ↦ step.is_of t g
      ]

      -- What is gained now was never gained before for the same request.
      new_gain : (t u : Reported) → IsIn t step.gained → IsIn u stored.pending ⊎ IsIn u stored.reported → u.number ≡ t.number → ⊥
      new_gain t u i j e =
          let a = step.answers t i in
          let g = stored.gone u j in
          elim a.waited [
            | inl o ↦ g.1 a.request o (a.request_is ∙ sym e)
            | inr b ↦ clash u.number a.request g.0 b (a.request_is ∙ sym e)
          ]

      pending_once : NoneTwice reported_for (stored.pending ++ step.gained)
      pending_once = none_twice reported_for stored.pending step.gained stored.pending_once step.once
          (λ t u i j e. new_gain u t j (inl i) (ap (λ (x : Notice × ℕ). x.1) (sym e)))

      pending_apart : (t u : Reported) → IsIn t (stored.pending ++ step.gained) → IsIn u stored.reported → reported_for u ≡ reported_for t → ⊥
      pending_apart t u i j e = elim (in_either t stored.pending step.gained i) [
        | inl p ↦ stored.apart t u p j e
        | inr g ↦ new_gain t u g (inr j) (ap (λ (x : Notice × ℕ). x.1) e)
      ]

      parts : Parts (λ (t : Reported). t.notice) (stored.pending ++ step.gained) call.answered (W.client.created call.after)
      parts = in_parts (λ (t : Reported). t.notice) (stored.pending ++ step.gained) call.answered (W.client.created call.after)
          (map_joined (λ (t : Reported). t.notice) stored.pending step.gained
          ∙ (ap (λ (x : List Notice). x ++ map (λ t. t.notice) step.gained) stored.pending_is ∙ sym step.decodes))

      once_parts : NoneTwice reported_for (parts.prefix ++ parts.back)
      once_parts = subst (λ (x : List Reported). NoneTwice reported_for x) parts.whole pending_once

      in_whole : (t : Reported) → IsIn t (parts.prefix ++ parts.back) → IsIn t (stored.pending ++ step.gained)
      in_whole t i = subst (λ (x : List Reported). IsIn t x) (sym parts.whole) i

      in_head : (t : Reported) → IsIn t parts.prefix → IsIn t (stored.pending ++ step.gained)
      in_head t i = in_whole t (in_left t parts.prefix parts.back i)

      in_back : (t : Reported) → IsIn t parts.back → IsIn t (stored.pending ++ step.gained)
      in_back t i = in_whole t (in_right t parts.prefix parts.back i)

      gone_old : (t : Reported) → IsIn t stored.pending ⊎ IsIn t stored.reported → HasNumber W (W.client.seed first) (W.client.count call.after) t.number × ((m : Message) → W.client.IsOutstanding call.after m → m.number ≡ t.number → ⊥)
      gone_old t i =
          let g = stored.gone t i in (
            more_numbers t.number g.0,
            λ m o e. elim (step.outstanding m o) [
              | inl p ↦ g.1 m p e
              | inr b ↦ clash t.number m g.0 b e
            ],
          )

      gone_new : (t : Reported) → IsIn t step.gained → HasNumber W (W.client.seed first) (W.client.count call.after) t.number × ((m : Message) → W.client.IsOutstanding call.after m → m.number ≡ t.number → ⊥)
      gone_new t i =
          let old = answer_old (Holds t.held) t.number (step.answers t i) in
          (more_numbers t.number old, λ m o e. clash t.number m old (step.spent t m i o e) e)

      gone_pending : (t : Reported) → IsIn t (stored.pending ++ step.gained) → HasNumber W (W.client.seed first) (W.client.count call.after) t.number × ((m : Message) → W.client.IsOutstanding call.after m → m.number ≡ t.number → ⊥)
      gone_pending t i = elim (in_either t stored.pending step.gained i) [
        | inl p ↦ gone_old t (inl p)
        | inr g ↦ gone_new t g
      ]

      drew_here : DrewWell (step.started ++ stored.all) (AtClient call)
      drew_here = λ bytes m e shows. elim (step.draws bytes m e shows) [
        | inl made ↦ inl (elim made [
          | inl q ↦ in_right m step.started stored.all (stored.queued m q)
          | inr x ↦ elim x [
            | inl o ↦ in_right m step.started stored.all (stored.outstanding m o)
            | inr b ↦ in_left m step.started stored.all b
          ]
        ])
        | inr x ↦ elim x [
          | inl k ↦ inr k
          | inr t ↦ absurd (stored.attempted m.number t.1)
        ]
      ]

      pub keeps_call : Stored first count whole (AtClient call ∷ earlier) call.after
      keeps_call = record {
        account = step.account ∙ stored.account;
        seed = step.seed ∙ stored.seed;
        accepts = λ a. stored.accepts (step.accepts a);
        all = step.started ++ stored.all;
        numbered = λ m i. elim (in_either m step.started stored.all i) [
          | inl b ↦ started_number m b
          | inr o ↦ more_numbers m.number (stored.numbered m o)
        ];
        unique = λ a b i j e. elim (in_either a step.started stored.all i) [
          | inl p ↦ elim (in_either b step.started stored.all j) [
            | inl q ↦ at_unique (W.wire.number (W.client.seed first)) count distinct (W.client.count call.before) (W.client.count call.after) step.started a b fits started_at p q e
            | inr q ↦ absurd (clash b.number a (stored.numbered b q) p e)
          ]
          | inr p ↦ elim (in_either b step.started stored.all j) [
            | inl q ↦ absurd (clash a.number b (stored.numbered a p) q (sym e))
            | inr q ↦ stored.unique a b p q e
          ]
        ];
        requests = λ m i. elim (in_either m step.started stored.all i) [
          | inl b ↦ step.requests m b
          | inr o ↦ stored.requests m o
        ];
        outstanding = λ m o. elim (step.outstanding m o) [
          | inl p ↦ in_right m step.started stored.all (stored.outstanding m p)
          | inr b ↦ in_left m step.started stored.all b
        ];
        queued = λ m o. elim (step.queued m o) [
          | inl p ↦ in_right m step.started stored.all (stored.queued m p)
          | inr b ↦ in_left m step.started stored.all b
        ];
        taken = λ n t. elim (step.taken n t) [
          | inl o ↦ more_numbers n (stored.taken n o)
          | inr x ↦ elim x [
            | inl b ↦ subst (HasNumber W (W.client.seed first) (W.client.count call.after)) b.2 (started_number b.0 b.1)
            | inr y ↦ absurd (never_tried y)
          ]
        ];
        attempted = λ n t. elim (step.attempted n t) [
          | inl o ↦ stored.attempted n o
          | inr x ↦ never_tried x
        ];
        drew = (drew_here, each_weaker (λ s _. DrewWell stored.all s) (λ s _. DrewWell (step.started ++ stored.all) s) (λ s _ h. drew_more step.started stored.all s h) earlier stored.drew);
        stored = stored_traced;
        waits = λ number peer w. elim (step.waits number peer w) [
          | inl o ↦ waited_later (AtClient call) earlier number peer (stored.waits number peer o)
          | inr x ↦ elim x [
            | inl a ↦ inl (a.0, inr (answer_traced (Knows number peer) a.0 a.1))
            | inr y ↦ elim y [
              | inl t ↦ absurd (never_tried t)
              | inr offered ↦ inr (inl offered)
            ]
          ]
        ];
        realm = λ r is. elim (step.realms r is) [
          | inl was ↦ stored.realm r was
          | inr reported ↦ handled_realm reported.0 r reported.1 reported.2
        ];
        buffered_realm = λ bytes r b reported. elim (step.buffers bytes b) [
          | inl came ↦ named r (bytes, came, reported)
          | inr old ↦ stored.buffered_realm bytes r old reported
        ];
        buffered = λ bytes key text a m b own valid shows for_it. elim (step.buffers bytes b) [
          | inl came ↦ inr (authentic bytes key text a m came own valid shows for_it)
          | inr old ↦ inr (stored.buffered bytes key text a m old own valid shows for_it)
        ];
        pending = parts.back;
        pending_is = parts.back_is;
        pending_traced = λ t i. with_later (AtClient call) earlier t (pending_traced t (in_back t i));
        pending_of = λ t i. pending_of t (in_back t i);
        pending_once = (none_parts reported_for parts.prefix parts.back once_parts).1;
        reported = parts.prefix ++ stored.reported;
        reported_is = (parts.prefix, stored.reported, refl, parts.head_is, (λ t i. (pending_of t (in_head t i), pending_traced t (in_head t i))), stored.reported_is);
        reported_once = none_twice reported_for parts.prefix stored.reported (none_parts reported_for parts.prefix parts.back once_parts).0 stored.reported_once (λ t u i j e. pending_apart t u (in_head t i) j e);
        apart = λ t u i j e. elim (in_either u parts.prefix stored.reported j) [
          | inl f ↦ (none_parts reported_for parts.prefix parts.back once_parts).2 u t f i (sym e)
          | inr o ↦ pending_apart t u (in_back t i) o e
        ];
        gone = λ t i. elim i [
          | inl p ↦ gone_pending t (in_back t p)
          | inr q ↦ elim (in_either t parts.prefix stored.reported q) [
            | inl f ↦ gone_pending t (in_head t f)
            | inr o ↦ gone_old t (inr o)
          ]
        ];
      }
