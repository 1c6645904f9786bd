-- In the honest run each step meets its contract, and up to sixteen requests nothing is forged.
use Rattle.std.proofs.lemmas.List.{append-nil}
use Rattle.std.proofs.Common.{◌≡◌, ◌≢◌, ℕ, zero, suc, ◌≤◌, ◌%◌, ◌+◌, ◌-◌, List, [], ◌∷◌, map, Some, None, refl, ap, sym, ◌∙◌, subst, ◌⊎◌, inl, inr, arith}
use Rattle.turn_runs.specs.StunTypesWire.declared.algorithm.IntegrityAlgorithm.TheVariants.{Sha1}
use Rattle.turn_types.specs.StunTypesBase.declared.transport.TransportType.TheVariants.{Tcp}
use Rattle.turn_runs.specs.Headline.{IsPromised}
use Rattle.turn_runs.specs.Members.{IsIn}
use Rattle.turn_runs.specs.Messages.{Message, Held, Permission, Channel, Connection, Gain, Holds, Knows, Asks, Brings, IsGrantFor, Payload, NamesHeld}
use Rattle.turn_runs.specs.Names.{IntegrityAlgorithm, socket_ip, Request, Success, Error}
use Rattle.turn_runs.specs.Runs.{Step, AtClient, AtDesk, AreDistinct, AtEach, AtSome, IsAuthentic, IsKeyOf, IsLawful, IsNew, IsSigned, IsUnforged, Leads, NamesRealm, NoForgery}
use Rattle.turn_runs.specs.Steps.{Reported, IsAnswered, IsDelivered, ClientStep, DeskStep}
use Rattle.turn_runs.specs.Words.{WireLaws}
use Rattle.turn_types.specs.Attributes.TurnRegistry.{connection_attempt_method}
use Rattle.turn_runs_laws.proofs.Safe.{promised}
use Rattle.turn_runs_laws.proofs.Tools.{in_either, in_left}
use Rattle.turn_runs_laws.specs.Handshakes.{Addresses, number_at, request_at, response_at, grant_at, reported_at, held_after, recorded_after}
use Rattle.turn_runs_laws.specs.Rounds.{fresh, idle, waiting, quiet, asks_next, processes, processes_challenge, processes_earlier, processes_forged, payloads_at, takes_next, shows_all, rounds}
use Rattle.turn_runs_laws.specs.SmallWords.{Client, Idle, Waiting, IsRight, abroad, algorithm_by, answered_in, digest_in, digest_under, given_by, home, key_small, index_in, reported_small, listed_small, small_wire, small_client, small_desk, small}
use Rattle.turn_runs_laws.proofs.Handshakes.{request_class, response_class, not_attempt, request_number, response_number, reported_so, reported_once, waits_next, grant_for, from_local}

-- ---- how far the generator goes

one_given : (n : ℕ) → given_by (Idle n) (Waiting n) ≡ 1
one_given n = omega arith

pub none_given : (n : ℕ) → (n + (16 - n % 16)) % 16 ≡ 0
none_given n = omega arith

-- ---- each step is valid

held_in : (h : Held) (ts : List Reported) → IsIn h (map (λ (t : Reported). t.held) ts) → (t : Reported) × IsIn t ts × (t.held ≡ h)
held_in h [] i = absurd i
held_in h (t ∷ ts) i = elim i [
  | inl e ↦ (t, inl refl, e)
  | inr j ↦ (let k = held_in h ts j in (k.0, inr k.1, k.2))
]

-- ---- which realm one message names

reported_alone : (came bytes r : List ℕ) → IsIn bytes (came ∷ []) → reported_small bytes ≡ Some r → reported_small came ≡ Some r
reported_alone came bytes r i reported = elim i [ inl e ↦ ap reported_small e ∙ reported | inr none ↦ absurd none ]

pub names_none : (came bytes r : List ℕ) → reported_small came ≡ None → IsIn bytes (came ∷ []) → reported_small bytes ≡ Some r → ⊥
names_none came bytes r none i reported = let no : None ≡ Some r = sym none ∙ reported_alone came bytes r i reported in let never : ⊥ = cc in never

module _ (a : Addresses) where
  pub asks_step : (n : ℕ) → ClientStep (small_client a) (asks_next n)
  asks_step n = record {
    account = refl;
    seed = refl;
    accepts = λ a. a;
    realms = λ r e. inl e;
    counted = omega (arith, one_given n);
    few = omega (arith, one_given n);
    started = request_at a n ∷ [];
    requests = λ m i. elim i [
      | inl e ↦ subst (λ (x : Message). (x.class ≡ Request) × (x.method ≢ connection_attempt_method)) e (request_class a n, not_attempt a n)
      | inr none ↦ absurd none
    ];
    numbered = (n, omega arith, omega arith, inl (request_number a n), omega arith);
    outstanding = λ m o. inr (inl (sym o));
    queued = λ m q. absurd q;
    taken = λ k t. absurd t;
    draws = λ bytes m e shows. inl (inr (inr (inl (
        let same : 0 ∷ n ∷ [] ≡ bytes = cc in
        let both : Some (request_at a n) ≡ Some m = ap (listed_small a) same ∙ shows in
        cc))));
    handles = λ bytes i. absurd i;
    buffers = λ bytes b. absurd b;
    gained = [];
    gains = λ h k. inl k;
    answers = λ t i. absurd i;
    once = tt;
    spent = λ t m i. absurd i;
    known = λ t i. absurd i;
    is_of = λ t i. absurd i;
    decodes = refl;
    shows = λ h k. k;
    visible = λ h i. absurd i;
    waits = λ number to w. inl w;
    attempted = λ k t. absurd t;
    delivers = λ p i. absurd i;
    names = λ p i. absurd i;
  }

  answered_here : (n : ℕ) (gain : Gain) → Asks (request_at a n) gain → Brings (response_at a n) gain →
      IsAnswered (small_client a) (takes_next a n) [] gain (number_at n)
  answered_here n gain asks brings = record {
    bytes = 1 ∷ n ∷ [];
    response = response_at a n;
    arrives = record { handled = inl refl; shows = refl; key = home; algorithm = Sha1; own = (home, refl, refl, refl); text = 1 ∷ n ∷ []; valid = (refl, refl, refl) };
    number_is = response_number a n;
    request = request_at a n;
    waited = inl refl;
    request_is = request_number a n;
    asks = asks;
    brings = brings;
  }

  names_next : (n : ℕ) (p : Payload) → IsIn p (payloads_at a n) → (h : Held) × NamesHeld p h × IsIn h (held_after a (suc n))
  names_next zero p i = absurd i
  names_next (suc zero) p i = elim i [
    | inl e ↦ subst (λ (x : Payload). (h : Held) × NamesHeld x h × IsIn h (held_after a 2)) e (Permission Tcp (socket_ip a.peer), refl, inl refl)
    | inr none ↦ absurd none
  ]
  names_next (suc (suc zero)) p i = elim i [
    | inl e ↦ subst (λ (x : Payload). (h : Held) × NamesHeld x h × IsIn h (held_after a 3)) e (Channel 0x4000 a.peer, refl, inr (inl refl))
    | inr none ↦ absurd none
  ]
  names_next (suc (suc (suc zero))) p i = absurd i
  names_next (suc (suc (suc (suc zero)))) p i = elim i [
    | inl e ↦ subst (λ (x : Payload). (h : Held) × NamesHeld x h × IsIn h (held_after a 5)) e (Connection a.local a.peer 7, (7, refl), inl refl)
    | inr none ↦ absurd none
  ]
  names_next (suc (suc (suc (suc (suc n))))) p i = absurd i

  delivers_next : (n : ℕ) (p : Payload) → IsIn p (payloads_at a n) → IsDelivered (small_client a) (takes_next a n) p
  delivers_next zero p i = absurd i
  delivers_next (suc zero) p i = elim i [
    | inl e ↦ subst (λ (x : Payload). IsDelivered (small_client a) (takes_next a 1) x) e (1 ∷ 1 ∷ [], inl refl, refl)
    | inr none ↦ absurd none
  ]
  delivers_next (suc (suc zero)) p i = elim i [
    | inl e ↦ subst (λ (x : Payload). IsDelivered (small_client a) (takes_next a 2) x) e (1 ∷ 2 ∷ [], inl refl, refl)
    | inr none ↦ absurd none
  ]
  delivers_next (suc (suc (suc zero))) p i = absurd i
  delivers_next (suc (suc (suc (suc zero)))) p i = elim i [
    | inl e ↦ subst (λ (x : Payload). IsDelivered (small_client a) (takes_next a 4) x) e tt
    | inr none ↦ absurd none
  ]
  delivers_next (suc (suc (suc (suc (suc n))))) p i = absurd i

  pub takes_step : (n : ℕ) → ClientStep (small_client a) (takes_next a n)
  takes_step n = record {
    account = refl;
    seed = refl;
    accepts = λ a. a;
    realms = λ r e. inl e;
    counted = omega (arith, none_given (suc n));
    few = omega (arith, none_given (suc n));
    started = [];
    requests = λ m i. absurd i;
    numbered = omega arith;
    outstanding = λ m o. absurd o;
    queued = λ m q. absurd q;
    taken = λ k t. absurd t;
    draws = λ bytes m e shows. absurd (let never : ⊥ = cc in never);
    handles = λ bytes i. inl i;
    buffers = λ bytes b. absurd b;
    gained = reported_at a n;
    gains = λ h k. elim (in_either h (map (λ (t : Reported). t.held) (reported_at a n)) (held_after a n) k) [
      | inl new ↦ inr (held_in h (reported_at a n) new)
      | inr old ↦ inl old
    ];
    answers = λ t i. (let s = reported_so a n t i in
        subst (λ (k : ℕ). IsAnswered (small_client a) (takes_next a n) [] (Holds t.held) k) (sym s.number_is) (answered_here n (Holds t.held) s.asks s.brings));
    once = reported_once a n;
    spent = λ t m i o. absurd o;
    known = λ t i. (reported_so a n t i).known;
    is_of = λ t i. (reported_so a n t i).is_of;
    decodes = append-nil (map (λ (t : Reported). t.notice) (reported_at a n));
    shows = λ h k. k;
    visible = λ h i. absurd i;
    waits = λ number to w. elim (waits_next a n number to w) [
      | inl old ↦ inl old
      | inr new ↦ inr (inl (number_at n, answered_here n (Knows number to) new.0 new.1))
    ];
    attempted = λ k t. absurd t;
    delivers = delivers_next n;
    names = names_next n;
  }

  -- A call that leaves the client unchanged, and transmits, reports and brings nothing.
  still_step : (c : Client) (came : List (List ℕ)) (visible : List Held) → ((h : Held) → IsIn h visible → IsIn h (held_after a (answered_in c.core))) →
      ClientStep (small_client a) (record (quiet c c) { came = came; handled = came; visible = visible })
  still_step c came visible held = record {
    account = refl;
    seed = refl;
    accepts = λ a. a;
    realms = λ r e. inl e;
    counted = omega (arith, none_given (index_in c.core));
    few = omega (arith, none_given (index_in c.core));
    started = [];
    requests = λ m i. absurd i;
    numbered = omega arith;
    outstanding = λ m o. inl o;
    queued = λ m q. absurd q;
    taken = λ k t. absurd t;
    draws = λ b m e shows. absurd (let never : ⊥ = cc in never);
    handles = λ b i. inl i;
    buffers = λ b i. absurd i;
    gained = [];
    gains = λ h k. inl k;
    answers = λ t i. absurd i;
    once = tt;
    spent = λ t m i. absurd i;
    known = λ t i. absurd i;
    is_of = λ t i. absurd i;
    decodes = refl;
    shows = λ h k. k;
    visible = held;
    waits = λ number to w. inl w;
    attempted = λ k t. absurd t;
    delivers = λ p i. absurd i;
    names = λ p i. absurd i;
  }

  pub idle_step : (n : ℕ) (came : List (List ℕ)) (visible : List Held) → ((h : Held) → IsIn h visible → IsIn h (held_after a n)) →
      ClientStep (small_client a) (record (quiet (idle n) (idle n)) { came = came; handled = came; visible = visible })
  idle_step n came visible held = still_step (idle n) came visible held

  processes_step : (n : ℕ) (bytes : List ℕ) → ClientStep (small_client a) (processes n bytes)
  processes_step n bytes = idle_step n (bytes ∷ []) [] (λ h i. absurd i)

  shows_step : (n : ℕ) → ClientStep (small_client a) (shows_all a n)
  shows_step n = idle_step n [] (held_after a n) (λ h i. i)

  -- A response of an earlier run came while a request is outstanding.
  pub earlier_step : (n : ℕ) → ClientStep (small_client a) (processes_earlier n)
  earlier_step n = still_step (waiting n) ((3 ∷ n ∷ []) ∷ []) [] (λ h i. absurd i)

  -- A forged challenge came.
  forged_step : ClientStep (small_client a) processes_forged
  forged_step = still_step fresh ((2 ∷ 1 ∷ []) ∷ []) [] (λ h i. absurd i)

  -- The server core's challenge came, and the client stores its realm.
  challenge_step : ClientStep (small_client a) processes_challenge
  challenge_step = record {
    account = refl;
    seed = refl;
    accepts = λ a. a;
    realms = λ r e. inr (2 ∷ 0 ∷ [], inl refl, e);
    counted = omega (arith, none_given 0);
    few = omega (arith, none_given 0);
    started = [];
    requests = λ m i. absurd i;
    numbered = omega arith;
    outstanding = λ m o. inl o;
    queued = λ m q. absurd q;
    taken = λ k t. absurd t;
    draws = λ b m e shows. absurd (let never : ⊥ = cc in never);
    handles = λ b i. inl i;
    buffers = λ b i. absurd i;
    gained = [];
    gains = λ h k. inl k;
    answers = λ t i. absurd i;
    once = tt;
    spent = λ t m i. absurd i;
    known = λ t i. absurd i;
    is_of = λ t i. absurd i;
    decodes = refl;
    shows = λ h k. k;
    visible = λ h i. absurd i;
    waits = λ number to w. inl w;
    attempted = λ k t. absurd t;
    delivers = λ p i. absurd i;
    names = λ p i. absurd i;
  }

  pub desk_step : (n : ℕ) → DeskStep (small_wire a) (small_desk a) n
  desk_step n =
      let shows_it : (r : List ℕ) (m : Message) → Some (1 ∷ n ∷ []) ≡ Some r → listed_small a r ≡ Some m → response_at a n ≡ m
      = λ r m e f. (let same : 1 ∷ n ∷ [] ≡ r = cc in let both : Some (response_at a n) ≡ Some m = ap (listed_small a) same ∙ f in cc) in
      record {
        responds = λ r m e f. inl (subst (λ (x : Message). x.class ≡ Success) (shows_it r m e f) (response_class a n));
        grants = λ r m e f is. record {
          request = request_at a n;
          shows = refl;
          class_is = request_class a n;
          grant = grant_at a n;
          granted = refl;
          for = subst (λ (x : Message). IsGrantFor (request_at a n) x (grant_at a n)) (shows_it r m e f) (grant_for a n);
          from_is = from_local a n;
          stored = refl;
        };
        refuses = λ r m e f is. absurd (let no : Success ≡ Error = sym (subst (λ (x : Message). x.class ≡ Success) (shows_it r m e f) (response_class a n)) ∙ is in let never : ⊥ = cc in never);
        validates = λ key algorithm e. (0 ∷ n ∷ [], (refl, e.0, ap (λ (k : List ℕ). Some (digest_under k)) (sym e.1)));
        keyed = λ key algorithm e. (tt, e.1 ∙ sym (ap (key_small home) e.0));
        signs = λ key text r algorithm e f g.
            (let same : 1 ∷ n ∷ [] ≡ r = cc in (g, e.0 ∙ ap algorithm_by same, sym (ap digest_in same) ∙ ap (λ (k : List ℕ). Some (digest_under k)) (sym e.1)));
        keeps = λ g i. in_left g (recorded_after a n) (grant_at a n ∷ []) i;
      }

  -- ---- the whole run

  pub small_laws : WireLaws (small_wire a)
  small_laws = record {
    fixed = λ one other key algorithm text p q. sym p.0 ∙ q.0;
    same = λ one other e. ap (listed_small a) e;
  }

  pub first_is_new : IsNew (small a) fresh
  first_is_new = record {
    none_outstanding = λ m o. o;
    none_queued = λ m o. o;
    none_taken = λ k t. t;
    none_stored = λ h k. k;
    none_waits = λ number to w. w;
    none_attempted = λ k t. t;
    none_buffered = λ b i. i;
    none_created = refl;
  }

  pub leads : (n : ℕ) → Leads fresh (rounds a n) (idle n)
  leads zero = (refl, (refl, refl))
  leads (suc n) = (refl, (refl, (refl, (refl, (refl, leads n)))))

  pub lawful : (n : ℕ) → AtEach (λ s _. IsLawful (small a) s) (rounds a n)
  lawful zero = (challenge_step, (forged_step, tt))
  lawful (suc n) = (
    processes_step (suc n) (0 ∷ n ∷ []),
    (processes_step (suc n) (1 ∷ n ∷ []), (shows_step (suc n), (takes_step n, (desk_step n, (asks_step n, lawful n))))),
  )

  -- Two realms are named: the server core's, and that of the forged challenge.
  pub named_in : (n : ℕ) (r : List ℕ) → AtSome (λ s _. NamesRealm (small a) r s) (rounds a n) → (r ≡ home) ⊎ (r ≡ abroad)
  named_in zero r some = elim some [
    | inl here ↦ (let t : Some home ≡ Some r = reported_alone (2 ∷ 0 ∷ []) here.0 r here.1 here.2 in let same : r ≡ home = cc in inl same)
    | inr more1 ↦ elim more1 [
      | inl here ↦ (let t : Some abroad ≡ Some r = reported_alone (2 ∷ 1 ∷ []) here.0 r here.1 here.2 in let same : r ≡ abroad = cc in inr same)
      | inr none ↦ absurd none
    ]
  ]
  named_in (suc n) r some = elim some [
    | inl here ↦ absurd (names_none (0 ∷ n ∷ []) here.0 r refl here.1 here.2)
    | inr more2 ↦ elim more2 [
      | inl here ↦ absurd (names_none (1 ∷ n ∷ []) here.0 r refl here.1 here.2)
      | inr more3 ↦ elim more3 [
        | inl here ↦ absurd here.1
        | inr more4 ↦ elim more4 [
          | inl here ↦ absurd (names_none (1 ∷ n ∷ []) here.0 r refl here.1 here.2)
          | inr more5 ↦ elim more5 [
            | inl desk ↦ inl (sym desk)
            | inr more6 ↦ elim more6 [
              | inl here ↦ absurd here.1
              | inr before ↦ named_in n r before
            ]
          ]
        ]
      ]
    ]
  ]

  -- If a message with the digest under the server core's key validates under another key, the digests under
  -- both are equal.
  home_digest : (came bytes key : List ℕ) → IsIn bytes (came ∷ []) → digest_in came ≡ Some 0 → digest_in bytes ≡ Some (digest_under key) → digest_under key ≡ 0
  home_digest came bytes key i carries right = elim i [
    | inl e ↦ (let same : Some 0 ≡ Some (digest_under key) = sym carries ∙ (ap digest_in e ∙ right) in cc)
    | inr none ↦ absurd none
  ]

  -- Of the keys that count, only the server core's validates it.
  pub home_key : (whole : List (Step Client ℕ)) → ((r : List ℕ) → AtSome (λ s _. NamesRealm (small a) r s) whole → (r ≡ home) ⊎ (r ≡ abroad)) →
      (b : IntegrityAlgorithm) (key : List ℕ) → IsKeyOf (small a) fresh whole b key → b ≡ Sha1 → digest_under key ≡ 0 → key ≡ home
  home_key whole named b key of sha1 right = elim of.1 [
    | inl stored ↦ (let no : None ≡ Some of.0 = stored in absurd (let never : ⊥ = cc in never))
    | inr some ↦ (
        let is : key ≡ of.0 = of.2 ∙ ap (key_small of.0) sha1 in
        elim (named of.0 some) [
          | inl e ↦ is ∙ e
          | inr e ↦ (let no : 1 ≡ 0 = sym (ap digest_under (is ∙ e)) ∙ right in absurd (omega (arith, no)))
        ])
  ]

  -- A challenge carries no digest.
  no_digest : (realm : ℕ) (bytes key : List ℕ) → IsIn bytes ((2 ∷ realm ∷ []) ∷ []) → digest_in bytes ≡ Some (digest_under key) → ⊥
  no_digest realm bytes key i carries = elim i [
    | inl e ↦ (let no : None ≡ Some (digest_under key) = ap digest_in e ∙ carries in let never : ⊥ = cc in never)
    | inr none ↦ none
  ]

  -- The server core signed its response, whenever it arrives.
  pub by_desk : (n : ℕ) (b : IntegrityAlgorithm) (bytes key text : List ℕ) → (b ≡ Sha1 → digest_under key ≡ 0 → key ≡ home) → IsIn bytes ((1 ∷ n ∷ []) ∷ []) →
      IsRight bytes key b text → IsSigned (small a) key b text (AtDesk n)
  by_desk n b bytes key text is_home i v = elim i [
    | inl e ↦ (
        let sha1 : b ≡ Sha1 = v.1 ∙ sym (ap algorithm_by e) in
        inr (1 ∷ n ∷ [], refl, v.0 ∙ sym e, (sha1, is_home sha1 (home_digest (1 ∷ n ∷ []) bytes key (inl e) refl v.2))))
    | inr none ↦ absurd none
  ]

  -- The client signed its request, whenever it arrives.
  by_client : (n : ℕ) (b : IntegrityAlgorithm) (bytes key text : List ℕ) → IsIn bytes ((0 ∷ n ∷ []) ∷ []) → IsRight bytes key b text →
      IsSigned (small a) key b text (AtClient (asks_next n))
  by_client n b bytes key text i v = elim i [
    | inl e ↦ inl (0 ∷ n ∷ [], refl, (v.0 ∙ sym e, v.1 ∙ sym (ap algorithm_by e), ap digest_in e ∙ v.2))
    | inr none ↦ absurd none
  ]

  pub authentic_on : (count : ℕ) (whole : List (Step Client ℕ)) →
      ((b : IntegrityAlgorithm) (key : List ℕ) → IsKeyOf (small a) fresh whole b key → b ≡ Sha1 → digest_under key ≡ 0 → key ≡ home) →
      (n : ℕ) → AtEach (IsAuthentic (small a) fresh count whole) (rounds a n)
  authentic_on count whole keys zero = (
    (λ bytes key text b m i own v shows for_it. absurd (no_digest 0 bytes key i v.2)),
    ((λ bytes key text b m i own v shows for_it. absurd (no_digest 1 bytes key i v.2)), tt),
  )
  authentic_on count whole keys (suc n) = (
    (λ bytes key text b m i own v shows for_it. inr (inr (inr (inr (inl (by_client n b bytes key text i v)))))),
    (
      (λ bytes key text b m i own v shows for_it. inr (inr (inl (by_desk n b bytes key text (keys b key own) i v)))),
      (
        (λ bytes key text b m i. absurd i),
        (
          (λ bytes key text b m i own v shows for_it. inl (by_desk n b bytes key text (keys b key own) i v)),
          (
            (λ key text b m own v shows has. inl (inl (0 ∷ n ∷ [], refl, v))),
            ((λ bytes key text b m i. absurd i), authentic_on count whole keys n),
          ),
        ),
      ),
    ),
  )

  pub authentic : (count n : ℕ) → NoForgery (small a) fresh count (rounds a n)
  authentic count n = authentic_on count (rounds a n) (home_key (rounds a n) (named_in n)) n

  -- The first sixteen transaction IDs are different.
  pub distinct : (count : ℕ) → count ≤ 16 → AreDistinct (small a) tt count
  distinct count le i j less lt e = omega (arith, le, less, lt, e)

  pub unforged : (n : ℕ) → n ≤ 16 → IsUnforged (small a) fresh (rounds a n) (idle n)
  unforged n le = record {
    new = first_is_new;
    leads = leads n;
    lawful = lawful n;
    authentic = authentic n n;
    distinct = distinct n le;
  }

  pub rounds_promised : (n : ℕ) → IsPromised (small a) fresh (rounds a n) (idle n)
  rounds_promised n = promised (small a) small_laws fresh (rounds a n) (idle n) first_is_new (leads n) (lawful n)
