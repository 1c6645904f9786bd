-- What is promised of a run: all that the client holds was granted by the server core in response to the
-- client's own request for it.
use Rattle.std.specs.Prelude.{◌≡◌, ◌⊎◌, ℕ, List, [], ◌∷◌, ◌++◌, map, Some}
use Rattle.turn_runs.specs.Members.{IsIn, NoneTwice}
use Rattle.turn_runs.specs.Messages.{Message, Held, Connection, Gain, Holds, Knows, IsResponse, GrantIs, Payload, NamesHeld, IsOf}
use Rattle.turn_runs.specs.Names.{SocketAddr, IntegrityAlgorithm, Request, Success}
use Rattle.turn_runs.specs.Words.{Words}
use Rattle.turn_runs.specs.Steps.{reported_for, Reported, Grants, IsDelivered, IsOffered}
use Rattle.turn_runs.specs.Runs.{IsKeyOf, Step, AtClient, AtDesk, AreDistinct, AtEach, AtSome, HasNumber, IsRealmOf, IsSignedByClient, IsSignedByDesk, NoForgery}

module _ {C D : Type 0} (W : Words C D) where
  -- At this step the client transmitted bytes that show the same as `bytes`.
  abbrev pub DrawsSame : List ℕ → Step C D → Type 0
  DrawsSame bytes (AtClient call) =
      (own : List ℕ) × (call.transmitted ≡ Some own) × W.wire.ShowsSame own bytes
  DrawsSame bytes (AtDesk d) = ⊥

  -- In this step the server core granted `gain`. Its reply is a success to a request with the transaction ID
  -- `number`, which shows the same as one that the client transmitted at an earlier step.
  pub record GrantsInAnswer (number : ℕ) (gain : Gain) (d : D) (earlier : List (Step C D)) : Type 0 where
    pub reply : List ℕ
    pub replied : W.desk.reply d ≡ Some reply
    pub response : Message
    pub shows : W.wire.visible reply ≡ Some response
    pub class_is : response.class ≡ Success
    pub grants : Grants W.wire W.desk d reply response
    pub number_is : grants.grant.number ≡ number
    pub grant_is : GrantIs grants.grant gain
    pub transmitted : AtSome (λ one _. DrawsSame (W.desk.request d) one) earlier

  abbrev pub IsGrantedAt : (number : ℕ) → Gain → Step C D → List (Step C D) → Type 0
  IsGrantedAt number gain (AtClient call) earlier = ⊥
  IsGrantedAt number gain (AtDesk d) earlier = GrantsInAnswer number gain d earlier

  abbrev pub TracedBy : List (Step C D) → (number : ℕ) → Gain → Type 0
  TracedBy run number gain = AtSome (IsGrantedAt number gain) run

  -- At this step the client, which accepts such, handled an indication of this connection.
  abbrev pub IsOfferedAt : (number : ℕ) → (peer : SocketAddr) → Step C D → List (Step C D) → Type 0
  IsOfferedAt number peer (AtClient call) earlier = IsOffered W.client call number peer
  IsOfferedAt number peer (AtDesk d) earlier = ⊥

  abbrev pub WasOffered : List (Step C D) → (number : ℕ) → (peer : SocketAddr) → Type 0
  WasOffered run number peer = AtSome (IsOfferedAt number peer) run

  -- For a bound connection: the server core also granted its connection ID, in response to a CONNECT to its
  -- peer. If the client accepts indications, then one may have announced the connection instead, by anybody:
  -- that its peer opened it isn't known.
  abbrev pub IsConnected : List (Step C D) → Held → Type 0
  IsConnected run (Connection local peer number) =
      ((n : ℕ) × TracedBy run n (Knows number peer)) ⊎ WasOffered run number peer
  IsConnected run _ = Unit {0}

  -- The server core granted `h` in response to a request with this transaction ID that the client
  -- transmitted. `Traced`: it did so for some transaction ID.
  abbrev pub TracedWith : List (Step C D) → (number : ℕ) → Held → Type 0
  TracedWith run number h = TracedBy run number (Holds h) × IsConnected run h

  abbrev pub Traced : List (Step C D) → Held → Type 0
  Traced run h = (number : ℕ) × TracedWith run number h

  -- ---- at each step of a run

  -- After this step, all that the client holds (`IsHeld`: what its getters list) is traced.
  abbrev pub HoldsTraced : Step C D → List (Step C D) → Type 0
  HoldsTraced (AtClient call) earlier =
      (h : Held) → W.client.IsHeld call.after h → Traced (AtClient call ∷ earlier) h
  HoldsTraced (AtDesk d) earlier = Unit {0}

  -- Each payload that the call gave was delivered in this step, and names the peer of something that is
  -- traced. It is in the client's lists after the step, and the client holds it unless its allocation is
  -- marked as expired.
  abbrev pub NamesTraced : Step C D → List (Step C D) → Type 0
  NamesTraced (AtClient call) earlier = (p : Payload) → IsIn p call.payloads →
      IsDelivered W.client call p
      × ((h : Held) × NamesHeld p h × W.client.IsStored call.after h × Traced (AtClient call ∷ earlier) h)
  NamesTraced (AtDesk d) earlier = Unit {0}

  -- The server core signed a response at an earlier step if
  --
  -- 1. the client handles it in this step,
  -- 2. it validates under a key of the client's that counts in the whole run, and
  -- 3. it has one of the client's transaction IDs.
  --
  -- All that the client gains is in response to a request of its own (`GrantsInAnswer`), so a response with
  -- another transaction ID brings it nothing.
  abbrev pub TakesDesks : (first last : C) → (whole : List (Step C D)) → Step C D → List (Step C D) → Type 0
  TakesDesks first last whole (AtClient call) earlier =
      (bytes key text : List ℕ) (a : IntegrityAlgorithm) (m : Message) → IsIn bytes call.handled →
      IsKeyOf W first whole a key → W.wire.Validates bytes key a text → W.wire.visible bytes ≡ Some m →
      IsResponse m.class → HasNumber W (W.client.seed first) (W.client.count last) m.number →
      AtSome (λ one _. IsSignedByDesk W key a text one) earlier
  TakesDesks first last whole (AtDesk d) earlier = Unit {0}

  -- The client signed a request at an earlier step if the server core validates it under such a key in this
  -- step and it has one of the client's transaction IDs.
  abbrev pub TakesClients : (first last : C) → (whole : List (Step C D)) → Step C D → List (Step C D) → Type 0
  TakesClients first last whole (AtClient call) earlier = Unit {0}
  TakesClients first last whole (AtDesk d) earlier =
      (key : List ℕ) (b : IntegrityAlgorithm) (m : Message) → IsKeyOf W first whole b key →
      W.desk.ValidatedWith d key b → W.wire.visible (W.desk.request d) ≡ Some m → m.class ≡ Request →
      HasNumber W (W.client.seed first) (W.client.count last) m.number →
      (text : List ℕ) × W.wire.Validates (W.desk.request d) key b text
      × AtSome (λ one _. IsSignedByClient W key b text one) earlier

  -- The realm that the client remembers before the call counts in the whole run, and so does its key for that
  -- realm, under which it validates.
  abbrev pub KeepsRealm : (first : C) → (whole : List (Step C D)) → Step C D → Type 0
  KeepsRealm first whole (AtClient call) =
      (realm : List ℕ) → W.client.realm call.before ≡ Some realm → IsRealmOf W first whole realm
  KeepsRealm first whole (AtDesk d) = Unit {0}

  -- A client that accepts indications before the call accepted them from the start (`IsOffered`).
  abbrev pub KeepsOffers : (first : C) → Step C D → Type 0
  KeepsOffers first (AtClient call) = W.client.AcceptsOffers call.before → W.client.AcceptsOffers first
  KeepsOffers first (AtDesk d) = Unit {0}

  -- The client itself signed the text of no response that it handles: a reflected message is not taken for a
  -- response.
  abbrev pub TakesNoReflection : Step C D → List (Step C D) → Type 0
  TakesNoReflection (AtClient call) earlier =
      (bytes key text : List ℕ) (a : IntegrityAlgorithm) (m : Message) → IsIn bytes call.handled →
      W.wire.Validates bytes key a text → W.wire.visible bytes ≡ Some m → IsResponse m.class →
      AtSome (λ one _. IsSignedByClient W key a text one) earlier → ⊥
  TakesNoReflection (AtDesk d) earlier = Unit {0}

  pub record IsSafe (first last : C) (whole : List (Step C D)) (s : Step C D) (earlier : List (Step C D)) : Type 0 where
    pub desks : TakesDesks first last whole s earlier
    pub realms : KeepsRealm first whole s
    pub offers : KeepsOffers first s
    pub clients : TakesClients first last whole s earlier
    pub reflects : TakesNoReflection s earlier
    pub holds : HoldsTraced s earlier
    pub names : NamesTraced s earlier

  -- ---- over a whole run

  -- The list `reported` has what the run returned as created, the newest step's first. Each entry has the
  -- transaction ID of a request in response to which it was granted at an earlier step.
  abbrev pub AnswersGranted : List (Step C D) → List Reported → Type 0
  AnswersGranted [] reported = reported ≡ []
  AnswersGranted (AtDesk d ∷ earlier) reported = AnswersGranted earlier reported
  AnswersGranted (AtClient call ∷ earlier) reported =
      (here : List Reported) × (others : List Reported) × (reported ≡ here ++ others)
      × (map (λ t. t.notice) here ≡ call.answered)
      × ((t : Reported) → IsIn t here → IsOf t.notice t.held × TracedWith earlier t.number t.held)
      × AnswersGranted earlier others

  -- Nothing is returned as created twice for the same request.
  abbrev pub AnswersOnce : List (Step C D) → Type 0
  AnswersOnce run = (reported : List Reported) × AnswersGranted run reported × NoneTwice reported_for reported

  -- What a getter returns as held at this step was granted at an earlier step.
  abbrev pub ShowsTraced : Step C D → List (Step C D) → Type 0
  ShowsTraced (AtClient call) earlier =
      (h : Held) → IsIn h call.visible → Traced (AtClient call ∷ earlier) h
  ShowsTraced (AtDesk d) earlier = Unit {0}

  -- ---- what is promised of a run

  -- The statement `Is` holds if nothing that arrives is forged and no transaction ID is generated twice.
  abbrev pub Unless : (first : C) → List (Step C D) → (last : C) → Type 0 → Type 0
  Unless first run last Is = NoForgery W first (W.client.count last) run
      → AreDistinct W (W.client.seed first) (W.client.count last) → Is

  -- Under these two premises: each step is safe (`safe`), nothing is returned as created twice for the same
  -- request (`once`), and all that a getter returns as held was granted before (`visible`).
  pub record IsPromised (first : C) (run : List (Step C D)) (last : C) : Type 0 where
    pub safe : Unless first run last (AtEach (IsSafe first last run) run)
    pub once : Unless first run last (AnswersOnce run)
    pub visible : Unless first run last (AtEach ShowsTraced run)
