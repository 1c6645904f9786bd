-- Runs of a client and a server core. The newest step comes first, and the earlier steps follow it.
use Rattle.std.specs.Prelude.{◌≡◌, ◌≢◌, ◌⊎◌, ℕ, ◌+◌, ◌<◌, List, [], ◌∷◌, Some}
use Rattle.turn_runs.specs.Members.{IsIn}
use Rattle.turn_runs.specs.Messages.{Message, Held, IsAttempt}
use Rattle.turn_runs.specs.Names.{SocketAddr, IntegrityAlgorithm}
use Rattle.turn_runs.specs.Words.{Words}
use Rattle.turn_runs.specs.Steps.{Call, ClientStep, DeskStep}

pub data Step (C D : Type 0) : Type 0 where
  AtClient : (call : Call C) → Step C D
  AtDesk : (d : D) → Step C D

-- The statement `P` holds of some step of the run and the steps before it.
abbrev pub AtSome : {S : Type 0} → (S → List S → Type 0) → List S → Type 0
AtSome P [] = ⊥
AtSome P (s ∷ earlier) = P s earlier ⊎ AtSome P earlier

-- The statement `P` holds of each step of the run and the steps before it.
abbrev pub AtEach : {S : Type 0} → (S → List S → Type 0) → List S → Type 0
AtEach P [] = Unit {0}
AtEach P (s ∷ earlier) = P s earlier × AtEach P earlier

-- The run leads the client from state `first` to state `last`. Steps of the server core do not change the
-- client's state.
abbrev pub Leads : {C D : Type 0} → C → List (Step C D) → C → Type 0
Leads first [] last = last ≡ first
Leads first (AtClient call ∷ earlier) last = (last ≡ call.after) × Leads first earlier call.before
Leads first (AtDesk d ∷ earlier) last = Leads first earlier last

module _ {C D : Type 0} (W : Words C D) where
  -- The step meets its contract: `ClientStep` or `DeskStep`.
  abbrev pub IsLawful : Step C D → Type 0
  IsLawful (AtClient call) = ClientStep W.client call
  IsLawful (AtDesk d) = DeskStep W.wire W.desk d

  -- The count of transaction IDs that the client's generator gave in the run: the sum over its steps.
  abbrev pub given_in : List (Step C D) → ℕ
  given_in [] = 0
  given_in (AtClient call ∷ earlier) = given_in earlier + W.client.given call.before call.after
  given_in (AtDesk d ∷ earlier) = given_in earlier

  -- The client's count of generated transaction IDs grew in the run by exactly the count that its generator
  -- gave.
  abbrev pub IsCounted : (first : C) → List (Step C D) → (last : C) → Type 0
  IsCounted first run last = W.client.count last ≡ W.client.count first + given_in run

  -- The step names this realm: at the client, a challenge that arrives does, whoever sent it; at the server
  -- core, its own realm is named.
  abbrev pub NamesRealm : (realm : List ℕ) → Step C D → Type 0
  NamesRealm realm (AtClient call) =
      (bytes : List ℕ) × IsIn bytes call.came × (W.wire.reported_realm bytes ≡ Some realm)
  NamesRealm realm (AtDesk d) = W.desk.realm d ≡ realm

  -- The realm counts in the run: the client remembered it when the run began, or a step names it.
  abbrev pub IsRealmOf : (first : C) → List (Step C D) → (realm : List ℕ) → Type 0
  IsRealmOf first run realm = (W.client.realm first ≡ Some realm) ⊎ AtSome (λ s _. NamesRealm realm s) run

  -- The key counts in the run for this algorithm: it is the key of the client's user name and password in a
  -- realm that counts.
  abbrev pub IsKeyOf : (first : C) → List (Step C D) → IntegrityAlgorithm → (key : List ℕ) → Type 0
  IsKeyOf first run a key =
      (realm : List ℕ) × IsRealmOf first run realm × (key ≡ W.wire.key (W.client.account first) realm a)

  -- The client signed the text under this key at this step, in bytes that it transmitted.
  abbrev pub IsSignedByClient : (key : List ℕ) → IntegrityAlgorithm → (text : List ℕ) → Step C D → Type 0
  IsSignedByClient key a text (AtClient call) =
      (bytes : List ℕ) × (call.transmitted ≡ Some bytes) × W.wire.Validates bytes key a text
  IsSignedByClient key a text (AtDesk d) = ⊥

  -- The server core signed the text under this key at this step: it replied to bytes that it validated under
  -- the key, by the same algorithm, and the text is what integrity covers in the reply.
  abbrev pub IsSignedByDesk : (key : List ℕ) → IntegrityAlgorithm → (text : List ℕ) → Step C D → Type 0
  IsSignedByDesk key a text (AtClient call) = ⊥
  IsSignedByDesk key a text (AtDesk d) =
      (reply : List ℕ) × (W.desk.reply d ≡ Some reply) × W.wire.Covers reply a text
      × W.desk.ValidatedWith d key a

  abbrev pub IsSigned : (key : List ℕ) → IntegrityAlgorithm → (text : List ℕ) → Step C D → Type 0
  IsSigned key a text s = IsSignedByClient key a text s ⊎ IsSignedByDesk key a text s

  -- The client or the server core signed the text under this key at an earlier step.
  abbrev pub WasSigned : (key : List ℕ) → IntegrityAlgorithm → (text : List ℕ) → List (Step C D) → Type 0
  WasSigned key a text earlier = AtSome (λ one _. IsSigned key a text one) earlier

  -- The transaction ID `n` is one of the first `count` that the client's seed gives. `AreDistinct`: no two of
  -- these are equal.
  abbrev pub HasNumber : (seed : W.wire.Seed) → (count : ℕ) → ℕ → Type 0
  HasNumber seed count n = (index : ℕ) × (index < count) × (n ≡ W.wire.number seed index)

  abbrev pub AreDistinct : (seed : W.wire.Seed) → (count : ℕ) → Type 0
  AreDistinct seed count = (i j : ℕ) → i < j → j < count → W.wire.number seed i ≢ W.wire.number seed j

  -- The client may act on the message once it validates: it has one of the client's transaction IDs, or it is
  -- a CONNECTION_ATTEMPT. A message that was signed in another run of the same account, and is replayed, has
  -- the transaction IDs of that run.
  abbrev pub IsForClient : (first : C) → (count : ℕ) → Message → Type 0
  IsForClient first count m = HasNumber (W.client.seed first) count m.number ⊎ IsAttempt m

  -- At this step nothing is forged. Premises: a message validates, by some algorithm, under a key that counts
  -- in the whole run for it; and the message either arrives at the client and is for the client
  -- (`IsForClient`), or arrives at the server core with one of the client's transaction IDs. Conclusion: the
  -- text that its integrity covers was signed under that key, by that algorithm, at an earlier step.
  -- `NoForgery`: this holds at each step of the run.
  abbrev pub IsAuthentic : (first : C) → (count : ℕ) → (whole : List (Step C D)) → Step C D → List (Step C D) → Type 0
  IsAuthentic first count whole (AtClient call) earlier =
      (bytes key text : List ℕ) (a : IntegrityAlgorithm) (m : Message) → IsIn bytes call.came →
      IsKeyOf first whole a key → W.wire.Validates bytes key a text → W.wire.visible bytes ≡ Some m →
      IsForClient first count m → WasSigned key a text earlier
  IsAuthentic first count whole (AtDesk d) earlier =
      (key text : List ℕ) (a : IntegrityAlgorithm) (m : Message) → IsKeyOf first whole a key →
      W.wire.Validates (W.desk.request d) key a text → W.wire.visible (W.desk.request d) ≡ Some m →
      HasNumber (W.client.seed first) count m.number → WasSigned key a text earlier

  abbrev pub NoForgery : (first : C) → (count : ℕ) → List (Step C D) → Type 0
  NoForgery first count run = AtEach (IsAuthentic first count run) run

  -- A new client, of which nothing was requested yet.
  pub record IsNew (c : C) : Type 0 where
    pub none_outstanding : (m : Message) → W.client.IsOutstanding c m → ⊥
    pub none_queued : (m : Message) → W.client.IsQueued c m → ⊥
    pub none_taken : (n : ℕ) → W.client.IsTaken c n → ⊥
    pub none_stored : (h : Held) → W.client.IsStored c h → ⊥
    pub none_waits : (transaction_id : ℕ) (peer : SocketAddr) → W.client.Waits c transaction_id peer → ⊥
    pub none_attempted : (n : ℕ) → W.client.IsAttempted c n → ⊥
    pub none_buffered : (bytes : List ℕ) → W.client.IsBuffered c bytes → ⊥
    pub none_created : W.client.created c ≡ []

  -- A run of a new client in which each step meets its contract, nothing is forged, and no transaction ID is
  -- generated twice.
  pub record IsUnforged (first : C) (run : List (Step C D)) (last : C) : Type 0 where
    pub new : IsNew first
    pub leads : Leads first run last
    pub lawful : AtEach (λ s _. IsLawful s) run
    pub authentic : NoForgery first (W.client.count last) run
    pub distinct : AreDistinct (W.client.seed first) (W.client.count last)
