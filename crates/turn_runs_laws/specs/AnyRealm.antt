-- A wider premise than `NoForgery`: it covers the client's keys in every possible realm, also in realms that
-- nobody named.
use Rattle.std.specs.Prelude.{◌≡◌, ◌⊎◌, ℕ, List, Some}
use Rattle.turn_runs.specs.Members.{IsIn}
use Rattle.turn_runs.specs.Messages.{Message}
use Rattle.turn_runs.specs.Names.{IntegrityAlgorithm}
use Rattle.turn_runs.specs.Runs.{Step, AtClient, AtDesk, AtEach, AtSome, HasNumber, IsSignedByClient}
use Rattle.turn_runs.specs.Words.{Words}

module _ {C D : Type 0} (W : Words C D) where
  -- A key of the client's user name and password, in any realm and for any algorithm.
  abbrev pub IsOfAnyRealm : C → List ℕ → Type 0
  IsOfAnyRealm c key =
      (realm : List ℕ) × (a : IntegrityAlgorithm) × (key ≡ W.wire.key (W.client.account c) realm a)

  -- The text is what integrity covers in the server core's reply, and the server core validated the request
  -- under this key, by any algorithm.
  abbrev pub IsSignedByDeskAnyhow : (key : List ℕ) → IntegrityAlgorithm → (text : List ℕ) → Step C D → Type 0
  IsSignedByDeskAnyhow key a text (AtClient call) = ⊥
  IsSignedByDeskAnyhow key a text (AtDesk d) =
      (reply : List ℕ) × (W.desk.reply d ≡ Some reply) × W.wire.Covers reply a text
      × ((b : IntegrityAlgorithm) × W.desk.ValidatedWith d key b)

  abbrev pub WasSignedAnyhow : (key : List ℕ) → IntegrityAlgorithm → (text : List ℕ) → List (Step C D) → Type 0
  WasSignedAnyhow key a text earlier =
      AtSome (λ one _. IsSignedByClient W key a text one ⊎ IsSignedByDeskAnyhow key a text one) earlier

  abbrev pub IsAuthenticInAnyRealm : (first : C) → (count : ℕ) → Step C D → List (Step C D) → Type 0
  IsAuthenticInAnyRealm first count (AtClient call) earlier =
      (bytes key text : List ℕ) (a : IntegrityAlgorithm) → IsIn bytes call.came → IsOfAnyRealm first key →
      W.wire.Validates bytes key a text → WasSignedAnyhow key a text earlier
  IsAuthenticInAnyRealm first count (AtDesk d) earlier =
      (key text : List ℕ) (a : IntegrityAlgorithm) (m : Message) → IsOfAnyRealm first key →
      W.wire.Validates (W.desk.request d) key a text → W.wire.visible (W.desk.request d) ≡ Some m →
      HasNumber W (W.client.seed first) count m.number → WasSignedAnyhow key a text earlier

  abbrev pub NoForgeryInAnyRealm : (first : C) → (count : ℕ) → List (Step C D) → Type 0
  NoForgeryInAnyRealm first count run = AtEach (IsAuthenticInAnyRealm first count) run
