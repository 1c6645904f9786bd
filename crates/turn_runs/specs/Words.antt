-- The terms that the other crates have to give a meaning, and what has to hold of them.
use Rattle.std.specs.Prelude.{◌≡◌, ℕ, List, Option}
use Rattle.turn_runs.specs.Messages.{Message, Held, Grant, Notice, Payload}
use Rattle.turn_runs.specs.Names.{SocketAddr, IntegrityAlgorithm}

-- What is said of bytes.
pub record Wire : Type 1 where
  -- The user name and password of a user.
  pub Account : Type 0
  -- What determines a client's stream of transaction IDs.
  pub Seed : Type 0
  -- The message that the bytes show, if they parse.
  pub visible : List ℕ → Option Message
  -- The bytes have an integrity attribute of the algorithm that covers the text and is valid under the key.
  pub Validates : (bytes key : List ℕ) → IntegrityAlgorithm → (text : List ℕ) → Type 0
  -- The text is what the integrity attribute of the algorithm covers in the bytes.
  pub Covers : (bytes : List ℕ) → IntegrityAlgorithm → (text : List ℕ) → Type 0
  -- Both show the same, except for a FINGERPRINT.
  pub ShowsSame : (one other : List ℕ) → Type 0
  -- The bytes are a message or a channel frame, and carry this from a peer.
  pub Carries : (frame : List ℕ) → Payload → Type 0
  -- The realm that the bytes name, if they are a challenge.
  pub reported_realm : List ℕ → Option (List ℕ)
  -- The key of an account in a realm, for an algorithm.
  pub key : Account → (realm : List ℕ) → IntegrityAlgorithm → List ℕ
  -- The transaction ID at an index of the stream of a seed.
  pub number : Seed → ℕ → ℕ

-- What is said of a client in a state `C`.
pub record ClientWords (V : Wire) (C : Type 0) : Type 1 where
  pub account : C → V.Account
  -- The realm that the client remembers. It signs and validates in this realm.
  pub realm : C → Option (List ℕ)
  -- The algorithm that the client chose for that realm. It signs and validates by this algorithm.
  pub algorithm : C → Option IntegrityAlgorithm
  pub seed : C → V.Seed
  -- The count of transaction IDs that the client has generated from its stream.
  pub count : C → ℕ
  -- The count of transaction IDs that the client's generator gave between two states, by its positions in
  -- them.
  pub given : (before after : C) → ℕ
  -- The request awaits its response.
  pub IsOutstanding : C → Message → Type 0
  -- The request is made and is queued for transmission.
  pub IsQueued : C → Message → Type 0
  -- The client skips this transaction ID when it makes a request.
  pub IsTaken : C → ℕ → Type 0
  -- This is in the client's lists, also if its allocation is marked as expired.
  pub IsStored : C → Held → Type 0
  -- The client's getters list this.
  pub IsHeld : C → Held → Type 0
  -- The connection ID of a connection to a peer that the client may bind, or already has.
  pub Waits : C → (number : ℕ) → (peer : SocketAddr) → Type 0
  -- The transaction ID of a CONNECTION_ATTEMPT that the client has not yet answered, or whose response is
  -- queued.
  pub IsAttempted : C → ℕ → Type 0
  -- The client accepts a CONNECTION_ATTEMPT indication, which carries no signature, as an announcement.
  pub AcceptsOffers : C → Type 0
  -- A whole frame in a stream's buffer.
  pub IsBuffered : C → (bytes : List ℕ) → Type 0
  -- What the client's queued events report as created, the oldest first.
  pub created : C → List Notice

-- What is said of a step `D` of the server core: bytes arrived, and it may have replied.
pub record DeskWords (D : Type 0) : Type 1 where
  pub request : D → List ℕ
  pub source : D → SocketAddr
  -- The realm of its users' keys.
  pub realm : D → List ℕ
  pub reply : D → Option (List ℕ)
  -- The server core validated the bytes under this key, by this algorithm.
  pub ValidatedWith : D → (key : List ℕ) → IntegrityAlgorithm → Type 0
  -- The recorded grants, before and after the step.
  pub recorded : D → List Grant
  pub records : D → List Grant
  -- What the server core promises of a grant that it made in this step.
  pub IsGranted : D → Grant → Type 0

-- All terms together.
pub record Words (C D : Type 0) : Type 1 where
  pub wire : Wire
  pub client : ClientWords wire C
  pub desk : DeskWords D

-- What has to hold of bytes.
pub record WireLaws (V : Wire) : Type 0 where
  pub fixed : (one other key : List ℕ) (a : IntegrityAlgorithm) (text : List ℕ) →
      V.Validates one key a text → V.Validates other key a text → V.ShowsSame one other
  pub same : (one other : List ℕ) → V.ShowsSame one other → V.visible one ≡ V.visible other
