-- A small client and a small server core, in the terms of a run.
use Rattle.std.specs.Prelude.{◌≡◌, ℕ, zero, suc, ◌+◌, ◌-◌, ◌%◌, List, [], ◌∷◌, ◌++◌, Option, Some, None}
use Rattle.turn_runs.specs.StunTypesWire.declared.algorithm.IntegrityAlgorithm.{IntegrityAlgorithm}
use Rattle.turn_runs.specs.StunTypesWire.declared.algorithm.IntegrityAlgorithm.TheVariants.{Sha1, Sha256, Sha512}
use Rattle.turn_runs.specs.Members.{IsIn}
use Rattle.turn_runs.specs.Messages.{Message, Payload, FromPeer, Reported, FromChannel, FromConnection}
use Rattle.turn_runs.specs.Words.{Wire, ClientWords, DeskWords, Words}
use Rattle.turn_runs_laws.specs.Handshakes.{Addresses, number_at, request_at, response_at, grant_at, recorded_after, held_after, WaitsAfter}

-- What the client stores: the count of its requests that were answered, and whether the next is outstanding.
pub data Core : Type 0 where
  -- No challenge has brought it a realm yet.
  Fresh : Core
  Idle : (answered : ℕ) → Core
  Waiting : (answered : ℕ) → Core

-- A client, as a run describes it.
pub record Client : Type 0 where
  pub core : Core
  -- The count of transaction IDs that it has generated, as the run counts them. The client does not store it.
  pub transmitted : ℕ

abbrev pub answered_in : Core → ℕ
answered_in Fresh = 0
answered_in (Idle n) = n
answered_in (Waiting n) = n

-- The index that its generator has reached.
abbrev pub index_in : Core → ℕ
index_in Fresh = 0
index_in (Idle n) = n
index_in (Waiting n) = suc n

-- How far the generator advanced from one state to another, by its indexes modulo sixteen.
abbrev pub given_by : (before after : Core) → ℕ
given_by before after = (index_in after + (16 - index_in before % 16)) % 16

-- ---- realms, keys and digests

-- The server core's realm, and one that a forged challenge names.
abbrev pub home : List ℕ
home = 0 ∷ []

abbrev pub abroad : List ℕ
abroad = 1 ∷ []

-- A challenge is the number 2, followed by the realm that it names.
abbrev pub reported_small : List ℕ → Option (List ℕ)
reported_small (suc (suc zero) ∷ realm ∷ []) = Some (realm ∷ [])
reported_small _ = None

-- The realm that the client remembers.
abbrev pub realm_in : Core → Option (List ℕ)
realm_in Fresh = None
realm_in (Idle n) = Some home
realm_in (Waiting n) = Some home

-- The algorithm that the client chose.
abbrev pub algorithm_in : Core → Option IntegrityAlgorithm
algorithm_in Fresh = None
algorithm_in (Idle n) = Some Sha1
algorithm_in (Waiting n) = Some Sha1

-- The key in a realm for an algorithm. For SHA-1 it is the realm itself.
abbrev pub key_small : (realm : List ℕ) → IntegrityAlgorithm → List ℕ
key_small realm Sha1 = realm
key_small realm Sha256 = 2 ∷ realm
key_small realm Sha512 = 3 ∷ realm

-- A digest is one of sixteen numbers, so keys of many realms give equal digests.
abbrev pub digest_under : (key : List ℕ) → ℕ
digest_under [] = 0
digest_under (n ∷ rest) = n % 16

-- The digest that a message carries. It is made under the server core's key, except that two kinds of
-- response carry a digest of their own. A challenge carries none.
abbrev pub digest_in : List ℕ → Option ℕ
digest_in (zero ∷ n ∷ []) = Some 0
digest_in (suc zero ∷ n ∷ []) = Some 0
digest_in (suc (suc (suc zero)) ∷ n ∷ []) = Some 0
digest_in (suc (suc (suc (suc zero))) ∷ n ∷ digest ∷ []) = Some digest
digest_in (suc (suc (suc (suc (suc zero)))) ∷ n ∷ digest ∷ []) = Some digest
digest_in _ = None

-- The algorithm of that digest: SHA-1, except for one kind of response.
abbrev pub algorithm_by : List ℕ → IntegrityAlgorithm
algorithm_by (suc (suc (suc (suc (suc zero)))) ∷ n ∷ digest ∷ []) = Sha256
algorithm_by _ = Sha1

-- The message validates under the key, by the algorithm: integrity covers the whole message, which carries
-- the digest under this key.
abbrev pub IsRight : (bytes key : List ℕ) → IntegrityAlgorithm → (text : List ℕ) → Type 0
IsRight bytes key algorithm text =
    (text ≡ bytes) × (algorithm ≡ algorithm_by bytes) × (digest_in bytes ≡ Some (digest_under key))

module _ (a : Addresses) where
  -- What the server core answered to that request in an earlier run of the same account, in which the client
  -- had other transaction IDs.
  abbrev pub earlier_response : ℕ → Message
  earlier_response n = record (response_at a n) { number = 16 + number_at n }

  -- A message begins with its kind and with the count of requests before it. The kinds are:
  --
  -- - 0: a request
  -- - 1: the server core's response
  -- - 3: its response in an earlier run
  -- - 4: a response with a digest of its own, by SHA-1
  -- - 5: a response with a digest of its own, by SHA-256
  abbrev pub listed_small : List ℕ → Option Message
  listed_small (zero ∷ n ∷ []) = Some (request_at a n)
  listed_small (suc zero ∷ n ∷ []) = Some (response_at a n)
  listed_small (suc (suc (suc zero)) ∷ n ∷ []) = Some (earlier_response n)
  listed_small (suc (suc (suc (suc zero))) ∷ n ∷ digest ∷ []) = Some (response_at a n)
  listed_small (suc (suc (suc (suc (suc zero)))) ∷ n ∷ digest ∷ []) = Some (response_at a n)
  listed_small _ = None

  abbrev pub IsOutstandingIn : Core → Message → Type 0
  IsOutstandingIn Fresh m = ⊥
  IsOutstandingIn (Idle n) m = ⊥
  IsOutstandingIn (Waiting n) m = m ≡ request_at a n

  -- A frame also carries a payload, which is the frame's own bytes.
  abbrev pub CarriesIn : List ℕ → Payload → Type 0
  CarriesIn frame (FromPeer transport peer bytes) = bytes ≡ frame
  CarriesIn frame (Reported transport peer report) = ⊥
  CarriesIn frame (FromChannel transaction_id peer bytes) = bytes ≡ frame
  CarriesIn frame (FromConnection local peer bytes) = ⊥

  -- There is one account.
  abbrev pub small_wire : Wire
  small_wire = record {
    Account = Unit {0};
    Seed = Unit {0};
    visible = listed_small;
    Validates = IsRight;
    Covers = λ bytes algorithm text. text ≡ bytes;
    ShowsSame = λ one other. one ≡ other;
    Carries = CarriesIn;
    reported_realm = reported_small;
    key = λ account realm algorithm. key_small realm algorithm;
    number = λ seed index. number_at index;
  }

  abbrev pub small_client : ClientWords small_wire Client
  small_client = record {
    account = λ c. tt;
    realm = λ c. realm_in c.core;
    algorithm = λ c. algorithm_in c.core;
    seed = λ c. tt;
    count = λ c. c.transmitted;
    given = λ before after. given_by before.core after.core;
    IsOutstanding = λ c m. IsOutstandingIn c.core m;
    IsQueued = λ c m. ⊥;
    IsTaken = λ c n. ⊥;
    IsStored = λ c h. IsIn h (held_after a (answered_in c.core));
    IsHeld = λ c h. IsIn h (held_after a (answered_in c.core));
    Waits = λ c transaction_id to. WaitsAfter a (answered_in c.core) transaction_id to;
    IsAttempted = λ c n. ⊥;
    AcceptsOffers = λ c. ⊥;
    IsBuffered = λ c bytes. ⊥;
    created = λ c. [];
  }

  -- A step of the server core is identified by the count of requests before it.
  abbrev pub small_desk : DeskWords ℕ
  small_desk = record {
    request = λ n. 0 ∷ n ∷ [];
    source = λ n. a.local;
    realm = λ n. home;
    reply = λ n. Some (1 ∷ n ∷ []);
    ValidatedWith = λ n key algorithm. (algorithm ≡ Sha1) × (key ≡ home);
    recorded = recorded_after a;
    records = λ n. recorded_after a n ++ grant_at a n ∷ [];
    IsGranted = λ n g. g ≡ grant_at a n;
  }

  abbrev pub small : Words Client ℕ
  small = record { wire = small_wire; client = small_client; desk = small_desk }
