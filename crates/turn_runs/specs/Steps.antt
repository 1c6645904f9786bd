-- What each call of a client, and each step of a server core, preserves and gains.
use Rattle.std.specs.Prelude.{◌≡◌, ◌≢◌, ◌⊎◌, ℕ, ◌+◌, ◌<◌, ◌≤◌, List, [], ◌∷◌, ◌++◌, map, Option, Some, None}
use Rattle.turn_runs.specs.Members.{IsIn, NoneTwice}
use Rattle.turn_runs.specs.Messages.{Message, Held, Connection, Gain, Holds, Knows, Asks, IsResponse, Brings, Grant, IsGrantFor, Payload, FromConnection, NamesHeld, Notice, IsOf}
use Rattle.turn_runs.specs.Names.{SocketAddr, IntegrityAlgorithm, Request, Indication, Success, Error}
use Rattle.turn_types_frame.specs.Attributes.TurnRegistry.{connection_attempt_method}
use Rattle.turn_runs.specs.Words.{Wire, ClientWords, DeskWords}

-- One call of a client.
pub record Call (C : Type 0) : Type 0 where
  pub before : C
  -- What arrived by the call: a datagram, or the frames that a chunk of a stream completed.
  pub came : List (List ℕ)
  -- What the call handled, of what arrived and of the frames that were buffered.
  pub handled : List (List ℕ)
  -- What the call gave to be transmitted.
  pub transmitted : Option (List ℕ)
  -- What the call returned as created.
  pub answered : List Notice
  -- What the call returned as held, if it is a getter.
  pub visible : List Held
  pub payloads : List Payload
  pub after : C

-- Something reported as created, with the transaction ID of the request that was answered.
pub record Reported : Type 0 where
  pub notice : Notice
  pub held : Held
  pub number : ℕ

abbrev pub reported_for : Reported → Notice × ℕ
reported_for t = (t.notice, t.number)

module _ {V : Wire} {C : Type 0} (K : ClientWords V C) where
  -- The transaction ID at this index of the client's stream. If that one is in use by the client, or by one
  -- of the requests `others`, `transaction_id` may be any other.
  abbrev pub IsNumberAt : C → (others : List Message) → ℕ → ℕ → Type 0
  IsNumberAt c others index transaction_id =
      (transaction_id ≡ V.number (K.seed c) index)
      ⊎ (K.IsTaken c (V.number (K.seed c) index)
      ⊎ ((m : Message) × IsIn m others × (m.number ≡ V.number (K.seed c) index)))

  -- The requests have transaction IDs from increasing indices of the client's stream, each at least `from`
  -- and less than `to`.
  abbrev pub AreNumbered : C → (others : List Message) → (from to : ℕ) → List Message → Type 0
  AreNumbered c others from to [] = from ≤ to
  AreNumbered c others from to (m ∷ rest) =
      (index : ℕ) × (from ≤ index) × (index < to) × IsNumberAt c others index m.number
      × AreNumbered c (m ∷ others) (index + 1) to rest

  -- The client's key, and the algorithm that it is for. The key is that of the client's user name and
  -- password in the realm that it remembers, for the algorithm that it chose.
  abbrev pub IsOwnKey : C → IntegrityAlgorithm → (key : List ℕ) → Type 0
  IsOwnKey c a key = (realm : List ℕ) × (K.realm c ≡ Some realm) × (K.algorithm c ≡ Some a)
      × (key ≡ V.key (K.account c) realm a)

  -- The call handled this message, and it validates under the client's key, by the algorithm of the key.
  pub record Arrives (call : Call C) (bytes : List ℕ) (m : Message) : Type 0 where
    pub handled : IsIn bytes call.handled
    pub shows : V.visible bytes ≡ Some m
    pub key : List ℕ
    pub algorithm : IntegrityAlgorithm
    pub own : IsOwnKey call.before algorithm key
    pub text : List ℕ
    pub valid : V.Validates bytes key algorithm text

  -- The call handled a response by which the client gains this. The response validates and brings the gain.
  -- Its transaction ID is that of a request for this very gain, which was outstanding or which this call
  -- made.
  pub record IsAnswered (call : Call C) (started : List Message) (gain : Gain) (transaction_id : ℕ) : Type 0 where
    pub bytes : List ℕ
    pub response : Message
    pub arrives : Arrives call bytes response
    pub number_is : response.number ≡ transaction_id
    pub request : Message
    pub waited : K.IsOutstanding call.before request ⊎ IsIn request started
    pub request_is : request.number ≡ transaction_id
    pub asks : Asks request gain
    pub brings : Brings response gain

  -- The call handled a CONNECTION_ATTEMPT that validates.
  pub record IsTried (call : Call C) : Type 0 where
    pub bytes : List ℕ
    pub attempt : Message
    pub arrives : Arrives call bytes attempt
    pub class_is : attempt.class ≡ Request
    pub method_is : attempt.method ≡ connection_attempt_method

  -- The call handled a CONNECTION_ATTEMPT indication of this connection ID, whose first peer is this one, and
  -- the client accepts such. Nobody signs an indication, so it may be anybody's.
  pub record IsOffered (call : Call C) (transaction_id : ℕ) (peer : SocketAddr) : Type 0 where
    pub accepts : K.AcceptsOffers call.before
    pub bytes : List ℕ
    pub handled : IsIn bytes call.handled
    pub offer : Message
    pub shows : V.visible bytes ≡ Some offer
    pub class_is : offer.class ≡ Indication
    pub method_is : offer.method ≡ connection_attempt_method
    pub connection_is : offer.connection ≡ Some transaction_id
    pub others : List SocketAddr
    pub peers_are : offer.peers ≡ peer ∷ others

  -- If it is a connection, the client knew its connection ID and its peer.
  abbrev pub WasKnown : C → Held → Type 0
  WasKnown c (Connection local peer transaction_id) = K.Waits c transaction_id peer
  WasKnown c _ = Unit {0}

  -- The message may be transmitted: it is a request that is queued, outstanding or made by this call, or an
  -- indication, or a response to a CONNECTION_ATTEMPT.
  abbrev pub MayDraw : C → (started : List Message) → Message → Type 0
  MayDraw c started m =
      (K.IsQueued c m ⊎ (K.IsOutstanding c m ⊎ IsIn m started))
      ⊎ ((m.class ≡ Indication)
      ⊎ (IsResponse m.class × K.IsAttempted c m.number))

  -- The payload is what a message or a channel frame carries that the call handled. Raw data of a data
  -- connection comes in neither, so nothing is required of it.
  abbrev pub IsDelivered : Call C → Payload → Type 0
  IsDelivered call (FromConnection local peer bytes) = Unit {0}
  IsDelivered call payload = (frame : List ℕ) × IsIn frame call.handled × V.Carries frame payload

  pub record ClientStep (call : Call C) : Type 0 where
    pub account : K.account call.after ≡ K.account call.before
    pub seed : K.seed call.after ≡ K.seed call.before
    pub accepts : K.AcceptsOffers call.after → K.AcceptsOffers call.before
    -- The realm that the client remembers afterwards is the one that it remembered before, or is named by a
    -- challenge that the call handled.
    pub realms : (realm : List ℕ) → K.realm call.after ≡ Some realm →
        (K.realm call.before ≡ Some realm)
        ⊎ ((bytes : List ℕ) × IsIn bytes call.handled × (V.reported_realm bytes ≡ Some realm))
    -- The client's count grows by exactly as many transaction IDs as its generator gave, which is at most
    -- two.
    pub counted : K.count call.after ≡ K.count call.before + K.given call.before call.after
    pub few : K.given call.before call.after ≤ 2
    -- The requests that the call makes.
    pub started : List Message
    pub requests : (m : Message) → IsIn m started →
        (m.class ≡ Request) × (m.method ≢ connection_attempt_method)
    pub numbered : AreNumbered call.before [] (K.count call.before) (K.count call.after) started
    pub outstanding : (m : Message) → K.IsOutstanding call.after m →
        K.IsOutstanding call.before m ⊎ IsIn m started
    pub queued : (m : Message) → K.IsQueued call.after m → K.IsQueued call.before m ⊎ IsIn m started
    pub taken : (n : ℕ) → K.IsTaken call.after n →
        K.IsTaken call.before n ⊎ (((m : Message) × IsIn m started × (m.number ≡ n)) ⊎ IsTried call)
    pub draws : (bytes : List ℕ) (m : Message) → call.transmitted ≡ Some bytes → V.visible bytes ≡ Some m →
        MayDraw call.before started m
    -- What the call handles arrived by this call, or was buffered. So is it for what is buffered afterwards.
    pub handles : (bytes : List ℕ) → IsIn bytes call.handled →
        IsIn bytes call.came ⊎ K.IsBuffered call.before bytes
    pub buffers : (bytes : List ℕ) → K.IsBuffered call.after bytes →
        IsIn bytes call.came ⊎ K.IsBuffered call.before bytes
    -- What the client newly has in its lists was answered by what the call handled, each thing once for a
    -- transaction ID. Afterwards no request with that transaction ID is outstanding, unless this call made
    -- it.
    pub gained : List Reported
    pub gains : (h : Held) → K.IsStored call.after h →
        K.IsStored call.before h ⊎ ((t : Reported) × IsIn t gained × (t.held ≡ h))
    pub answers : (t : Reported) → IsIn t gained → IsAnswered call started (Holds t.held) t.number
    pub once : NoneTwice reported_for gained
    pub spent : (t : Reported) (m : Message) → IsIn t gained → K.IsOutstanding call.after m →
        m.number ≡ t.number → IsIn m started
    pub known : (t : Reported) → IsIn t gained → WasKnown call.before t.held
    -- What is gained is reported as created, first in, first out.
    pub is_of : (t : Reported) → IsIn t gained → IsOf t.notice t.held
    pub decodes : call.answered ++ K.created call.after
        ≡ K.created call.before ++ map (λ t. t.notice) gained
    -- What the getters list is in the client's lists, and what the call returns as held is what the getters
    -- list.
    pub shows : (h : Held) → K.IsHeld call.after h → K.IsStored call.after h
    pub visible : (h : Held) → IsIn h call.visible → K.IsHeld call.after h
    -- For each connection that the client may newly bind, the call handled a response to a CONNECT that
    -- brings its connection ID, a CONNECTION_ATTEMPT request of the server, or an indication of just that
    -- connection that the client accepts.
    pub waits : (transaction_id : ℕ) (peer : SocketAddr) → K.Waits call.after transaction_id peer →
        K.Waits call.before transaction_id peer
        ⊎ (((n : ℕ) × IsAnswered call started (Knows transaction_id peer) n)
        ⊎ (IsTried call ⊎ IsOffered call transaction_id peer))
    pub attempted : (n : ℕ) → K.IsAttempted call.after n → K.IsAttempted call.before n ⊎ IsTried call
    -- Each payload was delivered in this step, and names something in the client's lists.
    pub delivers : (p : Payload) → IsIn p call.payloads → IsDelivered call p
    pub names : (p : Payload) → IsIn p call.payloads → (h : Held) × NamesHeld p h × K.IsStored call.after h

module _ {D : Type 0} (V : Wire) (E : DeskWords D) where
  -- The success response answers a request, and the server core records a grant of what that request is for.
  -- `IsGranted` has the rest of what it promises of the grant, such as that the request was validated.
  pub record Grants (d : D) (reply : List ℕ) (response : Message) : Type 0 where
    pub request : Message
    pub shows : V.visible (E.request d) ≡ Some request
    pub class_is : request.class ≡ Request
    pub grant : Grant
    pub granted : E.IsGranted d grant
    pub for : IsGrantFor request response grant
    pub from_is : grant.from ≡ E.source d
    pub stored : E.records d ≡ E.recorded d ++ grant ∷ []

  pub record DeskStep (d : D) : Type 0 where
    pub responds : (r : List ℕ) (m : Message) → E.reply d ≡ Some r → V.visible r ≡ Some m →
        IsResponse m.class
    pub grants : (r : List ℕ) (m : Message) → E.reply d ≡ Some r → V.visible r ≡ Some m →
        m.class ≡ Success → Grants d r m
    -- An error response has no CONNECTION-ID.
    pub refuses : (r : List ℕ) (m : Message) → E.reply d ≡ Some r → V.visible r ≡ Some m →
        m.class ≡ Error → m.connection ≡ None
    -- What the server core validated under a key does validate under it, and the key is that of an account in
    -- the server core's realm.
    pub validates : (key : List ℕ) (a : IntegrityAlgorithm) → E.ValidatedWith d key a →
        (text : List ℕ) × V.Validates (E.request d) key a text
    pub keyed : (key : List ℕ) (a : IntegrityAlgorithm) → E.ValidatedWith d key a →
        (account : V.Account) × (key ≡ V.key account (E.realm d) a)
    -- The reply is signed under the key under which the request was validated.
    pub signs : (key text r : List ℕ) (a : IntegrityAlgorithm) → E.ValidatedWith d key a → E.reply d ≡ Some r →
        V.Covers r a text → V.Validates r key a text
    -- Recorded grants stay recorded.
    pub keeps : (g : Grant) → IsIn g (E.recorded d) → IsIn g (E.records d)
