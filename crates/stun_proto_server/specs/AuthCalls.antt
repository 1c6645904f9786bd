-- The calls of a server's authenticator, their results, and the state that they leave, if no allocation fails
-- (RFC 8489, section 9.2). Each definition states what the call's contract states.
use Rattle.std.specs.Prelude.{◌≡◌, ◌≢◌, ◌≤◌, ◌*◌, ℕ, Bool, List, [], ◌∷◌, Option, Some, None, IfSome, IsSomeAnd}
use Rattle.std.specs.FinMap as map
use Rattle.std.specs.declared.net.socket_addr.SocketAddr.{SocketAddr}
use Rattle.rand_core.specs.Stream.{Stream}
use Rattle.stun_proto_verify.specs.Auth.Addition.{Addition}
use Rattle.stun_proto_verify.specs.Auth.AdditionStages.{IsMade}
use Rattle.stun_proto_verify.specs.Write.Adding.{IsStarted}
use Rattle.stun_proto_verify.specs.Wire.Attributes.{kind_at}
use Rattle.stun_proto_verify.specs.Write.Drafts.{Draft}
use Rattle.stun_proto_verify.specs.Base.GeneratorWords.{stream_after}
use Rattle.stun_proto_verify.specs.Wire.declared.algorithm.IntegrityAlgorithm.{IntegrityAlgorithm}
use Rattle.stun_proto_verify.specs.Wire.Types.{class_of}
use Rattle.stun_proto_verify.specs.Wire.declared.error.StunWriteError.{StunWriteError}
use Rattle.stun_proto_verify.specs.Wire.declared.error.StunWriteError.TheVariants as write
use Rattle.stun_proto_verify.specs.Knowledge.{Outcome}
use Rattle.stun_proto_verify.specs.Auth.SupportedAlgorithms.{with_algorithm}
use Rattle.stun_proto_verify.specs.declared.error.LongTermServerAuthError.{LongTermServerAuthError}
use Rattle.stun_proto_verify.specs.declared.error.LongTermServerAuthError.TheVariants as refusal
use Rattle.stun_proto_verify.specs.Auth.declared.feature.Feature.{Feature}
use Rattle.stun_proto_server.specs.declared.long_term.TheConstants.{MIN_NONCE_EXPIRY}
use Rattle.stun_proto_server.specs.declared.validation.LongTermServerValidation.{LongTermServerValidation}
use Rattle.stun_proto_server.specs.Server.{Server, nonce_at, outcome_at, refreshed, words_generated}
use Rattle.stun_proto_server.specs.ServerSigning.{addition_for, class_requested, signing_refusal_for, size_for}
use Rattle.stun_proto_server.specs.ServerValidation.{IsValidated, Refuses, after_refusal, words_of_validation}

-- ---- calls and results

-- A call of a public function of `LongTermServerAuth`, with all its arguments. A generator is represented by
-- the stream of its words, a writer by its draft.
pub data AuthCall : Type 0 where
  -- `validate_incoming_message`
  Validate : (bytes : List ℕ) (from : SocketAddr) (now : ℕ) (stream : Stream) → AuthCall
  -- `sign_outgoing_message` and `sign_outgoing_message_unchecked`
  Sign : (draft : Draft) (to : SocketAddr) → AuthCall
  -- `message_signature_bytes`
  SizeRequested : (to : SocketAddr) (is_request : Bool) → AuthCall
  -- `nonce_for_client`
  NonceRequested : (client : SocketAddr) → AuthCall
  -- `validated_user`
  UserRequested : (client : SocketAddr) → AuthCall
  -- `refresh_nonce`
  Refresh : (from : SocketAddr) (now : ℕ) (stream : Stream) → AuthCall
  -- `remove_client`
  RemoveClient : (client : SocketAddr) → AuthCall
  -- `realm`
  RealmRequested : AuthCall
  -- `add_user`
  AddUser : (name password : List ℕ) → AuthCall
  -- `remove_user`
  RemoveUser : (name : List ℕ) → AuthCall
  -- `supported_integrity`
  AlgorithmsRequested : AuthCall
  -- `add_supported_integrity`
  AddAlgorithm : (algorithm : IntegrityAlgorithm) → AuthCall
  -- `set_supported_integrity`
  SetAlgorithm : (algorithm : IntegrityAlgorithm) → AuthCall
  -- `anonymous_username`
  AnonymityRequested : AuthCall
  -- `set_anonymous_username`
  SetAnonymity : (feature : Feature) → AuthCall
  -- `set_nonce_expiry_duration`, in nanoseconds
  SetExpiry : (expiry : ℕ) → AuthCall
  -- `max_clients`
  LimitRequested : AuthCall
  -- `set_max_clients`
  SetLimit : (most : Option ℕ) → AuthCall

-- The result of a call. If the call can generate random words, it includes the remaining stream.
pub data AuthAnswer : Type 0 where
  Done : AuthAnswer
  Valid : (how : LongTermServerValidation) (left : Stream) → AuthAnswer
  Refused : (error : LongTermServerAuthError) (left : Stream) → AuthAnswer
  Refreshed : (left : Stream) → AuthAnswer
  Signed : (draft : Draft) → AuthAnswer
  NotSigned : (error : StunWriteError) → AuthAnswer
  Size : (bytes : ℕ) → AuthAnswer
  Nonce : (nonce : Option (List ℕ)) → AuthAnswer
  User : (user : Option Outcome) → AuthAnswer
  Realm : (realm : List ℕ) → AuthAnswer
  Algorithms : (algorithms : List IntegrityAlgorithm) → AuthAnswer
  Anonymity : (feature : Feature) → AuthAnswer
  Limit : (most : Option ℕ) → AuthAnswer

-- ---- the result of a call, and the state after it

-- A message was validated, or rejected with an error other than `NoMemory`: the clauses `valid`, `refused`
-- and `stream` of `validate_incoming_message`.
abbrev pub IsJudged : AuthAnswer → Server → List ℕ → SocketAddr → ℕ → Stream → Server → Type 0
IsJudged (Valid how left) old bytes from now stream new =
    IsValidated (refreshed old from now stream) from bytes how new
    × (left ≡ stream_after (words_of_validation old from bytes now) stream)
IsJudged (Refused error left) old bytes from now stream new =
    (error ≢ refusal.NoMemory) × Refuses (refreshed old from now stream) from bytes error
    × (new ≡ after_refusal old from bytes now stream)
    × (left ≡ stream_after (words_of_validation old from bytes now) stream)
IsJudged _ old bytes from now stream new = ⊥

-- An addition was made to a draft, or refused with an error other than `NoMemory`: the clauses `ok` and
-- `cause` of `sign_outgoing_message`.
abbrev pub IsSignedBy : AuthAnswer → Option Addition → Draft → Type 0
IsSignedBy (Signed signed) addition draft =
    (signing_refusal_for addition draft ≡ None) × IsSomeAnd addition (λ made. IsMade made draft signed)
IsSignedBy (NotSigned error) addition draft =
    (error ≢ write.NoMemory) × (signing_refusal_for addition draft ≡ Some error)
IsSignedBy _ addition draft = ⊥

-- A getter's result. The server is unchanged.
abbrev pub IsReported : AuthAnswer → AuthAnswer → Server → Server → Type 0
IsReported answer decoded old new = (answer ≡ decoded) × (new ≡ old)

-- A call was made, returned this result, and left this server. The preconditions of the function are
-- included. For a call that changes users or settings, the effect is that of the only clause of its contract;
-- for `add_user`, of the clause `ok`.
abbrev pub IsCalled : AuthCall → AuthAnswer → Server → Server → Type 0
IsCalled (Validate bytes from now stream) answer old new = IsJudged answer old bytes from now stream new
IsCalled (Sign draft to) answer old new =
    IsStarted draft.bytes × IsSignedBy answer (addition_for old to (class_of (kind_at draft.bytes))) draft × (new ≡ old)
IsCalled (SizeRequested to is_request) answer old new =
    IsReported answer (Size (size_for (addition_for old to (class_requested is_request)))) old new
IsCalled (NonceRequested client) answer old new = IsReported answer (Nonce (nonce_at old client)) old new
IsCalled (UserRequested client) answer old new = IsReported answer (User (outcome_at old client)) old new
-- The clauses `stream` and `ok`.
IsCalled (Refresh from now stream) answer old new =
    (answer ≡ Refreshed (stream_after (words_generated old from now) stream)) × (new ≡ refreshed old from now stream)
-- The clause `removed`.
IsCalled (RemoveClient client) answer old new =
    (answer ≡ Done) × (new ≡ record old { clients = map.remove old.clients client })
IsCalled RealmRequested answer old new = IsReported answer (Realm old.realm) old new
IsCalled (AddUser name password) answer old new =
    (answer ≡ Done) × (new ≡ record old { users = map.insert old.users name password })
IsCalled (RemoveUser name) answer old new =
    (answer ≡ Done) × (new ≡ record old { users = map.remove old.users name })
IsCalled AlgorithmsRequested answer old new = IsReported answer (Algorithms old.algorithms) old new
IsCalled (AddAlgorithm algorithm) answer old new =
    (answer ≡ Done) × (new ≡ record old { algorithms = with_algorithm old.algorithms algorithm })
IsCalled (SetAlgorithm algorithm) answer old new =
    (answer ≡ Done) × (new ≡ record old { algorithms = algorithm ∷ [] })
IsCalled AnonymityRequested answer old new = IsReported answer (Anonymity old.anonymous_username) old new
IsCalled (SetAnonymity feature) answer old new =
    (answer ≡ Done) × (new ≡ record old { anonymous_username = feature })
IsCalled (SetExpiry expiry) answer old new =
    (MIN_NONCE_EXPIRY * 1_000_000_000 ≤ expiry) × (answer ≡ Done) × (new ≡ record old { nonce_expiry = expiry })
IsCalled LimitRequested answer old new = IsReported answer (Limit old.max_clients) old new
IsCalled (SetLimit most) answer old new =
    IfSome most (λ n. 1 ≤ n) × (answer ≡ Done) × (new ≡ record old { max_clients = most })
