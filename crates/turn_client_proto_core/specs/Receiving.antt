-- Handling of messages from the server (RFC 8489, section 6.3; RFC 8656).
use Rattle.std.specs.Prelude.{◌≡◌, ◌≢◌, ℕ, Bool, true, false, not, ◌&&◌, List, [], Result, Ok, Err}
use Rattle.std.specs.Bool.{MatchBool}
use Rattle.stun_proto_client.specs.Client as auth
use Rattle.stun_proto_client.specs.declared.error.LongTermClientAuthError.{LongTermClientAuthError}
use Rattle.stun_proto_client.specs.declared.error.LongTermClientAuthError.TheVariants.{IntegrityFailed, NoMemory}
use Rattle.stun_proto_client.specs.declared.validation.LongTermClientValidation.{LongTermClientValidation}
use Rattle.stun_proto_client.specs.declared.validation.LongTermClientValidation.TheVariants.{ResendRequest, Validated}
use Rattle.stun_proto_agent.specs.Handling.{is_awaited, is_response}
use Rattle.stun_types_wire.specs.Attributes.{kind_at}
use Rattle.stun_types_wire.specs.Grammar.{number_at}
use Rattle.stun_types_wire.specs.Types.{class_of}
use Rattle.turn_client_proto_allocation.specs.Awaited.{has_number}
use Rattle.turn_client_proto_core.specs.Attempting.{IsIndicationTaken, takes_offer}
use Rattle.turn_client_proto_core.specs.Authenticating.{IsFirstJudged, IsSignedJudged}
use Rattle.turn_client_proto_messages.specs.TurnRuns.Indications.{is_indication}
use Rattle.turn_client_proto_messages.specs.Judging.{IsJudged}
use Rattle.turn_client_proto_core.specs.Outcomes.{IsIgnored}
use Rattle.turn_client_proto_core.specs.Responding.{judged}
use Rattle.turn_client_proto_core.specs.Standing.{IsJudgedStanding, counts}
use Rattle.turn_client_proto_core.specs.declared.protocol.Phase.{Phase}
use Rattle.turn_client_proto_core.specs.declared.protocol.Phase.TheVariants.{Initial, InitialSent, Authenticating, Authenticated, Ended}
use Rattle.turn_client_proto_core.specs.declared.protocol.Protocol.{Protocol}

-- An outcome of the verdict on a message. The client given to it has the authenticator's state after the
-- verdict.
abbrev pub Follows : Type 1
Follows = Result LongTermClientValidation LongTermClientAuthError → Protocol → List ℕ → ℕ → Bool → Protocol → Type 0

-- The message was validated, and `follows` holds for the verdict.
pub record IsFollowed (follows : Follows) (old : Protocol) (bytes : List ℕ) (now : ℕ) (handled : Bool)
    (new : Protocol) : Type 0 where
  pub verdict : Result LongTermClientValidation LongTermClientAuthError
  pub auth : auth.Client
  pub is_judged : IsJudged old.auth bytes verdict auth
  pub outcome : follows verdict (judged auth old) bytes now handled new

-- The message is validated if it passes; otherwise it is not for the client.
abbrev pub IsFollowedIf : Bool → Follows → Protocol → List ℕ → ℕ → Bool → Protocol → Type 0
IsFollowedIf passes follows old bytes now handled new = MatchBool passes
    (IsFollowed follows old bytes now handled new)
    (IsIgnored old handled new)

-- The outcome of a message, by the client's phase. Before the server has allocated, only responses are
-- handled; once an ALLOCATE was signed, only responses to the ALLOCATEs. After the server has allocated,
-- everything is handled, of indications a CONNECTION_ATTEMPT alone, if the client accepts such. Nothing is handled
-- before the first ALLOCATE or after the end.
abbrev pub IsProcessedIn : Phase → Protocol → List ℕ → ℕ → Bool → Protocol → Type 0
IsProcessedIn Initial old bytes now handled new = IsIgnored old handled new
IsProcessedIn (InitialSent numbers) old bytes now handled new =
    IsFollowedIf (is_response bytes) IsFirstJudged old bytes now handled new
IsProcessedIn (Authenticating numbers) old bytes now handled new =
    IsFollowedIf (is_response bytes && has_number (number_at bytes) numbers) IsSignedJudged old bytes now handled new
IsProcessedIn Authenticated old bytes now handled new = MatchBool (is_indication (class_of (kind_at bytes)))
    (IsIndicationTaken old bytes handled new)
    (IsFollowed IsJudgedStanding old bytes now handled new)
IsProcessedIn Ended old bytes now handled new = IsIgnored old handled new

-- A response that a hardened client ignores before it reads anything else of it: no request with its transaction
-- ID is outstanding (RFC 8489, section 6.3).
unfoldable pub is_unawaited : Protocol → List ℕ → Bool
is_unawaited old bytes = old.auth.hardened && (is_response bytes && not (is_awaited old.agent bytes))

-- The outcome of a message: whether it was for the client, and the client's state afterwards. A response that is
-- ignored leaves the client as it was, its authenticator included.
abbrev pub IsProcessed : Protocol → List ℕ → ℕ → Bool → Protocol → Type 0
IsProcessed old bytes now handled new = MatchBool (is_unawaited old bytes)
    (IsIgnored old handled new)
    (IsProcessedIn old.phase old bytes now handled new)

-- ---- when an allocation of memory may fail

-- A condition under which the client stores or reports something of a message, by the verdict on it.
abbrev pub Growing : Type 1
Growing = Result LongTermClientValidation LongTermClientAuthError → Protocol → List ℕ → Type 0

-- The message was validated, and by the verdict the client stores or reports something. A challenge that can
-- be answered is stored, whatever request it answers.
pub record GrowsBy (grows : Growing) (old : Protocol) (bytes : List ℕ) : Type 0 where
  pub verdict : Result LongTermClientValidation LongTermClientAuthError
  pub auth : auth.Client
  pub is_judged : IsJudged old.auth bytes verdict auth
  pub has_to : grows verdict old bytes

-- The condition before any ALLOCATE was signed. A response that validates ends the client, which reports each
-- family; any other response ends the client if its transaction is outstanding.
abbrev pub GrowsFirst : Growing
GrowsFirst (Ok (ResendRequest choice)) p bytes = Unit {0}
GrowsFirst (Ok (Validated algorithm)) p bytes = p.families ≢ []
GrowsFirst (Err NoMemory) p bytes = Unit {0}
GrowsFirst (Err error) p bytes = is_awaited p.agent bytes ≡ true

-- The condition once an ALLOCATE was signed. A response that validates is accepted if its transaction is
-- outstanding; one whose integrity check fails ends the client, unless it is hardened.
abbrev pub GrowsSigned : Growing
GrowsSigned (Ok (ResendRequest choice)) p bytes = Unit {0}
GrowsSigned (Ok (Validated algorithm)) p bytes = is_awaited p.agent bytes ≡ true
GrowsSigned (Err (IntegrityFailed algorithm)) p bytes = (p.auth.hardened ≡ false) × (p.families ≢ [])
GrowsSigned (Err NoMemory) p bytes = Unit {0}
GrowsSigned (Err error) p bytes = ⊥

-- The condition once the server has allocated. A message that validates has an effect if `counts` holds.
abbrev pub GrowsStanding : Growing
GrowsStanding (Ok (ResendRequest choice)) p bytes = Unit {0}
GrowsStanding (Ok (Validated algorithm)) p bytes = counts p bytes ≡ true
GrowsStanding (Err NoMemory) p bytes = Unit {0}
GrowsStanding (Err error) p bytes = ⊥

-- The condition, by the client's phase. It holds only for messages that are validated, and for indications that
-- announce a connection, so never before the first ALLOCATE or after the end.
abbrev pub MayGrowIn : Phase → Protocol → List ℕ → Type 0
MayGrowIn Initial old bytes = ⊥
MayGrowIn (InitialSent numbers) old bytes = MatchBool (is_response bytes) (GrowsBy GrowsFirst old bytes) ⊥
MayGrowIn (Authenticating numbers) old bytes =
    MatchBool (is_response bytes && has_number (number_at bytes) numbers) (GrowsBy GrowsSigned old bytes) ⊥
MayGrowIn Authenticated old bytes =
    MatchBool (is_indication (class_of (kind_at bytes))) (takes_offer old bytes ≡ true) (GrowsBy GrowsStanding old bytes)
MayGrowIn Ended old bytes = ⊥

-- Handling the message may need memory. For any other message no memory allocation can fail.
abbrev pub MayGrow : Protocol → List ℕ → Type 0
MayGrow old bytes = MatchBool (is_unawaited old bytes) ⊥ (MayGrowIn old.phase old bytes)
