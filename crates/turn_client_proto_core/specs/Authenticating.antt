-- Handling of messages before the server has allocated (RFC 8656, sections 7.3 and 7.4; RFC 8489, section
-- 9.2.5).
use Rattle.std.specs.Prelude.{ℕ, Bool, true, false, not, ◌&&◌, ◌||◌, ◌==◌, nat_le, nat_lt, List, [], ◌∷◌, ◌++◌, Option, Some, None, Result, Ok, Err, if◌then◌else◌}
use Rattle.std.specs.Bool.{MatchBool}
use Rattle.stun_proto_client.specs.declared.error.LongTermClientAuthError.{LongTermClientAuthError}
use Rattle.stun_proto_client.specs.declared.error.LongTermClientAuthError.TheVariants.{IntegrityFailed, NoMemory}
use Rattle.stun_proto_client.specs.declared.validation.LongTermClientValidation.{LongTermClientValidation}
use Rattle.stun_proto_client.specs.declared.validation.LongTermClientValidation.TheVariants.{ResendRequest, Validated}
use Rattle.stun_proto_agent.specs.Handling.{is_awaited}
use Rattle.stun_proto_auth.specs.Claims.{code_visible}
use Rattle.stun_types_wire.specs.Attributes.{kind_at}
use Rattle.stun_types_wire.specs.declared.class.MessageClass.{MessageClass}
use Rattle.stun_types_wire.specs.declared.class.MessageClass.TheVariants.{Success, Error}
use Rattle.stun_types_wire.specs.Registry.{bad_request_code, family_not_supported_code}
use Rattle.stun_types_wire.specs.Types.{class_of}
use Rattle.stun_types_base.specs.declared.family.AddressFamily.{AddressFamily}
use Rattle.stun_types_base.specs.declared.family.AddressFamily.TheVariants.{IPV4, IPV6}
use Rattle.turn_client_proto_api.specs.declared.event.TurnEvent.TheVariants.{AllocationCreateFailed}
use Rattle.turn_client_proto_messages.specs.ReportedRequests.{IsLawfulAllocate}
use Rattle.turn_client_proto_messages.specs.declared.request.TurnRequest.TheVariants.{Allocate}
use Rattle.turn_client_proto_messages.specs.Reported.{first_code, is_code}
use Rattle.turn_client_proto_core.specs.Allocating.{IsAllocated}
use Rattle.turn_client_proto_core.specs.Asking.{requested}
use Rattle.turn_client_proto_core.specs.Ending.{ended}
use Rattle.turn_client_proto_core.specs.Numbering.{IsNextNumber, after_number}
use Rattle.turn_client_proto_core.specs.Outcomes.{IsHandled, IsIgnored}
use Rattle.turn_client_proto_core.specs.Responding.{accepted, answered, challenged, is_tired}
use Rattle.turn_client_proto_core.specs.declared.protocol.Phase.{Phase}
use Rattle.turn_client_proto_core.specs.declared.protocol.Phase.TheVariants.{InitialSent, Authenticating}
use Rattle.turn_client_proto_core.specs.declared.protocol.Protocol.{Protocol}

-- ---- ALLOCATE, signed

-- The transaction IDs of the ALLOCATEs that were sent.
abbrev pub numbers_sent : Phase → List ℕ
numbers_sent (InitialSent numbers) = numbers
numbers_sent (Authenticating numbers) = numbers
numbers_sent _ = []

-- The client after it queued another signed ALLOCATE, with `transaction_id`.
unfoldable pub allocates_again : ℕ → ℕ → Protocol → Protocol
allocates_again transaction_id now p =
    let asking = requested (after_number p) (Allocate p.allocates p.families p.options) transaction_id now in
    record asking { phase = Authenticating (numbers_sent p.phase ++ transaction_id ∷ []) }

-- ---- a challenge

-- A challenge whose transaction is outstanding is answered by another signed ALLOCATE. After too many
-- challenges the client ends.
pub record IsAllocatingAgain (p : Protocol) (bytes : List ℕ) (now : ℕ) (handled : Bool) (new : Protocol)
    : Type 0 where
  pub number : ℕ
  pub is_next : IsNextNumber p number
  pub lawful : IsLawfulAllocate p.families p.options
  pub outcome : IsHandled (challenged bytes (allocates_again number now p)) handled new

abbrev pub IsChallenged : Protocol → List ℕ → ℕ → Bool → Protocol → Type 0
IsChallenged p bytes now handled new = MatchBool (is_awaited p.agent bytes)
    (MatchBool (is_tired p) (IsHandled (ended p) handled new) (IsAllocatingAgain p bytes now handled new))
    (IsIgnored p handled new)

-- ---- the first ALLOCATE, unsigned

-- Whether an error response with this code ends a request that was sent without credentials: the codes from 300 to
-- 499 do, but 400 without an integrity attribute is to be discarded (RFC 8489, sections 6.3.4 and 9.2.5). The
-- transaction goes on after the others, which say that the request may be sent again.
abbrev pub is_final_code : Option ℕ → Bool
is_final_code None = false
is_final_code (Some code) = (nat_le 300 code && nat_lt code 500) && not (code == bad_request_code)

abbrev pub is_final_error : MessageClass → Option ℕ → Bool
is_final_error Error code = is_final_code code
is_final_error _ code = false

-- Whether a response that nothing authenticates may end the client. For a hardened one only a final error does.
abbrev pub ends_unsigned : Protocol → List ℕ → Bool
ends_unsigned p bytes = not p.auth.hardened || is_final_error (class_of (kind_at bytes)) (code_visible bytes)

-- The outcome of a response that is no challenge, or a challenge that can't be answered. It ends the client
-- if its transaction is outstanding; a hardened one only if it is a final error.
abbrev pub IsUnauthenticated : Protocol → List ℕ → Bool → Protocol → Type 0
IsUnauthenticated p bytes handled new = MatchBool (is_awaited p.agent bytes && ends_unsigned p bytes)
    (IsHandled (ended (answered bytes p)) handled new)
    (IsIgnored p handled new)

-- The outcome of a response before any ALLOCATE was signed, by the verdict on it.
abbrev pub IsFirstJudged : Result LongTermClientValidation LongTermClientAuthError
    → Protocol → List ℕ → ℕ → Bool → Protocol → Type 0
IsFirstJudged (Ok (ResendRequest choice)) p bytes now handled new = IsChallenged p bytes now handled new
IsFirstJudged (Ok (Validated algorithm)) p bytes now handled new = IsIgnored (ended p) handled new
IsFirstJudged (Err NoMemory) p bytes now handled new = ⊥
IsFirstJudged (Err error) p bytes now handled new = IsUnauthenticated p bytes handled new

-- ---- a signed ALLOCATE

-- The family to try after the server had no IPv4 address: IPv6 if both families were requested.
abbrev pub other_family : List AddressFamily → Option AddressFamily
other_family (IPV4 ∷ IPV6 ∷ rest) = Some IPV6
other_family (IPV6 ∷ IPV4 ∷ rest) = Some IPV6
other_family _ = None

-- The family to request after an error response: the one that is left if the server doesn't support a
-- requested family (RFC 8656, section 7.4).
abbrev pub family_left : Protocol → List ℕ → Option AddressFamily
family_left p bytes = if is_code family_not_supported_code (first_code bytes) then other_family p.families else None

-- The client after it dropped IPv4 and queued an ALLOCATE for the family that is left.
unfoldable pub allocates_other : AddressFamily → ℕ → ℕ → Protocol → Protocol
allocates_other family transaction_id now p =
    let narrowed = record (after_number p) {
      families = family ∷ [];
      events = p.events ++ AllocationCreateFailed IPV4 ∷ [];
    } in
    record (requested narrowed (Allocate p.allocates (family ∷ []) p.options) transaction_id now) { phase = Authenticating (transaction_id ∷ []) }

pub record IsAskingForOther (p : Protocol) (family : AddressFamily) (now : ℕ) (handled : Bool) (new : Protocol)
    : Type 0 where
  pub number : ℕ
  pub is_next : IsNextNumber p number
  pub lawful : IsLawfulAllocate (family ∷ []) p.options
  pub outcome : IsHandled (allocates_other family number now p) handled new

abbrev pub IsErrorAnswered : Option AddressFamily → Protocol → ℕ → Bool → Protocol → Type 0
IsErrorAnswered (Some family) p now handled new = IsAskingForOther p family now handled new
IsErrorAnswered None p now handled new = IsHandled (ended p) handled new

-- The outcome of an accepted response, by its class.
abbrev pub IsAllocateAnswered : MessageClass → Protocol → List ℕ → ℕ → Bool → Protocol → Type 0
IsAllocateAnswered Error p bytes now handled new = IsErrorAnswered (family_left p bytes) p now handled new
IsAllocateAnswered Success p bytes now handled new = IsAllocated p bytes now handled new
IsAllocateAnswered _ p bytes now handled new = IsHandled p handled new

-- The outcome of a validated response. It is accepted if its transaction is outstanding.
abbrev pub IsAccepted : Protocol → List ℕ → ℕ → Bool → Protocol → Type 0
IsAccepted p bytes now handled new = MatchBool (is_awaited p.agent bytes)
    (IsAllocateAnswered (class_of (kind_at bytes)) (accepted bytes p) bytes now handled new)
    (IsHandled p handled new)

-- The outcome of a response to one of the ALLOCATEs after one was signed, by the verdict on it.
abbrev pub IsSignedJudged : Result LongTermClientValidation LongTermClientAuthError
    → Protocol → List ℕ → ℕ → Bool → Protocol → Type 0
IsSignedJudged (Ok (ResendRequest choice)) p bytes now handled new = IsChallenged p bytes now handled new
IsSignedJudged (Ok (Validated algorithm)) p bytes now handled new = IsAccepted p bytes now handled new
IsSignedJudged (Err (IntegrityFailed algorithm)) p bytes now handled new = MatchBool p.auth.hardened
    (IsIgnored p handled new)
    (IsHandled (ended p) handled new)
IsSignedJudged (Err NoMemory) p bytes now handled new = ⊥
IsSignedJudged (Err error) p bytes now handled new = IsIgnored p handled new
