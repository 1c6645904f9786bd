-- What the requests of a handshake are, by the lemmas on a client's requests.
use Rattle.std.proofs.Common.{◌≡◌, ℕ, ◌<◌, ◌≤◌, ◌^◌, arith, List, length, Some, None, refl}
use Rattle.std.specs.Prelude.{true, IfSome, Result, Ok, MatchResult}
use Rattle.turn_client_proto_api.specs.StunTypesWire.Grammar.{number_at, refusal}
use Rattle.turn_client_proto_api.specs.StunTypesWire.Registry.{longest_username}
use Rattle.turn_client_proto_messages.specs.StunTypesWrite.ValueReading.{utf8_refusal}
use Rattle.turn_client_proto_api.specs.StunProtoAuth.Claims.{claimed}
use Rattle.turn_client_proto_messages.specs.StunProtoClient.Client.{Client, Standing, plain_style, standing_key, standing_of}
use Rattle.turn_client_proto_messages.specs.StunProtoClient.declared.error.LongTermClientAuthError.{LongTermClientAuthError}
use Rattle.turn_client_proto_messages.specs.StunProtoClient.ClientValidation.{IsTaken, IsRejected}
use Rattle.turn_client_proto_messages.specs.StunProtoClient.declared.validation.LongTermClientValidation.{LongTermClientValidation}
use Rattle.turn_client_proto_messages.specs.StunProtoClient.declared.validation.LongTermClientValidation.TheVariants.{ResendRequest}
use Rattle.turn_client_proto_messages.specs.StunProtoClient.Digests.{IsRight}
use Rattle.turn_client_proto_api.specs.StunProtoAgent.Sending.{is_request}
use Rattle.turn_client_proto_messages.specs.Judging.{signer_of}
use Rattle.turn_client_proto_messages.specs.OwnClaims.{own_claim}
use Rattle.turn_client_proto_messages.specs.ReadTexts.{HasReadTexts}
use Rattle.turn_client_proto_messages.specs.Requests.{is_signed, request_text}
use Rattle.turn_client_proto_messages.specs.ShortTexts.{HasShortTexts}
use Rattle.turn_client_proto_messages.specs.ReportedRequests.{CanBeRead, IsLawfulRequest, reported_request}
use Rattle.turn_client_proto_messages.specs.declared.request.TurnRequest.{TurnRequest}
use Rattle.turn_client_proto_messages.specs.declared.request.TurnRequest.TheVariants.{FirstAllocate}
use Rattle.turn_client_proto_messages.specs.TurnRuns.StunWire.{decoded_by}
use Rattle.turn_client_proto_handshake_laws.specs.Choosing.{Choice, HasTextName, IsChoice, IsSignedAllocate, allocate_of, signer_by, signed_request, standing_by}
use Rattle.turn_client_proto_handshake_laws.specs.Sent.{Beginning, HasRoom, first_number, first_request}

-- ---- the laws that are used

-- Texts are short if the user's name is, and stay so.
abbrev pub AreShort : Type 0
AreShort = (client : Client) → client.challenge ≡ None → client.next_account ≡ None → client.style ≡ plain_style → IfSome client.account (λ account. length account.username ≤ longest_username) → HasShortTexts client

abbrev pub StayShort : Type 0
StayShort = (old new : Client) (bytes : List ℕ) (result : Result LongTermClientValidation LongTermClientAuthError)
    → MatchResult result (λ answer. IsTaken old bytes answer new) (λ error. IsRejected old bytes error new) → HasShortTexts old → HasShortTexts new

-- Texts can be decoded if the user's name can, and stay so.
abbrev pub AreRead : Type 0
AreRead = (client : Client) → client.challenge ≡ None → client.next_account ≡ None → IfSome client.account (λ account. utf8_refusal account.username ≡ None) → HasReadTexts client

abbrev pub StayRead : Type 0
StayRead = (old new : Client) (bytes : List ℕ) (result : Result LongTermClientValidation LongTermClientAuthError)
    → MatchResult result (λ answer. IsTaken old bytes answer new) (λ error. IsRejected old bytes error new) → HasReadTexts old → HasReadTexts new

-- A request contains its transaction ID.
abbrev pub AreNumbered : Type 0
AreNumbered = (auth : Client) (request : TurnRequest) (number : ℕ) → HasShortTexts auth → IsLawfulRequest request → number < 2 ^ 96 → number_at (request_text auth request number) ≡ number

-- A request is a message of class request.
abbrev pub AreMessages : Type 0
AreMessages = (auth : Client) (request : TurnRequest) (number : ℕ) → HasShortTexts auth → IsLawfulRequest request → number < 2 ^ 96 → refusal (request_text auth request number) ≡ None

abbrev pub AreRequests : Type 0
AreRequests = (auth : Client) (request : TurnRequest) (number : ℕ) → is_request (request_text auth request number) ≡ true

-- A request decodes as what it asks for.
abbrev pub AreReported : Type 0
AreReported = (auth : Client) (request : TurnRequest) (number : ℕ) → HasShortTexts auth → IsLawfulRequest request → number < 2 ^ 96 → CanBeRead request number → decoded_by (request_text auth request number) ≡ reported_request request number

-- A signed request validates under the key in use.
abbrev pub AreValid : Type 0
AreValid = (auth : Client) (request : TurnRequest) (number : ℕ) (standing : Standing) → HasShortTexts auth → IsLawfulRequest request → number < 2 ^ 96 → is_signed request ≡ true
    → standing_of auth ≡ Some standing → IsRight (request_text auth request number) (standing_key standing)

-- A signed request claims what the challenge asks for.
abbrev pub AreClaims : Type 0
AreClaims = (auth : Client) (request : TurnRequest) (number : ℕ) (standing : Standing) → HasShortTexts auth → HasReadTexts auth → IsLawfulRequest request → number < 2 ^ 96 → is_signed request ≡ true
    → standing_of auth ≡ Some standing → claimed (request_text auth request number) ≡ own_claim auth.anonymous_username standing

-- The texts of the signer can be decoded.
pub signed_read : (b : Beginning) (c : Choice) → IsChoice b c → HasTextName b.config → AreRead → StayRead → HasReadTexts (signer_by b c)
signed_read b c chosen text read stay_read =
    let taken : IsTaken (signer_of b.config) chosen.message (ResendRequest c.algorithm) (signer_by b c) = record { reported = c.reported; visible = chosen.visible; answerable = chosen.answered; stored = refl } in
    stay_read (signer_of b.config) (signer_by b c) chosen.message (Ok (ResendRequest c.algorithm)) taken (read (signer_of b.config) refl refl text)

module _ (b : Beginning) (room : HasRoom b.config) (short : AreShort) where
  -- ---- the first one

  pub texts_short : HasShortTexts (signer_of b.config)
  texts_short = short (signer_of b.config) refl refl refl room.0

  number_fits : first_number b < 2 ^ 96
  number_fits = omega arith

  pub first_visible : AreNumbered → number_at (first_request b) ≡ first_number b
  first_visible numbered = numbered (signer_of b.config) (FirstAllocate b.config.transport b.config.families b.config.options) (first_number b) texts_short room.1 number_fits

  -- ---- the signed one

  module _ (c : Choice) (chosen : IsChoice b c) (stay : StayShort) where
    -- The challenge was accepted.
    taken : IsTaken (signer_of b.config) chosen.message (ResendRequest c.algorithm) (signer_by b c)
    taken = record { reported = c.reported; visible = chosen.visible; answerable = chosen.answered; stored = refl }

    pub signed_short : HasShortTexts (signer_by b c)
    signed_short = stay (signer_of b.config) (signer_by b c) chosen.message (Ok (ResendRequest c.algorithm)) taken texts_short

    pub signed_listed : AreNumbered → number_at (signed_request b c) ≡ c.number
    signed_listed numbered = numbered (signer_by b c) (allocate_of b) c.number signed_short room.1 chosen.fits

    pub signed_allocates : HasTextName b.config → AreNumbered → AreMessages → AreRequests → AreReported → AreValid → AreRead → StayRead → AreClaims → IsSignedAllocate b c
    signed_allocates text numbered messages requests reported valid read stay_read claims = record {
      message = messages (signer_by b c) (allocate_of b) c.number signed_short room.1 chosen.fits;
      request = requests (signer_by b c) (allocate_of b) c.number;
      number = signed_listed numbered;
      reported = reported (signer_by b c) (allocate_of b) c.number signed_short room.1 chosen.fits tt;
      valid = valid (signer_by b c) (allocate_of b) c.number (standing_by b c) signed_short room.1 chosen.fits refl refl;
      claims = claims (signer_by b c) (allocate_of b) c.number (standing_by b c) signed_short (signed_read b c chosen text read stay_read) room.1 chosen.fits refl refl;
    }
