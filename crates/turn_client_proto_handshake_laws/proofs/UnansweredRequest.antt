-- What the first request of a client is, by the lemmas on its requests.
use Rattle.std.proofs.Common.{◌≡◌, ℕ, ◌<◌, ◌≤◌, ◌^◌, arith, length, None, refl}
use Rattle.std.specs.Prelude.{true, IfSome}
use Rattle.turn_client_proto_api.specs.StunTypesWire.Grammar.{number_at, refusal}
use Rattle.turn_client_proto_api.specs.StunTypesWire.Registry.{longest_username}
use Rattle.turn_client_proto_api.specs.StunProtoAgent.Sending.{is_request}
use Rattle.turn_client_proto_messages.specs.StunProtoClient.Client.{Client, plain_style}
use Rattle.turn_client_proto_messages.specs.Judging.{signer_of}
use Rattle.turn_client_proto_messages.specs.Requests.{request_text}
use Rattle.turn_client_proto_messages.specs.ShortTexts.{HasShortTexts}
use Rattle.turn_client_proto_messages.specs.ReportedRequests.{CanBeRead, IsLawfulRequest, reported_request}
use Rattle.turn_client_proto_messages.specs.declared.request.TurnRequest.{TurnRequest}
use Rattle.turn_client_proto_messages.specs.declared.request.TurnRequest.TheVariants.{FirstAllocate}
use Rattle.turn_client_proto_messages.specs.TurnRuns.StunWire.{decoded_by}
use Rattle.turn_client_proto_handshake_laws.specs.Promises.{IsAllocate}
use Rattle.turn_client_proto_handshake_laws.specs.Sent.{Beginning, HasRoom, first_number, first_request}

-- A lemma that is used: texts are short if the user's name is.
abbrev pub AreShort : Type 0
AreShort = (client : Client) → client.challenge ≡ None → client.next_account ≡ None → client.style ≡ plain_style → IfSome client.account (λ account. length account.username ≤ longest_username) → HasShortTexts client

-- A request contains its transaction ID.
abbrev pub AreNumbered : Type 0
AreNumbered = (auth : Client) (request : TurnRequest) (number : ℕ) → HasShortTexts auth → IsLawfulRequest request → number < 2 ^ 96 → number_at (request_text auth request number) ≡ number

-- A request is a message.
abbrev pub AreMessages : Type 0
AreMessages = (auth : Client) (request : TurnRequest) (number : ℕ) → HasShortTexts auth → IsLawfulRequest request → number < 2 ^ 96 → refusal (request_text auth request number) ≡ None

-- A request has the class request.
abbrev pub AreRequests : Type 0
AreRequests = (auth : Client) (request : TurnRequest) (number : ℕ) → is_request (request_text auth request number) ≡ true

-- A request decodes as what it asks for.
abbrev pub AreReported : Type 0
AreReported = (auth : Client) (request : TurnRequest) (number : ℕ) → HasShortTexts auth → IsLawfulRequest request → number < 2 ^ 96 → CanBeRead request number → decoded_by (request_text auth request number) ≡ reported_request request number

module _ (b : Beginning) (room : HasRoom b.config) (short : AreShort) where
  texts_short : HasShortTexts (signer_of b.config)
  texts_short = short (signer_of b.config) refl refl refl room.0

  number_fits : first_number b < 2 ^ 96
  number_fits = omega arith

  pub first_visible : AreNumbered → number_at (first_request b) ≡ first_number b
  first_visible numbered = numbered (signer_of b.config) (FirstAllocate b.config.transport b.config.families b.config.options) (first_number b) texts_short room.1 number_fits

  pub first_allocates : AreMessages → AreRequests → AreReported → IsAllocate b
  first_allocates messages requests reported = record {
    message = messages (signer_of b.config) (FirstAllocate b.config.transport b.config.families b.config.options) (first_number b) texts_short room.1 number_fits;
    request = requests (signer_of b.config) (FirstAllocate b.config.transport b.config.families b.config.options) (first_number b);
    reported = reported (signer_of b.config) (FirstAllocate b.config.transport b.config.families b.config.options) (first_number b) texts_short room.1 number_fits tt;
  }
