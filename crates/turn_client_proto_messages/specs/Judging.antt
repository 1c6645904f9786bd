-- How a client's authenticator validates a message (RFC 8489, section 9.2).
use Rattle.std.specs.Prelude.{ℕ, List, Result, MatchResult, Some, None}
use Rattle.stun_proto_client.specs.Client.{Client, plain_style}
use Rattle.stun_proto_client.specs.declared.error.LongTermClientAuthError.{LongTermClientAuthError}
use Rattle.stun_proto_client.specs.ClientValidation.{IsTaken, IsRejected}
use Rattle.stun_proto_client.specs.declared.validation.LongTermClientValidation.{LongTermClientValidation}
use Rattle.turn_client_proto_api.specs.Config.{Config}

-- The result of validating a message, and the authenticator afterwards.
abbrev pub IsJudged : Client → List ℕ → Result LongTermClientValidation LongTermClientAuthError → Client → Type 0
IsJudged old bytes verdict new = MatchResult verdict
    (λ answer. IsTaken old bytes answer new)
    (λ error. IsRejected old bytes error new)

-- The authenticator of a new client.
abbrev pub signer_of : Config → Client
signer_of config = record {
  account = Some config.credentials;
  next_account = None;
  algorithms = config.algorithms;
  anonymous_username = config.anonymous_username;
  hardened = config.hardened;
  style = plain_style;
  challenge = None;
  integrity = None;
}
