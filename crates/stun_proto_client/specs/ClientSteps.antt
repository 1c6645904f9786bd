-- What a validation preserves and accepts, as seen by the layers above (RFC 8489, section 9.2).
use Rattle.std.specs.Prelude.{◌≡◌, ℕ, List, Option, Some, None, Result, Ok, Err, IfSome}
use Rattle.stun_proto_auth.specs.Wire.declared.algorithm.IntegrityAlgorithm.{IntegrityAlgorithm}
use Rattle.stun_proto_auth.specs.Integrity.Credentials.{Key, NameAndPassword}
use Rattle.stun_proto_client.specs.Client.{Client, account_key}
use Rattle.stun_proto_client.specs.Digests.{IsRight}
use Rattle.stun_proto_client.specs.declared.error.LongTermClientAuthError.{LongTermClientAuthError}
use Rattle.stun_proto_client.specs.declared.validation.LongTermClientValidation.{LongTermClientValidation}
use Rattle.stun_proto_client.specs.declared.validation.LongTermClientValidation.TheVariants.{ResendRequest, Validated}

-- A key is one of the client's: that of its credentials in some realm, for some algorithm.
pub record IsKeyOf (client : Client) (key : Key) : Type 0 where
  pub account : NameAndPassword
  pub own : client.account ≡ Some account
  pub realm : List ℕ
  pub algorithm : IntegrityAlgorithm
  pub is : key ≡ account_key account realm algorithm

-- A message validates under a key of the client's for this algorithm.
pub record IsFromServer (client : Client) (bytes : List ℕ) (algorithm : IntegrityAlgorithm) : Type 0 where
  pub key : Key
  pub own : IsKeyOf client key
  pub by_algorithm : key.algorithm ≡ algorithm
  pub right : IsRight bytes key

-- The algorithm with which a message was accepted; `None` for a challenge and for a refused message.
abbrev pub accepted_by : Result LongTermClientValidation LongTermClientAuthError → Option IntegrityAlgorithm
accepted_by (Ok (Validated algorithm)) = Some algorithm
accepted_by (Ok (ResendRequest choice)) = None
accepted_by (Err error) = None

-- A validation keeps the settings, and the credentials unless others were set for the next challenge; and an
-- accepted message is from a holder of one of the client's keys.
pub record AuthStep (old : Client) (bytes : List ℕ) (accepted : Option IntegrityAlgorithm) (new : Client) : Type 0 where
  pub account : old.next_account ≡ None → new.account ≡ old.account
  pub next_account : old.next_account ≡ None → new.next_account ≡ None
  pub algorithms : new.algorithms ≡ old.algorithms
  pub anonymous_username : new.anonymous_username ≡ old.anonymous_username
  pub hardened : new.hardened ≡ old.hardened
  pub style : new.style ≡ old.style
  pub from_server : IfSome accepted (λ algorithm. IsFromServer old bytes algorithm)
