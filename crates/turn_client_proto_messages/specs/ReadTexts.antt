-- Texts that a receiver can decode (RFC 8489, sections 14.3 and 14.9 to 14.11).
use Rattle.std.specs.Prelude.{◌≡◌, false, None, IfSome}
use Rattle.stun_types_attributes.specs.AuthAttributes.Entries.{algorithms_read_refusal}
use Rattle.stun_types_wire.specs.Registry.{password_algorithms_kind}
use Rattle.stun_types_write.specs.Adding.{attr_of}
use Rattle.stun_types_write.specs.ValueReading.{utf8_refusal}
use Rattle.stun_proto_client.specs.Client as auth

-- The challenge's realm and nonce are UTF-8.
pub record IsReadChallenge (challenge : auth.Challenge) : Type 0 where
  pub realm : utf8_refusal challenge.realm ≡ None
  pub nonce : utf8_refusal challenge.nonce ≡ None

-- The challenge's list, if any, is one of known algorithms.
abbrev pub HasKnownList : auth.Challenge → Type 0
HasKnownList challenge = IfSome challenge.offered
    (λ list. algorithms_read_refusal (attr_of password_algorithms_kind list) ≡ None)

-- The client's user names, that of its credentials and that of those for the next challenge, are UTF-8, and the
-- challenge that it remembers meets `IsReadChallenge`, each if there is one. If the client is not hardened, the challenge's list is one of known algorithms.
pub record HasReadTexts (client : auth.Client) : Type 0 where
  pub username : IfSome client.account (λ account. utf8_refusal account.username ≡ None)
  pub next : IfSome client.next_account (λ account. utf8_refusal account.username ≡ None)
  pub challenge : IfSome client.challenge IsReadChallenge
  pub known : client.hardened ≡ false → IfSome client.challenge HasKnownList
