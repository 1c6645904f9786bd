-- Texts for which a request has room (RFC 8489, sections 14.3 and 14.9 to 14.11).
use Rattle.std.specs.Prelude.{◌*◌, ◌≤◌, length, IfSome}
use Rattle.stun_types_wire.specs.Registry.{longest_software, longest_text, longest_username, most_algorithms}
use Rattle.stun_proto_auth.specs.Addition.{password_entry_length}
use Rattle.stun_proto_client.specs.Client as auth

-- The challenge's texts are within the limits of their attributes.
pub record IsShortChallenge (challenge : auth.Challenge) : Type 0 where
  pub realm : length challenge.realm ≤ longest_text
  pub nonce : length challenge.nonce ≤ longest_text
  pub offered : IfSome challenge.offered (λ list. length list ≤ password_entry_length * most_algorithms)

-- The client's user names, that of its credentials and that of those for the next challenge, and its SOFTWARE are
-- within their limits, and the challenge that it remembers meets `IsShortChallenge`, each if there is one.
pub record HasShortTexts (client : auth.Client) : Type 0 where
  pub username : IfSome client.account (λ account. length account.username ≤ longest_username)
  pub next : IfSome client.next_account (λ account. length account.username ≤ longest_username)
  pub software : IfSome client.style.software (λ text. length text ≤ longest_software)
  pub challenge : IfSome client.challenge IsShortChallenge
