-- What a server adds to a message that it sends, from what is stored for the target address (RFC 8489,
-- sections 9.2.4 and 9.2.5).
use Rattle.std.specs.Prelude.{ℕ, List, [], ◌∷◌, Bool, true, false, Option, Some, None}
use Rattle.std.specs.FinMap as map
use Rattle.std.specs.Option.{option_and_then}
use Rattle.std.specs.declared.net.socket_addr.SocketAddr.{SocketAddr}
use Rattle.stun_proto_verify.specs.Wire.declared.algorithm.IntegrityAlgorithm.{IntegrityAlgorithm}
use Rattle.stun_proto_verify.specs.Integrity.Credentials.{Key, long_term_key}
use Rattle.stun_proto_verify.specs.Write.Drafts.{Draft}
use Rattle.stun_proto_verify.specs.Wire.declared.class.MessageClass.{MessageClass}
use Rattle.stun_proto_verify.specs.Wire.declared.class.MessageClass.TheVariants.{Request, Indication, Success, Error}
use Rattle.stun_proto_verify.specs.Wire.declared.error.StunWriteError.{StunWriteError}
use Rattle.stun_proto_verify.specs.Wire.declared.error.StunWriteError.TheVariants.{IntegrityFailed}
use Rattle.stun_proto_verify.specs.Auth.Nonce.{features_in}
use Rattle.stun_proto_verify.specs.Auth.SupportedAlgorithms.{list_of}
use Rattle.stun_proto_verify.specs.Knowledge.{Outcome}
use Rattle.stun_proto_verify.specs.Auth.Addition.{Addition, PartOf, addition_refusal, algorithms_of, no_addition, nonce_of, realm_of, username_of}
use Rattle.stun_proto_verify.specs.Auth.Sizes.{size_of}
use Rattle.stun_proto_server.specs.Server.{Client, Server}

-- ---- what is known of a party

-- A user for whom a party was validated: name, password, and the algorithm used.
pub record Signer : Type 0 where
  pub name : List ℕ
  pub password : List ℕ
  pub algorithm : IntegrityAlgorithm

-- What is known of a party: the realm, the nonce that is stored for it, the supported algorithms, and the
-- user for whom it was validated, if any.
pub record Party : Type 0 where
  pub realm : List ℕ
  pub nonce : List ℕ
  pub algorithms : List IntegrityAlgorithm
  pub user : Option Signer

-- A user's key in a realm.
abbrev pub key_in : List ℕ → Signer → Key
key_in realm user =
    long_term_key (record { username = user.name; password = user.password; realm = realm }) user.algorithm

-- A party that was validated for a user; `None` if the user has no password, since it no longer exists.
abbrev pub party_by_password : Server → List ℕ → Outcome → Option (List ℕ) → Option Party
party_by_password server nonce outcome None = None
party_by_password server nonce outcome (Some password) =
    Some (record {
      realm = server.realm;
      nonce = nonce;
      algorithms = server.algorithms;
      user = Some
          (record { name = outcome.name; password = password; algorithm = outcome.algorithm });
    })

-- A party with an outcome: validated for a user, or not validated.
abbrev pub party_by_outcome : Server → List ℕ → Option Outcome → Option Party
party_by_outcome server nonce None =
    Some (record { realm = server.realm; nonce = nonce; algorithms = server.algorithms; user = None })
party_by_outcome server nonce (Some outcome) = party_by_password server nonce outcome
    (map.get server.users outcome.name)

-- A party from what is stored for its address.
abbrev pub party_by_client : Server → Option Client → Option Party
party_by_client server None = None
party_by_client server (Some stored) = party_by_outcome server stored.nonce stored.outcome

-- What is known of the party at an address. It is `None` if no nonce is stored for the address, or if the
-- user for whom it was validated no longer exists.
abbrev pub party_at : Server → SocketAddr → Option Party
party_at server to = party_by_client server (map.get server.clients to)

-- ---- what is added

-- What is added for a validated user. To a request: USERNAME, REALM, NONCE and the integrity attribute. To a
-- response: the integrity attribute. To an indication: nothing.
abbrev pub addition_for_user : Party → Signer → MessageClass → Addition
addition_for_user party user Request = record {
  parts = username_of user.name ∷ realm_of party.realm ∷ nonce_of party.nonce ∷ [];
  signer = Some (key_in party.realm user);
}
addition_for_user party user Indication = no_addition
addition_for_user party user Success = record { parts = []; signer = Some (key_in party.realm user) }
addition_for_user party user Error = record { parts = []; signer = Some (key_in party.realm user) }

-- PASSWORD-ALGORITHMS with the supported algorithms, if the nonce announces it.
abbrev pub list_for : Bool → List IntegrityAlgorithm → List PartOf
list_for true algorithms = algorithms_of (list_of algorithms) ∷ []
list_for false algorithms = []

-- The attributes of a challenge: REALM, NONCE and, if the nonce announces it, PASSWORD-ALGORITHMS.
abbrev pub challenge_parts : Party → List PartOf
challenge_parts party = realm_of party.realm ∷ nonce_of party.nonce
    ∷ list_for (features_in party.nonce).password_algorithms party.algorithms

-- What is added for a party that was not validated: only an error response gets anything, and it is not
-- signed.
abbrev pub addition_unvalidated : Party → MessageClass → Option Addition
addition_unvalidated party Request = None
addition_unvalidated party Indication = None
addition_unvalidated party Success = None
addition_unvalidated party Error = Some (record { parts = challenge_parts party; signer = None })

abbrev pub addition_by : Party → Option Signer → MessageClass → Option Addition
addition_by party None class = addition_unvalidated party class
addition_by party (Some user) class = Some (addition_for_user party user class)

-- What is added for a party to a message of a class; `None` if it can't be signed.
abbrev pub addition : Party → MessageClass → Option Addition
addition party class = addition_by party party.user class

-- What is added to a message of a class to an address; `None` if it can't be signed.
abbrev pub addition_for : Server → SocketAddr → MessageClass → Option Addition
addition_for server to class = option_and_then (λ (party : Party). addition party class) (party_at server to)

-- Why signing is refused: the message can't be signed, or the addition is refused.
abbrev pub signing_refusal_for : Option Addition → Draft → Option StunWriteError
signing_refusal_for None draft = Some IntegrityFailed
signing_refusal_for (Some a) draft = addition_refusal a draft

-- How many bytes are added; 0 if the message can't be signed.
abbrev pub size_for : Option Addition → ℕ
size_for None = 0
size_for (Some a) = size_of a

-- The class for which a size is computed: a request, or an error response. A success response that can be
-- signed has the same size as an error response.
abbrev pub class_requested : Bool → MessageClass
class_requested true = Request
class_requested false = Error
