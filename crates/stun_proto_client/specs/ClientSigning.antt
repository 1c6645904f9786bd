-- What a client adds to a message that it sends (RFC 8489, sections 9.2.3 and 9.2.5).
use Rattle.std.specs.Prelude.{ℕ, Bool, false, if◌then◌else◌, List, [], ◌∷◌, Option, Some, None}
use Rattle.stun_proto_auth.specs.Wire.declared.algorithm.IntegrityAlgorithm.{IntegrityAlgorithm}
use Rattle.stun_proto_auth.specs.Wire.declared.class.MessageClass.{MessageClass}
use Rattle.stun_proto_auth.specs.Wire.declared.class.MessageClass.TheVariants.{Request, Indication, Success, Error}
use Rattle.stun_proto_auth.specs.AuthAttributes.Entries.{entry}
use Rattle.stun_proto_auth.specs.AuthAttributes.Userhashes.{userhash_of}
use Rattle.stun_proto_auth.specs.Nonce.{features_in}
use Rattle.stun_proto_auth.specs.SupportedAlgorithms.{number_by}
use Rattle.stun_proto_auth.specs.declared.feature.Feature.{Feature}
use Rattle.stun_proto_auth.specs.declared.feature.Feature.TheVariants.{Auto, Required, Disabled}
use Rattle.stun_proto_auth.specs.Addition.{Addition, PartOf, algorithm_of, algorithms_of, hash_of, no_addition, nonce_of, realm_of, username_of}
use Rattle.stun_proto_client.specs.Client.{Client, Standing, standing_key, standing_of}

-- Whether the name is replaced by its hash: the nonce announces that the server accepts it, and the client
-- has not disabled it.
abbrev pub hides_name : Feature → List ℕ → Bool
hides_name Auto nonce = (features_in nonce).anonymous_username
hides_name Required nonce = (features_in nonce).anonymous_username
hides_name Disabled nonce = false

-- The attribute that identifies the user: USERHASH, with the hash of name and realm, or USERNAME.
abbrev pub name_part : Bool → List ℕ → List ℕ → PartOf
name_part hidden name hash = if hidden then hash_of hash else username_of name

-- If the choice was made from a list: PASSWORD-ALGORITHMS as the server sent it, and PASSWORD-ALGORITHM with
-- the choice.
abbrev pub choice_parts : Option (List ℕ) → IntegrityAlgorithm → List PartOf
choice_parts None choice = []
choice_parts (Some offered) choice = algorithms_of offered ∷ algorithm_of (entry (number_by choice)) ∷ []

-- The attributes added to a request before its integrity attribute.
abbrev pub request_parts : Bool → Standing → List PartOf
request_parts hidden standing =
    name_part hidden standing.account.username (userhash_of standing.account.username standing.challenge.realm)
    ∷ realm_of standing.challenge.realm ∷ nonce_of standing.challenge.nonce
    ∷ choice_parts standing.challenge.offered standing.challenge.choice

-- What is added to a message of a class when there are credentials and a challenge.
abbrev pub standing_addition : Bool → Standing → MessageClass → Addition
standing_addition hidden standing Request =
    record { parts = request_parts hidden standing; signer = Some (standing_key standing) }
standing_addition hidden standing Indication = no_addition
standing_addition hidden standing Success = record { parts = []; signer = Some (standing_key standing) }
standing_addition hidden standing Error = record { parts = []; signer = Some (standing_key standing) }

-- What is added to a message of a class; nothing without credentials or without a challenge.
abbrev pub addition_by : Feature → Option Standing → MessageClass → Addition
addition_by anonymous None class = no_addition
addition_by anonymous (Some standing) class =
    standing_addition (hides_name anonymous standing.challenge.nonce) standing class

-- What a client adds to a message of a class.
abbrev pub addition_for : Client → MessageClass → Addition
addition_for client class = addition_by client.anonymous_username (standing_of client) class
