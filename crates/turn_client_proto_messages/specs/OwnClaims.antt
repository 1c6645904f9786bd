-- The authentication attributes of a request that the client signs (RFC 8489, sections 9.2.3 and 9.2.5).
use Rattle.std.specs.Prelude.{ℕ, if◌then◌else◌, List, Option, Some, None}
use Rattle.std.specs.Option.{option_map}
use Rattle.stun_types_attributes.specs.AuthAttributes.Userhashes.{userhash_of}
use Rattle.stun_types_wire.specs.Attributes.{Attr}
use Rattle.stun_types_wire.specs.Registry.{password_algorithms_kind}
use Rattle.stun_types_write.specs.Adding.{attr_of}
use Rattle.stun_proto_auth.specs.Claims.{Claimed, algorithms_decoded, list_decoded}
use Rattle.stun_proto_client.specs.Client.{Standing}
use Rattle.stun_proto_client.specs.ClientSigning.{hides_name}
use Rattle.stun_proto_auth.specs.declared.feature.Feature.{Feature}
use Rattle.stun_proto_auth.specs.SupportedAlgorithms.{number_by}

-- The PASSWORD-ALGORITHMS that returns a list of algorithms as it was received, if there is one.
abbrev pub returned_list : Option (List ℕ) → Option Attr
returned_list offered = option_map (attr_of password_algorithms_kind) offered

-- They are: the chosen algorithm; the user name, or its hash in the realm if the name is hidden; realm and
-- nonce of the challenge; and, if the challenge has a list of algorithms, the choice and what is decoded from that
-- list as it was received: who reads only lists of known algorithms passes over one that has others.
abbrev pub own_claim : Feature → Standing → Claimed
own_claim anonymous s = record {
  integrity = Some s.challenge.choice;
  username = if hides_name anonymous s.challenge.nonce then None else Some s.account.username;
  user_hash = if hides_name anonymous s.challenge.nonce
      then Some (userhash_of s.account.username s.challenge.realm)
      else None;
  realm = Some s.challenge.realm;
  nonce = Some s.challenge.nonce;
  algorithms = algorithms_decoded (returned_list s.challenge.offered);
  listed = list_decoded (returned_list s.challenge.offered);
  algorithm = option_map (λ (list : List ℕ). number_by s.challenge.choice) s.challenge.offered;
}
