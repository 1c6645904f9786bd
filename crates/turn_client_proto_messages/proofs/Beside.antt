-- Attributes that tell nothing of allocations, peers, channels and connections.
use Rattle.std.proofs.Common.{◌≡◌, ℕ, Bool, true, false, eqb, List, [], ◌∷◌, ◌++◌, Option, Some, None, refl}
use Rattle.std.specs.List.{AllByRecursion, filter, find, flat_map}
use Rattle.stun_types_wire.specs.Attributes.{Attr}
use Rattle.stun_types_wire.specs.declared.algorithm.IntegrityAlgorithm.{IntegrityAlgorithm}
use Rattle.stun_types_wire.specs.declared.algorithm.IntegrityAlgorithm.TheVariants.{Sha1, Sha256, Sha512}
use Rattle.stun_types_wire.specs.declared.class.MessageClass.TheVariants.{Request}
use Rattle.stun_types_wire.specs.Fingerprints.{fingerprint_of}
use Rattle.stun_types_integrity.specs.Signing.{signature}
use Rattle.stun_types_base.specs.declared.family.AddressFamily.{AddressFamily}
use Rattle.stun_types_base.specs.declared.family.AddressFamily.TheVariants.{IPV4, IPV6}
use Rattle.turn_types_attributes.specs.TurnRegistry.{channel_number_kind, connection_id_kind, lifetime_kind, requested_transport_kind, xor_peer_address_kind, xor_relayed_address_kind}
use Rattle.stun_proto_auth.specs.declared.feature.Feature.{Feature}
use Rattle.stun_proto_auth.specs.Addition.{Addition, attrs}
use Rattle.stun_proto_client.specs.Client.{Client, Standing, standing_of}
use Rattle.stun_proto_client.specs.ClientSigning.{addition_by, addition_for, choice_parts, hides_name, name_part, request_parts}
use Rattle.turn_client_proto_api.specs.declared.options.RelayedPort.{RelayedPort}
use Rattle.turn_client_proto_api.specs.declared.options.RelayedPort.TheVariants.{Any, Even, EvenAndNextReserved, Reserved}
use Rattle.turn_client_proto_messages.specs.Requests.{additional_family, described, families_attributes, families_beside, port_attributes}

abbrev pub is_of : ℕ → Attr → Bool
is_of kind a = eqb a.kind kind

-- A type that tells of none of these.
pub record IsOther (kind : ℕ) : Type 0 where
  pub transport : eqb kind requested_transport_kind ≡ false
  pub relayed : eqb kind xor_relayed_address_kind ≡ false
  pub lifetime : eqb kind lifetime_kind ≡ false
  pub peer : eqb kind xor_peer_address_kind ≡ false
  pub channel : eqb kind channel_number_kind ≡ false
  pub connection : eqb kind connection_id_kind ≡ false

abbrev pub AreOther : List Attr → Type 0
AreOther all = AllByRecursion (λ (a : Attr). IsOther a.kind) all

-- None of the attributes is of this type.
pub record HasNone (kind : ℕ) (all : List Attr) : Type 0 where
  pub found : find (is_of kind) all ≡ None
  pub stored : filter (is_of kind) all ≡ []

none_here : (kind : ℕ) → HasNone kind []
none_here kind = record { found = refl; stored = refl }

none_more : (kind : ℕ) (a : Attr) (all : List Attr) → eqb a.kind kind ≡ false → HasNone kind all → HasNone kind (a ∷ all)
none_more kind a all differs rest = record { found = rw differs rest.found; stored = rw differs rest.stored }

pub no_transport : (all : List Attr) → AreOther all → HasNone requested_transport_kind all
no_transport [] other = none_here requested_transport_kind
no_transport (a ∷ all) other = none_more requested_transport_kind a all other.0.transport (no_transport all other.1)

pub no_relayed : (all : List Attr) → AreOther all → HasNone xor_relayed_address_kind all
no_relayed [] other = none_here xor_relayed_address_kind
no_relayed (a ∷ all) other = none_more xor_relayed_address_kind a all other.0.relayed (no_relayed all other.1)

pub no_lifetime : (all : List Attr) → AreOther all → HasNone lifetime_kind all
no_lifetime [] other = none_here lifetime_kind
no_lifetime (a ∷ all) other = none_more lifetime_kind a all other.0.lifetime (no_lifetime all other.1)

pub no_peer : (all : List Attr) → AreOther all → HasNone xor_peer_address_kind all
no_peer [] other = none_here xor_peer_address_kind
no_peer (a ∷ all) other = none_more xor_peer_address_kind a all other.0.peer (no_peer all other.1)

pub no_channel : (all : List Attr) → AreOther all → HasNone channel_number_kind all
no_channel [] other = none_here channel_number_kind
no_channel (a ∷ all) other = none_more channel_number_kind a all other.0.channel (no_channel all other.1)

pub no_connection : (all : List Attr) → AreOther all → HasNone connection_id_kind all
no_connection [] other = none_here connection_id_kind
no_connection (a ∷ all) other = none_more connection_id_kind a all other.0.connection (no_connection all other.1)

pub other_both : (one two : List Attr) → AreOther one → AreOther two → AreOther (one ++ two)
other_both [] two h k = k
other_both (a ∷ one) two h k = (h.0, other_both one two h.1 k)

-- ---- families

additional_other : (families : List AddressFamily) → AreOther (flat_map additional_family families)
additional_other [] = tt
additional_other (IPV4 ∷ families) = additional_other families
additional_other (IPV6 ∷ families) =
    (record { transport = refl; relayed = refl; lifetime = refl; peer = refl; channel = refl; connection = refl }, additional_other families)

families_other : (families : List AddressFamily) → AreOther (families_attributes families)
families_other [] = tt
families_other (IPV4 ∷ []) = tt
families_other (IPV6 ∷ []) = (record { transport = refl; relayed = refl; lifetime = refl; peer = refl; channel = refl; connection = refl }, tt)
families_other (a ∷ b ∷ rest) = additional_other (a ∷ b ∷ rest)

pub relayed_other : (families : List AddressFamily) (port : RelayedPort) → AreOther (port_attributes port ++ families_beside port families)
relayed_other families Any = families_other families
relayed_other families Even = (record { transport = refl; relayed = refl; lifetime = refl; peer = refl; channel = refl; connection = refl }, families_other families)
relayed_other families EvenAndNextReserved = (record { transport = refl; relayed = refl; lifetime = refl; peer = refl; channel = refl; connection = refl }, families_other families)
relayed_other families (Reserved token) = (record { transport = refl; relayed = refl; lifetime = refl; peer = refl; channel = refl; connection = refl }, tt)

-- ---- what a client adds

name_other : (hidden : Bool) (name hash : List ℕ) → IsOther (name_part hidden name hash).kind
name_other true name hash = record { transport = refl; relayed = refl; lifetime = refl; peer = refl; channel = refl; connection = refl }
name_other false name hash = record { transport = refl; relayed = refl; lifetime = refl; peer = refl; channel = refl; connection = refl }

choice_other : (offered : Option (List ℕ)) (choice : IntegrityAlgorithm) → AreOther (attrs (choice_parts offered choice))
choice_other None choice = tt
choice_other (Some list) choice = (
  record { transport = refl; relayed = refl; lifetime = refl; peer = refl; channel = refl; connection = refl },
  (record { transport = refl; relayed = refl; lifetime = refl; peer = refl; channel = refl; connection = refl }, tt),
)

request_other : (hidden : Bool) (s : Standing) → AreOther (attrs (request_parts hidden s))
request_other hidden s = (
  name_other hidden s.account.username _,
  (
    record { transport = refl; relayed = refl; lifetime = refl; peer = refl; channel = refl; connection = refl },
    (
      record { transport = refl; relayed = refl; lifetime = refl; peer = refl; channel = refl; connection = refl },
      choice_other s.challenge.offered s.challenge.choice,
    ),
  ),
)

parts_other : (anonymous : Feature) (standing : Option Standing) → AreOther (attrs (addition_by anonymous standing Request).parts)
parts_other anonymous None = tt
parts_other anonymous (Some s) = request_other (hides_name anonymous s.challenge.nonce) s

pub client_other : (client : Client) → AreOther (attrs (addition_for client Request).parts)
client_other client = parts_other client.anonymous_username (standing_of client)

pub signature_other : (algorithm : IntegrityAlgorithm) (key text : List ℕ) → IsOther (signature algorithm key text).kind
unfolding signature
signature_other Sha1 key text = record { transport = refl; relayed = refl; lifetime = refl; peer = refl; channel = refl; connection = refl }
signature_other Sha256 key text = record { transport = refl; relayed = refl; lifetime = refl; peer = refl; channel = refl; connection = refl }
signature_other Sha512 key text = record { transport = refl; relayed = refl; lifetime = refl; peer = refl; channel = refl; connection = refl }

-- What is added with SOFTWARE is other where the rest is.
pub described_other : (software : Option (List ℕ)) (made : Addition) → AreOther (attrs made.parts) → AreOther (attrs (described software made).parts)
described_other None made other = other
described_other (Some text) made other = (record { transport = refl; relayed = refl; lifetime = refl; peer = refl; channel = refl; connection = refl }, other)

pub fingerprint_other : (text : List ℕ) → IsOther (fingerprint_of text).kind
unfolding fingerprint_of
fingerprint_other text = record { transport = refl; relayed = refl; lifetime = refl; peer = refl; channel = refl; connection = refl }
