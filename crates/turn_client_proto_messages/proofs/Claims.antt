-- The authentication attributes of a signed request are those that the client remembers, if its texts are
-- well formed.
use Rattle.std.specs.Prelude.{◌==◌, IfSome}
use Rattle.std.proofs.Common.{◌≡◌, ℕ, ◌<◌, ◌≤◌, ◌^◌, Bool, true, false, if◌then◌else◌, List, [], ◌∷◌, ◌++◌, length, map, Option, Some, None, refl, sym, ap, ◌∙◌, subst, append_assoc, arith}
use Rattle.std.specs.List.{flat_map}
use Rattle.std.specs.declared.net.ip_addr.IpAddr.{IpAddr}
use Rattle.std.proofs.lemmas.List.{append-nil}
use Rattle.std.specs.Option.{option_map, option_or}
use Rattle.sha2.proofs.Facts256.{length-sha256}
use Rattle.stun_types_write.specs.Adding.{attr_of}
use Rattle.stun_types_wire.specs.Attributes.{Attr}
use Rattle.stun_types_add.specs.Calls.{Add, Integrity, Ordinary, attributes_after, attributes_of}
use Rattle.stun_types_integrity.specs.Credentials.{Key, NameAndPassword}
use Rattle.stun_types_attributes.specs.AuthAttributes.Entries.{algorithm_read_refusal, algorithms_read_refusal, entry, number_decoded}
use Rattle.stun_types_integrity.specs.Integrity.{algorithm_of}
use Rattle.stun_types_wire.specs.declared.algorithm.IntegrityAlgorithm.{IntegrityAlgorithm}
use Rattle.stun_types_wire.specs.declared.algorithm.IntegrityAlgorithm.TheVariants.{Sha1, Sha256, Sha512}
use Rattle.stun_types_message.specs.MessageValidation.{last_algorithm}
use Rattle.stun_types_wire.specs.declared.error.StunParseError.{StunParseError}
use Rattle.stun_types_attributes.specs.AuthAttributes.PasswordAlgorithmNumbers as numbers
use Rattle.stun_types_wire.specs.RawBytes as raw
use Rattle.stun_types_wire.specs.Registry.{longest_text, longest_username, nonce_kind, password_algorithm_kind, password_algorithms_kind, realm_kind, userhash_kind, userhash_length, username_kind}
use Rattle.stun_types_integrity.specs.Signing.{signature}
use Rattle.stun_types_wire.specs.Fingerprints.{fingerprint_of}
use Rattle.stun_types_wire.specs.Text.{message_text}
use Rattle.stun_types_attributes.specs.AuthAttributes.Userhashes.{userhash_of}
use Rattle.stun_types_write.specs.ValueReading.{text_read_refusal, utf8_refusal, value_refusal}
use Rattle.stun_types_base.specs.declared.family.AddressFamily.{AddressFamily}
use Rattle.stun_types_base.specs.declared.family.AddressFamily.TheVariants.{IPV4, IPV6}
use Rattle.stun_types_write.proofs.Values.{text_is_accepted, value_is_accepted}
use Rattle.turn_types_attributes.specs.FamilyValues.{family_value}
use Rattle.stun_proto_auth.specs.Addition.{Addition, PartOf, attrs, calls_of, calls_of_parts, no_addition, nonce_of, realm_of}
use Rattle.stun_proto_auth.specs.Claims.{Claimed, algorithm_decoded, algorithms_decoded, claim_of, claimed, hash_decoded, last_of_kind, list_decoded, text_decoded, unless_refused}
use Rattle.stun_proto_client.specs.Client.{Challenge, Client, Standing, standing_by, standing_key, standing_of}
use Rattle.stun_proto_client.specs.ClientSigning.{choice_parts, hides_name, name_part, request_parts}
use Rattle.stun_proto_auth.specs.SupportedAlgorithms.{number_by}
use Rattle.turn_client_proto_api.specs.declared.options.RelayedPort.{RelayedPort}
use Rattle.turn_client_proto_api.specs.declared.options.RelayedPort.TheVariants.{Any, Even, EvenAndNextReserved, Reserved}
use Rattle.turn_client_proto_messages.specs.OwnClaims.{own_claim, returned_list}
use Rattle.turn_client_proto_messages.specs.ReadTexts.{HasKnownList, HasReadTexts, IsReadChallenge}
use Rattle.turn_client_proto_messages.specs.Requests.{additional_family, channel_attribute, connection_attribute, described, dont_fragment_attribute, even_port_attribute, families_attributes, families_beside, fingerprint_calls, is_signed, lifetime_attribute, peer_attribute, peer_of, peers_attributes, port_attributes, relayed_attributes, request_attributes, request_calls, request_text, request_type, reservation_attribute, software_parts, transport_attribute}
use Rattle.turn_client_proto_messages.specs.ShortTexts.{HasShortTexts, IsShortChallenge}
use Rattle.turn_client_proto_messages.specs.ReportedRequests.{IsLawfulRequest}
use Rattle.turn_client_proto_messages.specs.declared.request.TurnRequest.{TurnRequest}
use Rattle.turn_client_proto_messages.specs.declared.request.TurnRequest.TheVariants.{FirstAllocate, Allocate, Refresh, CreatePermission, ChannelBind, Connect, ConnectionBind}
use Rattle.turn_client_proto_messages.proofs.Reading.{ordinary_then, request_read}
use Rattle.turn_client_proto_messages.proofs.Signed.{adds_of}
use Rattle.turn_client_proto_messages.proofs.Writing.{described_alone}

-- ---- the last of a kind

-- None of the request's own attributes, and neither SOFTWARE nor FINGERPRINT, is of this type.
record IsFree (kind : ℕ) : Type 0 where
  transport : (0x19 == kind) ≡ false
  lifetime : (0x0D == kind) ≡ false
  requested : (0x17 == kind) ≡ false
  additional : (0x8000 == kind) ≡ false
  fragment : (0x1A == kind) ≡ false
  peer : (0x12 == kind) ≡ false
  channel : (0x0C == kind) ≡ false
  connection : (0x2A == kind) ≡ false
  even_port : (0x18 == kind) ≡ false
  reservation : (0x22 == kind) ≡ false
  software : (0x8022 == kind) ≡ false
  fingerprint : (0x8028 == kind) ≡ false

none_more : (kind : ℕ) (a : Attr) (rest : List Attr) → (a.kind == kind) ≡ false → last_of_kind kind rest ≡ None → last_of_kind kind (a ∷ rest) ≡ None
unfolding last_of_kind
none_more kind a rest differs none =
    ap (λ (o : Option Attr). option_or o (if a.kind == kind then Some a else None)) none ∙ ap (λ (b : Bool). if b then Some a else None) differs

none_here : (kind : ℕ) → last_of_kind kind [] ≡ None
unfolding last_of_kind
none_here kind = refl

none_in_families : (kind : ℕ) (families : List AddressFamily) → IsFree kind → last_of_kind kind (flat_map additional_family families) ≡ None
none_in_families kind [] free = none_here kind
none_in_families kind (IPV4 ∷ families) free = none_in_families kind families free
none_in_families kind (IPV6 ∷ families) free =
    none_more kind (attr_of 0x8000 (family_value IPV6)) (flat_map additional_family families) free.additional (none_in_families kind families free)

none_requested : (kind : ℕ) (families : List AddressFamily) → IsFree kind → last_of_kind kind (families_attributes families) ≡ None
none_requested kind [] free = none_here kind
none_requested kind (IPV4 ∷ []) free = none_here kind
none_requested kind (IPV6 ∷ []) free = none_more kind (attr_of 0x17 (family_value IPV6)) [] free.requested (none_here kind)
none_requested kind (a ∷ b ∷ rest) free = none_in_families kind (a ∷ b ∷ rest) free

none_relayed : (kind : ℕ) (families : List AddressFamily) (port : RelayedPort) → IsFree kind → last_of_kind kind (port_attributes port ++ families_beside port families) ≡ None
none_relayed kind families Any free = none_requested kind families free
none_relayed kind families Even free = none_more kind (even_port_attribute false) (families_attributes families) free.even_port (none_requested kind families free)
none_relayed kind families EvenAndNextReserved free = none_more kind (even_port_attribute true) (families_attributes families) free.even_port (none_requested kind families free)
none_relayed kind families (Reserved token) free = none_more kind (reservation_attribute token) [] free.reservation (none_here kind)

none_in_peers : (kind number : ℕ) (ips : List IpAddr) → IsFree kind → last_of_kind kind (peers_attributes number ips) ≡ None
none_in_peers kind number [] free = none_here kind
none_in_peers kind number (ip ∷ ips) free =
    none_more kind (peer_attribute number (peer_of ip)) (peers_attributes number ips) free.peer (none_in_peers kind number ips free)

none_own : (kind : ℕ) (request : TurnRequest) (number : ℕ) → IsFree kind → last_of_kind kind (request_attributes request number) ≡ None
none_own kind (FirstAllocate transport families options) number free =
    none_more kind (lifetime_attribute options.lifetime) (transport_attribute transport ∷ dont_fragment_attribute ∷ relayed_attributes families options) free.lifetime
    (none_more kind (transport_attribute transport) (dont_fragment_attribute ∷ relayed_attributes families options) free.transport
    (none_more kind dont_fragment_attribute (relayed_attributes families options) free.fragment (none_relayed kind families options.port free)))
none_own kind (Allocate transport families options) number free =
    none_more kind (transport_attribute transport) (lifetime_attribute options.lifetime ∷ relayed_attributes families options) free.transport
    (none_more kind (lifetime_attribute options.lifetime) (relayed_attributes families options) free.lifetime (none_relayed kind families options.port free))
none_own kind (Refresh lifetime) number free = none_more kind (lifetime_attribute lifetime) [] free.lifetime (none_here kind)
none_own kind (CreatePermission ips) number free = none_in_peers kind number ips free
none_own kind (ChannelBind channel peer) number free =
    none_more kind (channel_attribute channel) (peer_attribute number peer ∷ []) free.channel (none_more kind (peer_attribute number peer) [] free.peer (none_here kind))
none_own kind (Connect peer) number free = none_more kind (peer_attribute number peer) [] free.peer (none_here kind)
none_own kind (ConnectionBind connection) number free = none_more kind (connection_attribute connection) [] free.connection (none_here kind)

last_of_both : (kind : ℕ) (one other : List Attr) → last_of_kind kind (one ++ other) ≡ option_or (last_of_kind kind other) (last_of_kind kind one)
unfolding last_of_kind
last_of_both kind [] other = right (last_of_kind kind other)
  where
    right : (o : Option Attr) → o ≡ option_or o None
    right None = refl
    right (Some a) = refl
last_of_both kind (a ∷ one) other =
    ap (λ (o : Option Attr). option_or o (if a.kind == kind then Some a else None)) (last_of_both kind one other)
    ∙ three (last_of_kind kind other) (last_of_kind kind one) (if a.kind == kind then Some a else None)
  where
    three : (x y z : Option Attr) → option_or (option_or x y) z ≡ option_or x (option_or y z)
    three None y z = refl
    three (Some b) y z = refl

-- Attributes of which none is of the type do not matter for the last of the type.
last_after : (kind : ℕ) (one other : List Attr) → last_of_kind kind one ≡ None → last_of_kind kind (one ++ other) ≡ last_of_kind kind other
last_after kind one other none = last_of_both kind one other ∙ (ap (λ (o : Option Attr). option_or (last_of_kind kind other) o) none ∙ right (last_of_kind kind other))
  where
    right : (o : Option Attr) → option_or o None ≡ o
    right None = refl
    right (Some b) = refl

last_algorithm_both : (one other : List Attr) (a : IntegrityAlgorithm) → last_algorithm other ≡ Some a → last_algorithm (one ++ other) ≡ Some a
unfolding last_algorithm
last_algorithm_both [] other a is = is
last_algorithm_both (x ∷ one) other a is = ap (λ (o : Option IntegrityAlgorithm). option_or o (algorithm_of x.kind)) (last_algorithm_both one other a is)

-- Nor do attributes after it.
last_before : (kind : ℕ) (one other : List Attr) → last_of_kind kind other ≡ None → last_of_kind kind (one ++ other) ≡ last_of_kind kind one
last_before kind one other none = last_of_both kind one other ∙ ap (λ (o : Option Attr). option_or o (last_of_kind kind one)) none

last_algorithm_before : (one other : List Attr) → last_algorithm other ≡ None → last_algorithm (one ++ other) ≡ last_algorithm one
unfolding last_algorithm
last_algorithm_before [] other none = none
last_algorithm_before (x ∷ one) other none = ap (λ (o : Option IntegrityAlgorithm). option_or o (algorithm_of x.kind)) (last_algorithm_before one other none)

-- ---- SOFTWARE and FINGERPRINT

none_in_software : (kind : ℕ) (software : Option (List ℕ)) → IsFree kind → last_of_kind kind (attrs (software_parts software)) ≡ None
none_in_software kind None free = none_here kind
none_in_software kind (Some text) free = none_more kind (attr_of 0x8022 text) [] free.software (none_here kind)

-- FINGERPRINT behind this message, if it is wanted.
abbrev marks_after : Bool → List ℕ → List Attr
marks_after true text = fingerprint_of text ∷ []
marks_after false text = []

none_in_marks : (kind : ℕ) (marks : Bool) (text : List ℕ) → IsFree kind → last_of_kind kind (marks_after marks text) ≡ None
unfolding fingerprint_of
none_in_marks kind true text free = none_more kind (fingerprint_of text) [] free.fingerprint (none_here kind)
none_in_marks kind false text free = none_here kind

marks_unsigned : (marks : Bool) (text : List ℕ) → last_algorithm (marks_after marks text) ≡ None
unfolding last_algorithm fingerprint_of
marks_unsigned true text = refl
marks_unsigned false text = refl

-- It is the last attribute.
marks_are : (kind number : ℕ) (marks : Bool) (before : List Attr) → attributes_after kind number (fingerprint_calls marks) before ≡ before ++ marks_after marks (message_text kind number before)
unfolding attributes_after
marks_are kind number true before = refl
marks_are kind number false before = sym (append-nil before)

-- SOFTWARE is before the other parts.
software_first : (software : Option (List ℕ)) (parts : List PartOf) → attrs (software_parts software ++ parts) ≡ attrs (software_parts software) ++ attrs parts
software_first None parts = refl
software_first (Some text) parts = refl

-- ---- what the client adds, and the seal

abbrev tail : Bool → List ℕ → List ℕ → List ℕ → List ℕ → Option (List ℕ) → IntegrityAlgorithm → List ℕ → List ℕ → List Attr
tail hidden name hash realm nonce offered choice key text =
    attrs (name_part hidden name hash ∷ realm_of realm ∷ nonce_of nonce ∷ choice_parts offered choice) ++ signature choice key text ∷ []

abbrev choice_listed : Option (List ℕ) → IntegrityAlgorithm → Option Attr
choice_listed None choice = None
choice_listed (Some list) choice = Some (attr_of password_algorithm_kind (entry (number_by choice)))

-- The last attribute of each type.
record IsTail (hidden : Bool) (name hash realm nonce : List ℕ) (offered : Option (List ℕ)) (choice : IntegrityAlgorithm) (all : List Attr) : Type 0 where
  seal : last_algorithm all ≡ Some choice
  username : last_of_kind username_kind all ≡ (if hidden then None else Some (attr_of username_kind name))
  user_hash : last_of_kind userhash_kind all ≡ (if hidden then Some (attr_of userhash_kind hash) else None)
  reported_realm : last_of_kind realm_kind all ≡ Some (attr_of realm_kind realm)
  reported_nonce : last_of_kind nonce_kind all ≡ Some (attr_of nonce_kind nonce)
  reported_list : last_of_kind password_algorithms_kind all ≡ returned_list offered
  reported_choice : last_of_kind password_algorithm_kind all ≡ choice_listed offered choice

tail_is : (hidden : Bool) (name hash realm nonce : List ℕ) (offered : Option (List ℕ)) (choice : IntegrityAlgorithm) (key text : List ℕ) → IsTail hidden name hash realm nonce offered choice (tail hidden name hash realm nonce offered choice key text)
unfolding last_of_kind last_algorithm signature
tail_is true name hash realm nonce None Sha1 key text =
    record { seal = refl; username = refl; user_hash = refl; reported_realm = refl; reported_nonce = refl; reported_list = refl; reported_choice = refl }
tail_is true name hash realm nonce None Sha256 key text =
    record { seal = refl; username = refl; user_hash = refl; reported_realm = refl; reported_nonce = refl; reported_list = refl; reported_choice = refl }
tail_is true name hash realm nonce None Sha512 key text =
    record { seal = refl; username = refl; user_hash = refl; reported_realm = refl; reported_nonce = refl; reported_list = refl; reported_choice = refl }
tail_is true name hash realm nonce (Some list) Sha1 key text =
    record { seal = refl; username = refl; user_hash = refl; reported_realm = refl; reported_nonce = refl; reported_list = refl; reported_choice = refl }
tail_is true name hash realm nonce (Some list) Sha256 key text =
    record { seal = refl; username = refl; user_hash = refl; reported_realm = refl; reported_nonce = refl; reported_list = refl; reported_choice = refl }
tail_is true name hash realm nonce (Some list) Sha512 key text =
    record { seal = refl; username = refl; user_hash = refl; reported_realm = refl; reported_nonce = refl; reported_list = refl; reported_choice = refl }
tail_is false name hash realm nonce None Sha1 key text =
    record { seal = refl; username = refl; user_hash = refl; reported_realm = refl; reported_nonce = refl; reported_list = refl; reported_choice = refl }
tail_is false name hash realm nonce None Sha256 key text =
    record { seal = refl; username = refl; user_hash = refl; reported_realm = refl; reported_nonce = refl; reported_list = refl; reported_choice = refl }
tail_is false name hash realm nonce None Sha512 key text =
    record { seal = refl; username = refl; user_hash = refl; reported_realm = refl; reported_nonce = refl; reported_list = refl; reported_choice = refl }
tail_is false name hash realm nonce (Some list) Sha1 key text =
    record { seal = refl; username = refl; user_hash = refl; reported_realm = refl; reported_nonce = refl; reported_list = refl; reported_choice = refl }
tail_is false name hash realm nonce (Some list) Sha256 key text =
    record { seal = refl; username = refl; user_hash = refl; reported_realm = refl; reported_nonce = refl; reported_list = refl; reported_choice = refl }
tail_is false name hash realm nonce (Some list) Sha512 key text =
    record { seal = refl; username = refl; user_hash = refl; reported_realm = refl; reported_nonce = refl; reported_list = refl; reported_choice = refl }

-- The attributes are those of the request, those that the client adds, the integrity attribute, and FINGERPRINT if
-- it is wanted.
listed_as : (kind number : ℕ) (own parts : List Attr) (key : Key) (marks : Bool)
    → attributes_of kind number (map Ordinary own ++ ((map Ordinary parts ++ Integrity key.algorithm key.bytes ∷ []) ++ fingerprint_calls marks))
    ≡ own ++ (parts ++ signature key.algorithm key.bytes (message_text kind number (own ++ parts))
    ∷ marks_after marks (message_text kind number ((own ++ parts) ++ signature key.algorithm key.bytes (message_text kind number (own ++ parts)) ∷ [])))
unfolding attributes_after
listed_as kind number own parts key marks =
    let sign = Integrity key.algorithm key.bytes ∷ [] in
    let seal = signature key.algorithm key.bytes (message_text kind number (own ++ parts)) in
    let before = (own ++ parts) ++ seal ∷ [] in
    let last = marks_after marks (message_text kind number before) in
    ap (λ (calls : List Add). attributes_of kind number (map Ordinary own ++ calls)) (append_assoc (map Ordinary parts) sign (fingerprint_calls marks))
    ∙ (ordinary_then kind number own (map Ordinary parts ++ (sign ++ fingerprint_calls marks)) []
    ∙ (ordinary_then kind number parts (sign ++ fingerprint_calls marks) own
    ∙ (marks_are kind number marks before
    ∙ (append_assoc (own ++ parts) (seal ∷ []) last
    ∙ append_assoc own parts (seal ∷ last)))))

-- SOFTWARE may be counted among the request's own attributes.
regrouped : (own software parts : List Attr) (seal : Attr) (last : List Attr) → own ++ ((software ++ parts) ++ seal ∷ last) ≡ (own ++ software) ++ ((parts ++ seal ∷ []) ++ last)
regrouped own software parts seal last =
    ap (λ (l : List Attr). own ++ l) (append_assoc software parts (seal ∷ last))
    ∙ (sym (append_assoc own software (parts ++ seal ∷ last))
    ∙ ap (λ (l : List Attr). (own ++ software) ++ l) (sym (append_assoc parts (seal ∷ []) last)))

-- ---- the first request

software_unsigned : (software : Option (List ℕ)) → last_algorithm (attrs (software_parts software)) ≡ None
unfolding last_algorithm
software_unsigned None = refl
software_unsigned (Some text) = refl

-- The attributes of a request that is not signed: its own, SOFTWARE and FINGERPRINT.
plain_as : (kind number : ℕ) (own : List Attr) (software : Option (List ℕ)) (marks : Bool)
    → attributes_of kind number (map Ordinary own ++ (calls_of (described software no_addition) ++ fingerprint_calls marks))
    ≡ own ++ (attrs (software_parts software) ++ marks_after marks (message_text kind number (own ++ attrs (software_parts software))))
plain_as kind number own software marks =
    let before = own ++ attrs (software_parts software) in
    ap (λ (calls : List Add). attributes_of kind number (map Ordinary own ++ (calls ++ fingerprint_calls marks))) (sym (described_alone software))
    ∙ (ordinary_then kind number own (calls_of_parts (software_parts software) ++ fingerprint_calls marks) []
    ∙ (ordinary_then kind number (attrs (software_parts software)) (fingerprint_calls marks) own
    ∙ (marks_are kind number marks before
    ∙ append_assoc own (attrs (software_parts software)) (marks_after marks (message_text kind number before)))))

-- If its own are no integrity attributes, it has none.
pub plain_unsigned : (kind number : ℕ) (own : List Attr) (software : Option (List ℕ)) (marks : Bool) → last_algorithm own ≡ None
    → last_algorithm (attributes_of kind number (map Ordinary own ++ (calls_of (described software no_addition) ++ fingerprint_calls marks))) ≡ None
plain_unsigned kind number own software marks none =
    let text = message_text kind number (own ++ attrs (software_parts software)) in
    ap last_algorithm (plain_as kind number own software marks)
    ∙ (last_algorithm_before own (attrs (software_parts software) ++ marks_after marks text) (last_algorithm_before (attrs (software_parts software)) (marks_after marks text) (marks_unsigned marks text) ∙ software_unsigned software)
    ∙ none)

-- ---- what can be read

-- The texts are well formed, and so is the hash.
record CanBeClaimed (s : Standing) : Type 0 where
  name : text_read_refusal username_kind longest_username (attr_of username_kind s.account.username) ≡ None
  realm : text_read_refusal realm_kind longest_text (attr_of realm_kind s.challenge.realm) ≡ None
  nonce : text_read_refusal nonce_kind longest_text (attr_of nonce_kind s.challenge.nonce) ≡ None
  hash : value_refusal userhash_kind userhash_length userhash_length (attr_of userhash_kind (userhash_of s.account.username s.challenge.realm)) ≡ None

hash_accepted : (name realm : List ℕ) → value_refusal userhash_kind userhash_length userhash_length (attr_of userhash_kind (userhash_of name realm)) ≡ None
hash_accepted name realm =
    let size : length (userhash_of name realm) ≡ 32 = length-sha256 _ in
    value_is_accepted userhash_kind 32 32 (userhash_of name realm) (omega (arith, size)) (omega (arith, size))

same_standing : {a b : Standing} → Some a ≡ Some b → a ≡ b
same_standing p = Prim.cc p

can_be_claimed : (client : Client) (s : Standing) → standing_of client ≡ Some s → HasShortTexts client → HasReadTexts client → CanBeClaimed s
can_be_claimed client s occurs short reads = by client.account client.challenge occurs short.username reads.username short.challenge reads.challenge
  where
    by : (account : Option NameAndPassword) (challenge : Option Challenge) → standing_by account challenge ≡ Some s
        → IfSome account (λ a. length a.username ≤ longest_username) → IfSome account (λ a. utf8_refusal a.username ≡ None)
        → IfSome challenge IsShortChallenge → IfSome challenge IsReadChallenge → CanBeClaimed s
    by None challenge is ns nr cs cr = absurd (Prim.cc is)
    by (Some account) None is ns nr cs cr = absurd (Prim.cc is)
    by (Some account) (Some challenge) is ns nr cs cr = subst CanBeClaimed (same_standing is) (record {
      name = text_is_accepted username_kind longest_username account.username ns nr;
      realm = text_is_accepted realm_kind longest_text challenge.realm cs.realm cr.realm;
      nonce = text_is_accepted nonce_kind longest_text challenge.nonce cs.nonce cr.nonce;
      hash = hash_accepted account.username challenge.realm;
    })

-- ---- the claim

-- What is decoded from the list is a function of the attribute that has it.
abbrev claim_with : Option IntegrityAlgorithm → Option (List ℕ) → Option (List ℕ) → Option (List ℕ) → Option (List ℕ) → Option Attr → Option ℕ → Claimed
claim_with i u h r n l a = record { integrity = i; username = u; user_hash = h; realm = r; nonce = n; algorithms = algorithms_decoded l; listed = list_decoded l; algorithm = a }

same_claim : (i j : Option IntegrityAlgorithm) (u v h k r s n m : Option (List ℕ)) (l o : Option Attr) (a b : Option ℕ) → i ≡ j → u ≡ v → h ≡ k → r ≡ s → n ≡ m → l ≡ o → a ≡ b → claim_with i u h r n l a ≡ claim_with j v k s m o b
same_claim i j u v h k r s n m l o a b ij uv hk rs nm lo ab =
    ap (λ (x : Option IntegrityAlgorithm). claim_with x u h r n l a) ij
    ∙ (ap (λ (x : Option (List ℕ)). claim_with j x h r n l a) uv
    ∙ (ap (λ (x : Option (List ℕ)). claim_with j v x r n l a) hk
    ∙ (ap (λ (x : Option (List ℕ)). claim_with j v k x n l a) rs
    ∙ (ap (λ (x : Option (List ℕ)). claim_with j v k s x l a) nm
    ∙ (ap (λ (x : Option Attr). claim_with j v k s m x a) lo
    ∙ ap (λ (x : Option ℕ). claim_with j v k s m o x) ab)))))

module _ (client : Client) (request : TurnRequest) (number : ℕ) (s : Standing) (signed : is_signed request ≡ true) (occurs : standing_of client ≡ Some s) where
  abbrev hides : Bool
  hides = hides_name client.anonymous_username s.challenge.nonce

  abbrev name : List ℕ
  name = s.account.username

  abbrev hash : List ℕ
  hash = userhash_of s.account.username s.challenge.realm

  abbrev kind : ℕ
  kind = request_type request

  abbrev own : List Attr
  own = request_attributes request number

  abbrev shows : List Attr
  shows = attributes_of kind number (request_calls client request number)

  abbrev software : List Attr
  software = attrs (software_parts client.style.software)

  -- The attributes before the integrity attribute.
  abbrev signed_attributes : List Attr
  signed_attributes = own ++ attrs (software_parts client.style.software ++ request_parts hides s)

  abbrev seal : Attr
  seal = signature s.challenge.choice (standing_key s).bytes (message_text kind number signed_attributes)

  abbrev following : List Attr
  following = tail hides name hash s.challenge.realm s.challenge.nonce s.challenge.offered s.challenge.choice (standing_key s).bytes (message_text kind number signed_attributes)

  abbrev last : List Attr
  last = marks_after client.style.fingerprint (message_text kind number (signed_attributes ++ seal ∷ []))

  visible_is : shows ≡ (own ++ software) ++ (following ++ last)
  visible_is =
      ap (λ (a : Addition). attributes_of kind number (map Ordinary own ++ (calls_of a ++ fingerprint_calls client.style.fingerprint))) (adds_of client request s signed occurs)
      ∙ (listed_as kind number own (attrs (software_parts client.style.software ++ request_parts hides s)) (standing_key s) client.style.fingerprint
      ∙ (ap (λ (l : List Attr). own ++ (l ++ seal ∷ last)) (software_first client.style.software (request_parts hides s))
      ∙ regrouped own software (attrs (request_parts hides s)) seal last))

  none_before : (k : ℕ) → IsFree k → last_of_kind k (own ++ software) ≡ None
  none_before k free = last_after k own software (none_own k request number free) ∙ none_in_software k client.style.software free

  last_is : (k : ℕ) (a : Option Attr) → IsFree k → last_of_kind k following ≡ a → last_of_kind k shows ≡ a
  last_is k a free is =
      ap (last_of_kind k) visible_is
      ∙ (last_after k (own ++ software) (following ++ last) (none_before k free)
      ∙ (last_before k following last (none_in_marks k client.style.fingerprint (message_text kind number (signed_attributes ++ seal ∷ [])) free) ∙ is))

  seal_is : last_algorithm following ≡ Some s.challenge.choice → last_algorithm shows ≡ Some s.challenge.choice
  seal_is is =
      ap last_algorithm visible_is
      ∙ last_algorithm_both (own ++ software) (following ++ last) s.challenge.choice
      (last_algorithm_before following last (marks_unsigned client.style.fingerprint (message_text kind number (signed_attributes ++ seal ∷ []))) ∙ is)

  claims : CanBeClaimed s → claim_of shows ≡ own_claim client.anonymous_username s
  unfolding text_decoded hash_decoded algorithm_decoded algorithm_read_refusal number_decoded raw.type_and_len_refusal numbers.number_refusal numbers.is_known
  claims can =
      let ends = tail_is hides name hash s.challenge.realm s.challenge.nonce s.challenge.offered s.challenge.choice (standing_key s).bytes (message_text kind number signed_attributes) in
      same_claim _ _ _ _ _ _ _ _ _ _ _ _ _ _
      (seal_is ends.seal)
      (ap (text_decoded username_kind longest_username) (last_is username_kind _ (record { transport = refl; lifetime = refl; requested = refl; additional = refl; fragment = refl; peer = refl; channel = refl; connection = refl; even_port = refl; reservation = refl; software = refl; fingerprint = refl }) ends.username) ∙ name_read hides)
      (ap hash_decoded (last_is userhash_kind _ (record { transport = refl; lifetime = refl; requested = refl; additional = refl; fragment = refl; peer = refl; channel = refl; connection = refl; even_port = refl; reservation = refl; software = refl; fingerprint = refl }) ends.user_hash) ∙ hash_read hides)
      (ap (text_decoded realm_kind longest_text) (last_is realm_kind _ (record { transport = refl; lifetime = refl; requested = refl; additional = refl; fragment = refl; peer = refl; channel = refl; connection = refl; even_port = refl; reservation = refl; software = refl; fingerprint = refl }) ends.reported_realm) ∙ ap (λ (o : Option StunParseError). unless_refused o s.challenge.realm) can.realm)
      (ap (text_decoded nonce_kind longest_text) (last_is nonce_kind _ (record { transport = refl; lifetime = refl; requested = refl; additional = refl; fragment = refl; peer = refl; channel = refl; connection = refl; even_port = refl; reservation = refl; software = refl; fingerprint = refl }) ends.reported_nonce) ∙ ap (λ (o : Option StunParseError). unless_refused o s.challenge.nonce) can.nonce)
      (last_is password_algorithms_kind _ (record { transport = refl; lifetime = refl; requested = refl; additional = refl; fragment = refl; peer = refl; channel = refl; connection = refl; even_port = refl; reservation = refl; software = refl; fingerprint = refl }) ends.reported_list)
      (ap algorithm_decoded (last_is password_algorithm_kind _ (record { transport = refl; lifetime = refl; requested = refl; additional = refl; fragment = refl; peer = refl; channel = refl; connection = refl; even_port = refl; reservation = refl; software = refl; fingerprint = refl }) ends.reported_choice) ∙ choice_read s.challenge.offered s.challenge.choice)
    where
      name_read : (h : Bool) → text_decoded username_kind longest_username (if h then None else Some (attr_of username_kind name)) ≡ (if h then None else Some name)
      name_read true = refl
      name_read false = ap (λ (o : Option StunParseError). unless_refused o name) can.name

      hash_read : (h : Bool) → hash_decoded (if h then Some (attr_of userhash_kind hash) else None) ≡ (if h then Some hash else None)
      hash_read false = refl
      hash_read true = ap (λ (o : Option StunParseError). unless_refused o hash) can.hash

      choice_read : (o : Option (List ℕ)) (choice : IntegrityAlgorithm) → algorithm_decoded (choice_listed o choice) ≡ option_map (λ (list : List ℕ). number_by choice) o
      choice_read None choice = refl
      choice_read (Some list) Sha1 = refl
      choice_read (Some list) Sha256 = refl
      choice_read (Some list) Sha512 = refl

pub claim_law : (client : Client) (request : TurnRequest) (number : ℕ) (s : Standing) → HasShortTexts client → HasReadTexts client → IsLawfulRequest request → number < 2 ^ 96 → is_signed request ≡ true → standing_of client ≡ Some s
    → claimed (request_text client request number) ≡ own_claim client.anonymous_username s
claim_law client request number s short reads lawful n signed occurs =
    ap claim_of (request_read client request number short lawful n).shows
    ∙ claims client request number s signed occurs (can_be_claimed client s occurs short reads)

-- ---- a list of known algorithms

list_again : (o : Option (List ℕ)) → IfSome o (λ list. algorithms_read_refusal (attr_of password_algorithms_kind list) ≡ None) → algorithms_decoded (returned_list o) ≡ o
unfolding algorithms_decoded
list_again None reads = refl
list_again (Some list) reads = ap (λ (o : Option StunParseError). unless_refused o list) reads

-- Who reads only lists of known algorithms reads the list that a client returns which is not hardened.
pub list_law : (client : Client) (s : Standing) → HasReadTexts client → client.hardened ≡ false → standing_of client ≡ Some s → algorithms_decoded (returned_list s.challenge.offered) ≡ s.challenge.offered
list_law client s reads soft occurs = list_again s.challenge.offered (by client.account client.challenge occurs (reads.known soft))
  where
    by : (account : Option NameAndPassword) (challenge : Option Challenge) → standing_by account challenge ≡ Some s → IfSome challenge HasKnownList → HasKnownList s.challenge
    by None challenge is known = absurd (Prim.cc is)
    by (Some account) None is known = absurd (Prim.cc is)
    by (Some account) (Some challenge) is known = subst (λ (t : Standing). HasKnownList t.challenge) (same_standing is) known
