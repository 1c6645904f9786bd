-- The bytes of a request are decoded as the request.
use Rattle.std.proofs.Common.{◌≡◌, ℕ, ◌+◌, ◌*◌, ◌<◌, ◌≤◌, ◌^◌, Bool, true, false, if◌then◌else◌, List, [], ◌∷◌, ◌++◌, length, map, Option, Some, None, refl, sym, ap, ◌∙◌, subst, append_assoc, arith}
use Rattle.std.specs.List.{AllByRecursion, flat_map}
use Rattle.std.specs.declared.net.ip_addr.IpAddr.{IpAddr}
use Rattle.std.proofs.lemmas.List.{append-nil}
use Rattle.stun_types_write.specs.Adding.{add_refusal}
use Rattle.stun_types_wire.specs.Attributes.{Attr, attr_size}
use Rattle.stun_types_add.specs.Calls.{Add, AreAccepted, IsLawful, IsWritten, Ordinary, after_calls, attributes_after, attributes_of}
use Rattle.stun_types_integrity.specs.Credentials.{Key}
use Rattle.stun_types_write.specs.Drafts.{Draft, empty, none_ended}
use Rattle.stun_types_wire.specs.Grammar.{number_at, refusal}
use Rattle.stun_types_wire.specs.declared.class.MessageClass.TheVariants.{Request}
use Rattle.stun_types_wire.specs.MessageReading.{IsReadAs}
use Rattle.stun_types_write.specs.Outcomes.{IsStartedAs, added}
use Rattle.stun_types_wire.specs.Fingerprints.{fingerprint_of}
use Rattle.stun_types_integrity.specs.Signing.{signature}
use Rattle.stun_types_wire.specs.Text.{body_text, header_text, message_text}
use Rattle.stun_types_base.specs.declared.family.AddressFamily.{AddressFamily}
use Rattle.stun_types_base.specs.declared.family.AddressFamily.TheVariants.{IPV4, IPV6}
use Rattle.stun_types_add.proofs.Adds.{length-after_add, text_started}
use Rattle.stun_types_add.proofs.Taken.{both_accepted}
use Rattle.stun_types_message.proofs.Composed.{calls_read, written_text}
use Rattle.turn_client_proto_api.specs.StunProtoAgent.Sending.{is_request, is_request_class}
use Rattle.stun_proto_auth.specs.Addition.{Addition, PartOf, attrs, calls_of, calls_of_parts, calls_of_signer, no_addition}
use Rattle.stun_proto_client.specs.Client.{Client}
use Rattle.stun_proto_client.specs.ClientSigning.{addition_for}
use Rattle.turn_runs.specs.StunWire.{decoded_by}
use Rattle.turn_client_proto_messages.specs.Composing.{IsOpen, IsSmall}
use Rattle.turn_client_proto_messages.specs.Requests.{additional_family, addition_of, authentication_of, families_attributes, families_beside, fingerprint_calls, is_signed, peers_attributes, port_attributes, request_attributes, request_calls, request_text, request_type}
use Rattle.turn_client_proto_api.specs.declared.options.RelayedPort.{RelayedPort}
use Rattle.turn_client_proto_api.specs.declared.options.RelayedPort.TheVariants.{Any, Even, EvenAndNextReserved, Reserved}
use Rattle.turn_client_proto_messages.specs.ShortTexts.{HasShortTexts}
use Rattle.turn_client_proto_messages.specs.ReportedRequests.{CanBeRead, IsLawfulRequest, reported_request}
use Rattle.turn_client_proto_messages.specs.declared.request.TurnRequest.{TurnRequest}
use Rattle.turn_client_proto_messages.specs.declared.request.TurnRequest.TheVariants.{FirstAllocate, Allocate, Refresh, CreatePermission, ChannelBind, Connect, ConnectionBind}
use Rattle.turn_client_proto_messages.proofs.Beside.{AreOther, client_other, described_other, fingerprint_other, other_both, signature_other}
use Rattle.turn_client_proto_messages.proofs.Growing.{open_added, open_room}
use Rattle.turn_client_proto_messages.proofs.Signing.{IsShortAddition, IsShortPart, addition_short, mark_accepted, parts_left, short_marked, signer_calls}
use Rattle.turn_client_proto_messages.proofs.Small.{additional_small, channel_small, connection_small, dont_fragment_small, even_port_small, lifetime_small, peer_small, requested_small, reservation_small, transport_small}
use Rattle.turn_client_proto_messages.proofs.ReportedBytes.{request_reported, reported_listed}
use Rattle.turn_client_proto_messages.proofs.Writing.{text_class}

-- ---- the attributes of a request

families_small : (families : List AddressFamily) → AllByRecursion IsSmall (flat_map additional_family families)
families_small [] = tt
families_small (IPV4 ∷ families) = families_small families
families_small (IPV6 ∷ families) = (additional_small IPV6, families_small families)

requested_is_small : (families : List AddressFamily) → AllByRecursion IsSmall (families_attributes families)
requested_is_small [] = tt
requested_is_small (IPV4 ∷ []) = tt
requested_is_small (IPV6 ∷ []) = (requested_small IPV6, tt)
requested_is_small (a ∷ b ∷ rest) = families_small (a ∷ b ∷ rest)

relayed_small : (families : List AddressFamily) (port : RelayedPort) → AllByRecursion IsSmall (port_attributes port ++ families_beside port families)
relayed_small families Any = requested_is_small families
relayed_small families Even = (even_port_small false, requested_is_small families)
relayed_small families EvenAndNextReserved = (even_port_small true, requested_is_small families)
relayed_small families (Reserved token) = (reservation_small token, tt)

peers_small : (number : ℕ) (ips : List IpAddr) → AllByRecursion IsSmall (peers_attributes number ips)
peers_small number [] = tt
peers_small number (ip ∷ ips) = (peer_small number _, peers_small number ips)

pub attributes_small : (request : TurnRequest) (number : ℕ) → AllByRecursion IsSmall (request_attributes request number)
attributes_small (FirstAllocate transport families options) number = (lifetime_small options.lifetime, (transport_small _, (dont_fragment_small, relayed_small families options.port)))
attributes_small (Allocate transport families options) number = (transport_small _, (lifetime_small options.lifetime, relayed_small families options.port))
attributes_small (Refresh lifetime) number = (lifetime_small lifetime, tt)
attributes_small (CreatePermission ips) number = peers_small number ips
attributes_small (ChannelBind channel peer) number = (channel_small channel, (peer_small number _, tt))
attributes_small (Connect peer) number = (peer_small number _, tt)
attributes_small (ConnectionBind connection) number = (connection_small connection, tt)

families_few : (families : List AddressFamily) → length (flat_map additional_family families) ≤ length families
families_few [] = omega arith
families_few (IPV4 ∷ families) = let rest = families_few families in omega (arith, rest)
families_few (IPV6 ∷ families) = let rest = families_few families in omega (arith, rest)

requested_few : (families : List AddressFamily) → length (families_attributes families) ≤ length families
requested_few [] = omega arith
requested_few (IPV4 ∷ []) = omega arith
requested_few (IPV6 ∷ []) = omega arith
requested_few (a ∷ b ∷ rest) = families_few (a ∷ b ∷ rest)

relayed_few : (families : List AddressFamily) (port : RelayedPort) → length (port_attributes port ++ families_beside port families) ≤ 1 + length families
relayed_few families Any = let few = requested_few families in omega (arith, few)
relayed_few families Even = let few = requested_few families in omega (arith, few)
relayed_few families EvenAndNextReserved = let few = requested_few families in omega (arith, few)
relayed_few families (Reserved token) = omega arith

peers_few : (number : ℕ) (ips : List IpAddr) → length (peers_attributes number ips) ≤ length ips
peers_few number [] = omega arith
peers_few number (ip ∷ ips) = let rest = peers_few number ips in omega (arith, rest)

pub attributes_few : (request : TurnRequest) (number : ℕ) → IsLawfulRequest request → length (request_attributes request number) ≤ 32
attributes_few (FirstAllocate transport families options) number lawful = let few = relayed_few families options.port in let two = lawful.few in omega (arith, few, two)
attributes_few (Allocate transport families options) number lawful = let few = relayed_few families options.port in let two = lawful.few in omega (arith, few, two)
attributes_few (Refresh lifetime) number lawful = omega arith
attributes_few (CreatePermission ips) number lawful = let few = peers_few number ips in let most = lawful.few in omega (arith, few, most)
attributes_few (ChannelBind channel peer) number lawful = omega arith
attributes_few (Connect peer) number lawful = omega arith
attributes_few (ConnectionBind connection) number lawful = omega arith

-- ---- its calls are accepted

-- What holds of an open message after short attributes were added.
record IsLeft (attributes : List Attr) (draft : Draft) : Type 0 where
  calls : AreAccepted (map Ordinary attributes) draft
  still : IsOpen (after_calls (map Ordinary attributes) draft)
  size : length (after_calls (map Ordinary attributes) draft).bytes ≤ length draft.bytes + 40 * length attributes

attributes_left : (attributes : List Attr) (draft : Draft) → AllByRecursion IsSmall attributes → IsOpen draft → length draft.bytes + 40 * length attributes ≤ 4096 → IsLeft attributes draft
unfolding AreAccepted after_calls
attributes_left [] draft small o fits = record { calls = tt; still = o; size = omega arith }
attributes_left (a ∷ rest) draft small o fits =
    let few = small.0.short in
    let room : add_refusal draft (attr_size a) ≡ None = open_room draft (attr_size a) o (omega (arith, few, fits)) in
    let next = open_added a draft o small.0.ordinary.ordinary (omega (arith, few, fits)) in
    let grown = length-after_add draft.bytes a o.started in
    let left = attributes_left rest (added a draft) small.1 next (omega (arith, few, fits, grown)) in
    let size = left.size in
    record { calls = (room, left.calls); still = left.still; size = omega (arith, size, few, grown) }

-- A message without attributes.
abbrev pub header_alone : ℕ → ℕ → Draft
header_alone kind number = record { bytes = message_text kind number []; following = []; ended = none_ended; limit = None }

header_length : (kind number : ℕ) → length (message_text kind number []) ≡ 20
unfolding message_text body_text header_text
header_length kind number = refl

header_started : (kind number : ℕ) → kind < 2 ^ 14 → IsStartedAs kind number (empty [] None) (header_alone kind number)
header_started kind number k = record {
  text = refl;
  size = header_length kind number;
  following = refl;
  ended = refl;
  limit = refl;
  started = text_started kind number k;
}

header_open : (kind number : ℕ) → kind < 2 ^ 14 → IsOpen (header_alone kind number)
header_open kind number k = record { started = text_started kind number k; ended = refl; limit = refl }

-- A message that was started and took short attributes, a short addition and maybe FINGERPRINT.
pub all_written : (kind number : ℕ) (attributes : List Attr) (made : Addition) (marks : Bool) → kind < 2 ^ 14 → AllByRecursion IsSmall attributes → length attributes ≤ 32 → IsShortAddition made
    → IsWritten kind number (map Ordinary attributes ++ (calls_of made ++ fingerprint_calls marks)) (after_calls (map Ordinary attributes ++ (calls_of made ++ fingerprint_calls marks)) (header_alone kind number))
all_written kind number attributes made marks k small few short =
    let header = header_alone kind number in
    let size = header_length kind number in
    let head = attributes_left attributes header small (header_open kind number k) (omega (arith, size, few)) in
    let middle = after_calls (map Ordinary attributes) header in
    let long = head.size in
    let parts = parts_left made.parts middle short.each head.still (let most = short.few in omega (arith, long, size, few, most)) in
    let end = after_calls (calls_of_parts made.parts) middle in
    let longer = parts.size in
    let signer = signer_calls end made.signer parts.still (let most = short.few in omega (arith, longer, long, size, few, most)) in
    let added = both_accepted (calls_of_parts made.parts) (calls_of_signer made.signer) middle parts.calls signer in
    let marked = mark_accepted marks (after_calls (calls_of made) middle) (short_marked made middle short head.still (omega (arith, long, size, few))) in
    record {
      empty = empty [] None;
      header = header;
      started = header_started kind number k;
      accepted = both_accepted (map Ordinary attributes) (calls_of made ++ fingerprint_calls marks) header head.calls (both_accepted (calls_of made) (fingerprint_calls marks) middle added marked);
      is = refl;
    }

-- ---- and valid

pub lawful_both : (xs ys : List Add) → AllByRecursion IsLawful xs → AllByRecursion IsLawful ys → AllByRecursion IsLawful (xs ++ ys)
lawful_both [] ys h k = k
lawful_both (x ∷ xs) ys h k = (h.0, lawful_both xs ys h.1 k)

pub small_lawful : (attributes : List Attr) → AllByRecursion IsSmall attributes → AllByRecursion IsLawful (map Ordinary attributes)
small_lawful [] small = tt
small_lawful (a ∷ rest) small = (small.0.ordinary, small_lawful rest small.1)

pub short_lawful : (parts : List PartOf) → AllByRecursion IsShortPart parts → AllByRecursion IsLawful (calls_of_parts parts)
short_lawful [] short = tt
short_lawful (p ∷ rest) short = (short.0.ordinary, short_lawful rest short.1)

signer_lawful : (signer : Option Key) → AllByRecursion IsLawful (calls_of_signer signer)
signer_lawful None = tt
signer_lawful (Some key) = (tt, tt)

pub marks_lawful : (marks : Bool) → AllByRecursion IsLawful (fingerprint_calls marks)
marks_lawful true = (tt, tt)
marks_lawful false = tt

-- ---- what they add

pub ordinary_then : (mtype number : ℕ) (all : List Attr) (more : List Add) (before : List Attr) → attributes_after mtype number (map Ordinary all ++ more) before ≡ attributes_after mtype number more (before ++ all)
unfolding attributes_after
ordinary_then mtype number [] more before = ap (λ (l : List Attr). attributes_after mtype number more l) (sym (append-nil before))
ordinary_then mtype number (a ∷ all) more before =
    ordinary_then mtype number all more (before ++ a ∷ [])
    ∙ ap (λ (l : List Attr). attributes_after mtype number more l) (append_assoc before (a ∷ []) all)

-- After the given attributes there are only others that tell nothing of allocations and peers.
record HasAfter (all attributes : List Attr) : Type 0 where
  rest : List Attr
  parts : all ≡ attributes ++ rest
  other : AreOther rest

signer_after : (mtype number : ℕ) (signer : Option Key) (marks : Bool) (before : List Attr) → HasAfter (attributes_after mtype number (calls_of_signer signer ++ fingerprint_calls marks) before) before
unfolding attributes_after
signer_after mtype number None false before = record { rest = []; parts = sym (append-nil before); other = tt }
signer_after mtype number None true before = record {
  rest = fingerprint_of (message_text mtype number before) ∷ [];
  parts = refl;
  other = (fingerprint_other (message_text mtype number before), tt);
}
signer_after mtype number (Some key) false before = record {
  rest = signature key.algorithm key.bytes (message_text mtype number before) ∷ [];
  parts = refl;
  other = (signature_other key.algorithm key.bytes (message_text mtype number before), tt);
}
signer_after mtype number (Some key) true before =
    let seal = signature key.algorithm key.bytes (message_text mtype number before) in
    let mark = fingerprint_of (message_text mtype number (before ++ seal ∷ [])) in
    record {
      rest = seal ∷ mark ∷ [];
      parts = append_assoc before (seal ∷ []) (mark ∷ []);
      other = (signature_other key.algorithm key.bytes (message_text mtype number before), (fingerprint_other (message_text mtype number (before ++ seal ∷ [])), tt));
    }

calls_after : (mtype number : ℕ) (attributes : List Attr) (made : Addition) (marks : Bool) → AreOther (attrs made.parts) → HasAfter (attributes_of mtype number (map Ordinary attributes ++ (calls_of made ++ fingerprint_calls marks))) attributes
calls_after mtype number attributes made marks other =
    let following = calls_of_signer made.signer ++ fingerprint_calls marks in
    let end = signer_after mtype number made.signer marks (attributes ++ attrs made.parts) in
    record {
      rest = attrs made.parts ++ end.rest;
      parts = ap (λ (calls : List Add). attributes_of mtype number (map Ordinary attributes ++ calls)) (append_assoc (calls_of_parts made.parts) (calls_of_signer made.signer) (fingerprint_calls marks))
          ∙ ordinary_then mtype number attributes (calls_of_parts made.parts ++ following) []
          ∙ ordinary_then mtype number (attrs made.parts) following attributes
          ∙ end.parts
          ∙ append_assoc attributes (attrs made.parts) end.rest;
      other = other_both (attrs made.parts) end.rest other end.other;
    }

-- ---- the addition of a request

addition_other : (client : Client) (request : TurnRequest) → AreOther (attrs (addition_of client request).parts)
addition_other client request = described_other client.style.software (authentication_of client request) (by (is_signed request))
  where
    by : (signed : Bool) → AreOther (attrs (if signed then addition_for client Request else no_addition).parts)
    by true = client_other client
    by false = tt

pub type_small : (request : TurnRequest) → request_type request < 2 ^ 14
type_small (FirstAllocate transport families options) = omega arith
type_small (Allocate transport families options) = omega arith
type_small (Refresh lifetime) = omega arith
type_small (CreatePermission ips) = omega arith
type_small (ChannelBind channel peer) = omega arith
type_small (Connect peer) = omega arith
type_small (ConnectionBind connection) = omega arith

-- ---- what is read

-- A message of short attributes, a short addition and maybe FINGERPRINT is decoded as it was written.
marked_read : (kind number : ℕ) (attributes : List Attr) (made : Addition) (marks : Bool) → kind < 2 ^ 14 → number < 2 ^ 96 → AllByRecursion IsSmall attributes → length attributes ≤ 32 → IsShortAddition made
    → IsReadAs kind number (attributes_of kind number (map Ordinary attributes ++ (calls_of made ++ fingerprint_calls marks)))
    (message_text kind number (attributes_of kind number (map Ordinary attributes ++ (calls_of made ++ fingerprint_calls marks))))
marked_read kind number attributes made marks k n small few short =
    let calls = map Ordinary attributes ++ (calls_of made ++ fingerprint_calls marks) in
    let draft = after_calls calls (header_alone kind number) in
    let written = all_written kind number attributes made marks k small few short in
    let adds = lawful_both (calls_of_parts made.parts) (calls_of_signer made.signer) (short_lawful made.parts short.each) (signer_lawful made.signer) in
    let each = lawful_both (map Ordinary attributes) (calls_of made ++ fingerprint_calls marks) (small_lawful attributes small) (lawful_both (calls_of made) (fingerprint_calls marks) adds (marks_lawful marks)) in
    subst (λ (b : List ℕ). IsReadAs kind number (attributes_of kind number calls) b) (written_text kind number calls draft written) (calls_read kind number calls draft k n each written)

-- So is one without FINGERPRINT.
pub whole_read : (kind number : ℕ) (attributes : List Attr) (made : Addition) → kind < 2 ^ 14 → number < 2 ^ 96 → AllByRecursion IsSmall attributes → length attributes ≤ 32 → IsShortAddition made
    → IsReadAs kind number (attributes_of kind number (map Ordinary attributes ++ calls_of made)) (message_text kind number (attributes_of kind number (map Ordinary attributes ++ calls_of made)))
whole_read kind number attributes made k n small few short =
    subst (λ (calls : List Add). IsReadAs kind number (attributes_of kind number (map Ordinary attributes ++ calls)) (message_text kind number (attributes_of kind number (map Ordinary attributes ++ calls))))
    (append-nil (calls_of made)) (marked_read kind number attributes made false k n small few short)

pub request_read : (client : Client) (request : TurnRequest) (number : ℕ) → HasShortTexts client → IsLawfulRequest request → number < 2 ^ 96
    → IsReadAs (request_type request) number (attributes_of (request_type request) number (request_calls client request number)) (request_text client request number)
unfolding request_text
request_read client request number short lawful n =
    marked_read (request_type request) number (request_attributes request number) (addition_of client request) client.style.fingerprint (type_small request) n (attributes_small request number) (attributes_few request number lawful) (addition_short client request short)

pub message_law : (client : Client) (request : TurnRequest) (number : ℕ) → HasShortTexts client → IsLawfulRequest request → number < 2 ^ 96 → refusal (request_text client request number) ≡ None
message_law client request number short lawful n = (request_read client request number short lawful n).message

pub number_law : (client : Client) (request : TurnRequest) (number : ℕ) → HasShortTexts client → IsLawfulRequest request → number < 2 ^ 96 → number_at (request_text client request number) ≡ number
number_law client request number short lawful n = (request_read client request number short lawful n).number

pub reported_law : (client : Client) (request : TurnRequest) (number : ℕ) → HasShortTexts client → IsLawfulRequest request → number < 2 ^ 96 → CanBeRead request number
    → decoded_by (request_text client request number) ≡ reported_request request number
reported_law client request number short lawful n read =
    let kind = request_type request in
    let text = request_text client request number in
    let following = calls_after kind number (request_attributes request number) (addition_of client request) client.style.fingerprint (addition_other client request) in
    let shows = subst (λ (all : List Attr). IsReadAs kind number all text) following.parts (request_read client request number short lawful n) in
    reported_listed kind number (request_attributes request number ++ following.rest) text shows
    ∙ request_reported request number following.rest lawful read following.other

pub request_law : (client : Client) (request : TurnRequest) (number : ℕ) → is_request (request_text client request number) ≡ true
unfolding request_text
request_law client request number = ap is_request_class (text_class request number (attributes_of (request_type request) number (request_calls client request number)))
