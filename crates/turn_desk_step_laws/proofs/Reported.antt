-- A client reads a server core's challenge as one.
use Rattle.std.specs.Prelude.{◌≢◌, ◌≤◌, ◌&&◌}
use Rattle.std.proofs.Common.{◌≡◌, ℕ, ◌*◌, ◌%◌, eqb, Bool, true, false, if◌then◌else◌, List, [], ◌∷◌, length, Option, Some, None, refl, sym, ap, ◌∙◌, arith}
use Rattle.std.specs.List.{list_all}
use Rattle.std.specs.Str.{chars, is_utf8}
use Rattle.std.specs.declared.net.socket_addr.SocketAddr.{SocketAddr}
use lib.Utf8.{encode}
use Rattle.rand_core.specs.Stream.{Stream}
use Rattle.turn_desk_core.specs.StunTypesWrite.Adding.{attr_of}
use Rattle.turn_desk_core.specs.StunTypesWire.Attributes.{Attr, kind_at}
use Rattle.turn_desk_core.specs.StunTypesAuthAttributes.Entries.{algorithms_read_refusal, entries, numbers_decoded}
use Rattle.turn_desk_core.specs.StunTypesAttributes.ErrorCodeReading.{error_decoded}
use Rattle.turn_desk_core.specs.StunTypesAttributes.ErrorCodes.{CodeAndReason, error_value, reason_for}
use Rattle.turn_desk_core.specs.StunTypesWire.Grammar.{number_at, visible}
use Rattle.turn_desk_core.specs.StunTypesWire.declared.algorithm.IntegrityAlgorithm.{IntegrityAlgorithm}
use Rattle.turn_desk_core.specs.StunTypesWire.declared.algorithm.IntegrityAlgorithm.TheVariants.{Sha1, Sha256, Sha512}
use Rattle.turn_desk_core.specs.StunTypesWire.declared.class.MessageClass.{MessageClass}
use Rattle.turn_desk_core.specs.StunTypesWire.declared.class.MessageClass.TheVariants.{Error}
use Rattle.turn_desk_core.specs.StunTypesWire.MessageReading.{IsReadAs}
use Rattle.turn_desk_core.specs.StunTypesMessage.Objections.{error_attribute, error_type}
use Rattle.turn_desk_core.specs.StunTypesWire.declared.error.StunParseError.{StunParseError}
use Rattle.turn_desk_core.specs.StunTypesWire.Registry.{error_code_kind, longest_text, nonce_kind, password_algorithms_kind, realm_kind, stale_nonce_code, unauthorized_code}
use Rattle.turn_desk_core.specs.StunTypesWire.Types.{class_of, method_of, type_of}
use Rattle.turn_desk_core.specs.StunTypesWrite.ValueReading.{text_read_refusal, utf8_refusal}
use Rattle.turn_desk_core.proofs.StunTypesAttributes.Codes.{error_is_accepted, decoded_again}
use Rattle.turn_desk_core.proofs.StunTypesWrite.Values.{text_is_accepted}
use Rattle.turn_client_proto_messages.specs.StunProtoAuth.Addition.{attrs, nonce_of, realm_of}
use Rattle.turn_client_proto_messages.specs.StunProtoClient.Challenges.{ChallengeFields, asks_again, challenge_visible, is_challenge_code, is_error, decoded_by, list_for_choice, reported_of}
use Rattle.turn_client_proto_messages.specs.StunProtoClient.Choice.{offers_to, supports, takes}
use Rattle.turn_client_proto_messages.specs.StunProtoAuth.Claims.{algorithms_decoded, claimed, code_visible, code_decoded, last_of_kind, list_decoded, text_decoded, unless_refused}
use Rattle.turn_client_proto_messages.specs.StunProtoAuth.Nonce.{features_in}
use Rattle.turn_client_proto_messages.specs.StunProtoAuth.Lists.{list_read_refusal}
use Rattle.turn_client_proto_messages.specs.StunProtoAuth.Offers.{offers}
use Rattle.turn_client_proto_messages.proofs.StunProtoAuth.KnownLists.{known_is_accepted, known_is_accepted_too, listed_as_offered}
use Rattle.turn_desk_core.specs.StunProtoVerify.declared.error.LongTermServerAuthError.{LongTermServerAuthError}
use Rattle.turn_desk_core.specs.StunProtoVerify.declared.error.LongTermServerAuthError.TheVariants.{Unauthorized, IntegrityFailed, BadRequest, StaleNonce, NoMemory}
use Rattle.turn_desk_core.specs.StunProtoServer.ServerSigning.{Party, list_for}
use Rattle.turn_client_proto_messages.specs.StunProtoAuth.SupportedAlgorithms.{list_of, needs_password_algorithms}
use Rattle.turn_desk_core.proofs.Methods.{by_method}
use Rattle.turn_desk_core.specs.Requests.{IsServed}
use Rattle.turn_desk_core.specs.State.{State}
use Rattle.turn_desk_core.specs.Steps.{FitsChallenge, IsChallenge, challenge_attributes, refusal_attributes, unvalidated_party}
use Rattle.turn_desk_step_laws.specs.Challenged.{challenge_of, list_offered}

-- ---- which algorithms a list takes

-- A list offers exactly the algorithms of which it was made.
offered_as : (algorithms : List IntegrityAlgorithm) (algorithm : IntegrityAlgorithm) → offers (list_of algorithms) algorithm ≡ supports algorithms algorithm
unfolding entries numbers_decoded
offered_as [] algorithm = refl
offered_as (Sha1 ∷ rest) Sha1 = refl
offered_as (Sha1 ∷ rest) Sha256 = offered_as rest Sha256
offered_as (Sha1 ∷ rest) Sha512 = offered_as rest Sha512
offered_as (Sha256 ∷ rest) Sha1 = offered_as rest Sha1
offered_as (Sha256 ∷ rest) Sha256 = refl
offered_as (Sha256 ∷ rest) Sha512 = offered_as rest Sha512
offered_as (Sha512 ∷ rest) Sha1 = offered_as rest Sha1
offered_as (Sha512 ∷ rest) Sha256 = offered_as rest Sha256
offered_as (Sha512 ∷ rest) Sha512 = refl

-- Both readings give the same.
offered_to_as : (hardened : Bool) (algorithms : List IntegrityAlgorithm) (algorithm : IntegrityAlgorithm) → offers_to hardened (list_of algorithms) algorithm ≡ supports algorithms algorithm
offered_to_as false algorithms algorithm = offered_as algorithms algorithm
offered_to_as true algorithms algorithm = listed_as_offered algorithms algorithm ∙ offered_as algorithms algorithm

-- Only the single algorithm Sha1 needs no list.
taken_by : (hardened lists : Bool) (algorithms : List IntegrityAlgorithm) (algorithm : IntegrityAlgorithm) → lists ≡ needs_password_algorithms algorithms
    → takes hardened (if lists then Some (list_of algorithms) else None) algorithm ≡ supports algorithms algorithm
taken_by hardened true algorithms algorithm is = offered_to_as hardened algorithms algorithm
taken_by hardened false [] algorithm is = absurd (Prim.cc is)
taken_by hardened false (Sha1 ∷ []) Sha1 is = refl
taken_by hardened false (Sha1 ∷ []) Sha256 is = refl
taken_by hardened false (Sha1 ∷ []) Sha512 is = refl
taken_by hardened false (Sha256 ∷ []) algorithm is = absurd (Prim.cc is)
taken_by hardened false (Sha512 ∷ []) algorithm is = absurd (Prim.cc is)
taken_by hardened false (Sha1 ∷ second ∷ others) algorithm is = absurd (Prim.cc is)
taken_by hardened false (Sha256 ∷ second ∷ others) algorithm is = absurd (Prim.cc is)
taken_by hardened false (Sha512 ∷ second ∷ others) algorithm is = absurd (Prim.cc is)

pub takes_own : (hardened : Bool) (party : Party) (algorithm : IntegrityAlgorithm) → (features_in party.nonce).password_algorithms ≡ needs_password_algorithms party.algorithms
    → takes hardened (list_offered party) algorithm ≡ supports party.algorithms algorithm
takes_own hardened party algorithm is = taken_by hardened (features_in party.nonce).password_algorithms party.algorithms algorithm is

-- The list is the same to a hardened client and to any other.
pub chosen_list : (hardened : Bool) (party : Party) → list_for_choice hardened (challenge_of party) ≡ list_offered party
chosen_list false party = refl
chosen_list true party = refl

pub takes_chosen : (hardened : Bool) (party : Party) (algorithm : IntegrityAlgorithm) → (features_in party.nonce).password_algorithms ≡ needs_password_algorithms party.algorithms
    → takes hardened (list_for_choice hardened (challenge_of party)) algorithm ≡ supports party.algorithms algorithm
takes_chosen hardened party algorithm is =
    ap (λ (o : Option (List ℕ)). takes hardened o algorithm) (chosen_list hardened party) ∙ takes_own hardened party algorithm is

-- ---- what is read

-- The codes of challenges are read.
record IsReadCode (code : ℕ) : Type 0 where
  asks : is_challenge_code (Some code) ≡ true
  reported : code_decoded (Some (error_attribute code)) ≡ Some code

code_read : (code : ℕ) → 300 ≤ code → code ≤ 699 → length (reason_for code) ≤ longest_text → utf8_refusal (reason_for code) ≡ None → code_decoded (Some (error_attribute code)) ≡ Some code
unfolding code_decoded
code_read code least most short text =
    let e : CodeAndReason = record { code = code; reason = reason_for code } in
    ap (λ (o : Option StunParseError). unless_refused o (error_decoded (error_value e)).code) (error_is_accepted e least most short text) ∙ ap (λ reported. Some reported.code) (decoded_again e)

unauthorized_read : IsReadCode unauthorized_code
unfolding utf8_refusal is_utf8 chars encode
unauthorized_read = record { asks = refl; reported = code_read 401 (omega arith) (omega arith) (omega arith) refl }

stale_read : IsReadCode stale_nonce_code
unfolding utf8_refusal is_utf8 chars encode
stale_read = record { asks = refl; reported = code_read 438 (omega arith) (omega arith) (omega arith) refl }

-- What a challenge shows, with a list or without.
abbrev shows : Bool → ℕ → Party → List Attr
shows lists code party = error_attribute code ∷ attrs (realm_of party.realm ∷ nonce_of party.nonce ∷ list_for lists party.algorithms)

abbrev list_by_bit : Bool → List IntegrityAlgorithm → Option (List ℕ)
list_by_bit lists algorithms = if lists then Some (list_of algorithms) else None

-- The last attribute of each type.
record IsReportedBy (lists : Bool) (code : ℕ) (party : Party) (all : List Attr) : Type 0 where
  code_is : last_of_kind error_code_kind all ≡ Some (error_attribute code)
  realm_is : last_of_kind realm_kind all ≡ Some (attr_of realm_kind party.realm)
  nonce_is : last_of_kind nonce_kind all ≡ Some (attr_of nonce_kind party.nonce)
  list_is : last_of_kind password_algorithms_kind all ≡ (if lists then Some (attr_of password_algorithms_kind (list_of party.algorithms)) else None)

lasts : (lists : Bool) (code : ℕ) (party : Party) → IsReportedBy lists code party (shows lists code party)
unfolding last_of_kind
lasts true code party = record { code_is = refl; realm_is = refl; nonce_is = refl; list_is = refl }
lasts false code party = record { code_is = refl; realm_is = refl; nonce_is = refl; list_is = refl }

text_again : (kind most : ℕ) (text : List ℕ) → text_read_refusal kind most (attr_of kind text) ≡ None → text_decoded kind most (Some (attr_of kind text)) ≡ Some text
unfolding text_decoded
text_again kind most text reads = ap (λ (o : Option StunParseError). unless_refused o text) reads

list_again : (lists : Bool) (algorithms : List IntegrityAlgorithm) → algorithms_read_refusal (attr_of password_algorithms_kind (list_of algorithms)) ≡ None
    → algorithms_decoded (if lists then Some (attr_of password_algorithms_kind (list_of algorithms)) else None) ≡ list_by_bit lists algorithms
unfolding algorithms_decoded
list_again true algorithms reads = ap (λ (o : Option StunParseError). unless_refused o (list_of algorithms)) reads
list_again false algorithms reads = refl

listed_again : (lists : Bool) (algorithms : List IntegrityAlgorithm) → list_read_refusal (attr_of password_algorithms_kind (list_of algorithms)) ≡ None
    → list_decoded (if lists then Some (attr_of password_algorithms_kind (list_of algorithms)) else None) ≡ list_by_bit lists algorithms
unfolding list_decoded
listed_again true algorithms reads = ap (λ (o : Option StunParseError). unless_refused o (list_of algorithms)) reads
listed_again false algorithms reads = refl

-- The list that counts.
counts : (lists : Bool) (algorithms : List IntegrityAlgorithm) → (if lists then list_by_bit lists algorithms else None) ≡ list_by_bit lists algorithms
counts true algorithms = refl
counts false algorithms = refl

-- An error response that shows all of this is read as a challenge.
read_by : (lists : Bool) (code : ℕ) (party : Party) (reply : List ℕ) → (features_in party.nonce).password_algorithms ≡ lists → IsReadCode code → FitsChallenge party → class_of (kind_at reply) ≡ Error → visible reply ≡ shows lists code party
    → challenge_visible reply ≡ Some (challenge_of party)
read_by lists code party reply bit read fits class visible_is =
    let last = lasts lists code party in
    let kind_is : (kind : ℕ) → last_of_kind kind (visible reply) ≡ last_of_kind kind (shows lists code party) = λ kind. ap (last_of_kind kind) visible_is in
    let code_is : code_visible reply ≡ Some code = ap code_decoded (kind_is error_code_kind ∙ last.code_is) ∙ read.reported in
    let asks : asks_again reply ≡ true =
    ap (λ (c : MessageClass). is_error c && is_challenge_code (code_visible reply)) class ∙ (ap is_challenge_code code_is ∙ read.asks) in
    let realm_is : (claimed reply).realm ≡ Some party.realm =
    ap (text_decoded realm_kind longest_text) (kind_is realm_kind ∙ last.realm_is) ∙ text_again realm_kind longest_text party.realm (text_is_accepted realm_kind longest_text party.realm fits.realm fits.realm_is_text) in
    let nonce_is : (claimed reply).nonce ≡ Some party.nonce =
    ap (text_decoded nonce_kind longest_text) (kind_is nonce_kind ∙ last.nonce_is) ∙ text_again nonce_kind longest_text party.nonce (text_is_accepted nonce_kind longest_text party.nonce fits.nonce fits.nonce_is_text) in
    let list_is : (claimed reply).algorithms ≡ list_by_bit lists party.algorithms =
    ap algorithms_decoded (kind_is password_algorithms_kind ∙ last.list_is) ∙ list_again lists party.algorithms (known_is_accepted party.algorithms fits.never_empty fits.algorithms) in
    let listed_is : (claimed reply).listed ≡ list_by_bit lists party.algorithms =
    ap list_decoded (kind_is password_algorithms_kind ∙ last.list_is) ∙ listed_again lists party.algorithms (known_is_accepted_too party.algorithms fits.never_empty fits.algorithms) in
    let with_list : Option (List ℕ) → ChallengeFields = λ offered. record { realm = party.realm; nonce = party.nonce; offered = offered; listed = offered } in
    ap (λ (b : Bool). if b then reported_of (claimed reply) else None) asks
    ∙ (ap (λ (r : Option (List ℕ)). decoded_by r (claimed reply).nonce (claimed reply).algorithms (claimed reply).listed) realm_is
    ∙ (ap (λ (n : Option (List ℕ)). decoded_by (Some party.realm) n (claimed reply).algorithms (claimed reply).listed) nonce_is
    ∙ (ap (λ (l : Option (List ℕ)). decoded_by (Some party.realm) (Some party.nonce) l (claimed reply).listed) list_is
    ∙ (ap (λ (l : Option (List ℕ)). decoded_by (Some party.realm) (Some party.nonce) (list_by_bit lists party.algorithms) l) listed_is
    ∙ (ap (λ (b : Bool). Some (with_list (if b then list_by_bit lists party.algorithms else None))) bit
    ∙ (ap (λ (l : Option (List ℕ)). Some (with_list l)) (counts lists party.algorithms)
    ∙ ap (λ (b : Bool). Some (with_list (list_by_bit b party.algorithms))) (sym bit)))))))

-- ---- a challenge of the desk

-- The error response to a request that is served has the class of an error.
error_class : (bytes : List ℕ) → IsServed bytes → class_of (error_type bytes) ≡ Error
error_class bytes served =
    by_method (λ (m : ℕ). class_of (type_of Error m) ≡ Error) (record { allocate = refl; refresh = refl; create_permission = refl; channel_bind = refl; connect = refl; connection_bind = refl }) (method_of (kind_at bytes)) served.method

code_of_party : (code : ℕ) (bytes reply : List ℕ) (party : Party) → IsServed bytes → IsReadCode code → FitsChallenge party → IsReadAs (error_type bytes) (number_at bytes) (challenge_attributes code party) reply
    → challenge_visible reply ≡ Some (challenge_of party)
code_of_party code bytes reply party served read fits is =
    read_by (features_in party.nonce).password_algorithms code party reply refl read fits (ap class_of is.kind ∙ error_class bytes served) is.shows

by_error : (error : LongTermServerAuthError) (bytes reply : List ℕ) (party : Party) → IsServed bytes → error ≢ BadRequest → FitsChallenge party → IsReadAs (error_type bytes) (number_at bytes) (refusal_attributes error party) reply
    → challenge_visible reply ≡ Some (challenge_of party)
by_error BadRequest bytes reply party served other fits is = absurd (other refl)
by_error StaleNonce bytes reply party served other fits is = code_of_party stale_nonce_code bytes reply party served stale_read fits is
by_error Unauthorized bytes reply party served other fits is = code_of_party unauthorized_code bytes reply party served unauthorized_read fits is
by_error (IntegrityFailed algorithm) bytes reply party served other fits is = code_of_party unauthorized_code bytes reply party served unauthorized_read fits is
by_error NoMemory bytes reply party served other fits is = code_of_party unauthorized_code bytes reply party served unauthorized_read fits is

pub challenge_read : (old new : State) (from : SocketAddr) (bytes reply : List ℕ) (now : ℕ) (stream : Stream) → IsServed bytes → (is : IsChallenge old from bytes now stream reply new) → is.error ≢ BadRequest
    → challenge_visible reply ≡ Some (challenge_of (unvalidated_party old.auth is.nonce))
challenge_read old new from bytes reply now stream served is other = by_error is.error bytes reply (unvalidated_party old.auth is.nonce) served other is.fits is.read
