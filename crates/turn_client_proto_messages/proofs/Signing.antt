-- Signing a request fails only if memory runs out.
use Rattle.std.specs.Prelude.{IfSome, if◌then◌else◌}
use Rattle.std.proofs.Common.{◌≡◌, ℕ, ◌+◌, ◌*◌, ◌≤◌, Bool, true, false, eqb, List, [], ◌∷◌, length, Option, Some, None, refl, sym, subst, arith}
use Rattle.std.specs.List.{AllByRecursion}
use Rattle.std.proofs.lemmas.Bool.{le-ltb}
use Rattle.sha2.proofs.Facts256.{length-sha256}
use Rattle.stun_types_wire.specs.Attributes.{Attr, attr_size}
use Rattle.stun_types_write.specs.Adding.{add_refusal, after_add, fingerprint_add_refusal}
use Rattle.stun_types_add.specs.Calls.{AreAccepted, IsOrdinary, after_calls}
use Rattle.stun_types_add.proofs.Taken.{after_both}
use Rattle.stun_types_integrity.specs.Credentials.{Key, NameAndPassword}
use Rattle.stun_types_write.specs.Drafts.{Draft}
use Rattle.stun_types_wire.specs.declared.algorithm.IntegrityAlgorithm.{IntegrityAlgorithm}
use Rattle.stun_types_wire.specs.declared.algorithm.IntegrityAlgorithm.TheVariants.{Sha1, Sha256, Sha512}
use Rattle.stun_types_wire.specs.declared.class.MessageClass.TheVariants.{Request}
use Rattle.stun_types_write.specs.Outcomes.{added}
use Rattle.stun_types_wire.specs.Registry.{fingerprint_kind, greatest_size}
use Rattle.stun_types_integrity.specs.Signing.{hmac_length, order_refusal, signature, signing_refusal}
use Rattle.stun_types_message.proofs.Signed.{signature_length, size_of}
use Rattle.stun_types_attributes.specs.AuthAttributes.Texts.{text_refusal}
use Rattle.stun_types_attributes.specs.AuthAttributes.Userhashes.{userhash_of}
use Rattle.stun_types_add.proofs.Adds.{length-after_add}
use Rattle.stun_proto_auth.specs.declared.feature.Feature.{Feature}
use Rattle.stun_proto_auth.specs.Addition.{Addition, PartOf, addition_refusal, attr_of_part, calls_of, calls_of_parts, calls_of_signer, no_addition, one_refusal, parts_refusal, signer_refusal, size_of_part}
use Rattle.stun_proto_client.specs.Client.{Challenge, Client, Standing, standing_by}
use Rattle.stun_proto_client.specs.ClientSigning.{addition_by, addition_for, choice_parts, hides_name, name_part, request_parts}
use Rattle.turn_client_proto_messages.specs.Composing.{IsOpen}
use Rattle.turn_client_proto_messages.specs.Requests.{authentication_of, addition_of, described, fingerprint_calls, is_signed, software_part, software_parts}
use Rattle.turn_client_proto_messages.specs.ShortTexts.{HasShortTexts, IsShortChallenge}
use Rattle.turn_client_proto_messages.specs.declared.request.TurnRequest.{TurnRequest}
use Rattle.turn_client_proto_messages.proofs.Growing.{open_added, open_room}

-- ---- parts

-- A part within its limit, of at most 768 bytes after its header, that ends no message.
pub record IsShortPart (p : PartOf) : Type 0 where
  pub within : length p.value ≤ p.most
  pub ordinary : IsOrdinary (attr_of_part p)
  pub short : size_of_part p ≤ 772

-- What holds of an open message after the parts were added.
pub record IsLeftOpen (parts : List PartOf) (draft : Draft) : Type 0 where
  pub accepted : parts_refusal draft parts ≡ None
  pub calls : AreAccepted (calls_of_parts parts) draft
  pub still : IsOpen (after_calls (calls_of_parts parts) draft)
  pub size : length (after_calls (calls_of_parts parts) draft).bytes ≤ length draft.bytes + 772 * length parts

text_within : (most : ℕ) (text : List ℕ) → length text ≤ most → text_refusal most text ≡ None
text_within most text short = rw (le-ltb most (length text) short) refl

one_accepted : (p : PartOf) (draft : Draft) → length p.value ≤ p.most → add_refusal draft (size_of_part p) ≡ None → one_refusal draft p ≡ None
one_accepted p draft within room = rw (text_within p.most p.value within) room

pub parts_left : (parts : List PartOf) (draft : Draft) → AllByRecursion IsShortPart parts → IsOpen draft → length draft.bytes + 772 * length parts ≤ 65000 → IsLeftOpen parts draft
unfolding parts_refusal AreAccepted after_calls
parts_left [] draft short o fits = record { accepted = refl; calls = tt; still = o; size = omega arith }
parts_left (p ∷ rest) draft short o fits =
    let a = attr_of_part p in
    let few = short.0.short in
    let room : add_refusal draft (size_of_part p) ≡ None = open_room draft (size_of_part p) o (omega (arith, few, fits)) in
    let next = open_added a draft o short.0.ordinary.ordinary (omega (arith, few, fits)) in
    let grown = length-after_add draft.bytes a o.started in
    let left = parts_left rest (added a draft) short.1 next (omega (arith, few, fits, grown)) in
    let size = left.size in
    let whole = one_accepted p draft short.0.within room in
    record {
      accepted = rw whole left.accepted;
      calls = (room, left.calls);
      still = left.still;
      size = omega (arith, size, few, grown);
    }

-- ---- the integrity attribute

signable : (draft : Draft) → IsOpen draft → length draft.bytes ≤ 65000 → (algorithm : IntegrityAlgorithm) → signing_refusal draft algorithm algorithm ≡ None
unfolding signing_refusal order_refusal
signable draft o short Sha1 = rw (o.ended, o.limit, le-ltb greatest_size (length draft.bytes + 24) (omega (arith, short))) refl
signable draft o short Sha256 = rw (o.ended, o.limit, le-ltb greatest_size (length draft.bytes + 36) (omega (arith, short))) refl
signable draft o short Sha512 = rw (o.ended, o.limit, le-ltb greatest_size (length draft.bytes + 68) (omega (arith, short))) refl

signer_accepted : (draft : Draft) (signer : Option Key) → IsOpen draft → length draft.bytes ≤ 65000 → signer_refusal draft signer ≡ None
signer_accepted draft None o short = refl
signer_accepted draft (Some key) o short = signable draft o short key.algorithm

pub signer_calls : (draft : Draft) (signer : Option Key) → IsOpen draft → length draft.bytes ≤ 65000 → AreAccepted (calls_of_signer signer) draft
unfolding AreAccepted
signer_calls draft None o short = tt
signer_calls draft (Some key) o short = (signable draft o short key.algorithm, tt)

-- ---- FINGERPRINT

-- An open message has room for it.
pub open_marked : (draft : Draft) → IsOpen draft → length draft.bytes ≤ 65000 → fingerprint_add_refusal draft ≡ None
unfolding fingerprint_add_refusal
open_marked draft o short = rw (o.ended, o.limit, le-ltb greatest_size (length draft.bytes + 8) (omega (arith, short))) refl

-- So has one to which an attribute other than FINGERPRINT was added.
added_marked : (draft : Draft) (a : Attr) → IsOpen draft → length draft.bytes + attr_size a + 8 ≤ greatest_size → eqb a.kind fingerprint_kind ≡ false → fingerprint_add_refusal (added a draft) ≡ None
unfolding fingerprint_add_refusal
added_marked draft a o fits other =
    let grown = length-after_add draft.bytes a o.started in
    rw (other, o.ended, o.limit, le-ltb greatest_size (length (after_add draft.bytes a) + 8) (omega (arith, grown, fits))) refl

hmac_short : (algorithm : IntegrityAlgorithm) → hmac_length algorithm ≤ 64
hmac_short Sha1 = omega arith
hmac_short Sha256 = omega arith
hmac_short Sha512 = omega arith

signature_unmarked : (algorithm : IntegrityAlgorithm) (key text : List ℕ) → eqb (signature algorithm key text).kind fingerprint_kind ≡ false
unfolding signature
signature_unmarked Sha1 key text = refl
signature_unmarked Sha256 key text = refl
signature_unmarked Sha512 key text = refl

-- So has one that was signed.
signer_marked : (draft : Draft) (signer : Option Key) → IsOpen draft → length draft.bytes ≤ 64000 → fingerprint_add_refusal (after_calls (calls_of_signer signer) draft) ≡ None
unfolding after_calls
signer_marked draft None o short = open_marked draft o (omega (arith, short))
signer_marked draft (Some key) o short =
    let a = signature key.algorithm key.bytes draft.bytes in
    let sizes = size_of key.algorithm (length a.value) (signature_length key.algorithm key.bytes draft.bytes) in
    let size = sizes.0 in
    let most = hmac_short key.algorithm in
    added_marked draft a o (omega (arith, size, most, short)) (signature_unmarked key.algorithm key.bytes draft.bytes)

pub mark_accepted : (marks : Bool) (draft : Draft) → fingerprint_add_refusal draft ≡ None → AreAccepted (fingerprint_calls marks) draft
unfolding AreAccepted
mark_accepted true draft room = (room, tt)
mark_accepted false draft room = tt

-- ---- what a client adds

name_short : (hidden : Bool) (name realm : List ℕ) → length name ≤ 513 → IsShortPart (name_part hidden name (userhash_of name realm))
name_short true name realm short =
    let size : length (userhash_of name realm) ≡ 32 = length-sha256 _ in
    record {
      within = omega (arith, size);
      ordinary = record { fits = record { kind = omega arith; value = omega (arith, size) }; ordinary = refl };
      short = omega (arith, size);
    }
name_short false name realm short = record {
  within = omega (arith, short);
  ordinary = record { fits = record { kind = omega arith; value = omega (arith, short) }; ordinary = refl };
  short = omega (arith, short);
}

choice_short : (offered : Option (List ℕ)) (choice : IntegrityAlgorithm) → IfSome offered (λ list. length list ≤ 32) → AllByRecursion IsShortPart (choice_parts offered choice)
choice_short None choice short = tt
choice_short (Some list) choice short = (
  record {
    within = omega (arith, short);
    ordinary = record { fits = record { kind = omega arith; value = omega (arith, short) }; ordinary = refl };
    short = omega (arith, short);
  },
  (
    record {
      within = omega arith;
      ordinary = record { fits = record { kind = omega arith; value = omega arith }; ordinary = refl };
      short = omega arith;
    },
    tt,
  ),
)

-- The user name, realm, nonce and list are short.
record IsShortStanding (s : Standing) : Type 0 where
  name : length s.account.username ≤ 513
  challenge : IsShortChallenge s.challenge

request_short : (hidden : Bool) (s : Standing) → IsShortStanding s → AllByRecursion IsShortPart (request_parts hidden s)
request_short hidden s short =
    let realm = short.challenge.realm in
    let nonce = short.challenge.nonce in (
      name_short hidden s.account.username s.challenge.realm short.name,
      (
        record {
          within = omega (arith, realm);
          ordinary = record { fits = record { kind = omega arith; value = omega (arith, realm) }; ordinary = refl };
          short = omega (arith, realm);
        },
        (
          record {
            within = omega (arith, nonce);
            ordinary = record { fits = record { kind = omega arith; value = omega (arith, nonce) }; ordinary = refl };
            short = omega (arith, nonce);
          },
          choice_short s.challenge.offered s.challenge.choice short.challenge.offered,
        ),
      ),
    )

few_choices : (offered : Option (List ℕ)) (choice : IntegrityAlgorithm) → length (choice_parts offered choice) ≤ 2
few_choices None choice = omega arith
few_choices (Some list) choice = omega arith

-- At most six parts, each of them short.
pub record IsShortAddition (a : Addition) : Type 0 where
  pub each : AllByRecursion IsShortPart a.parts
  pub few : length a.parts ≤ 6

pub nothing_short : IsShortAddition no_addition
nothing_short = record { each = tt; few = omega arith }

short_by : (anonymous : Feature) (account : Option NameAndPassword) (challenge : Option Challenge) → IfSome account (λ a. length a.username ≤ 513) → IfSome challenge IsShortChallenge
    → IsShortAddition (addition_by anonymous (standing_by account challenge) Request)
short_by anonymous None challenge short stored = nothing_short
short_by anonymous (Some account) None short stored = nothing_short
short_by anonymous (Some account) (Some challenge) short stored =
    let few = few_choices challenge.offered challenge.choice in
    record {
      each = request_short (hides_name anonymous challenge.nonce) (record { account = account; challenge = challenge }) (record { name = short; challenge = stored });
      few = omega (arith, few);
    }

-- What a client adds to a request is short.
pub client_short : (client : Client) → HasShortTexts client → IsShortAddition (addition_for client Request)
client_short client short = short_by client.anonymous_username client.account client.challenge short.username short.challenge

-- At most five parts authenticate it.
few_by : (anonymous : Feature) (account : Option NameAndPassword) (challenge : Option Challenge) → length (addition_by anonymous (standing_by account challenge) Request).parts ≤ 5
few_by anonymous None challenge = omega arith
few_by anonymous (Some account) None = omega arith
few_by anonymous (Some account) (Some challenge) = let few = few_choices challenge.offered challenge.choice in omega (arith, few)

pub software_short : (text : List ℕ) → length text ≤ 763 → IsShortPart (software_part text)
software_short text short = record {
  within = short;
  ordinary = record { fits = record { kind = omega arith; value = omega (arith, short) }; ordinary = refl };
  short = omega (arith, short);
}

described_short : (software : Option (List ℕ)) (made : Addition) → IfSome software (λ text. length text ≤ 763) → IsShortAddition made → length made.parts ≤ 5 → IsShortAddition (described software made)
described_short None made short own few = record { each = own.each; few = omega (arith, few) }
described_short (Some text) made short own few = record { each = (software_short text short, own.each); few = omega (arith, few) }

-- What a client adds to a request before FINGERPRINT is short.
pub addition_short : (client : Client) (request : TurnRequest) → HasShortTexts client → IsShortAddition (addition_of client request)
addition_short client request short = described_short client.style.software (authentication_of client request) short.software (by (is_signed request)) (few (is_signed request))
  where
    by : (signed : Bool) → IsShortAddition (if signed then addition_for client Request else no_addition)
    by true = client_short client short
    by false = nothing_short

    few : (signed : Bool) → length (if signed then addition_for client Request else no_addition).parts ≤ 5
    few true = few_by client.anonymous_username client.account client.challenge
    few false = omega arith

-- What is short is accepted by an open message.
pub short_accepted : (a : Addition) (draft : Draft) → IsShortAddition a → IsOpen draft → length draft.bytes ≤ 4864 → addition_refusal a draft ≡ None
short_accepted a draft short o fits =
    let few = short.few in
    let left = parts_left a.parts draft short.each o (omega (arith, few, fits)) in
    let size = left.size in
    rw left.accepted (signer_accepted (after_calls (calls_of_parts a.parts) draft) a.signer left.still (omega (arith, few, fits, size)))

-- There is room for FINGERPRINT behind it.
pub short_marked : (a : Addition) (draft : Draft) → IsShortAddition a → IsOpen draft → length draft.bytes ≤ 4864 → fingerprint_add_refusal (after_calls (calls_of a) draft) ≡ None
short_marked a draft short o fits =
    let few = short.few in
    let left = parts_left a.parts draft short.each o (omega (arith, few, fits)) in
    let size = left.size in
    subst (λ (d : Draft). fingerprint_add_refusal d ≡ None) (sym (after_both (calls_of_parts a.parts) (calls_of_signer a.signer) draft))
    (signer_marked (after_calls (calls_of_parts a.parts) draft) a.signer left.still (omega (arith, few, fits, size)))

-- What a client with short texts adds is accepted by an open message.
pub client_accepted : (client : Client) (draft : Draft) → HasShortTexts client → IsOpen draft → length draft.bytes ≤ 4864 → addition_refusal (addition_for client Request) draft ≡ None
client_accepted client draft short o fits = short_accepted (addition_for client Request) draft (client_short client short) o fits
