-- The texts of a client stay well formed: malformed texts of a challenge are not used.
use Rattle.std.specs.Option.{option_or}
use Rattle.std.specs.Prelude.{IfSome, MatchResult, Result, Ok, Err}
use Rattle.std.proofs.Common.{◌≡◌, ℕ, Bool, true, false, eqb, if◌then◌else◌, List, Option, Some, None, refl, subst, inl, inr}
use Rattle.std.proofs.lemmas.Bool.{cases_Bool}
use Rattle.stun_types_write.specs.Adding.{attr_of}
use Rattle.stun_types_wire.specs.Attributes.{Attr}
use Rattle.stun_types_attributes.specs.AuthAttributes.Entries.{algorithms_read_refusal}
use Rattle.stun_types_wire.specs.Grammar.{visible}
use Rattle.stun_types_wire.specs.declared.algorithm.IntegrityAlgorithm.{IntegrityAlgorithm}
use Rattle.stun_types_wire.specs.declared.error.StunParseError.{StunParseError}
use Rattle.stun_types_wire.specs.RawBytes.{type_and_len_refusal}
use Rattle.stun_types_wire.specs.Registry.{longest_text, nonce_kind, password_algorithms_kind, realm_kind}
use Rattle.stun_types_write.specs.ValueReading.{text_read_refusal, utf8_refusal}
use Rattle.stun_proto_auth.specs.Claims.{algorithms_decoded, claimed, last_of_kind, text_decoded, unless_refused}
use Rattle.stun_proto_client.specs.Challenges.{ChallengeFields, asks_again, challenge_visible, decoded_by, list_for_choice, reported_of}
use Rattle.stun_types_integrity.specs.Credentials.{NameAndPassword}
use Rattle.stun_proto_client.specs.Client.{Client}
use Rattle.stun_proto_client.specs.ClientValidation.{IsTaken, IsRejected, keeping}
use Rattle.stun_proto_client.specs.declared.error.LongTermClientAuthError.{LongTermClientAuthError}
use Rattle.stun_proto_client.specs.declared.error.LongTermClientAuthError.TheVariants.{Unauthorized, IntegrityFailed, UnsupportedFeature, NoMemory}
use Rattle.stun_proto_client.specs.declared.validation.LongTermClientValidation.{LongTermClientValidation}
use Rattle.stun_proto_client.specs.declared.validation.LongTermClientValidation.TheVariants.{ResendRequest, Validated}
use Rattle.turn_client_proto_messages.specs.ReadTexts.{HasReadTexts}
use Rattle.turn_client_proto_messages.proofs.Short.{or_second, same_decoded}

-- ---- what is reported can be read

-- A text in UTF-8, and a list of known algorithms.
abbrev IsText : List ℕ → Type 0
IsText text = utf8_refusal text ≡ None

abbrev IsKnownList : List ℕ → Type 0
IsKnownList list = algorithms_read_refusal (attr_of password_algorithms_kind list) ≡ None

text_reads : (kind most : ℕ) (a : Attr) → text_read_refusal kind most a ≡ None → IsText a.value
unfolding text_read_refusal
text_reads kind most a h = or_second _ _ h

list_reads : (a : Attr) → algorithms_read_refusal a ≡ None → IsKnownList a.value
unfolding algorithms_read_refusal type_and_len_refusal
list_reads a h =
    elim (cases_Bool (eqb a.kind password_algorithms_kind)) [
      | inl same ↦ rw same at h
      | inr other ↦ absurd (let p = rw other at h in cc)
    ]

unless_reads : (P : List ℕ → Type 0) (refused : Option StunParseError) (value : List ℕ) → (refused ≡ None → P value) → IfSome (unless_refused refused value) P
unless_reads P None value h = h refl
unless_reads P (Some e) value h = tt

text_reported_reads : (kind most : ℕ) (a : Option Attr) → IfSome (text_decoded kind most a) IsText
unfolding text_decoded
text_reported_reads kind most None = tt
text_reported_reads kind most (Some a) = unless_reads IsText (text_read_refusal kind most a) a.value (text_reads kind most a)

list_reported_reads : (a : Option Attr) → IfSome (algorithms_decoded a) IsKnownList
unfolding algorithms_decoded
list_reported_reads None = tt
list_reported_reads (Some a) = unless_reads IsKnownList (algorithms_read_refusal a) a.value (list_reads a)

-- ---- a challenge

-- The texts decoded from a challenge are well formed.
record IsReadReported (reported : ChallengeFields) : Type 0 where
  realm : IsText reported.realm
  nonce : IsText reported.nonce
  offered : IfSome reported.offered IsKnownList

list_counts : (list : Option (List ℕ)) (counts : Bool) → IfSome list IsKnownList → IfSome (if counts then list else None) IsKnownList
list_counts list true reads = reads
list_counts list false reads = tt

reported_reads : (realm nonce list listed : Option (List ℕ)) (reported : ChallengeFields) → IfSome realm IsText → IfSome nonce IsText → IfSome list IsKnownList → decoded_by realm nonce list listed ≡ Some reported → IsReadReported reported
reported_reads None _ list listed reported r n l is = absurd (Prim.cc is)
reported_reads (Some realm) None list listed reported r n l is = absurd (Prim.cc is)
reported_reads (Some realm) (Some nonce) list listed reported r n l is =
    subst IsReadReported (same_decoded is) (record { realm = r; nonce = n; offered = list_counts list _ l })

challenge_reads : (bytes : List ℕ) (reported : ChallengeFields) → challenge_visible bytes ≡ Some reported → IsReadReported reported
challenge_reads bytes reported is = by (asks_again bytes) is
  where
    by : (asks : Bool) → (if asks then reported_of (claimed bytes) else None) ≡ Some reported → IsReadReported reported
    by true h =
        reported_reads (claimed bytes).realm (claimed bytes).nonce (claimed bytes).algorithms (claimed bytes).listed reported
        (text_reported_reads realm_kind longest_text (last_of_kind realm_kind (visible bytes)))
        (text_reported_reads nonce_kind longest_text (last_of_kind nonce_kind (visible bytes)))
        (list_reported_reads (last_of_kind password_algorithms_kind (visible bytes))) h
    by false h = absurd (Prim.cc h)

-- The list from which a client chose that is not hardened.
chosen_known : (hardened : Bool) (reported : ChallengeFields) → hardened ≡ false → IsReadReported reported → IfSome (list_for_choice hardened reported) IsKnownList
chosen_known false reported soft reads = reads.offered
chosen_known true reported soft reads = absurd (Prim.cc soft)

-- ---- a validation

-- The name of the credentials that a challenge is answered with is UTF-8.
read_then : (account next : Option NameAndPassword) → IfSome account (λ a. utf8_refusal a.username ≡ None) → IfSome next (λ a. utf8_refusal a.username ≡ None) → IfSome (option_or next account) (λ a. utf8_refusal a.username ≡ None)
read_then account None reads later = reads
read_then account (Some next) reads later = later

stored_reads : (old new : Client) (reported : ChallengeFields) (choice : IntegrityAlgorithm) → new ≡ keeping old reported choice → IsReadReported reported → HasReadTexts old → HasReadTexts new
stored_reads old new reported choice is reads own = rw is (record {
  username = read_then old.account old.next_account own.username own.next;
  next = tt;
  challenge = record { realm = reads.realm; nonce = reads.nonce };
  known = λ soft. chosen_known old.hardened reported soft reads;
})

going_reads : (old new : Client) (by : Option IntegrityAlgorithm) → new ≡ record old { integrity = by } → HasReadTexts old → HasReadTexts new
going_reads old new by is own = rw is (record { username = own.username; next = own.next; challenge = own.challenge; known = own.known })

same_reads : (old new : Client) → new ≡ old → HasReadTexts old → HasReadTexts new
same_reads old new is own = rw is own

taken_reads : (old : Client) (bytes : List ℕ) (answer : LongTermClientValidation) (new : Client) → IsTaken old bytes answer new → HasReadTexts old → HasReadTexts new
taken_reads old bytes (ResendRequest choice) new taken own = stored_reads old new taken.reported choice taken.stored (challenge_reads bytes taken.reported taken.visible) own
taken_reads old bytes (Validated algorithm) new taken own = going_reads old new (Some algorithm) taken.stored own

turned_reads : (old : Client) (bytes : List ℕ) (error : LongTermClientAuthError) (new : Client) → IsRejected old bytes error new → HasReadTexts old → HasReadTexts new
turned_reads old bytes Unauthorized new down own = going_reads old new None down.stored own
turned_reads old bytes (IntegrityFailed algorithm) new down own = going_reads old new (Some down.standing.challenge.choice) down.stored own
turned_reads old bytes UnsupportedFeature new down own = same_reads old new down.unchanged own
turned_reads old bytes NoMemory new down own = same_reads old new down.unchanged own

pub stay_readable : (old new : Client) (bytes : List ℕ) (result : Result LongTermClientValidation LongTermClientAuthError)
    → MatchResult result (λ answer. IsTaken old bytes answer new) (λ error. IsRejected old bytes error new) → HasReadTexts old → HasReadTexts new
stay_readable old new bytes (Ok answer) outcome own = taken_reads old bytes answer new outcome own
stay_readable old new bytes (Err error) outcome own = turned_reads old bytes error new outcome own

pub fresh_readable : (client : Client) → client.challenge ≡ None → client.next_account ≡ None → IfSome client.account (λ account. utf8_refusal account.username ≡ None) → HasReadTexts client
fresh_readable client none no_next reads = record { username = reads; next = rw no_next tt; challenge = rw none tt; known = λ soft. rw none tt }
