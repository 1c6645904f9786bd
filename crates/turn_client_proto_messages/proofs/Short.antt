-- The texts of a client stay short: texts of a challenge that are too long are not used.
use Rattle.std.specs.Prelude.{IfSome, MatchResult, Result, Ok, Err}
use Rattle.std.proofs.Common.{◌≡◌, ℕ, ◌≤◌, Bool, true, false, ltb, eqb, if◌then◌else◌, List, length, Option, Some, None, refl, subst, inl, inr}
use Rattle.std.proofs.lemmas.Bool.{cases_Bool, ltb-false}
use Rattle.std.specs.Option.{option_or}
use Rattle.std.specs.declared.ops.Bound.TheVariants.{Included}
use Rattle.stun_types_wire.specs.Attributes.{Attr}
use Rattle.stun_types_attributes.specs.AuthAttributes.Entries.{algorithms_read_refusal}
use Rattle.stun_types_wire.specs.Grammar.{visible}
use Rattle.stun_types_wire.specs.declared.algorithm.IntegrityAlgorithm.{IntegrityAlgorithm}
use Rattle.stun_types_wire.specs.declared.error.StunParseError.{StunParseError}
use Rattle.stun_types_wire.specs.RawBytes.{above_refusal, below_refusal, type_and_len_refusal}
use Rattle.stun_types_wire.specs.Registry.{nonce_kind, password_algorithms_kind, realm_kind}
use Rattle.stun_types_write.specs.ValueReading.{text_read_refusal, value_refusal}
use Rattle.stun_proto_auth.specs.Claims.{algorithms_decoded, claimed, last_of_kind, list_decoded, text_decoded, unless_refused}
use Rattle.stun_proto_auth.specs.Lists.{list_read_refusal}
use Rattle.stun_proto_client.specs.Challenges.{ChallengeFields, asks_again, challenge_visible, decoded_by, list_for_choice, reported_of}
use Rattle.stun_types_integrity.specs.Credentials.{NameAndPassword}
use Rattle.stun_proto_client.specs.Client.{Client, plain_style}
use Rattle.stun_proto_client.specs.ClientValidation.{IsTaken, IsRejected, keeping}
use Rattle.stun_proto_client.specs.declared.error.LongTermClientAuthError.{LongTermClientAuthError}
use Rattle.stun_proto_client.specs.declared.error.LongTermClientAuthError.TheVariants.{Unauthorized, IntegrityFailed, UnsupportedFeature, NoMemory}
use Rattle.stun_proto_client.specs.declared.validation.LongTermClientValidation.{LongTermClientValidation}
use Rattle.stun_proto_client.specs.declared.validation.LongTermClientValidation.TheVariants.{ResendRequest, Validated}
use Rattle.turn_client_proto_messages.specs.ShortTexts.{HasShortTexts}

-- ---- values that are read

or_first : (a b : Option StunParseError) → option_or a b ≡ None → a ≡ None
or_first None b h = refl
or_first (Some e) b h = absurd (Prim.cc h)

pub or_second : (a b : Option StunParseError) → option_or a b ≡ None → b ≡ None
or_second None b h = h
or_second (Some e) b h = absurd (Prim.cc h)

-- A value that is accepted is within its limit.
above_within : (most len : ℕ) → above_refusal (Included most) len ≡ None → len ≤ most
above_within most len h =
    elim (cases_Bool (ltb most len)) [
      | inl long ↦ absurd (let p = rw long at h in cc)
      | inr short ↦ ltb-false most len short
    ]

value_within : (kind least most : ℕ) (a : Attr) → value_refusal kind least most a ≡ None → length a.value ≤ most
unfolding type_and_len_refusal
value_within kind least most a h =
    elim (cases_Bool (eqb a.kind kind)) [
      | inl same ↦
          let both : option_or (below_refusal (Included least) (length a.value)) (above_refusal (Included most) (length a.value)) ≡ None = rw same at h in
          above_within most (length a.value) (or_second _ _ both)
      | inr other ↦ absurd (let p = rw other at h in cc)
    ]

text_within : (kind most : ℕ) (a : Attr) → text_read_refusal kind most a ≡ None → length a.value ≤ most
unfolding text_read_refusal
text_within kind most a h = value_within kind 0 most a (or_first _ _ h)

list_within : (a : Attr) → algorithms_read_refusal a ≡ None → length a.value ≤ 32
unfolding algorithms_read_refusal
list_within a h = value_within password_algorithms_kind 4 32 a (or_first _ _ h)

listed_within : (a : Attr) → list_read_refusal a ≡ None → length a.value ≤ 32
unfolding list_read_refusal
listed_within a h = value_within password_algorithms_kind 4 32 a (or_first _ _ h)

unless_short : (refused : Option StunParseError) (value : List ℕ) (most : ℕ) → (refused ≡ None → length value ≤ most) → IfSome (unless_refused refused value) (λ text. length text ≤ most)
unless_short None value most h = h refl
unless_short (Some e) value most h = tt

text_reported_short : (kind most : ℕ) (a : Option Attr) → IfSome (text_decoded kind most a) (λ text. length text ≤ most)
unfolding text_decoded
text_reported_short kind most None = tt
text_reported_short kind most (Some a) = unless_short (text_read_refusal kind most a) a.value most (text_within kind most a)

list_reported_short : (a : Option Attr) → IfSome (algorithms_decoded a) (λ list. length list ≤ 32)
unfolding algorithms_decoded
list_reported_short None = tt
list_reported_short (Some a) = unless_short (algorithms_read_refusal a) a.value 32 (list_within a)

listed_reported_short : (a : Option Attr) → IfSome (list_decoded a) (λ list. length list ≤ 32)
unfolding list_decoded
listed_reported_short None = tt
listed_reported_short (Some a) = unless_short (list_read_refusal a) a.value 32 (listed_within a)

-- ---- a challenge

-- The texts decoded from a challenge are short.
record IsShortReported (reported : ChallengeFields) : Type 0 where
  realm : length reported.realm ≤ 763
  nonce : length reported.nonce ≤ 763
  offered : IfSome reported.offered (λ list. length list ≤ 32)
  listed : IfSome reported.listed (λ list. length list ≤ 32)

chosen_short : (hardened : Bool) (reported : ChallengeFields) → IsShortReported reported → IfSome (list_for_choice hardened reported) (λ list. length list ≤ 32)
chosen_short false reported short = short.offered
chosen_short true reported short = short.listed

list_short : (nonce : List ℕ) (list : Option (List ℕ)) (counts : Bool) → IfSome list (λ l. length l ≤ 32) → IfSome (if counts then list else None) (λ l. length l ≤ 32)
list_short nonce list true short = short
list_short nonce list false short = tt

pub same_decoded : {a b : ChallengeFields} → Some a ≡ Some b → a ≡ b
same_decoded p = Prim.cc p

decoded_short : (realm nonce list listed : Option (List ℕ)) (reported : ChallengeFields) → IfSome realm (λ l. length l ≤ 763) → IfSome nonce (λ l. length l ≤ 763) → IfSome list (λ l. length l ≤ 32) → IfSome listed (λ l. length l ≤ 32)
    → decoded_by realm nonce list listed ≡ Some reported → IsShortReported reported
decoded_short None _ list listed reported r n l m is = absurd (Prim.cc is)
decoded_short (Some realm) None list listed reported r n l m is = absurd (Prim.cc is)
decoded_short (Some realm) (Some nonce) list listed reported r n l m is =
    subst IsShortReported (same_decoded is) (record { realm = r; nonce = n; offered = list_short nonce list _ l; listed = list_short nonce listed _ m })

challenge_short : (bytes : List ℕ) (reported : ChallengeFields) → challenge_visible bytes ≡ Some reported → IsShortReported reported
challenge_short bytes reported is = by (asks_again bytes) is
  where
    by : (asks : Bool) → (if asks then reported_of (claimed bytes) else None) ≡ Some reported → IsShortReported reported
    by true h = decoded_short (claimed bytes).realm (claimed bytes).nonce (claimed bytes).algorithms (claimed bytes).listed reported (text_reported_short realm_kind 763 (last_of_kind realm_kind (visible bytes))) (text_reported_short nonce_kind 763 (last_of_kind nonce_kind (visible bytes)))
        (list_reported_short (last_of_kind password_algorithms_kind (visible bytes))) (listed_reported_short (last_of_kind password_algorithms_kind (visible bytes))) h
    by false h = absurd (Prim.cc h)

-- ---- a validation

-- The name of the credentials that a challenge is answered with is short.
short_then : (account next : Option NameAndPassword) → IfSome account (λ a. length a.username ≤ 513) → IfSome next (λ a. length a.username ≤ 513) → IfSome (option_or next account) (λ a. length a.username ≤ 513)
short_then account None short later = short
short_then account (Some next) short later = later

stored_short : (old new : Client) (reported : ChallengeFields) (choice : IntegrityAlgorithm) → new ≡ keeping old reported choice → IsShortReported reported → HasShortTexts old → HasShortTexts new
stored_short old new reported choice is short own = rw is (record {
  username = short_then old.account old.next_account own.username own.next;
  next = tt;
  software = own.software;
  challenge = record { realm = short.realm; nonce = short.nonce; offered = chosen_short old.hardened reported short };
})

going_short : (old new : Client) (by : Option IntegrityAlgorithm) → new ≡ record old { integrity = by } → HasShortTexts old → HasShortTexts new
going_short old new by is own = rw is (record { username = own.username; next = own.next; software = own.software; challenge = own.challenge })

same_short : (old new : Client) → new ≡ old → HasShortTexts old → HasShortTexts new
same_short old new is own = rw is own

taken_short : (old : Client) (bytes : List ℕ) (answer : LongTermClientValidation) (new : Client) → IsTaken old bytes answer new → HasShortTexts old → HasShortTexts new
taken_short old bytes (ResendRequest choice) new taken own = stored_short old new taken.reported choice taken.stored (challenge_short bytes taken.reported taken.visible) own
taken_short old bytes (Validated algorithm) new taken own = going_short old new (Some algorithm) taken.stored own

turned_short : (old : Client) (bytes : List ℕ) (error : LongTermClientAuthError) (new : Client) → IsRejected old bytes error new → HasShortTexts old → HasShortTexts new
turned_short old bytes Unauthorized new down own = going_short old new None down.stored own
turned_short old bytes (IntegrityFailed algorithm) new down own = going_short old new (Some down.standing.challenge.choice) down.stored own
turned_short old bytes UnsupportedFeature new down own = same_short old new down.unchanged own
turned_short old bytes NoMemory new down own = same_short old new down.unchanged own

pub stay_short : (old new : Client) (bytes : List ℕ) (result : Result LongTermClientValidation LongTermClientAuthError)
    → MatchResult result (λ answer. IsTaken old bytes answer new) (λ error. IsRejected old bytes error new) → HasShortTexts old → HasShortTexts new
stay_short old new bytes (Ok answer) outcome own = taken_short old bytes answer new outcome own
stay_short old new bytes (Err error) outcome own = turned_short old bytes error new outcome own

pub fresh_short : (client : Client) → client.challenge ≡ None → client.next_account ≡ None → client.style ≡ plain_style → IfSome client.account (λ account. length account.username ≤ 513) → HasShortTexts client
fresh_short client none no_next plain short = record { username = short; next = rw no_next tt; software = rw plain tt; challenge = rw none tt }
