-- A response to a CONNECTION_ATTEMPT: signing it fails only if memory runs out, and what is written are its
-- bytes.
use Rattle.std.proofs.Common.{◌≡◌, ◌≢◌, ℕ, ◌≤◌, ◌<◌, ◌^◌, List, ◌++◌, length, map, Option, Some, None, refl, sym, ap, ◌∙◌, subst, arith, inl, inr}
use Rattle.std.specs.List.{AllByRecursion}
use Rattle.stun_types_wire.specs.Attributes.{Attr, kind_at}
use Rattle.stun_types_add.specs.Calls.{Ordinary}
use Rattle.stun_types_integrity.specs.Credentials.{NameAndPassword}
use Rattle.stun_types_write.specs.Drafts.{Draft}
use Rattle.stun_types_attributes.specs.ErrorCodes.{CodeAndOther, error_refusal, reason_of}
use Rattle.stun_types_wire.specs.Grammar.{number_at}
use Rattle.stun_types_wire.specs.declared.class.MessageClass.{MessageClass}
use Rattle.stun_types_message.specs.Objections.{error_attribute}
use Rattle.stun_types_base.specs.Refusals.{IsCause}
use Rattle.stun_types_wire.specs.Text.{header_text, message_text}
use Rattle.stun_types_wire.specs.Types.{class_of}
use Rattle.stun_types_wire.specs.declared.error.StunWriteError.TheVariants.{NoMemory}
use Rattle.stun_types_wire.specs.declared.error.StunWriteError.{StunWriteError}
use Rattle.stun_types_add.proofs.Taken.{written_more}
use Rattle.stun_types_message.proofs.Composed.{written_text}
use Rattle.stun_proto_auth.specs.Addition.{addition_refusal, calls_of}
use Rattle.stun_proto_auth.specs.AdditionStages.{IsMade}
use Rattle.stun_proto_client.specs.Client.{Challenge, Client, standing_by}
use Rattle.stun_proto_client.specs.ClientSigning.{addition_by, addition_for}
use Rattle.stun_proto_auth.specs.declared.feature.Feature.{Feature}
use Rattle.turn_client_proto_messages.specs.Answers.{IsAnswer, answer_attributes, answer_class, answer_text, answer_type, is_answer_code}
use Rattle.turn_client_proto_messages.specs.Composing.{IsSmall}
use Rattle.turn_client_proto_messages.specs.declared.answer.AttemptAnswer.{AttemptAnswer}
use Rattle.turn_client_proto_messages.specs.declared.answer.AttemptAnswer.TheVariants.{Accepted, AlreadyExists, BadRequest, Failed}
use Rattle.turn_client_proto_messages.proofs.Reading.{whole_read}
use Rattle.turn_client_proto_messages.proofs.Signing.{IsShortAddition, nothing_short, short_accepted}
use Rattle.turn_client_proto_messages.proofs.Writing.{unsigned_open}

-- ---- ERROR-CODE

-- The code of a response is accepted with its default reason.
pub code_accepted : (reported : CodeAndOther) (code : ℕ) → reported.code ≡ code → reported.reason ≡ None → is_answer_code code → error_refusal reported.code (reason_of reported) ≡ None
unfolding error_refusal
code_accepted reported code is default (inl own) = rw (is, default, own) refl
code_accepted reported code is default (inr (inl own)) = rw (is, default, own) refl
code_accepted reported code is default (inr (inr own)) = rw (is, default, own) refl

-- Its ERROR-CODE is short.
pub code_small : (code : ℕ) → is_answer_code code → IsSmall (error_attribute code)
code_small code (inl own) = rw own (record {
  ordinary = record { fits = record { kind = omega arith; value = omega arith }; ordinary = refl };
  short = omega arith;
})
code_small code (inr (inl own)) = rw own (record {
  ordinary = record { fits = record { kind = omega arith; value = omega arith }; ordinary = refl };
  short = omega arith;
})
code_small code (inr (inr own)) = rw own (record {
  ordinary = record { fits = record { kind = omega arith; value = omega arith }; ordinary = refl };
  short = omega arith;
})

-- So building it fails only with `NoMemory`.
pub no_other : (reported : CodeAndOther) (code : ℕ) (error : StunWriteError) → reported.code ≡ code → reported.reason ≡ None → is_answer_code code → IsCause NoMemory (error_refusal reported.code (reason_of reported)) error → error ≢ NoMemory → ⊥
no_other reported code error is default own cause other = Prim.cc (sym (cause.named other) ∙ code_accepted reported code is default own)

answer_small : (answer : AttemptAnswer) → AllByRecursion IsSmall (answer_attributes answer)
answer_small Accepted = tt
answer_small BadRequest = (code_small 400 (inl refl), tt)
answer_small AlreadyExists = (code_small 446 (inr (inl refl)), tt)
answer_small Failed = (code_small 447 (inr (inr refl)), tt)

answer_few : (answer : AttemptAnswer) → length (answer_attributes answer) ≤ 5
answer_few Accepted = omega arith
answer_few BadRequest = omega arith
answer_few AlreadyExists = omega arith
answer_few Failed = omega arith

-- ---- the signature

-- To a response a client adds only its integrity attribute, if it remembers a challenge.
alone : (anonymous : Feature) (account : Option NameAndPassword) (challenge : Option Challenge) (answer : AttemptAnswer) → IsShortAddition (addition_by anonymous (standing_by account challenge) (answer_class answer))
alone anonymous None challenge answer = nothing_short
alone anonymous (Some account) None answer = nothing_short
alone anonymous (Some account) (Some challenge) Accepted = record { each = tt; few = omega arith }
alone anonymous (Some account) (Some challenge) BadRequest = record { each = tt; few = omega arith }
alone anonymous (Some account) (Some challenge) AlreadyExists = record { each = tt; few = omega arith }
alone anonymous (Some account) (Some challenge) Failed = record { each = tt; few = omega arith }

answer_short : (client : Client) (answer : AttemptAnswer) → IsShortAddition (addition_for client (answer_class answer))
answer_short client answer = alone client.anonymous_username client.account client.challenge answer

-- ---- the text

-- The bytes of a response have its class.
pub text_class : (answer : AttemptAnswer) (number : ℕ) (attributes : List Attr) → class_of (kind_at (message_text (answer_type answer) number attributes)) ≡ answer_class answer
unfolding message_text header_text
text_class Accepted number attributes = refl
text_class BadRequest number attributes = refl
text_class AlreadyExists number attributes = refl
text_class Failed number attributes = refl

draft_class : (answer : AttemptAnswer) (number : ℕ) (draft : Draft) → IsAnswer answer number draft → class_of (kind_at draft.bytes) ≡ answer_class answer
draft_class answer number draft is = ap (λ (b : List ℕ). class_of (kind_at b)) is.composed.text ∙ text_class answer number (answer_attributes answer)

-- Signing fails only if memory runs out.
pub answer_accepted : (client : Client) (answer : AttemptAnswer) (number : ℕ) (draft : Draft) → IsAnswer answer number draft → length draft.bytes ≤ 4096
    → addition_refusal (addition_for client (class_of (kind_at draft.bytes))) draft ≡ None
answer_accepted client answer number draft is fits =
    ap (λ (class : MessageClass). addition_refusal (addition_for client class) draft) (draft_class answer number draft is)
    ∙ short_accepted (addition_for client (answer_class answer)) draft (answer_short client answer) (unsigned_open (answer_type answer) number (answer_attributes answer) draft is) (omega (arith, fits))

-- The signed message has the bytes of the response.
pub signed_answer : (client : Client) (answer : AttemptAnswer) (number : ℕ) (old new : Draft) → IsAnswer answer number old
    → IsMade (addition_for client (class_of (kind_at old.bytes))) old new → new.bytes ≡ answer_text client answer number
unfolding answer_text
signed_answer client answer number old new is made =
    let calls = map Ordinary (answer_attributes answer) in
    let addition = addition_for client (answer_class answer) in
    let own : IsMade addition old new = subst (λ (class : MessageClass). IsMade (addition_for client class) old new) (draft_class answer number old is) made in
    written_text (answer_type answer) number (calls ++ calls_of addition) new
    (written_more (answer_type answer) number calls (calls_of addition) old new is.composed.written own.accepted own.is)

type_small : (answer : AttemptAnswer) → answer_type answer < 2 ^ 14
type_small Accepted = omega arith
type_small BadRequest = omega arith
type_small AlreadyExists = omega arith
type_small Failed = omega arith

-- A response has the transaction ID of its request.
pub answer_number : (client : Client) (answer : AttemptAnswer) (number : ℕ) → number < 2 ^ 96 → number_at (answer_text client answer number) ≡ number
unfolding answer_text
answer_number client answer number n =
    (whole_read (answer_type answer) number (answer_attributes answer) (addition_for client (answer_class answer)) (type_small answer) n (answer_small answer) (let few = answer_few answer in omega (arith, few)) (answer_short client answer)).number

-- A response has its class.
pub answer_is : (client : Client) (answer : AttemptAnswer) (number : ℕ) → class_of (kind_at (answer_text client answer number)) ≡ answer_class answer
unfolding answer_text
answer_is client answer number = text_class answer number _
