-- What a client signs validates under its key.
use Rattle.std.proofs.Common.{◌≡◌, ℕ, ◌<◌, ◌≤◌, ◌^◌, Bool, true, false, ltb, List, [], ◌∷◌, ◌++◌, length, Option, Some, None, refl, sym, ap, ◌∙◌, subst, append_assoc, arith, inl, inr}
use Rattle.std.specs.List.{AllByRecursion}
use Rattle.std.specs.Option.{option_or}
use Rattle.std.proofs.lemmas.Bool.{cases_Bool, ltb-false}
use Rattle.stun_proto_auth.specs.Wire.declared.algorithm.IntegrityAlgorithm.{IntegrityAlgorithm}
use Rattle.stun_proto_auth.specs.Wire.declared.class.MessageClass.{MessageClass}
use Rattle.stun_proto_auth.specs.Wire.declared.class.MessageClass.TheVariants.{Request, Indication, Success, Error}
use Rattle.stun_proto_auth.specs.Wire.declared.error.StunWriteError.{StunWriteError}
use Rattle.stun_proto_auth.specs.Integrity.Credentials.{Key}
use Rattle.stun_proto_auth.specs.Write.Drafts.{Draft}
use Rattle.stun_proto_auth.specs.Write.Outcomes.{added}
use Rattle.stun_proto_auth.specs.Wire.Shape.{rank}
use Rattle.stun_proto_auth.specs.AuthAttributes.Texts.{text_refusal}
use Rattle.stun_proto_auth.specs.Integrity.Signing.{text_to_sign}
use Rattle.stun_proto_auth.specs.Wire.Text.{message_text}
use Rattle.stun_proto_auth.specs.Add.Calls.{Add, Integrity, IsLawful, IsWritten, after_calls, attributes_of}
use Rattle.stun_proto_auth.specs.Wire.MessageReading.{IsReadAs}
use Rattle.stun_proto_auth.proofs.Message.Composed.{calls_read, calls_validate}
use Rattle.stun_proto_auth.specs.declared.feature.Feature.{Feature}
use Rattle.stun_proto_auth.specs.Addition.{Addition, PartOf, addition_refusal, attr_of_part, calls_of, calls_of_parts, calls_of_signer, one_refusal, parts_refusal, signer_refusal}
use Rattle.stun_proto_auth.specs.AdditionStages.{IsMade}
use Rattle.stun_proto_auth.proofs.Making.{made_written}
use Rattle.stun_proto_client.specs.Client.{Client, Standing, standing_of}
use Rattle.stun_proto_client.specs.ClientSigning.{addition_by, addition_for, choice_parts, name_part, request_parts}
use Rattle.stun_proto_client.specs.Digests.{IsRight}

-- ---- the parts are ordinary attributes

record IsPlain (p : PartOf) : Type 0 where
  kind : p.kind < 2 ^ 16
  short : p.most < 2 ^ 16
  ordinary : rank p.kind ≡ 0

name_plain : (hidden : Bool) (name hash : List ℕ) → IsPlain (name_part hidden name hash)
name_plain true name hash = record { kind = omega arith; short = omega arith; ordinary = refl }
name_plain false name hash = record { kind = omega arith; short = omega arith; ordinary = refl }

choice_plain : (offered : Option (List ℕ)) (choice : IntegrityAlgorithm) → AllByRecursion IsPlain (choice_parts offered choice)
choice_plain None choice = tt
choice_plain (Some offered) choice =
    (record { kind = omega arith; short = omega arith; ordinary = refl }, (record { kind = omega arith; short = omega arith; ordinary = refl }, tt))

request_plain : (hidden : Bool) (s : Standing) → AllByRecursion IsPlain (request_parts hidden s)
request_plain hidden s = (
  name_plain hidden s.account.username _,
  (
    record { kind = omega arith; short = omega arith; ordinary = refl },
    (record { kind = omega arith; short = omega arith; ordinary = refl }, choice_plain s.challenge.offered s.challenge.choice),
  ),
)

plain_by : (anonymous : Feature) (standing : Option Standing) (class : MessageClass) → AllByRecursion IsPlain (addition_by anonymous standing class).parts
plain_by anonymous None class = tt
plain_by anonymous (Some s) Request = request_plain _ s
plain_by anonymous (Some s) Indication = tt
plain_by anonymous (Some s) Success = tt
plain_by anonymous (Some s) Error = tt

-- ---- and so they are valid calls

or_none : (a b : Option StunWriteError) → option_or a b ≡ None → (a ≡ None) × (b ≡ None)
or_none None b h = (refl, h)
or_none (Some e) b h = absurd (Prim.cc h)

within : (most : ℕ) (value : List ℕ) → text_refusal most value ≡ None → length value ≤ most
within most value h =
    elim (cases_Bool (ltb most (length value))) [
      | inl long ↦ absurd (let p = rw long at h in cc)
      | inr short ↦ ltb-false most (length value) short
    ]

parts_lawful : (parts : List PartOf) (draft : Draft) → AllByRecursion IsPlain parts → parts_refusal draft parts ≡ None → AllByRecursion IsLawful (calls_of_parts parts)
unfolding parts_refusal
parts_lawful [] draft plain h = tt
parts_lawful (p ∷ rest) draft plain h =
    let both = or_none (one_refusal draft p) (parts_refusal (added (attr_of_part p) draft) rest) h in
    let own = within p.most p.value (or_none (text_refusal p.most p.value) _ both.0).0 in
    let most = plain.0.short in
    (record { fits = record { kind = plain.0.kind; value = omega (arith, own, most) }; ordinary = plain.0.ordinary }, parts_lawful rest (added (attr_of_part p) draft) plain.1 both.1)

lawful_both : (xs ys : List Add) → AllByRecursion IsLawful xs → AllByRecursion IsLawful ys → AllByRecursion IsLawful (xs ++ ys)
lawful_both [] ys h k = k
lawful_both (x ∷ xs) ys h k = (h.0, lawful_both xs ys h.1 k)

-- ---- what is signed

signed_right : (calls : List Add) (a : Addition) (key : Key) (mtype number : ℕ) (old new : Draft) → mtype < 2 ^ 14 → number < 2 ^ 96 → AllByRecursion IsLawful calls → IsWritten mtype number calls old
    → AllByRecursion IsPlain a.parts → a.signer ≡ Some key → addition_refusal a old ≡ None → IsMade a old new → IsRight new.bytes key
signed_right calls a key mtype number old new k n lawful written plain signer accepted made =
    let parts = calls_of_parts a.parts in
    let sign = Integrity key.algorithm key.bytes ∷ [] in
    let all-written = made_written mtype number calls a old new written made in
    let split : calls ++ calls_of a ≡ (calls ++ parts) ++ sign = ap (λ (o : Option Key). calls ++ (parts ++ calls_of_signer o)) signer ∙ sym (append_assoc calls parts sign) in
    let parts-accepted = (or_none (parts_refusal old a.parts) (signer_refusal (after_calls parts old) a.signer) accepted).0 in
    let earlier = lawful_both calls parts lawful (parts_lawful a.parts old plain parts-accepted) in
    record {
      text = text_to_sign key.algorithm (message_text mtype number (attributes_of mtype number (calls ++ parts)));
      validates = calls_validate mtype number (calls ++ parts) [] key.algorithm key.bytes new k n (lawful_both (calls ++ parts) sign earlier (tt, tt)) (subst (λ (l : List Add). IsWritten mtype number l new) split all-written) tt;
    }

pub signs_right : (client : Client) (class : MessageClass) (key : Key) (mtype number : ℕ) (calls : List Add) (old new : Draft) → mtype < 2 ^ 14 → number < 2 ^ 96 → AllByRecursion IsLawful calls → IsWritten mtype number calls old
    → (addition_for client class).signer ≡ Some key → addition_refusal (addition_for client class) old ≡ None → IsMade (addition_for client class) old new → IsRight new.bytes key
signs_right client class key mtype number calls old new k n lawful written signer accepted made =
    signed_right calls (addition_for client class) key mtype number old new k n lawful written (plain_by client.anonymous_username (standing_of client) class) signer accepted made

-- ---- what is read

signer_lawful : (signer : Option Key) → AllByRecursion IsLawful (calls_of_signer signer)
signer_lawful None = tt
signer_lawful (Some key) = (tt, tt)

pub signs_read : (client : Client) (class : MessageClass) (mtype number : ℕ) (calls : List Add) (old new : Draft) → mtype < 2 ^ 14 → number < 2 ^ 96 → AllByRecursion IsLawful calls → IsWritten mtype number calls old
    → addition_refusal (addition_for client class) old ≡ None → IsMade (addition_for client class) old new → IsReadAs mtype number (attributes_of mtype number (calls ++ calls_of (addition_for client class))) new.bytes
signs_read client class mtype number calls old new k n lawful written accepted made =
    let a = addition_for client class in
    let plain = plain_by client.anonymous_username (standing_of client) class in
    let parts-accepted = (or_none (parts_refusal old a.parts) (signer_refusal (after_calls (calls_of_parts a.parts) old) a.signer) accepted).0 in
    let own = lawful_both (calls_of_parts a.parts) (calls_of_signer a.signer) (parts_lawful a.parts old plain parts-accepted) (signer_lawful a.signer) in
    calls_read mtype number (calls ++ calls_of a) new k n (lawful_both calls (calls_of a) lawful own) (made_written mtype number calls a old new written made)
