-- Sequences of calls that a writer accepted.
use Rattle.std.proofs.Common.{◌≡◌, ℕ, ◌+◌, eqb, false, List, [], ◌∷◌, ◌++◌, drop, length, map, None, refl, sym, ap, subst, ◌∙◌, inl, inr}
use Rattle.std.proofs.lemmas.Bool.{cases_Bool}
use Rattle.std.proofs.lemmas.List.{drop-drop}
use Rattle.stun_types_integrity.specs.Wire.Attributes.{Attr, attr_size}
use Rattle.stun_types_integrity.specs.Wire.Shape.{rank}
use Rattle.stun_types_integrity.specs.Wire.Registry.{fingerprint_kind, integrity_kind, sha256_kind, sha512_kind}
use Rattle.stun_types_integrity.specs.Wire.Text.{message_text}
use Rattle.stun_types_integrity.specs.Write.declared.ended.Ended.{Ended}
use Rattle.stun_types_integrity.specs.Write.Adding.{add_refusal}
use Rattle.stun_types_integrity.specs.Write.Drafts.{Draft, ended_by, none_ended}
use Rattle.stun_types_integrity.specs.Write.Outcomes.{IsAdded, IsStartedAs, added}
use Rattle.stun_types_add.specs.Calls.{Add, AreAccepted, IsComposed, IsWritten, Ordinary, after_call, after_calls, attribute_of, attributes_after, refusal_of}
use Rattle.stun_types_add.proofs.Adds.{length-after_add, one_more}

pub after_both : (calls more : List Add) (draft : Draft) → after_calls (calls ++ more) draft ≡ after_calls more (after_calls calls draft)
unfolding after_calls
after_both [] more draft = refl
after_both (call ∷ calls) more draft = after_both calls more (after_call call draft)

pub both_accepted : (calls more : List Add) (draft : Draft) → AreAccepted calls draft → AreAccepted more (after_calls calls draft) → AreAccepted (calls ++ more) draft
unfolding AreAccepted after_calls
both_accepted [] more draft h k = k
both_accepted (call ∷ calls) more draft h k = (h.0, both_accepted calls more (after_call call draft) h.1 k)

-- If a written draft accepts more calls, the result is written by all the calls.
pub written_more : (mtype number : ℕ) (calls more : List Add) (old new : Draft) → IsWritten mtype number calls old → AreAccepted more old → new ≡ after_calls more old → IsWritten mtype number (calls ++ more) new
written_more mtype number calls more old new w accepted is = record {
  empty = w.empty;
  header = w.header;
  started = w.started;
  accepted = both_accepted calls more w.header w.accepted (subst (λ (d : Draft). AreAccepted more d) w.is accepted);
  is = is ∙ ap (λ (d : Draft). after_calls more d) w.is ∙ sym (after_both calls more w.header);
}

-- If a written draft accepts one more call, the result is written by the calls with that one appended.
pub written_one : (mtype number : ℕ) (calls : List Add) (call : Add) (old new : Draft) → IsWritten mtype number calls old → refusal_of call old ≡ None → new ≡ added (attribute_of call old.bytes) old → IsWritten mtype number (calls ++ call ∷ []) new
unfolding AreAccepted after_calls
written_one mtype number calls call old new w accepted is = written_more mtype number calls (call ∷ []) old new w (accepted, tt) is

-- If a draft is the encoding of attributes, it is so after more calls.
pub text_after : (mtype number : ℕ) (calls : List Add) (before : List Attr) (draft : Draft) → draft.bytes ≡ message_text mtype number before
    → (after_calls calls draft).bytes ≡ message_text mtype number (attributes_after mtype number calls before)
unfolding after_calls attributes_after
text_after mtype number [] before draft text = text
text_after mtype number (call ∷ rest) before draft text =
    let a = attribute_of call (message_text mtype number before) in
    text_after mtype number rest (before ++ a ∷ []) (after_call call draft)
    (rw text (one_more mtype number before a))

-- ---- ordinary attributes

-- An ordinary type is neither that of an integrity attribute nor FINGERPRINT.
pub record IsNone (kind : ℕ) : Type 0 where
  pub integrity : eqb kind integrity_kind ≡ false
  pub sha256 : eqb kind sha256_kind ≡ false
  pub sha512 : eqb kind sha512_kind ≡ false
  pub fingerprint : eqb kind fingerprint_kind ≡ false

pub none_of : (kind : ℕ) → rank kind ≡ 0 → IsNone kind
none_of kind h =
    elim (cases_Bool (eqb kind integrity_kind)) [
      | inl i ↦ absurd (let p = rw i at h in cc)
      | inr i ↦ elim (cases_Bool (eqb kind sha256_kind)) [
        | inl s ↦ absurd (let p = rw (i, s) at h in cc)
        | inr s ↦ elim (cases_Bool (eqb kind sha512_kind)) [
          | inl l ↦ absurd (let p = rw (i, s, l) at h in cc)
          | inr l ↦ elim (cases_Bool (eqb kind fingerprint_kind)) [
            | inl f ↦ absurd (let p = rw (i, s, l, f) at h in cc)
            | inr f ↦ record { integrity = i; sha256 = s; sha512 = l; fingerprint = f }
          ]
        ]
      ]
    ]

none_still : (kind : ℕ) → IsNone kind → ended_by none_ended kind ≡ none_ended
none_still kind h = rw (h.integrity, h.sha256, h.sha512, h.fingerprint) refl

map-more : (all : List Attr) (a : Attr) → map Ordinary (all ++ a ∷ []) ≡ map Ordinary all ++ Ordinary a ∷ []
map-more [] a = refl
map-more (b ∷ all) a = ap (λ (l : List Add). Ordinary b ∷ l) (map-more all a)

-- A message that was just started is composed of no attributes.
pub composed_none : (mtype number : ℕ) (old new : Draft) → IsStartedAs mtype number old new → IsComposed mtype number [] old new
unfolding AreAccepted after_calls
composed_none mtype number old new started = record {
  written = record { empty = old; header = new; started = started; accepted = tt; is = refl };
  text = started.text;
  ended = started.ended;
  following = started.following ∙ ap (λ (n : ℕ). drop n old.following) (sym started.size);
  limit = started.limit;
  started = started.started;
}

-- If a message is composed of attributes and an ordinary one is added, the result is composed of all of them.
pub composed_more : (mtype number : ℕ) (all : List Attr) (a : Attr) (old middle new : Draft) → IsComposed mtype number all old middle → IsAdded a middle new → rank a.kind ≡ 0 → add_refusal middle (attr_size a) ≡ None
    → IsComposed mtype number (all ++ a ∷ []) old new
composed_more mtype number all a old middle new c more ordinary accepted =
    let grown : length new.bytes ≡ length middle.bytes + attr_size a = ap (λ (d : Draft). length d.bytes) more.is ∙ length-after_add middle.bytes a c.started in
    record {
      written = subst (λ (l : List Add). IsWritten mtype number l new) (sym (map-more all a)) (written_one mtype number (map Ordinary all) (Ordinary a) middle new c.written accepted more.is);
      text = more.text mtype number all c.text;
      ended = ap (λ (d : Draft). d.ended) more.is ∙ ap (λ (e : Ended). ended_by e a.kind) c.ended ∙ none_still a.kind (none_of a.kind ordinary);
      following = ap (λ (d : Draft). d.following) more.is ∙ ap (λ (l : List ℕ). drop (attr_size a) l) c.following ∙ drop-drop (attr_size a) (length middle.bytes) old.following ∙ ap (λ (n : ℕ). drop n old.following) (sym grown);
      limit = ap (λ (d : Draft). d.limit) more.is ∙ c.limit;
      started = more.started;
    }
