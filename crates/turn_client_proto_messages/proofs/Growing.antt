-- A message to which attributes are added one after another.
use Rattle.std.proofs.Common.{◌≡◌, ℕ, ◌+◌, ◌≤◌, List, [], ◌∷◌, ◌++◌, length, None, refl, sym, ap, ◌∙◌, subst, append_assoc, arith}
use Rattle.std.specs.Prelude.{OnOk, Result, Ok, Err}
use Rattle.std.specs.List.{AllByRecursion}
use Rattle.std.proofs.lemmas.Bool.{le-ltb}
use Rattle.std.proofs.lemmas.List.{append-nil}
use Rattle.stun_types_write.specs.Adding.{add_refusal, attr_of}
use Rattle.stun_types_wire.specs.Attributes.{Attr, attr_size}
use Rattle.stun_types_add.specs.Calls.{IsComposed, IsOrdinary}
use Rattle.stun_types_write.specs.Drafts.{Draft, empty, ended_by}
use Rattle.stun_types_write.specs.declared.ended.Ended.{Ended}
use Rattle.stun_types_write.specs.Outcomes.{IsAdded, IsStartedAs, added}
use Rattle.stun_types_wire.specs.Registry.{greatest_size}
use Rattle.stun_types_wire.specs.Shape.{rank}
use Rattle.stun_types_add.proofs.Adds.{add_started, length-after_add}
use Rattle.stun_types_add.proofs.Taken.{composed_more, composed_none, none_of}
use Rattle.turn_client_proto_messages.specs.Composing.{IsGrown, IsOpen, IsSmall, IsUnsigned}

-- A message that no attribute ends has room.
pub open_room : (draft : Draft) (size : ℕ) → IsOpen draft → length draft.bytes + size ≤ greatest_size → add_refusal draft size ≡ None
unfolding add_refusal
open_room draft size o fits = rw (o.ended, o.limit, le-ltb greatest_size (length draft.bytes + size) fits) refl

-- It has room for a short attribute.
pub small_room : (draft : Draft) (a : Attr) → IsOpen draft → length draft.bytes ≤ 4096 → IsSmall a → add_refusal draft (attr_size a) ≡ None
small_room draft a o short small = open_room draft (attr_size a) o (let s = small.short in omega (arith, s))

-- A type that ends no message changes nothing about what ended it.
plain_ends_none : (kind : ℕ) (ended : Ended) → rank kind ≡ 0 → ended_by ended kind ≡ ended
plain_ends_none kind ended plain =
    let none = none_of kind plain in
    rw (none.integrity, none.sha256, none.sha512, none.fingerprint) refl

-- The message is still open after an ordinary attribute was added.
pub open_added : (a : Attr) (draft : Draft) → IsOpen draft → rank a.kind ≡ 0 → length draft.bytes + attr_size a ≤ greatest_size → IsOpen (added a draft)
open_added a draft o plain fits = record {
  started = add_started draft.bytes a o.started fits;
  ended = plain_ends_none a.kind draft.ended plain ∙ o.ended;
  limit = o.limit;
}

lawful_more : (all : List Attr) (a : Attr) → AllByRecursion IsOrdinary all → IsOrdinary a → AllByRecursion IsOrdinary (all ++ a ∷ [])
lawful_more [] a lawful own = (own, tt)
lawful_more (b ∷ all) a lawful own = (lawful.0, lawful_more all a lawful.1 own)

-- One attribute was added.
pub grown_one : (a : Attr) (old new : Draft) → IsOpen old → length old.bytes ≤ 4096 → IsSmall a → IsAdded a old new → IsGrown (a ∷ []) old new
grown_one a old new o short small is =
    let few = small.short in
    let size = length-after_add old.bytes a o.started in
    let whole : length new.bytes ≡ length old.bytes + attr_size a = ap (λ (d : Draft). length d.bytes) is.is ∙ size in
    record {
      is_open = subst IsOpen (sym is.is) (open_added a old o small.ordinary.ordinary (omega (arith, few, short)));
      grown = omega (arith, whole, few);
      following = λ mtype number attributes before. record {
        composed = composed_more mtype number attributes a (empty [] None) old new before.composed is small.ordinary.ordinary (small_room old a o short small);
        lawful = lawful_more attributes a before.lawful small.ordinary;
      };
    }

-- Nothing was added.
pub grown_none : (draft : Draft) → IsOpen draft → IsGrown [] draft draft
grown_none draft o = record {
  is_open = o;
  grown = omega arith;
  following = λ mtype number attributes before. subst (λ (all : List Attr). IsUnsigned mtype number all draft) (sym (append-nil attributes)) before;
}

-- Others were added after one.
pub grown_more : (a : Attr) (rest : List Attr) (old middle new : Draft) → IsGrown (a ∷ []) old middle → IsGrown rest middle new → IsGrown (a ∷ rest) old new
grown_more a rest old middle new one more =
    let first = one.grown in
    let second = more.grown in
    record {
      is_open = more.is_open;
      grown = omega (arith, first, second);
      following = λ mtype number attributes before.
          subst (λ (all : List Attr). IsUnsigned mtype number all new) (append_assoc attributes (a ∷ []) rest)
          (more.following mtype number (attributes ++ a ∷ []) (one.following mtype number attributes before));
    }

-- A call added others after one.
pub grown_by : {X E : Type 0} (result : Result X E) (a : Attr) (rest all : List Attr) (old middle new : Draft) → all ≡ a ∷ rest → IsGrown (a ∷ []) old middle
    → OnOk result (IsGrown rest middle new) → OnOk result (IsGrown all old new)
grown_by (Ok x) a rest all old middle new whole one more = rw whole (grown_more a rest old middle new one more)
grown_by (Err e) a rest all old middle new whole one more = tt

-- Attributes with equal values may be exchanged.
pub grown_as : (kind : ℕ) (value other : List ℕ) (old new : Draft) → value ≡ other → IsGrown (attr_of kind value ∷ []) old new → IsGrown (attr_of kind other ∷ []) old new
grown_as kind value other old new same is = subst (λ (v : List ℕ). IsGrown (attr_of kind v ∷ []) old new) same is

-- A message that was started in a new writer.
pub started_unsigned : (kind mtype number : ℕ) (old new : Draft) → old ≡ empty [] None → kind ≡ mtype → IsStartedAs kind number old new → IsUnsigned mtype number [] new
started_unsigned kind mtype number old new fresh same started = record {
  composed = subst (λ (d : Draft). IsComposed mtype number [] d new) fresh (composed_none mtype number old new (subst (λ (k : ℕ). IsStartedAs k number old new) same started));
  lawful = tt;
}
