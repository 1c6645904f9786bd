-- Whether the parts, and the integrity attribute after them, fit, checked one after another.
use Rattle.std.proofs.Common.{◌≡◌, ℕ, suc, ◌+◌, ◌-◌, ◌<◌, ◌≤◌, List, [], ◌∷◌, length, drop, get_or, Option, Some, None, refl, sym, ap, ◌∙◌, subst, arith, add-one, drop-cons, drop_of_length-le, if◌then◌else◌}
use Rattle.std.specs.Prelude.{◌||◌}
use Rattle.std.specs.Option.{option_or}
use Rattle.std.proofs.lemmas.List.{length-append}
use Rattle.stun_types_message.specs.Wire.declared.algorithm.IntegrityAlgorithm.{IntegrityAlgorithm}
use Rattle.stun_types_message.specs.Wire.declared.algorithm.IntegrityAlgorithm.TheVariants.{Sha1, Sha256, Sha512}
use Rattle.stun_types_message.specs.Wire.declared.error.StunWriteError.{StunWriteError}
use Rattle.stun_types_message.specs.Wire.declared.error.StunWriteError.TheVariants.{FingerprintExists, MessageIntegrityExists}
use Rattle.stun_types_message.specs.Wire.Attributes.{Attr, attr_size}
use Rattle.stun_types_message.specs.Wire.Covered.{with_length}
use Rattle.stun_types_message.specs.Wire.Text.{attribute_text}
use Rattle.stun_types_message.specs.Write.declared.ended.Ended.{Ended}
use Rattle.stun_types_message.specs.Write.Adding.{add_refusal, after_add, growth_refusal, IsStarted, size_refusal}
use Rattle.stun_types_message.specs.Wire.Registry.{greatest_size}
use Rattle.stun_types_message.specs.Wire.Shape.{rank}
use Rattle.stun_types_message.specs.Write.Drafts.{Draft, ended_by}
use Rattle.stun_types_message.specs.Write.Outcomes.{added}
use Rattle.stun_types_message.specs.AuthAttributes.Texts.{text_refusal}
use Rattle.stun_types_message.specs.Integrity.Signing.{hmac_length, key_refusal, order_refusal, signing_refusal}
use Rattle.stun_types_message.specs.Add.Calls.{after_calls}
use Rattle.stun_types_message.proofs.Add.Adds.{length-attribute_text, long_enough}
use Rattle.stun_types_message.proofs.Add.Taken.{none_of}
use Rattle.stun_proto_auth.specs.Addition.{PartOf, attr_of_part, calls_of_parts, one_refusal, parts_refusal, size_of_part}
use Rattle.stun_proto_auth.specs.AdditionStages.{FitsAfter, IsGrown, IsNamed, PartsFit, refusal_after, signing_refusal_after}

-- ---- a draft that grows

unchanged : (draft : Draft) → IsStarted draft.bytes → IsGrown 0 draft draft
unchanged draft started = record { grown = omega arith; ended = refl; limit = refl; long = long_enough draft.bytes started }

length-with_length : (bytes : List ℕ) (n : ℕ) → 20 ≤ length bytes → length (with_length bytes n) ≡ length bytes
unfolding with_length
length-with_length (a ∷ b ∷ c ∷ d ∷ bytes) n h = refl
length-with_length [] n h = absurd (omega arith)
length-with_length (a ∷ []) n h = absurd (omega arith)
length-with_length (a ∷ b ∷ []) n h = absurd (omega arith)
length-with_length (a ∷ b ∷ c ∷ []) n h = absurd (omega arith)

-- Adding an attribute grows a message by the attribute's size.
length-after_add : (bytes : List ℕ) (a : Attr) → 20 ≤ length bytes → length (after_add bytes a) ≡ length bytes + attr_size a
unfolding after_add
length-after_add bytes a long =
    let n = length bytes - 20 + attr_size a in
    omega (arith, length-append (with_length bytes n) (attribute_text a), length-with_length bytes n long, length-attribute_text a)

-- An attribute of a type that ends no message does not change how the message has ended.
pub plain_ends_none : (kind : ℕ) (ended : Ended) → rank kind ≡ 0 → ended_by ended kind ≡ ended
plain_ends_none kind ended plain =
    let none = none_of kind plain in
    rw (none.integrity, none.sha256, none.sha512, none.fingerprint) refl

-- One more part grows the draft by the part's size.
one_grown : (before after : ℕ) (old new : Draft) (p : PartOf) → rank p.kind ≡ 0 → IsGrown before old new → after ≡ before + size_of_part p → IsGrown after old (added (attr_of_part p) new)
one_grown before after old new p plain g is =
    let all = length-after_add new.bytes (attr_of_part p) g.long in
    let before-is = g.grown in
    let long = g.long in
    record {
      grown = omega arith;
      ended = plain_ends_none p.kind new.ended plain ∙ g.ended;
      limit = g.limit;
      long = omega arith;
    }

-- ---- refusals after bytes more

-- Why an attribute is refused, given where the message would end.
abbrev refusal_at : Ended → Option ℕ → ℕ → Option StunWriteError
refusal_at ended limit end =
    if ended.fingerprint then Some FingerprintExists
    else if ended.integrity || (ended.sha256 || ended.sha512) then Some MessageIntegrityExists
    else size_refusal limit end

add_refusal_after : (before size : ℕ) (old new : Draft) → IsGrown before old new → add_refusal new size ≡ add_refusal old (before + size)
unfolding add_refusal
add_refusal_after before size old new g =
    let before-is = g.grown in
    let end : length new.bytes + size ≡ length old.bytes + (before + size) = omega arith in
    ap (λ (e : Ended). refusal_at e new.limit (length new.bytes + size)) g.ended
    ∙ ap (λ (l : Option ℕ). refusal_at old.ended l (length new.bytes + size)) g.limit
    ∙ ap (λ (n : ℕ). refusal_at old.ended old.limit n) end

same_refusal : (before : ℕ) (old new : Draft) (p : PartOf) → IsGrown before old new → one_refusal new p ≡ refusal_after old before p
same_refusal before old new p g = ap (λ (o : Option StunWriteError). option_or (text_refusal p.most p.value) o) (add_refusal_after before (size_of_part p) old new g)

-- If the first part is refused, the parts are refused with that error.
first_refused : (before : ℕ) (old new : Draft) (p : PartOf) (rest : List PartOf) (error : StunWriteError) → IsGrown before old new → refusal_after old before p ≡ Some error → parts_refusal new (p ∷ rest) ≡ Some error
unfolding parts_refusal
first_refused before old new p rest error g h = rw (same_refusal before old new p g ∙ h) refl

-- If the first part fits, the parts after it decide.
rest_decides : (before : ℕ) (old new : Draft) (p : PartOf) (rest : List PartOf) → IsGrown before old new → refusal_after old before p ≡ None → parts_refusal new (p ∷ rest) ≡ parts_refusal (added (attr_of_part p) new) rest
unfolding parts_refusal
rest_decides before old new p rest g h = rw (same_refusal before old new p g ∙ h) refl

-- ---- one part after another

-- Loop state: the parts before `left` fit and make the draft `new`, and the parts in `left` decide.
pub record IsReached (draft : Draft) (all left : List PartOf) (size : ℕ) : Type 0 where
  pub new : Draft
  pub grown : IsGrown size draft new
  pub short : size ≤ greatest_size
  pub decides : parts_refusal draft all ≡ parts_refusal new left
  pub ends : after_calls (calls_of_parts all) draft ≡ after_calls (calls_of_parts left) new

pub reached_first : (draft : Draft) (all : List PartOf) → IsStarted draft.bytes → IsReached draft all all 0
reached_first draft all started = record { new = draft; grown = unchanged draft started; short = omega arith; decides = refl; ends = refl }

-- The loop state after one more part.
reached_next : (draft : Draft) (all rest : List PartOf) (p : PartOf) (size after : ℕ) → IsReached draft all (p ∷ rest) size → FitsAfter draft size p after → IsReached draft all rest after
unfolding after_calls
reached_next draft all rest p size after r fits = record {
  new = added (attr_of_part p) r.new;
  grown = one_grown size after draft r.new p fits.plain r.grown fits.grown;
  short = fits.short;
  decides = r.decides ∙ rest_decides size draft r.new p rest r.grown fits.accepted;
  ends = r.ends;
}

refused_next : (draft : Draft) (all rest : List PartOf) (p : PartOf) (size : ℕ) (error : StunWriteError) → IsReached draft all (p ∷ rest) size → IsNamed (refusal_after draft size p) error → IsNamed (parts_refusal draft all) error
refused_next draft all rest p size error r refused = record {
  cause = r.decides ∙ first_refused size draft r.new p rest error r.grown refused.cause;
  named = refused.named;
}

-- The parts from an index on begin with the part at that index.
pub next_of : (all : List PartOf) (index : ℕ) (p d : PartOf) → index < length all → p ≡ get_or all index d → drop index all ≡ p ∷ drop (index + 1) all
next_of all index p d below is = rw (add-one) (drop-cons all index d below ∙ ap (λ (x : PartOf). x ∷ drop (suc index) all) (sym is))

pub reached_step : (draft : Draft) (all : List PartOf) (index : ℕ) (p d : PartOf) (size after : ℕ) → index < length all → p ≡ get_or all index d
    → IsReached draft all (drop index all) size → FitsAfter draft size p after → IsReached draft all (drop (index + 1) all) after
reached_step draft all index p d size after below is r fits =
    reached_next draft all (drop (index + 1) all) p size after
    (subst (λ (left : List PartOf). IsReached draft all left size) (next_of all index p d below is) r) fits

pub reached_refused : (draft : Draft) (all : List PartOf) (index : ℕ) (p d : PartOf) (size : ℕ) (error : StunWriteError) → index < length all → p ≡ get_or all index d
    → IsReached draft all (drop index all) size → IsNamed (refusal_after draft size p) error → IsNamed (parts_refusal draft all) error
reached_refused draft all index p d size error below is r refused =
    refused_next draft all (drop (index + 1) all) p size error
    (subst (λ (left : List PartOf). IsReached draft all left size) (next_of all index p d below is) r) refused

all_fit : (draft : Draft) (all : List PartOf) (size : ℕ) → IsReached draft all [] size → PartsFit draft all size
unfolding parts_refusal after_calls
all_fit draft all size r = record {
  accepted = r.decides;
  grown = subst (λ (d : Draft). IsGrown size draft d) (sym r.ends) r.grown;
  short = r.short;
}

pub reached_end : (draft : Draft) (all : List PartOf) (index size : ℕ) → length all ≤ index → IsReached draft all (drop index all) size → PartsFit draft all size
reached_end draft all index size end r =
    all_fit draft all size (subst (λ (left : List PartOf). IsReached draft all left size) (drop_of_length-le all end) r)

-- ---- the integrity attribute

same_key : (algorithm : IntegrityAlgorithm) → key_refusal algorithm algorithm ≡ None
same_key Sha1 = refl
same_key Sha256 = refl
same_key Sha512 = refl

pub signing_after : (before : ℕ) (old new : Draft) (algorithm : IntegrityAlgorithm) → IsGrown before old new → signing_refusal new algorithm algorithm ≡ signing_refusal_after old before algorithm
unfolding signing_refusal
signing_after before old new algorithm g =
    let before-is = g.grown in
    let size = 4 + hmac_length algorithm in
    let end : length new.bytes + size ≡ length old.bytes + (before + size) = omega arith in
    ap (λ (o : Option StunWriteError). option_or (order_refusal new.ended algorithm) (option_or o (growth_refusal new size))) (same_key algorithm)
    ∙ ap (λ (e : Ended). option_or (order_refusal e algorithm) (size_refusal new.limit (length new.bytes + size))) g.ended
    ∙ ap (λ (l : Option ℕ). option_or (order_refusal old.ended algorithm) (size_refusal l (length new.bytes + size))) g.limit
    ∙ ap (λ (n : ℕ). option_or (order_refusal old.ended algorithm) (size_refusal old.limit n)) end
