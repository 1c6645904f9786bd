-- How adding an attribute changes a draft.
use Rattle.std.proofs.Common.{◌≡◌, ℕ, ◌+◌, ◌-◌, ◌≤◌, List, ◌++◌, length, refl, sym, ap, subst, ◌∙◌, arith}
use Rattle.std.specs.Prelude.{IfSome}
use Rattle.stun_types_integrity.specs.Wire.declared.algorithm.IntegrityAlgorithm.{IntegrityAlgorithm}
use Rattle.stun_types_integrity.specs.Wire.declared.algorithm.IntegrityAlgorithm.TheVariants.{Sha1, Sha256, Sha512}
use Rattle.stun_types_integrity.specs.Wire.Attributes.{Attr, attr_size, padded}
use Rattle.stun_types_integrity.specs.Wire.Covered.{with_length}
use Rattle.stun_types_integrity.specs.Wire.Fingerprints.{fingerprint_of, fingerprint_value}
use Rattle.stun_types_integrity.specs.Wire.Registry.{fingerprint_kind}
use Rattle.stun_types_integrity.specs.Wire.Text.{attribute_text}
use Rattle.stun_types_integrity.specs.Write.Adding.{attr_of, IsStarted}
use Rattle.stun_types_integrity.specs.Wire.Registry.{greatest_size}
use Rattle.stun_types_integrity.specs.Integrity.{attribute_kind, integrity_hmac}
use Rattle.stun_types_integrity.specs.Signing.{hmac_length, signature, text_to_sign}
use Rattle.stun_types_add.proofs.Adds.{added as bytes_added, added_started, added_text, length-with_length, long_enough, pushed_long as bytes_long, with_length-append}
use Rattle.stun_types_integrity.specs.Write.Drafts.{Draft, HasRoom, pushed_attribute, with_bytes}
use Rattle.stun_types_integrity.specs.Write.Outcomes.{IsAdded, added}

-- An attribute is added if it is pushed and the length field is then set to count through it.
pub is_added : (old middle new : Draft) (a : Attr) (end : ℕ) → IsStarted old.bytes → middle ≡ pushed_attribute a old → end ≡ length old.bytes + attr_size a → end ≤ greatest_size
    → new ≡ with_bytes middle (with_length middle.bytes (end - 20)) → IsAdded a old new
is_added old middle new a end started push ends fits decoded =
    let bytes = ap (λ (d : Draft). d.bytes) push in
    let whole = ap (λ (d : Draft). d.bytes) decoded in
    let grown = bytes_added old.bytes middle.bytes new.bytes a.kind end a.value started bytes ends whole in
    record {
      is = decoded
          ∙ ap (λ (l : List ℕ). with_bytes middle l) (sym whole)
          ∙ ap (λ (d : Draft). record (added a old) { bytes = new.bytes; following = d.following; ended = d.ended; limit = d.limit }) push
          ∙ ap (λ (l : List ℕ). record (added a old) { bytes = l }) grown;
      text = added_text old.bytes middle.bytes new.bytes a.kind end a.value started bytes ends whole;
      started = added_started old.bytes middle.bytes new.bytes a.kind end a.value started bytes ends fits whole;
    }

-- A draft still has its header after an attribute is pushed.
pub pushed_long : (old middle : Draft) (a : Attr) → IsStarted old.bytes → middle ≡ pushed_attribute a old → 20 ≤ length middle.bytes
pushed_long old middle a started push = bytes_long old.bytes middle.bytes (attribute_text a) started (ap (λ (d : Draft). d.bytes) push)

-- The statement of `is_added` for an attribute `b` equal to the pushed one.
pub added_as : (old middle new : Draft) (a b : Attr) (end : ℕ) → a ≡ b → IsStarted old.bytes → middle ≡ pushed_attribute a old → end ≡ length old.bytes + attr_size a → end ≤ greatest_size
    → new ≡ with_bytes middle (with_length middle.bytes (end - 20)) → IsAdded b old new
added_as old middle new a b end same started push ends fits decoded = subst (λ (x : Attr). IsAdded x old new) same (is_added old middle new a end started push ends fits decoded)

-- ---- FINGERPRINT

value_size : (text : List ℕ) → length (fingerprint_value text) ≡ 4
unfolding fingerprint_value
value_size text = refl

pub marked : (old middle new : Draft) (value : List ℕ) (end : ℕ) → IsStarted old.bytes → middle ≡ pushed_attribute (attr_of fingerprint_kind value) old → end ≡ length old.bytes + 8 → end ≤ greatest_size
    → value ≡ fingerprint_value (with_length old.bytes (end - 20)) → new ≡ with_bytes middle (with_length middle.bytes (end - 20)) → IsAdded (fingerprint_of old.bytes) old new
unfolding fingerprint_of
marked old middle new value end started push ends fits digest decoded =
    let long = long_enough old.bytes started in
    let n : end - 20 ≡ length old.bytes - 20 + 8 = omega arith in
    let own : attr_of fingerprint_kind value ≡ fingerprint_of old.bytes = ap (λ (v : List ℕ). attr_of fingerprint_kind v) (digest ∙ ap (λ m. fingerprint_value (with_length old.bytes m)) n) in
    let four : length value ≡ 4 = ap length digest ∙ value_size (with_length old.bytes (end - 20)) in
    added_as old middle new (attr_of fingerprint_kind value) (fingerprint_of old.bytes) end own started push (ends ∙ ap (λ k. length old.bytes + (4 + padded k)) (sym four)) fits decoded

-- ---- the integrity attribute

-- An HMAC needs no padding.
whole_size : (algorithm : IntegrityAlgorithm) (n : ℕ) → n ≡ hmac_length algorithm → 4 + padded n ≡ 4 + hmac_length algorithm
whole_size Sha1 n is = omega arith
whole_size Sha256 n is = omega arith
whole_size Sha512 n is = omega arith

pub signed : (old middle new : Draft) (key : List ℕ) (algorithm : IntegrityAlgorithm) (kind : ℕ) (value : List ℕ) (end : ℕ) → IsStarted old.bytes → middle ≡ pushed_attribute (attr_of kind value) old → kind ≡ attribute_kind algorithm
    → end ≡ length old.bytes + (4 + hmac_length algorithm) → end ≤ greatest_size → value ≡ integrity_hmac algorithm key (with_length old.bytes (end - 20)) → length value ≡ hmac_length algorithm
    → new ≡ with_bytes middle (with_length middle.bytes (end - 20)) → IsAdded (signature algorithm key old.bytes) old new
unfolding signature text_to_sign
signed old middle new key algorithm kind value end started push own ends fits digest size decoded =
    let long = long_enough old.bytes started in
    let n : end - 20 ≡ length old.bytes - 20 + (4 + hmac_length algorithm) = omega arith in
    let same : attr_of kind value ≡ signature algorithm key old.bytes = ap (λ k. attr_of k value) own ∙ ap (λ (v : List ℕ). attr_of (attribute_kind algorithm) v) (digest ∙ ap (λ m. integrity_hmac algorithm key (with_length old.bytes m)) n) in
    added_as old middle new (attr_of kind value) (signature algorithm key old.bytes) end same started push (ends ∙ ap (λ k. length old.bytes + k) (sym (whole_size algorithm (length value) size))) fits decoded

-- ---- what is reported by the length first, and then pushed

pub decoded_fits : (old decoded : Draft) (n : ℕ) → IsStarted old.bytes → decoded ≡ with_bytes old (with_length old.bytes n) → length decoded.bytes ≡ length old.bytes
decoded_fits old decoded n started is = ap (λ (d : Draft). length d.bytes) is ∙ length-with_length old.bytes n (long_enough old.bytes started)

-- Setting the length field and then pushing has the effect of pushing and then setting it.
pub decoded_first : (old decoded new : Draft) (a : Attr) (n : ℕ) → IsStarted old.bytes → decoded ≡ with_bytes old (with_length old.bytes n) → new ≡ pushed_attribute a decoded
    → new ≡ with_bytes (pushed_attribute a old) (with_length (old.bytes ++ attribute_text a) n)
decoded_first old decoded new a n started is push =
    push ∙ ap (λ (d : Draft). pushed_attribute a d) is
    ∙ ap (λ (l : List ℕ). with_bytes (pushed_attribute a old) l) (sym (with_length-append old.bytes (attribute_text a) n (long_enough old.bytes started)))

-- Writing back the old length field restores the draft.
pub decoded_back : (old decoded back : Draft) (n m : ℕ) → ((k : ℕ) → with_length (with_length old.bytes k) m ≡ old.bytes) → decoded ≡ with_bytes old (with_length old.bytes n) → back ≡ with_bytes decoded (with_length decoded.bytes m) → back ≡ old
decoded_back old decoded back n m undone is again = again ∙ ap (λ (d : Draft). with_bytes d (with_length d.bytes m)) is ∙ ap (λ (l : List ℕ). with_bytes old l) (undone n)

-- A draft that had room for an integrity attribute still has it after its length field is set.
pub decoded_room : (old decoded : Draft) (algorithm : IntegrityAlgorithm) (kind : ℕ) (value : List ℕ) (n : ℕ) → IsStarted old.bytes → decoded ≡ with_bytes old (with_length old.bytes n) → length value ≡ hmac_length algorithm
    → HasRoom old (4 + hmac_length algorithm) → HasRoom decoded (attr_size (attr_of kind value))
decoded_room old decoded algorithm kind value n started is size room =
    let same : length old.bytes + (4 + hmac_length algorithm) ≡ length (with_length old.bytes n) + attr_size (attr_of kind value) = omega (arith, length-with_length old.bytes n (long_enough old.bytes started), whole_size algorithm (length value) size) in
    let fits : HasRoom (with_bytes old (with_length old.bytes n)) (attr_size (attr_of kind value)) = subst (λ k. IfSome old.limit (λ most. k ≤ most)) same room in
    subst (λ (d : Draft). HasRoom d (attr_size (attr_of kind value))) (sym is) fits
