-- How adding an attribute changes the bytes of a message.
use Rattle.std.proofs.Common.{◌≡◌, ℕ, ◌+◌, ◌-◌, ◌*◌, ◌/◌, ◌%◌, ◌^◌, ◌<◌, ◌≤◌, true, not, ltb, List, [], ◌∷◌, ◌++◌, length, get_or, replicate, None, refl, sym, ap, ◌∙◌, append_assoc, Fits, w8, arith, inl, inr}
use Rattle.std.proofs.lemmas.Bool.{cases_Bool, ltb-false, le-ltb, lt-ltb}
use Rattle.std.proofs.lemmas.List.{length-append, length-replicate, append-nil}
use Rattle.stun_types_integrity.specs.Wire.Attributes.{Attr, padded, padding_len, attr_size}
use Rattle.stun_types_integrity.specs.Wire.Grammar.{may_begin, header_refusal}
use Rattle.stun_types_integrity.specs.Wire.Text.{header_text, padded_text, attribute_text, body_text, message_text}
use Rattle.stun_types_integrity.specs.Write.Adding.{attr_of, after_add, IsStarted}
use Rattle.stun_types_integrity.specs.Wire.Registry.{greatest_size}
use Rattle.stun_types_integrity.specs.Wire.Covered.{with_length}
use Rattle.stun_types_integrity.specs.Signing.{signing_refusal}
use Rattle.stun_types_integrity.specs.Write.Adding.{add_refusal, fingerprint_add_refusal}

-- ---- headers

pub header_long : (bytes : List ℕ) → header_refusal bytes ≡ None → 20 ≤ length bytes
unfolding header_refusal
header_long bytes h =
    elim (cases_Bool (may_begin bytes)) [
      | inl begins ↦ elim (cases_Bool (ltb (length bytes) 20)) [
        | inl short ↦ absurd (let p = rw (begins, short) at h in cc)
        | inr long ↦ ltb-false (length bytes) 20 long
      ]
      | inr not ↦ absurd (let p = rw (not) at h in cc)
    ]

pub long_enough : (bytes : List ℕ) → IsStarted bytes → 20 ≤ length bytes
long_enough bytes h = header_long bytes h.header

begins_of : (bytes : List ℕ) → header_refusal bytes ≡ None → may_begin bytes ≡ true
unfolding header_refusal
begins_of bytes h =
    elim (cases_Bool (may_begin bytes)) [
      | inl begins ↦ begins
      | inr not ↦ absurd (let p = rw (not) at h in cc)
    ]

-- If the length field of a header changes and bytes are appended, the first bytes are still those of a
-- message.
begins_again : (bytes tail : List ℕ) (n : ℕ) → 20 ≤ length bytes → may_begin bytes ≡ true → may_begin (with_length bytes n ++ tail) ≡ true
unfolding with_length
begins_again (a ∷ b ∷ c ∷ d ∷ e ∷ f ∷ g ∷ h ∷ rest) tail n long begins = begins
begins_again [] tail n long begins = absurd (omega arith)
begins_again (a ∷ []) tail n long begins = absurd (omega arith)
begins_again (a ∷ b ∷ []) tail n long begins = absurd (omega arith)
begins_again (a ∷ b ∷ c ∷ []) tail n long begins = absurd (omega arith)
begins_again (a ∷ b ∷ c ∷ d ∷ []) tail n long begins = absurd (omega arith)
begins_again (a ∷ b ∷ c ∷ d ∷ e ∷ []) tail n long begins = absurd (omega arith)
begins_again (a ∷ b ∷ c ∷ d ∷ e ∷ f ∷ []) tail n long begins = absurd (omega arith)
begins_again (a ∷ b ∷ c ∷ d ∷ e ∷ f ∷ g ∷ []) tail n long begins = absurd (omega arith)

pub with_length-append : (bytes text : List ℕ) (n : ℕ) → 20 ≤ length bytes → with_length (bytes ++ text) n ≡ with_length bytes n ++ text
unfolding with_length
with_length-append (a ∷ b ∷ c ∷ d ∷ bytes) text n h = refl
with_length-append [] text n h = absurd (omega arith)
with_length-append (a ∷ []) text n h = absurd (omega arith)
with_length-append (a ∷ b ∷ []) text n h = absurd (omega arith)
with_length-append (a ∷ b ∷ c ∷ []) text n h = absurd (omega arith)

pub length-with_length : (bytes : List ℕ) (n : ℕ) → 20 ≤ length bytes → length (with_length bytes n) ≡ length bytes
unfolding with_length
length-with_length (a ∷ b ∷ c ∷ d ∷ bytes) n h = refl
length-with_length [] n h = absurd (omega arith)
length-with_length (a ∷ []) n h = absurd (omega arith)
length-with_length (a ∷ b ∷ []) n h = absurd (omega arith)
length-with_length (a ∷ b ∷ c ∷ []) n h = absurd (omega arith)

-- Writing back the old length field restores the bytes.
pub decoded_again : (bytes : List ℕ) (m n : ℕ) → 20 ≤ length bytes → ((i : ℕ) → Fits w8 (get_or bytes i 0)) → m ≡ get_or bytes 2 0 * 256 + get_or bytes 3 0 → with_length (with_length bytes n) m ≡ bytes
unfolding with_length
decoded_again (a ∷ b ∷ c ∷ d ∷ rest) m n long small is =
    let first : m / 256 % 256 ≡ c = omega (arith, small 2, small 3) in
    let second : m % 256 ≡ d = omega (arith, small 2, small 3) in
    rw (first, second) refl
decoded_again [] m n long small is = absurd (omega arith)
decoded_again (a ∷ []) m n long small is = absurd (omega arith)
decoded_again (a ∷ b ∷ []) m n long small is = absurd (omega arith)
decoded_again (a ∷ b ∷ c ∷ []) m n long small is = absurd (omega arith)

pub length-attribute_text : (a : Attr) → length (attribute_text a) ≡ attr_size a
unfolding attribute_text padded_text
length-attribute_text a = omega (arith, length-append a.value (replicate (padding_len (length a.value)) 0), length-replicate {A = ℕ} (padding_len (length a.value)) 0)

-- ---- one add

-- Pushing an attribute and then setting the length field gives the bytes after the add.
pub added : (bytes pushed after : List ℕ) (kind end : ℕ) (value : List ℕ) → IsStarted bytes → pushed ≡ bytes ++ attribute_text (attr_of kind value) → end ≡ length bytes + (4 + padded (length value)) → after ≡ with_length pushed (end - 20)
    → after ≡ after_add bytes (attr_of kind value)
unfolding after_add
added bytes pushed after kind end value started pushed-is end-is after-is =
    let long = long_enough bytes started in
    let n : end - 20 ≡ length bytes - 20 + attr_size (attr_of kind value) = omega arith in
    after-is ∙ ap (λ (l : List ℕ). with_length l (end - 20)) pushed-is ∙ with_length-append bytes (attribute_text (attr_of kind value)) (end - 20) long
    ∙ ap (λ k. with_length bytes k ++ attribute_text (attr_of kind value)) n

pub length-after_add : (bytes : List ℕ) (a : Attr) → IsStarted bytes → length (after_add bytes a) ≡ length bytes + attr_size a
unfolding after_add
length-after_add bytes a started =
    let n = length bytes - 20 + attr_size a in
    omega (arith, length-append (with_length bytes n) (attribute_text a), length-with_length bytes n (long_enough bytes started), length-attribute_text a)

pub add_started : (bytes : List ℕ) (a : Attr) → IsStarted bytes → length bytes + attr_size a ≤ greatest_size → IsStarted (after_add bytes a)
unfolding after_add header_refusal
add_started bytes a started fits =
    let long = long_enough bytes started in
    let n = length bytes - 20 + attr_size a in
    let all = with_length bytes n ++ attribute_text a in
    let size : length all ≡ length bytes + attr_size a = omega (arith, length-append (with_length bytes n) (attribute_text a), length-with_length bytes n long, length-attribute_text a) in
    record {
      header = rw (begins_again bytes (attribute_text a) n long (begins_of bytes started.header), le-ltb (length all) 20 (omega (arith, size))) refl;
      size = omega (arith, size);
    }

pub added_started : (bytes pushed after : List ℕ) (kind end : ℕ) (value : List ℕ) → IsStarted bytes → pushed ≡ bytes ++ attribute_text (attr_of kind value) → end ≡ length bytes + (4 + padded (length value)) → end ≤ greatest_size
    → after ≡ with_length pushed (end - 20) → IsStarted after
added_started bytes pushed after kind end value started pushed-is end-is fits after-is =
    let is = added bytes pushed after kind end value started pushed-is end-is after-is in
    rw is (add_started bytes (attr_of kind value) started (omega arith))

-- ---- a message text of one attribute more

length-header_text : (kind len number : ℕ) (body : List ℕ) → length (header_text kind len number ++ body) ≡ 20 + length body
unfolding header_text
length-header_text kind len number body = omega arith

with_length-header_text : (kind len m number : ℕ) (body : List ℕ) → with_length (header_text kind len number ++ body) m ≡ header_text kind m number ++ body
unfolding with_length header_text
with_length-header_text kind len m number body = refl

body_text-more : (adds : List Attr) (a : Attr) → body_text (adds ++ a ∷ []) ≡ body_text adds ++ attribute_text a
unfolding body_text
body_text-more [] a = append-nil (attribute_text a)
body_text-more (b ∷ adds) a = ap (λ (l : List ℕ). attribute_text b ++ l) (body_text-more adds a) ∙ sym (append_assoc (attribute_text b) (body_text adds) (attribute_text a))

pub one_more : (kind number : ℕ) (adds : List Attr) (a : Attr) → after_add (message_text kind number adds) a ≡ message_text kind number (adds ++ a ∷ [])
unfolding after_add message_text
one_more kind number adds a =
    let body = body_text adds in
    let text = attribute_text a in
    let size = length-header_text kind (length body) number body in
    let text-size = length-attribute_text a in
    let more = body_text-more adds a in
    let len : length (header_text kind (length body) number ++ body) - 20 + attr_size a ≡ length (body_text (adds ++ a ∷ [])) = omega (arith, size, text-size, ap length more, length-append body text) in
    rw (len, with_length-header_text kind (length body) (length (body_text (adds ++ a ∷ []))) number body)
    (append_assoc (header_text kind (length (body_text (adds ++ a ∷ []))) number) body text ∙ ap (λ (l : List ℕ). header_text kind (length (body_text (adds ++ a ∷ []))) number ++ l) (sym more))

pub added_text : (bytes pushed after : List ℕ) (kind end : ℕ) (value : List ℕ) → IsStarted bytes → pushed ≡ bytes ++ attribute_text (attr_of kind value) → end ≡ length bytes + (4 + padded (length value)) → after ≡ with_length pushed (end - 20)
    → (mtype number : ℕ) (adds : List Attr) → bytes ≡ message_text mtype number adds → after ≡ message_text mtype number (adds ++ attr_of kind value ∷ [])
added_text bytes pushed after kind end value started pushed-is end-is after-is mtype number adds text =
    added bytes pushed after kind end value started pushed-is end-is after-is ∙ ap (λ (l : List ℕ). after_add l (attr_of kind value)) text ∙ one_more mtype number adds (attr_of kind value)

-- ---- a message text that was started

pub text_started : (kind number : ℕ) → kind < 2 ^ 14 → IsStarted (message_text kind number [])
unfolding header_refusal message_text body_text header_text
text_started kind number h = record {
  header = rw (lt-ltb (kind / 256 % 256) 64 (omega arith)) refl;
  size = omega arith;
}

-- The bytes still have a header after an attribute is pushed.
pub pushed_long : (bytes pushed text : List ℕ) → IsStarted bytes → pushed ≡ bytes ++ text → 20 ≤ length pushed
pushed_long bytes pushed text started is =
    let long = long_enough bytes started in
    rw is (omega (arith, length-append bytes text))

-- If bytes are appended to a header, the first bytes are still those of a message.
begins_more : (bytes text : List ℕ) → 20 ≤ length bytes → may_begin bytes ≡ true → may_begin (bytes ++ text) ≡ true
begins_more (a ∷ b ∷ c ∷ d ∷ e ∷ f ∷ g ∷ h ∷ rest) text long begins = begins
begins_more [] text long begins = absurd (omega arith)
begins_more (a ∷ []) text long begins = absurd (omega arith)
begins_more (a ∷ b ∷ []) text long begins = absurd (omega arith)
begins_more (a ∷ b ∷ c ∷ []) text long begins = absurd (omega arith)
begins_more (a ∷ b ∷ c ∷ d ∷ []) text long begins = absurd (omega arith)
begins_more (a ∷ b ∷ c ∷ d ∷ e ∷ []) text long begins = absurd (omega arith)
begins_more (a ∷ b ∷ c ∷ d ∷ e ∷ f ∷ []) text long begins = absurd (omega arith)
begins_more (a ∷ b ∷ c ∷ d ∷ e ∷ f ∷ g ∷ []) text long begins = absurd (omega arith)

pub pushed_started : (bytes pushed : List ℕ) (a : Attr) → IsStarted bytes → pushed ≡ bytes ++ attribute_text a → length bytes + attr_size a ≤ greatest_size → IsStarted pushed
unfolding header_refusal
pushed_started bytes pushed a started is fits =
    let long = long_enough bytes started in
    let all = bytes ++ attribute_text a in
    let size : length all ≡ length bytes + attr_size a = omega (arith, length-append bytes (attribute_text a), length-attribute_text a) in
    rw is (record {
      header = rw (begins_more bytes (attribute_text a) long (begins_of bytes started.header), le-ltb (length all) 20 (omega (arith, size))) refl;
      size = omega (arith, size);
    })

-- A group of errors for proofs: unfolding it unfolds all definitions named on its `unfolding` line.
unfoldable pub refusals : Type 0
unfolding add_refusal fingerprint_add_refusal signing_refusal
refusals = Unit {0}

-- A message that attributes are added to has a complete header.
pub ruleset long = (long_enough)
