-- A covered text determines the message, except for a FINGERPRINT.
use Rattle.std.proofs.Common.{◌≡◌, ℕ, ◌+◌, ◌-◌, ◌%◌, ◌^◌, ◌<◌, ◌≤◌, true, false, not, eqb, ltb, leb, ◌&&◌, List, [], ◌∷◌, ◌++◌, length, take, drop, map, None, refl, sym, ap, subst, ◌∙◌, arith, inl, inr}
use Rattle.std.specs.Prelude.{IsTrue}
use Rattle.std.specs.List.{AllByRecursion}
use Rattle.std.proofs.lemmas.Bool.{cases_Bool, ltb-true, eqb-true, ne_eqb, and_parts}
use Rattle.std.proofs.lemmas.List.{length-drop, length-take, take-append-drop, drop-append-le, map-append}
use Rattle.std.proofs.lemmas.List.Elements.{filter-append}
use Rattle.byteorder.specs.Endian.{big_from}
use Rattle.byteorder.specs.Numbers.{big_from-append, big_number-reads_back}
use Rattle.stun_types_attributes.specs.Wire.declared.algorithm.IntegrityAlgorithm.{IntegrityAlgorithm}
use Rattle.stun_types_attributes.specs.Wire.declared.algorithm.IntegrityAlgorithm.TheVariants.{Sha1, Sha256, Sha512}
use Rattle.stun_types_attributes.specs.Wire.Attributes.{Attr, attr_size, kind_at, length_at, size_at, padded, numbered}
use Rattle.stun_types_attributes.specs.Wire.Shape.{rank, may_follow, kinds_of, visible_after}
use Rattle.stun_types_attributes.specs.Wire.Registry.{integrity_kind, sha256_kind, sha512_kind, fingerprint_kind}
use Rattle.stun_types_attributes.specs.Wire.Grammar.{IsMessage, visible, number_at}
use Rattle.stun_types_attributes.specs.Wire.Text.{header_text, parts_text}
use Rattle.stun_types_attributes.specs.Wire.Headers.{AreBytes}
use Rattle.stun_types_attributes.proofs.Wire.Whole.{whole_long, size_whole}
use Rattle.stun_types_attributes.proofs.Wire.Left.{left_at, map_numbered}
use Rattle.stun_types_attributes.proofs.Wire.Longest.{Follows, head_follows}
use Rattle.stun_types_attributes.proofs.Wire.Converse.{has_text}
use Rattle.stun_types_attributes.specs.Wire.Covered.{covered_text, with_length}
use Rattle.stun_types_add.specs.Integrity.Integrity.{Validates, algorithm_of, attribute_kind, is_lawful_length}
use Rattle.stun_types_message.specs.Same.{ShowSame, without_fingerprint}
use Rattle.stun_types_message.proofs.Splits.{occurs, not_before, same_before}

-- ---- the length in the header

with_length-append : (bytes text : List ℕ) (n : ℕ) → 4 ≤ length bytes → with_length (bytes ++ text) n ≡ with_length bytes n ++ text
unfolding with_length
with_length-append (a ∷ b ∷ c ∷ d ∷ bytes) text n h = refl
with_length-append [] text n h = absurd (omega arith)
with_length-append (a ∷ []) text n h = absurd (omega arith)
with_length-append (a ∷ b ∷ []) text n h = absurd (omega arith)
with_length-append (a ∷ b ∷ c ∷ []) text n h = absurd (omega arith)

-- What stays the same when the length field in the header changes.
record IsStored (bytes : List ℕ) (n : ℕ) : Type 0 where
  size : length (with_length bytes n) ≡ length bytes
  body : drop 20 (with_length bytes n) ≡ drop 20 bytes
  kind : kind_at (with_length bytes n) ≡ kind_at bytes
  number : number_at (with_length bytes n) ≡ number_at bytes
  decoded : n < 2 ^ 16 → length_at (with_length bytes n) ≡ n

is_stored : (bytes : List ℕ) (n : ℕ) → 4 ≤ length bytes → IsStored bytes n
unfolding with_length number_at
is_stored (a ∷ b ∷ c ∷ d ∷ bytes) n h = record { size = refl; body = refl; kind = refl; number = refl; decoded = λ small. big_number-reads_back 2 n bytes small }
is_stored [] n h = absurd (omega arith)
is_stored (a ∷ []) n h = absurd (omega arith)
is_stored (a ∷ b ∷ []) n h = absurd (omega arith)
is_stored (a ∷ b ∷ c ∷ []) n h = absurd (omega arith)

-- The fields of a complete header do not change when bytes are appended.
kind_head : (text rest : List ℕ) → 20 ≤ length text → kind_at (text ++ rest) ≡ kind_at text
kind_head text rest long = big_from-append 2 text rest (omega arith)

length_head : (text rest : List ℕ) → 20 ≤ length text → length_at (text ++ rest) ≡ length_at text
length_head text rest long = ap (big_from 0 2) (drop-append-le 2 text rest (omega arith)) ∙ big_from-append 2 (drop 2 text) rest (omega (arith, length-drop 2 text))

number_head : (text rest : List ℕ) → 20 ≤ length text → number_at (text ++ rest) ≡ number_at text
unfolding number_at
number_head text rest long = ap (big_from 0 12) (drop-append-le 8 text rest (omega arith)) ∙ big_from-append 12 (drop 8 text) rest (omega (arith, length-drop 8 text))

-- ---- a message cut where an attribute begins

pub record Cut (bytes text : List ℕ) (before : List (ℕ × Attr)) (e : ℕ × Attr) (following : List (ℕ × Attr)) : Type 0 where
  pub index : e.0 ≡ length text
  pub shows : left_at 0 20 (text ++ drop e.0 bytes) ≡ before ++ e ∷ following
  pub kind : kind_at bytes ≡ kind_at text
  pub number : number_at bytes ≡ number_at text
  pub decoded : length_at text ≡ length text - 20 + attr_size e.1

header_size : (kind len number : ℕ) (body : List ℕ) → length (header_text kind len number ++ body) ≡ 20 + length body
unfolding header_text
header_size kind len number body = omega arith

message_short : (bytes : List ℕ) → AreBytes bytes → IsMessage bytes → length bytes < 20 + 2 ^ 16
message_short bytes are message =
    let t = has_text bytes are message in
    let size = ap length t.text ∙ header_size (kind_at bytes) (length (parts_text t.parts ++ t.following)) (number_at bytes) (parts_text t.parts ++ t.following) in
    let fits = t.length_fits in
    omega arith

pub cut_at : (bytes text : List ℕ) (before : List (ℕ × Attr)) (e : ℕ × Attr) (following : List (ℕ × Attr)) → AreBytes bytes → IsMessage bytes → numbered 20 (visible bytes) ≡ before ++ e ∷ following → text ≡ covered_text bytes e.0
    → Cut bytes text before e following
unfolding covered_text visible
cut_at bytes text before e following are message shows covered =
    let at = occurs 0 20 bytes before e following shows in
    let low = not_before bytes before e following shows in
    let rest = drop e.0 bytes in
    let long = whole_long rest at.whole in
    let size : attr_size e.1 ≡ size_at rest = ap attr_size at.is ∙ size_whole rest at.whole in
    let short = message_short bytes are message in
    let rest-size = length-drop e.0 bytes in
    let attribute_head = take e.0 bytes in
    let attribute_head-size : length attribute_head ≡ e.0 = omega (arith, length-take e.0 bytes) in
    let n = e.0 - 20 + size_at rest in
    let small : n < 2 ^ 16 = omega arith in
    let stored = is_stored attribute_head n (omega arith) in
    let text-size : length text ≡ e.0 = ap length covered ∙ stored.size ∙ attribute_head-size in
    let whole : text ++ rest ≡ with_length bytes n =
    ap (λ (l : List ℕ). l ++ rest) covered ∙ sym (with_length-append attribute_head rest n (omega arith)) ∙ ap (λ (l : List ℕ). with_length l n) (take-append-drop e.0 bytes) in
    let same = is_stored bytes n (omega arith) in
    let body : drop 20 (text ++ rest) ≡ drop 20 bytes = ap (λ (l : List ℕ). drop 20 l) whole ∙ same.body in
    record {
      index = sym text-size;
      shows = ap (λ (l : List ℕ). numbered 20 (visible_after 0 l)) body ∙ shows;
      kind = sym same.kind ∙ ap kind_at (sym whole) ∙ kind_head text rest (omega arith);
      number = sym same.number ∙ ap number_at (sym whole) ∙ number_head text rest (omega arith);
      decoded = ap length_at covered ∙ stored.decoded small ∙ omega arith;
    }

-- ---- what stands after the last integrity attribute

follows_less : (r s : ℕ) → 0 < r → may_follow r s ≡ true → r < s
follows_less r s positive h =
    elim (cases_Bool (ltb r s)) [
      | inl lt ↦ ltb-true r s lt
      | inr untold ↦ absurd (let p = rw (ne_eqb r 0 (λ e. omega arith), untold) at h in cc)
    ]

-- A type that may follow an integrity attribute and is not one itself is FINGERPRINT.
ends_by_fingerprint : (r : ℕ) (a : Attr) → 0 < r → may_follow r (rank a.kind) ≡ true → algorithm_of a.kind ≡ None → not (eqb a.kind fingerprint_kind) ≡ false
ends_by_fingerprint r a positive follows none =
    elim (cases_Bool (eqb a.kind fingerprint_kind)) [
      | inl f ↦ rw f refl
      | inr f ↦ elim (cases_Bool (eqb a.kind integrity_kind)) [
        | inl m ↦ absurd (let p = rw (m) at none in cc)
        | inr m ↦ elim (cases_Bool (eqb a.kind sha256_kind)) [
          | inl s ↦ absurd (let p = rw (m, s) at none in cc)
          | inr s ↦ elim (cases_Bool (eqb a.kind sha512_kind)) [
            | inl l ↦ absurd (let p = rw (m, s, l) at none in cc)
            | inr l ↦
                let ordinary : rank a.kind ≡ 0 = rw (m, s, l, f) refl in
                absurd (let less = follows_less r (rank a.kind) positive follows in omega (arith, ordinary))
          ]
        ]
      ]
    ]

abbrev attributes_of : List (ℕ × Attr) → List Attr
attributes_of all = map (λ (x : ℕ × Attr). x.1) all

nothing_after : (r : ℕ) (all : List (ℕ × Attr)) → 0 < r → Follows r (kinds_of (attributes_of all)) → AllByRecursion (λ entry. algorithm_of entry.1.kind ≡ None) all → without_fingerprint (attributes_of all) ≡ []
nothing_after r [] positive follows none = refl
nothing_after r (x ∷ all) positive follows none =
    let less = follows_less r (rank x.1.kind) positive follows.0 in
    rw (ends_by_fingerprint r x.1 positive follows.0 none.0) (nothing_after (rank x.1.kind) all (omega arith) follows.1 none.1)

follows_after : (r : ℕ) (attribute_head : List Attr) (a : Attr) (rest : List Attr) → Follows r (kinds_of (attribute_head ++ a ∷ rest)) → Follows (rank a.kind) (kinds_of rest)
follows_after r [] a rest h = h.1
follows_after r (x ∷ attribute_head) a rest h = follows_after (rank x.kind) attribute_head a rest h.1

positive_rank : (algorithm : IntegrityAlgorithm) → 0 < rank (attribute_kind algorithm)
positive_rank Sha1 = omega arith
positive_rank Sha256 = omega arith
positive_rank Sha512 = omega arith

stays : (algorithm : IntegrityAlgorithm) → not (eqb (attribute_kind algorithm) fingerprint_kind) ≡ true
stays Sha1 = refl
stays Sha256 = refl
stays Sha512 = refl

-- Without a FINGERPRINT, the visible attributes are those up to the last integrity attribute.
shows_of : (bytes : List ℕ) (algorithm : IntegrityAlgorithm) (before : List (ℕ × Attr)) (e : ℕ × Attr) (following : List (ℕ × Attr)) → numbered 20 (visible bytes) ≡ before ++ e ∷ following → e.1.kind ≡ attribute_kind algorithm
    → AllByRecursion (λ entry. algorithm_of entry.1.kind ≡ None) following → without_fingerprint (visible bytes) ≡ without_fingerprint (attributes_of before) ++ e.1 ∷ []
unfolding visible visible_after
shows_of bytes algorithm before e following parts kind none =
    let all : visible bytes ≡ attributes_of before ++ e.1 ∷ attributes_of following = sym (map_numbered 20 (visible bytes)) ∙ ap attributes_of parts ∙ map-append (λ (x : ℕ × Attr). x.1) before (e ∷ following) in
    let follows : Follows 0 (kinds_of (visible bytes)) = head_follows 0 _ in
    let later : Follows (rank e.1.kind) (kinds_of (attributes_of following)) = follows_after 0 (attributes_of before) e.1 (attributes_of following) (subst (λ (l : List Attr). Follows 0 (kinds_of l)) all follows) in
    let positive : 0 < rank e.1.kind = subst (λ k. 0 < rank k) (sym kind) (positive_rank algorithm) in
    let own : not (eqb e.1.kind fingerprint_kind) ≡ true = ap (λ k. not (eqb k fingerprint_kind)) kind ∙ stays algorithm in
    let last : without_fingerprint (e.1 ∷ attributes_of following) ≡ e.1 ∷ [] = rw own (ap (λ (l : List Attr). e.1 ∷ l) (nothing_after (rank e.1.kind) following positive later none)) in
    ap without_fingerprint all ∙ filter-append (λ (a : Attr). not (eqb a.kind fingerprint_kind)) (attributes_of before) (e.1 ∷ attributes_of following) ∙ ap (λ (l : List Attr). without_fingerprint (attributes_of before) ++ l) last

-- ---- the integrity attribute

same_fours : (least most n m : ℕ) → leb least n && (leb n most && eqb (n % 4) 0) ≡ true → leb least m && (leb m most && eqb (m % 4) 0) ≡ true → padded n ≡ padded m → n ≡ m
same_fours least most n m hn hm same =
    let four-n = eqb-true (n % 4) 0 (and_parts (leb n most) (eqb (n % 4) 0) (and_parts (leb least n) (leb n most && eqb (n % 4) 0) hn).1).1 in
    let four-m = eqb-true (m % 4) 0 (and_parts (leb m most) (eqb (m % 4) 0) (and_parts (leb least m) (leb m most && eqb (m % 4) 0) hm).1).1 in
    omega arith

same_length : (algorithm : IntegrityAlgorithm) (n m : ℕ) → IsTrue (is_lawful_length algorithm n) → IsTrue (is_lawful_length algorithm m) → padded n ≡ padded m → n ≡ m
same_length Sha1 n m hn hm same = eqb-true n 20 hn ∙ sym (eqb-true m 20 hm)
same_length Sha256 n m hn hm same = same_fours 16 32 n m hn hm same
same_length Sha512 n m hn hm same = same_fours 16 64 n m hn hm same

same_head : (f g r s : List ℕ) → f ++ r ≡ g ++ s → length f ≡ length g → f ≡ g
same_head [] [] r s h len = refl
same_head [] (y ∷ g) r s h len = absurd (omega arith)
same_head (x ∷ f) [] r s h len = absurd (omega arith)
same_head (x ∷ f) (y ∷ g) r s h len =
    let first : x ≡ y = cc in
    let rest : f ++ r ≡ g ++ s = cc in
    ap (λ n. n ∷ f) first ∙ ap (λ (l : List ℕ). y ∷ l) (same_head f g r s rest (omega arith))

same_attribute : (a b : Attr) → a.kind ≡ b.kind → a.value ≡ b.value → a ≡ b
same_attribute a b p q =
    let P : ℕ → List ℕ → Attr = λ k v. record { kind = k; value = v } in
    ap (λ k. P k a.value) p ∙ ap (λ (v : List ℕ). P b.kind v) q

-- ---- two messages

pub fixes : (first second key : List ℕ) (algorithm : IntegrityAlgorithm) (text : List ℕ) → AreBytes first → AreBytes second → Validates first key algorithm text → Validates second key algorithm text → ShowSame first second
fixes first second key algorithm text are-first are-second v w =
    let s = v.signed in
    let t = w.signed in
    let a = cut_at first text s.before (s.offset, s.attribute) s.following are-first s.message s.shows s.covered in
    let b = cut_at second text t.before (t.offset, t.attribute) t.following are-second t.message t.shows t.covered in
    let before : s.before ≡ t.before =
    same_before text (drop s.offset first) (drop t.offset second) 0 20 s.before t.before (s.offset, s.attribute) (t.offset, t.attribute) s.following t.following a.shows b.shows a.index b.index in
    let told-a = a.decoded in
    let told-b = b.decoded in
    let sizes : attr_size s.attribute ≡ attr_size t.attribute = omega arith in
    let pads : padded (length s.attribute.value) ≡ padded (length t.attribute.value) = omega arith in
    let len = same_length algorithm (length s.attribute.value) (length t.attribute.value) s.lawful t.lawful pads in
    let value = same_head s.attribute.value t.attribute.value s.digest.rest t.digest.rest (sym s.digest.parts ∙ t.digest.parts) len in
    let attribute : s.attribute ≡ t.attribute = same_attribute s.attribute t.attribute (s.kind ∙ sym t.kind) value in
    record {
      kind = a.kind ∙ sym b.kind;
      number = a.number ∙ sym b.number;
      shows = shows_of first algorithm s.before (s.offset, s.attribute) s.following s.shows s.kind v.last
          ∙ ap (λ (l : List (ℕ × Attr)). without_fingerprint (attributes_of l) ++ s.attribute ∷ []) before
          ∙ ap (λ (x : Attr). without_fingerprint (attributes_of t.before) ++ x ∷ []) attribute
          ∙ sym (shows_of second algorithm t.before (t.offset, t.attribute) t.following t.shows t.kind w.last);
    }
