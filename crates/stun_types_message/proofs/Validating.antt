-- The offset of the attribute that is validated, and that it is the only one of its type.
use Rattle.std.proofs.Common.{◌≡◌, ℕ, zero, suc, ◌+◌, ◌-◌, ◌<◌, ◌≤◌, Bool, true, ltb, eqb, cond, List, [], ◌∷◌, ◌++◌, length, take, drop, get_or, Option, Some, None, refl, sym, ap, subst, ◌∙◌, arith, inl, inr}
use Rattle.std.specs.Prelude.{find, map, IsSomeAnd, IfOk, IfErr, OnOk, Result, Ok, Err}
use Rattle.std.proofs.lemmas.Bool.{cases_Bool, ltb-true, ltb-false, eqb-true, ne_eqb, eq-eqb}
use Rattle.std.specs.Option.{option_or}
use Rattle.std.proofs.lemmas.Bool.Decides.{Decides-eqb}
use Rattle.std.proofs.lemmas.Slice.Eq.{starts_is}
use Rattle.std.proofs.lemmas.List.{append-nil, length-drop, length-take}
use Rattle.byteorder.specs.Endian.{big_bytes}
use Rattle.stun_types_attributes.specs.Wire.declared.error.StunParseError.{StunParseError}
use Rattle.stun_types_attributes.specs.Wire.declared.algorithm.IntegrityAlgorithm.{IntegrityAlgorithm}
use Rattle.stun_types_attributes.specs.Wire.Attributes.{Attr, attr_size, padded, attr_at, kind_at, length_at, size_at, is_whole, numbered}
use Rattle.stun_types_attributes.specs.Wire.Shape.{rank, may_follow, kinds_of, visible_after}
use Rattle.stun_types_attributes.specs.Wire.Registry.{integrity_kind, sha256_kind, sha512_kind}
use Rattle.stun_types_attributes.specs.Wire.Grammar.{Header, IsMessage, visible, refusal, header_refusal, length_refusal, body_refusal}
use Rattle.stun_types_attributes.proofs.Wire.Whole.{whole_long, size_whole}
use Rattle.std.specs.List.{AllByRecursion, starts_with}
use Rattle.stun_types_attributes.proofs.Wire.Left.{left_at, map_numbered, none_past, none_stops, left_step}
use Rattle.stun_types_attributes.proofs.Wire.Scan.{visible_short}
use Rattle.stun_types_attributes.proofs.Wire.Longest.{Follows, head_follows}
use Rattle.stun_types_attributes.specs.Wire.Covered.{covered_text, with_length}
use Rattle.stun_types_attributes.specs.Wire.declared.algorithm.IntegrityAlgorithm.TheVariants.{Sha1, Sha256, Sha512}
use Rattle.stun_types_attributes.specs.Wire.declared.error.StunParseError.TheVariants.{MissingAttribute, InvalidAttributeData}
use Rattle.stun_types_attributes.specs.Wire.declared.error.ValidateError.{ValidateError}
use Rattle.stun_types_attributes.specs.Wire.declared.error.ValidateError.TheVariants.{Parse, IntegrityFailed}
use Rattle.stun_types_add.specs.Integrity.Integrity.{IsSigned, Validates, algorithm_of, attribute_kind, integrity_hmac}
use Rattle.stun_types_add.specs.Integrity.Credentials.{Key}
use Rattle.stun_types_add.specs.Integrity.Keys.{key_of}
use Rattle.stun_types_add.proofs.Integrity.Keys.{key_for}
use Rattle.stun_types_add.proofs.Chunks.{decoded_head}
use Rattle.stun_types_add.specs.Integrity.declared.credentials.MessageIntegrityCredentials.{MessageIntegrityCredentials}
use Rattle.stun_types_message.specs.Parsed.{IsParsed}
use Rattle.stun_types_message.specs.MessageValidation.{HasDigest, IsLawful, IsRefused, IsRight, OccursAt, first_of_kind, last_algorithm}

-- ---- how long a message is

option_or_none : (a b : Option StunParseError) → option_or a b ≡ None → (a ≡ None) × (b ≡ None)
option_or_none (Some e) b h = absurd cc
option_or_none None b h = (refl, h)

length_none : (bytes : List ℕ) → length_refusal bytes ≡ None → length bytes ≡ 20 + length_at bytes
unfolding length_refusal
length_none bytes h =
    elim (cases_Bool (ltb (length bytes) (20 + length_at bytes))) [
      | inl short ↦ absurd (let p = rw (short) at h in cc)
      | inr long ↦ elim (cases_Bool (ltb (20 + length_at bytes) (length bytes))) [
        | inl more ↦ absurd (let p = rw (long, more) at h in cc)
        | inr exact ↦
            let a : 20 + length_at bytes ≤ length bytes = ltb-false (length bytes) (20 + length_at bytes) long in
            let b : length bytes ≤ 20 + length_at bytes = ltb-false (20 + length_at bytes) (length bytes) exact in
            omega arith
      ]
    ]

pub decoded_length : (bytes : List ℕ) (decoded : Header) → IsParsed bytes decoded → length bytes ≡ 20 + decoded.len
unfolding refusal
decoded_length bytes decoded h =
    let later = (option_or_none (header_refusal bytes) (option_or (length_refusal bytes) (body_refusal bytes)) h.message).1 in
    let fits = (option_or_none (length_refusal bytes) (body_refusal bytes) later).0 in
    length_none bytes fits ∙ ap (λ n. 20 + n) (sym (ap (λ (t : Header). t.len) h.header))

-- ---- where an attribute stands

found_occurs : (n : ℕ) (p : ℕ × Attr → Bool) (before offset : ℕ) (bytes : List ℕ) (e : ℕ × Attr) → length bytes ≤ offset + n → find p (left_at before offset bytes) ≡ Some e
    → (offset ≤ e.0) × (e.0 + attr_size e.1 ≤ length bytes) × (attr_size e.1 ≡ size_at (drop e.0 bytes))
found_occurs zero p before offset bytes e few h = absurd (let q = rw (none_past before offset bytes (omega arith)) at h in cc)
found_occurs (suc n) p before offset bytes e few h =
    let rest = drop offset bytes in
    elim (cases_Bool (is_whole rest)) [
      | inl w ↦ elim (cases_Bool (may_follow before (rank (kind_at rest)))) [
        | inl follows ↦
            let long = whole_long rest w in
            let four : 4 ≤ length rest = omega arith in
            let later = left_at (rank (kind_at rest)) (offset + size_at rest) bytes in
            let step : left_at before offset bytes ≡ (offset, attr_at rest) ∷ later =
            left_step before offset (rank (kind_at rest)) (kind_at rest) (size_at rest) (length_at rest) bytes rest (attr_at rest) refl four refl refl follows refl long refl refl refl in
            let found : cond (p (offset, attr_at rest)) (Some (offset, attr_at rest)) (find p later) ≡ Some e = ap (λ (l : List (ℕ × Attr)). find p l) (sym step) ∙ h in
            elim (cases_Bool (p (offset, attr_at rest))) [
              | inl decoded ↦
                  let same : Some (offset, attr_at rest) ≡ Some e = rw (decoded) at found in
                  let is : (offset, attr_at rest) ≡ e = cc in
                  let P : ℕ × Attr → Type 0 = λ x. (offset ≤ x.0) × (x.0 + attr_size x.1 ≤ length bytes) × (attr_size x.1 ≡ size_at (drop x.0 bytes)) in
                  let size = size_whole rest w in
                  subst P is (omega arith, omega (arith, size, length-drop offset bytes), size)
              | inr untold ↦
                  let further : find p later ≡ Some e = rw (untold) at found in
                  let found-later = found_occurs n p (rank (kind_at rest)) (offset + size_at rest) bytes e (omega arith) further in
                  (omega (arith, found-later.0), found-later.1, found-later.2)
            ]
        | inr stops ↦ absurd (let q = rw (none_stops before offset (rank (kind_at rest)) (kind_at rest) bytes rest refl refl refl stops) at h in cc)
      ]
      | inr short ↦ absurd (let q = rw (visible_short before rest short) at h in cc)
    ]

pub occurs : (kind : ℕ) (bytes : List ℕ) (e : ℕ × Attr) → first_of_kind kind bytes ≡ Some e → OccursAt bytes e.0 e.1.value
unfolding visible
occurs kind bytes e h =
    let all = found_occurs (length bytes) (λ x. eqb x.1.kind kind) 0 20 bytes e (omega arith) h in
    record { after_header = all.0; whole = all.1; size = all.2 }

-- ---- the only one of its type

follows_less : (r s : ℕ) → 0 < r → may_follow r s ≡ true → r < s
follows_less r s positive h =
    elim (cases_Bool (ltb r s)) [
      | inl lt ↦ ltb-true r s lt
      | inr untold ↦ absurd (let p = rw (ne_eqb r 0 (λ e. omega arith), untold) at h in cc)
    ]

abbrev of_kind : ℕ → ℕ × Attr → Bool
of_kind kind x = eqb x.1.kind kind

-- After an attribute whose rank is not below that of an ending type, no attribute of that type is visible.
none_after : (kind r offset : ℕ) (all : List Attr) → 0 < rank kind → rank kind ≤ r → Follows r (kinds_of all) → find (of_kind kind) (numbered offset all) ≡ None
none_after kind r offset [] positive le h = refl
none_after kind r offset (a ∷ all) positive le h =
    let less = follows_less r (rank a.kind) (omega arith) h.0 in
    elim (cases_Bool (eqb a.kind kind)) [
      | inl decoded ↦ absurd (let same = ap rank (eqb-true a.kind kind decoded) in omega (arith, same))
      | inr untold ↦ rw (untold) (none_after kind (rank a.kind) (offset + attr_size a) all positive (omega arith) h.1)
    ]

only_one : (kind r offset : ℕ) (all : List Attr) (before following : List (ℕ × Attr)) (e : ℕ × Attr) → 0 < rank kind → Follows r (kinds_of all) → numbered offset all ≡ before ++ e ∷ following → e.1.kind ≡ kind → find (of_kind kind) (numbered offset all) ≡ Some e
only_one kind r offset [] [] following e positive h parts is = absurd cc
only_one kind r offset [] (x ∷ before) following e positive h parts is = absurd cc
only_one kind r offset (a ∷ all) [] following e positive h parts is =
    let same : (offset, a) ≡ e = cc in
    let own : a.kind ≡ kind = ap (λ (x : ℕ × Attr). x.1.kind) same ∙ is in
    rw (eq-eqb a.kind kind own) (ap (λ (x : ℕ × Attr). Some x) same)
only_one kind r offset (a ∷ all) (x ∷ before) following e positive h parts is =
    let tail : numbered (offset + attr_size a) all ≡ before ++ e ∷ following = cc in
    let later = only_one kind (rank a.kind) (offset + attr_size a) all before following e positive h.1 tail is in
    elim (cases_Bool (eqb a.kind kind)) [
      | inl decoded ↦
          let same = ap rank (eqb-true a.kind kind decoded) in
          let none = none_after kind (rank a.kind) (offset + attr_size a) all positive (omega (arith, same)) h.1 in
          absurd (let p = sym none ∙ later in cc)
      | inr untold ↦ rw (untold) later
    ]

pub only_of_kind : (kind : ℕ) (bytes : List ℕ) (before following : List (ℕ × Attr)) (e : ℕ × Attr) → 0 < rank kind → numbered 20 (visible bytes) ≡ before ++ e ∷ following → e.1.kind ≡ kind → first_of_kind kind bytes ≡ Some e
unfolding visible visible_after
only_of_kind kind bytes before following e positive parts is = only_one kind 0 20 (visible bytes) before following e positive (head_follows 0 _) parts is

-- ---- the last integrity attribute

pub last_step : (later own last : Option IntegrityAlgorithm) → option_or (option_or later own) last ≡ option_or later (option_or own last)
last_step None own last = refl
last_step (Some a) own last = refl

-- ---- what is covered

-- The chunks of the covered text: its first bytes with the new length, and the bytes after them.
pub covered_chunks : (bytes covered attribute_head following : List ℕ) (offset n : ℕ) (value : List ℕ) → OccursAt bytes offset value → covered ≡ take offset bytes → attribute_head ≡ get_or covered 0 0 ∷ get_or covered 1 0 ∷ big_bytes 2 n → following ≡ drop 4 covered
    → n + 20 ≡ offset + 4 + padded (length value) → attribute_head ++ following ++ [] ≡ covered_text bytes offset
unfolding covered_text
covered_chunks bytes covered attribute_head following offset n value occurs covered-is attribute_head-is following-is n-is =
    let decoded : n ≡ offset - 20 + size_at (drop offset bytes) = omega (arith, occurs.after_header, occurs.size, n-is) in
    let long : 20 ≤ length covered = (let size = ap length covered-is in omega (arith, size, length-take offset bytes, occurs.after_header, occurs.whole)) in
    decoded_head covered attribute_head following n long attribute_head-is following-is ∙ ap (λ (l : List ℕ). with_length l n) covered-is ∙ ap (λ m. with_length (take offset bytes) m) decoded

-- If the length field already has that value, the covered text is the contiguous bytes.
pub covered_whole : (bytes covered attribute_head : List ℕ) (offset n : ℕ) (value : List ℕ) → OccursAt bytes offset value → covered ≡ take offset bytes → attribute_head ≡ get_or covered 0 0 ∷ get_or covered 1 0 ∷ big_bytes 2 n → true ≡ starts_with eqb covered attribute_head
    → n + 20 ≡ offset + 4 + padded (length value) → covered ++ [] ++ [] ≡ covered_text bytes offset
covered_whole bytes covered attribute_head offset n value occurs covered-is attribute_head-is decoded n-is =
    let parts : covered ≡ attribute_head ++ drop (length attribute_head) covered = (starts_is Decides-eqb covered attribute_head true decoded).0 refl in
    let four : length attribute_head ≡ 4 = ap length attribute_head-is in
    let whole : attribute_head ++ drop 4 covered ≡ covered = ap (λ k. attribute_head ++ drop k covered) (sym four) ∙ sym parts in
    append-nil (covered ++ []) ∙ append-nil covered ∙ sym whole ∙ sym (append-nil (attribute_head ++ drop 4 covered))
    ∙ covered_chunks bytes covered attribute_head (drop 4 covered) offset n value occurs covered-is attribute_head-is refl n-is

-- ---- what validates

-- An element that passes a test, with the elements before and after it.
record Found {X : Type 0} (p : X → Bool) (all : List X) (e : X) : Type 0 where
  before : List X
  following : List X
  parts : all ≡ before ++ e ∷ following
  passes : p e ≡ true

found_parts : {X : Type 0} (p : X → Bool) (all : List X) (e : X) → find p all ≡ Some e → Found p all e
found_parts p [] e h = absurd cc
found_parts p (x ∷ all) e h =
    elim (cases_Bool (p x)) [
      | inl decoded ↦
          let found : Some x ≡ Some e = rw (decoded) at h in
          let same : x ≡ e = cc in
          record { before = []; following = all; parts = ap (λ y. y ∷ all) same; passes = ap p (sym same) ∙ decoded }
      | inr untold ↦
          let later = found_parts p all e (rw (untold) at h) in
          record { before = x ∷ later.before; following = later.following; parts = ap (λ l. x ∷ l) later.parts; passes = later.passes }
    ]

positive_rank : (algorithm : IntegrityAlgorithm) → 0 < rank (attribute_kind algorithm)
positive_rank Sha1 = omega arith
positive_rank Sha256 = omega arith
positive_rank Sha512 = omega arith

right_signed : (bytes key : List ℕ) (algorithm : IntegrityAlgorithm) (o : Option (ℕ × Attr)) → IsMessage bytes → first_of_kind (attribute_kind algorithm) bytes ≡ o → IsSomeAnd o (IsRight bytes key algorithm) → (text : List ℕ) × IsSigned bytes key algorithm text
right_signed bytes key algorithm None message is right = absurd right
right_signed bytes key algorithm (Some entry) message is right =
    let found = found_parts (of_kind (attribute_kind algorithm)) (numbered 20 (visible bytes)) entry is in (
      covered_text bytes entry.0,
      record {
        message = message;
        before = found.before;
        offset = entry.0;
        attribute = entry.1;
        following = found.following;
        shows = found.parts;
        kind = eqb-true entry.1.kind (attribute_kind algorithm) found.passes;
        covered = refl;
        lawful = right.lawful;
        digest = right.digest;
      },
    )

pub signed : (bytes key : List ℕ) (algorithm : IntegrityAlgorithm) → IsMessage bytes → IsSomeAnd (first_of_kind (attribute_kind algorithm) bytes) (IsRight bytes key algorithm) → (text : List ℕ) × IsSigned bytes key algorithm text
signed bytes key algorithm message right = right_signed bytes key algorithm (first_of_kind (attribute_kind algorithm) bytes) message refl right

pub signed_first : (bytes key : List ℕ) (algorithm : IntegrityAlgorithm) (text : List ℕ) (s : IsSigned bytes key algorithm text) → first_of_kind (attribute_kind algorithm) bytes ≡ Some (s.offset, s.attribute)
signed_first bytes key algorithm text s = only_of_kind (attribute_kind algorithm) bytes s.before s.following (s.offset, s.attribute) (positive_rank algorithm) s.shows s.kind

pub signed_right : (bytes key : List ℕ) (algorithm : IntegrityAlgorithm) (text : List ℕ) → (s : IsSigned bytes key algorithm text) → HasDigest bytes key algorithm s.offset s.attribute.value
signed_right bytes key algorithm text s = record { rest = s.digest.rest; parts = ap (λ (t : List ℕ). integrity_hmac algorithm key t) (sym s.covered) ∙ s.digest.parts }

not_refused : (bytes key : List ℕ) (algorithm : IntegrityAlgorithm) (text : List ℕ) (error : ValidateError) → IsSigned bytes key algorithm text → IsRefused bytes key algorithm error → ⊥
not_refused bytes key algorithm text (Parse (MissingAttribute kind)) s h = let p = sym (signed_first bytes key algorithm text s) ∙ h.1 in absurd cc
not_refused bytes key algorithm text (Parse InvalidAttributeData) s h = (subst (λ (o : Option (ℕ × Attr)). IsSomeAnd o (λ entry. ¬ IsLawful algorithm entry)) (signed_first bytes key algorithm text s) h) s.lawful
not_refused bytes key algorithm text IntegrityFailed s h =
    (subst (λ (o : Option (ℕ × Attr)). IsSomeAnd o (λ entry. IsLawful algorithm entry × (¬ HasDigest bytes key algorithm entry.0 entry.1.value))) (signed_first bytes key algorithm text s) h).1 (signed_right bytes key algorithm text s)
not_refused bytes key algorithm text _ s h = h

pub accepts : (bytes key : List ℕ) (algorithm : IntegrityAlgorithm) (text : List ℕ) (result : Result IntegrityAlgorithm ValidateError) → IfOk result (λ answered. answered ≡ algorithm) → IfErr result (λ error. IsRefused bytes key algorithm error) → IsSigned bytes key algorithm text → result ≡ Ok algorithm
accepts bytes key algorithm text (Ok answered) ok err s = ap (λ a. Ok a) ok
accepts bytes key algorithm text (Err error) ok err s = absurd (not_refused bytes key algorithm text error s err)

pub answers : (bytes key : List ℕ) (algorithm : IntegrityAlgorithm) (result : Result IntegrityAlgorithm ValidateError) → IsMessage bytes → IfOk result (λ answered. answered ≡ algorithm) → OnOk result (IsSomeAnd (first_of_kind (attribute_kind algorithm) bytes) (IsRight bytes key algorithm))
    → IfOk result (λ answered. (answered ≡ algorithm) × ((text : List ℕ) × IsSigned bytes key answered text))
answers bytes key algorithm (Ok answered) message own right =
    (own, subst (λ (a : IntegrityAlgorithm). (text : List ℕ) × IsSigned bytes key a text) (sym own) (signed bytes key algorithm message right))
answers bytes key algorithm (Err error) message own right = tt

-- ---- the last integrity attribute of a list

abbrev attributes_of : List (ℕ × Attr) → List Attr
attributes_of all = map (λ (x : ℕ × Attr). x.1) all

record LastOf (all : List (ℕ × Attr)) (algorithm : IntegrityAlgorithm) : Type 0 where
  before : List (ℕ × Attr)
  entry : ℕ × Attr
  following : List (ℕ × Attr)
  parts : all ≡ before ++ entry ∷ following
  own : algorithm_of entry.1.kind ≡ Some algorithm
  none : AllByRecursion (λ x. algorithm_of x.1.kind ≡ None) following

or_none : (a b : Option IntegrityAlgorithm) → option_or a b ≡ None → (a ≡ None) × (b ≡ None)
or_none (Some x) b h = absurd cc
or_none None b h = (refl, h)

none_last : (all : List (ℕ × Attr)) → last_algorithm (attributes_of all) ≡ None → AllByRecursion (λ x. algorithm_of x.1.kind ≡ None) all
unfolding last_algorithm
none_last [] h = tt
none_last (x ∷ rest) h = let both = or_none (last_algorithm (attributes_of rest)) (algorithm_of x.1.kind) h in (both.1, none_last rest both.0)

last_none : (all : List (ℕ × Attr)) → AllByRecursion (λ x. algorithm_of x.1.kind ≡ None) all → last_algorithm (attributes_of all) ≡ None
unfolding last_algorithm
last_none [] h = refl
last_none (x ∷ rest) h = rw (last_none rest h.1) h.0

last_more : (x : ℕ × Attr) (rest : List (ℕ × Attr)) (algorithm : IntegrityAlgorithm) (o : Option IntegrityAlgorithm) → (last_algorithm (attributes_of rest) ≡ Some algorithm → LastOf rest algorithm) → last_algorithm (attributes_of rest) ≡ o → option_or o (algorithm_of x.1.kind) ≡ Some algorithm → LastOf (x ∷ rest) algorithm
last_more x rest algorithm (Some a) further is h =
    let later = further (is ∙ h) in
    record { before = x ∷ later.before; entry = later.entry; following = later.following; parts = ap (λ (l : List (ℕ × Attr)). x ∷ l) later.parts; own = later.own; none = later.none }
last_more x rest algorithm None further is h = record { before = []; entry = x; following = rest; parts = refl; own = h; none = none_last rest is }

last_parts : (all : List (ℕ × Attr)) (algorithm : IntegrityAlgorithm) → last_algorithm (attributes_of all) ≡ Some algorithm → LastOf all algorithm
unfolding last_algorithm
last_parts [] algorithm h = absurd cc
last_parts (x ∷ rest) algorithm h = last_more x rest algorithm (last_algorithm (attributes_of rest)) (last_parts rest algorithm) refl h

last_of : (before following : List (ℕ × Attr)) (entry : ℕ × Attr) (algorithm : IntegrityAlgorithm) → AllByRecursion (λ x. algorithm_of x.1.kind ≡ None) following → algorithm_of entry.1.kind ≡ Some algorithm → last_algorithm (attributes_of (before ++ entry ∷ following)) ≡ Some algorithm
unfolding last_algorithm
last_of [] following entry algorithm none own = rw (last_none following none) own
last_of (x ∷ before) following entry algorithm none own = rw (last_of before following entry algorithm none own) refl

own_kind : (kind : ℕ) (algorithm : IntegrityAlgorithm) → algorithm_of kind ≡ Some algorithm → kind ≡ attribute_kind algorithm
own_kind kind algorithm h =
    elim (cases_Bool (eqb kind integrity_kind)) [
      | inl m ↦
          let found : Some Sha1 ≡ Some algorithm = rw (m) at h in
          let is : Sha1 ≡ algorithm = cc in
          eqb-true kind integrity_kind m ∙ ap attribute_kind is
      | inr m ↦ elim (cases_Bool (eqb kind sha256_kind)) [
        | inl s ↦
            let found : Some Sha256 ≡ Some algorithm = rw (m, s) at h in
            let is : Sha256 ≡ algorithm = cc in
            eqb-true kind sha256_kind s ∙ ap attribute_kind is
        | inr s ↦ elim (cases_Bool (eqb kind sha512_kind)) [
          | inl l ↦
              let found : Some Sha512 ≡ Some algorithm = rw (m, s, l) at h in
              let is : Sha512 ≡ algorithm = cc in
              eqb-true kind sha512_kind l ∙ ap attribute_kind is
          | inr l ↦ absurd (let found = rw (m, s, l) at h in cc)
        ]
      ]
    ]

kind_own : (algorithm : IntegrityAlgorithm) → algorithm_of (attribute_kind algorithm) ≡ Some algorithm
kind_own Sha1 = refl
kind_own Sha256 = refl
kind_own Sha512 = refl

pub signed_validates : (bytes key : List ℕ) (algorithm : IntegrityAlgorithm) (text : List ℕ) → last_algorithm (visible bytes) ≡ Some algorithm → IsSigned bytes key algorithm text → Validates bytes key algorithm text
signed_validates bytes key algorithm text is s =
    let last = last_parts (numbered 20 (visible bytes)) algorithm (ap last_algorithm (map_numbered 20 (visible bytes)) ∙ is) in
    let first = only_of_kind (attribute_kind algorithm) bytes last.before last.following last.entry (positive_rank algorithm) last.parts (own_kind last.entry.1.kind algorithm last.own) in
    let both : Some last.entry ≡ Some (s.offset, s.attribute) = sym first ∙ signed_first bytes key algorithm text s in
    let same : last.entry ≡ (s.offset, s.attribute) = cc in
    record {
      signed = record s { before = last.before; following = last.following; shows = last.parts ∙ ap (λ (e : ℕ × Attr). last.before ++ e ∷ last.following) same };
      last = last.none;
    }

pub validates_last : (bytes key : List ℕ) (algorithm : IntegrityAlgorithm) (text : List ℕ) → Validates bytes key algorithm text → last_algorithm (visible bytes) ≡ Some algorithm
validates_last bytes key algorithm text v =
    let own = ap algorithm_of v.signed.kind ∙ kind_own algorithm in
    ap last_algorithm (sym (map_numbered 20 (visible bytes)) ∙ ap attributes_of v.signed.shows) ∙ last_of v.signed.before v.signed.following (v.signed.offset, v.signed.attribute) algorithm v.last own

-- ---- the result under credentials

pub valid_by : (bytes : List ℕ) (credentials : MessageIntegrityCredentials) (key : Key) (algorithm : IntegrityAlgorithm) (result : Result IntegrityAlgorithm ValidateError) → last_algorithm (visible bytes) ≡ Some algorithm → key ≡ key_of credentials algorithm
    → IfOk result (λ answered. (answered ≡ key.algorithm) × ((text : List ℕ) × IsSigned bytes key.bytes answered text)) → IfOk result (λ answered. (text : List ℕ) × Validates bytes (key_of credentials answered).bytes answered text)
valid_by bytes credentials key algorithm (Err error) last is h = tt
valid_by bytes credentials key algorithm (Ok answered) last is h =
    let own : key.algorithm ≡ algorithm = ap (λ (k : Key). k.algorithm) is ∙ key_for credentials algorithm in
    let same : algorithm ≡ answered = sym own ∙ sym h.0 in
    let bytes-are : key.bytes ≡ (key_of credentials answered).bytes = ap (λ (k : Key). k.bytes) is ∙ ap (λ (a : IntegrityAlgorithm). (key_of credentials a).bytes) same in
    (h.1.0, signed_validates bytes (key_of credentials answered).bytes answered h.1.0 (last ∙ ap (λ (a : IntegrityAlgorithm). Some a) same) (subst (λ (k : List ℕ). IsSigned bytes k answered h.1.0) bytes-are h.1.1))

pub accepted_by : (bytes : List ℕ) (credentials : MessageIntegrityCredentials) (key : Key) (algorithm : IntegrityAlgorithm) (result : Result IntegrityAlgorithm ValidateError) → last_algorithm (visible bytes) ≡ Some algorithm → key ≡ key_of credentials algorithm
    → ((text : List ℕ) → IsSigned bytes key.bytes key.algorithm text → result ≡ Ok key.algorithm)
    → (a : IntegrityAlgorithm) (text : List ℕ) → Validates bytes (key_of credentials a).bytes a text → result ≡ Ok a
accepted_by bytes credentials key algorithm result last is accepts a text v =
    let both : Some algorithm ≡ Some a = sym last ∙ validates_last bytes (key_of credentials a).bytes a text v in
    let same : algorithm ≡ a = cc in
    let key-is : key ≡ key_of credentials a = is ∙ ap (λ (b : IntegrityAlgorithm). key_of credentials b) same in
    let own : key.algorithm ≡ a = ap (λ (k : Key). k.algorithm) key-is ∙ key_for credentials a in
    let P : List ℕ → IntegrityAlgorithm → Type 0 = λ k b. IsSigned bytes k b text in
    let one = subst (λ (k : List ℕ). IsSigned bytes k a text) (sym (ap (λ (k : Key). k.bytes) key-is)) v.signed in
    let two = subst (λ (b : IntegrityAlgorithm). IsSigned bytes key.bytes b text) (sym own) one in
    accepts text two ∙ ap (λ (b : IntegrityAlgorithm). Ok b) own

pub none_validates : (bytes key : List ℕ) (algorithm : IntegrityAlgorithm) (text : List ℕ) → last_algorithm (visible bytes) ≡ None → Validates bytes key algorithm text → ⊥
none_validates bytes key algorithm text none v = let p = sym none ∙ validates_last bytes key algorithm text v in absurd cc

-- A group of errors for proofs: unfolding it unfolds both definitions named on its `unfolding` line.
unfoldable pub refusals : Type 0
unfolding refusal length_refusal
refusals = Unit {0}
