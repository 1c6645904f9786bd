-- Bytes that are accepted as a message are the text of what is decoded from them.
use Rattle.std.proofs.Common.{◌≡◌, ℕ, zero, suc, ◌+◌, ◌≤◌, true, false, ltb, eqb, List, [], ◌∷◌, ◌++◌, length, take, drop, Option, Some, None, refl, sym, ap, ◌∙◌, append_assoc, arith, inl, inr}
use Rattle.std.specs.List.{AllByRecursion}
use Rattle.std.proofs.lemmas.Bool.{cases_Bool, ltb-false, ne_eqb}
use Rattle.std.proofs.lemmas.List.{length-take, length-drop, take-append-drop, drop-drop}
use Rattle.byteorder.specs.Endian.{big_bytes}
use Rattle.byteorder.specs.Numbers.{big_from-lt}
use Rattle.std.specs.Option.{option_or}
use Rattle.stun_types_wire.specs.declared.error.StunParseError.{StunParseError}
use Rattle.stun_types_wire.specs.Attributes.{Attr, attr_at, kind_at, length_at, size_at, padding_len, is_whole, attributes, numbered}
use Rattle.stun_types_wire.specs.Shape.{rank, may_follow, visible_after, after_visible, visible_rank, last_rank, kinds_of, shape_prefix, IsShape}
use Rattle.stun_types_wire.specs.Grammar.{may_begin, header_refusal, length_refusal, fingerprint_refusal, rest_refusal, body_refusal, refusal, visible, number_at}
use Rattle.stun_types_wire.specs.Text.{header_text, padded_text, Part, part_text, parts_text, attributes_of, FitsPart, IsTextOf}
use Rattle.stun_types_wire.specs.Fingerprinted.{AreRightFingerprints}
use Rattle.stun_types_wire.proofs.Fingerprints.{right_where_not_refused}
use Rattle.stun_types_wire.specs.Headers.{AreBytes}
use Rattle.stun_types_wire.proofs.Numbers.{byte_below}
use Rattle.stun_types_wire.proofs.Whole.{whole_long}
use Rattle.stun_types_wire.proofs.Scan.{visible_step, visible_short, visible_stops, after_step, after_stops}
use Rattle.stun_types_wire.proofs.Longest.{head_follows, follows_shape}
use Rattle.stun_types_wire.proofs.HeaderLaws.{are_parts, first_bytes, header_cases, wrong, short, whole, decodes_header}
use Rattle.stun_types_wire.proofs.Texts.{Ended, leaves_by}

-- ---- one attribute

-- The attribute with which some bytes begin, and its padding.
abbrev part_at : List ℕ → Part
part_at bytes = record { attribute = attr_at bytes; padding = take (padding_len (length_at bytes)) (drop (4 + length_at bytes) bytes) }

length-value : (bytes : List ℕ) → is_whole bytes ≡ true → length (attr_at bytes).value ≡ length_at bytes
length-value bytes h =
    let long = whole_long bytes h in
    omega (arith, length-take (length_at bytes) (drop 4 bytes), length-drop 4 bytes)

fits_part : (bytes : List ℕ) → AreBytes bytes → is_whole bytes ≡ true → FitsPart (part_at bytes)
fits_part bytes are h =
    let long = whole_long bytes h in
    let len = length_at bytes in
    let own = length-value bytes h in
    let kind = big_from-lt 0 2 bytes (byte_below bytes are) in
    let short = big_from-lt 0 2 (drop 2 bytes) (byte_below (drop 2 bytes) (are_parts 2 bytes are).1) in
    record {
      attribute = record { kind = kind; value = rw own short };
      padding = rw own (omega (arith, length-take (padding_len len) (drop (4 + len) bytes), length-drop (4 + len) bytes));
    }

-- If bytes begin with a complete attribute, they are the text of that attribute and its padding, followed by
-- the rest.
head_text : (bytes : List ℕ) → AreBytes bytes → is_whole bytes ≡ true → 4 ≤ length bytes → bytes ≡ part_text (part_at bytes) ++ drop (size_at bytes) bytes
unfolding padded_text
head_text bytes are h four =
    let long = whole_long bytes h in
    let len = length_at bytes in
    let pad = padding_len len in
    let own = length-value bytes h in
    let type_is = first_bytes 2 bytes are (omega arith) in
    let length_is = first_bytes 2 (drop 2 bytes) (are_parts 2 bytes are).1 (omega (arith, length-drop 2 bytes)) in
    let decoded : big_bytes 2 (length (attr_at bytes).value) ≡ take 2 (drop 2 bytes) = ap (big_bytes 2) own ∙ length_is in
    let indexes : pad + (len + 4) ≡ size_at bytes = omega arith in
    let end : drop pad (drop (4 + len) bytes) ≡ drop (size_at bytes) bytes = drop-drop pad (4 + len) bytes ∙ ap (λ n. drop n bytes) (omega arith) in
    let following : drop len (drop 4 bytes) ≡ drop (4 + len) bytes = drop-drop len 4 bytes ∙ ap (λ n. drop n bytes) (omega arith) in
    sym (take-append-drop 2 bytes)
    ∙ ap (λ (l : List ℕ). take 2 bytes ++ l) (sym (take-append-drop 2 (drop 2 bytes))
    ∙ ap (λ (l : List ℕ). take 2 (drop 2 bytes) ++ l) (drop-drop 2 2 bytes ∙ sym (take-append-drop len (drop 4 bytes))
    ∙ ap (λ (l : List ℕ). take len (drop 4 bytes) ++ l) (following ∙ sym (take-append-drop pad (drop (4 + len) bytes)) ∙ ap (λ (l : List ℕ). take pad (drop (4 + len) bytes) ++ l) end)))
    ∙ joined (take 2 bytes) (take 2 (drop 2 bytes)) (take len (drop 4 bytes)) (take pad (drop (4 + len) bytes)) (drop (size_at bytes) bytes) (big_bytes 2 (kind_at bytes)) (big_bytes 2 (length (attr_at bytes).value)) (sym type_is) (sym decoded)
  where
    joined : (a b v p rest a' b' : List ℕ) → a ≡ a' → b ≡ b' → a ++ (b ++ (v ++ (p ++ rest))) ≡ (a' ++ b' ++ v ++ p) ++ rest
    joined a b v p rest a' b' q r = rw (q, r) (simp append_assoc)

-- ---- all of them

-- The bytes begin with the visible attributes, each with its padding.
pub record HasParts (before : ℕ) (rest : List ℕ) : Type 0 where
  pub parts : List Part
  pub text : rest ≡ parts_text parts ++ after_visible before rest
  pub shows : attributes_of parts ≡ visible_after before rest
  pub each : AllByRecursion FitsPart parts

no_parts : (before : ℕ) (rest : List ℕ) → visible_after before rest ≡ [] → HasParts before rest
unfolding parts_text
no_parts before rest none = record { parts = []; text = sym (after_stops before rest none); shows = sym none; each = tt }

more_parts : (before : ℕ) (rest : List ℕ) → AreBytes rest → is_whole rest ≡ true → 4 ≤ length rest → may_follow before (rank (kind_at rest)) ≡ true → HasParts (rank (kind_at rest)) (drop (size_at rest) rest) → HasParts before rest
unfolding parts_text
more_parts before rest are h four follows later = record {
  parts = part_at rest ∷ later.parts;
  text = head_text rest are h four ∙ ap (λ (l : List ℕ). part_text (part_at rest) ++ l) (later.text ∙ ap (λ (l : List ℕ). parts_text later.parts ++ l) (sym (after_step before rest h follows)))
      ∙ sym (append_assoc (part_text (part_at rest)) (parts_text later.parts) (after_visible before rest));
  shows = ap (λ (l : List Attr). attr_at rest ∷ l) later.shows ∙ sym (visible_step before rest h follows);
  each = (fits_part rest are h, later.each);
}

pub has_parts : (n before : ℕ) (rest : List ℕ) → AreBytes rest → length rest ≤ n → HasParts before rest
has_parts zero before rest are less = no_parts before rest (visible_short before rest (not_long rest less))
  where
    not_long : (l : List ℕ) → length l ≤ 0 → is_whole l ≡ false
    not_long [] p = refl
    not_long (b ∷ l) p = absurd (omega arith)
has_parts (suc n) before rest are less =
    elim (cases_Bool (is_whole rest)) [
      | inl h ↦ elim (cases_Bool (may_follow before (rank (kind_at rest)))) [
        | inl follows ↦
            let long = whole_long rest h in
            more_parts before rest are h (omega arith) follows (has_parts n (rank (kind_at rest)) (drop (size_at rest) rest) (are_parts (size_at rest) rest are).1 (omega (arith, length-drop (size_at rest) rest)))
        | inr stops ↦ no_parts before rest (visible_stops before rest stops)
      ]
      | inr h ↦ no_parts before rest (visible_short before rest h)
    ]

-- ---- the refusals that there are not

-- If `option_or` of two refusals is none, both are none.
or_none : (a b : Option StunParseError) → option_or a b ≡ None → (a ≡ None) × (b ≡ None)
or_none None b h = (refl, h)
or_none (Some e) b h = absurd (let p : Some e ≡ None = h in cc)

no_rest_refusal : (before : ℕ) (rest : List ℕ) → rest_refusal before rest ≡ None → Ended before rest
unfolding rest_refusal
no_rest_refusal before [] h = inl refl
no_rest_refusal before (b ∷ more) h =
    let rest : List ℕ = b ∷ more in
    let some : eqb (length rest) 0 ≡ false = ne_eqb (length rest) 0 (λ e. omega arith) in
    elim (cases_Bool (ltb (length rest) 4)) [
      | inl less ↦ absurd (let p = rw (some, less) at h in cc)
      | inr four ↦ elim (cases_Bool (may_follow before (rank (kind_at rest)))) [
        | inl follows ↦ absurd (let p = rw (some, four, follows) at h in cc)
        | inr stops ↦ inr (ltb-false (length rest) 4 four, stops)
      ]
    ]

no_length_refusal : (bytes : List ℕ) → length_refusal bytes ≡ None → length bytes ≡ 20 + length_at bytes
unfolding length_refusal
no_length_refusal bytes h =
    elim (cases_Bool (ltb (length bytes) (20 + length_at bytes))) [
      | inl less ↦ absurd (let p = rw less at h in cc)
      | inr long ↦ elim (cases_Bool (ltb (20 + length_at bytes) (length bytes))) [
        | inl more ↦ absurd (let p = rw (long, more) at h in cc)
        | inr most ↦ let a = ltb-false (length bytes) (20 + length_at bytes) long in let b = ltb-false (20 + length_at bytes) (length bytes) most in omega arith
      ]
    ]

no_header_refusal : (bytes : List ℕ) → header_refusal bytes ≡ None → (may_begin bytes ≡ true) × (20 ≤ length bytes)
no_header_refusal bytes h = elim (header_cases bytes) [
  | wrong _ is ↦ absurd cc
  | short _ _ is ↦ absurd cc
  | whole begins long _ ↦ (begins, long)
]

shape_of : (body : List ℕ) → IsShape (kinds_of (visible_after 0 body))
unfolding visible_after
shape_of body = follows_shape (kinds_of (shape_prefix 0 (attributes body))) (head_follows 0 (attributes body))

pub has_text : (bytes : List ℕ) → AreBytes bytes → refusal bytes ≡ None → IsTextOf (kind_at bytes) (number_at bytes) (visible bytes) bytes
unfolding refusal body_refusal visible visible_rank
has_text bytes are h =
    let body = drop 20 bytes in
    let top = or_none (header_refusal bytes) (option_or (length_refusal bytes) (body_refusal bytes)) h in
    let next = or_none (length_refusal bytes) (body_refusal bytes) top.1 in
    let last = or_none (fingerprint_refusal bytes (numbered 20 (visible_after 0 body))) (rest_refusal (visible_rank 0 body) (after_visible 0 body)) next.1 in
    let begins = no_header_refusal bytes top.0 in
    let decoded = decodes_header bytes are begins.0 begins.1 in
    let len = no_length_refusal bytes next.0 in
    let size : length body ≡ length_at bytes = omega (arith, length-drop 20 bytes) in
    let parts = has_parts (length body) 0 body (are_parts 20 bytes are).1 (omega arith) in
    let following = after_visible 0 body in
    let body_size : length (parts_text parts.parts ++ following) ≡ length_at bytes = sym (ap length parts.text) ∙ size in
    record {
      parts = parts.parts;
      following = following;
      text = decoded.text ∙ ap (λ (l : List ℕ). header_text (kind_at bytes) (length_at bytes) (number_at bytes) ++ l) parts.text
          ∙ ap (λ n. header_text (kind_at bytes) n (number_at bytes) ++ (parts_text parts.parts ++ following)) (sym body_size);
      kind_fits = decoded.kind_fits;
      number_fits = decoded.number_fits;
      length_fits = rw body_size decoded.len_fits;
      shows = parts.shows;
      each = parts.each;
      shape = shape_of body;
      ended = leaves_by (visible_after 0 body) following (no_rest_refusal (last_rank 0 (visible_after 0 body)) following last.1);
    }

pub has_right_fingerprint : (bytes : List ℕ) → refusal bytes ≡ None → AreRightFingerprints bytes (numbered 20 (visible bytes))
unfolding refusal body_refusal visible
has_right_fingerprint bytes h =
    let body = drop 20 bytes in
    let top = or_none (header_refusal bytes) (option_or (length_refusal bytes) (body_refusal bytes)) h in
    let next = or_none (length_refusal bytes) (body_refusal bytes) top.1 in
    let last = or_none (fingerprint_refusal bytes (numbered 20 (visible_after 0 body))) (rest_refusal (visible_rank 0 body) (after_visible 0 body)) next.1 in
    right_where_not_refused bytes (numbered 20 (visible_after 0 body)) last.0
