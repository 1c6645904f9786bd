-- The bytes of the visible attributes contain exactly these attributes.
use Rattle.std.proofs.Common.{◌≡◌, ℕ, zero, suc, ◌+◌, ◌-◌, ◌≤◌, Bool, true, false, eqb, Some, None, List, [], ◌∷◌, length, take, drop, refl, sym, ap, ◌∙◌, arith, inl, inr}
use Rattle.std.specs.Prelude.{find, sum_by}
use Rattle.std.specs.Option.{option_map}
use Rattle.std.proofs.lemmas.Bool.{cases_Bool}
use Rattle.std.proofs.lemmas.List.{drop-take, length-drop, length-take}
use Rattle.std.proofs.lemmas.List.Sums.{sum_by-cons}
use Rattle.stun_types_attributes.specs.Wire.Attributes.{Attr, attr_at, attr_size, attributes, first_attributes, is_whole, kind_at, length_at, numbered, padded, size_at}
use Rattle.stun_types_attributes.specs.Wire.Shape.{after_visible, may_follow, rank, visible_after}
use Rattle.stun_types_attributes.specs.Wire.Grammar.{visible}
use Rattle.stun_types_attributes.proofs.Wire.Scan.{Continues, after_stops, visible_short, visible_step, visible_stops}
use Rattle.stun_types_attributes.proofs.Wire.Whole.{attributes_short, attributes_whole, not_whole, size_whole, whole_from, whole_long}
use Rattle.stun_types_message.specs.Shows.{IsVisibleText}

-- The bytes cut off after the visible attributes contain exactly these.
record Cut (before : ℕ) (body : List ℕ) : Type 0 where
  fits : sum_by attr_size (visible_after before body) ≤ length body
  same : attributes (take (sum_by attr_size (visible_after before body)) body) ≡ visible_after before body

nothing : attributes [] ≡ []
unfolding attributes first_attributes
nothing = refl

none_cut : (before : ℕ) (body : List ℕ) → visible_after before body ≡ [] → Cut before body
none_cut before body h = record { fits = rw h (omega arith); same = rw h nothing }

take_both : (l m : ℕ) (xs : List ℕ) → l ≤ m → take l (take m xs) ≡ take l xs
take_both zero m xs h = refl
take_both (suc l) zero xs h = absurd (omega arith)
take_both (suc l) (suc m) [] h = refl
take_both (suc l) (suc m) (x ∷ xs) h = ap (λ (r : List ℕ). x ∷ r) (take_both l m xs (omega arith))

-- Cutting bytes off after their first attribute header does not change that header.
head_taken : (m : ℕ) (body : List ℕ) → 4 ≤ length body
    → (kind_at (take (suc (suc (suc (suc m)))) body) ≡ kind_at body) × (length_at (take (suc (suc (suc (suc m)))) body) ≡ length_at body) × (drop 4 (take (suc (suc (suc (suc m)))) body) ≡ take m (drop 4 body))
head_taken m (a ∷ b ∷ c ∷ d ∷ body) h = (refl, refl, refl)
head_taken m [] h = absurd (omega arith)
head_taken m (a ∷ []) h = absurd (omega arith)
head_taken m (a ∷ b ∷ []) h = absurd (omega arith)
head_taken m (a ∷ b ∷ c ∷ []) h = absurd (omega arith)

-- Cutting bytes off after their first attribute does not change that attribute.
record AttributeHead (k : ℕ) (body : List ℕ) : Type 0 where
  whole : is_whole (take k body) ≡ true
  attribute : attr_at (take k body) ≡ attr_at body
  size : size_at (take k body) ≡ size_at body

attribute_head_taken : (more : ℕ) (body : List ℕ) → is_whole body ≡ true → AttributeHead (size_at body + more) body
attribute_head_taken more body whole =
    let long = whole_long body whole in
    let k = size_at body + more in
    let m = padded (length_at body) + more in
    let k-is : k ≡ suc (suc (suc (suc m))) = omega arith in
    let head = head_taken m body (omega (arith, long)) in
    let kind : kind_at (take k body) ≡ kind_at body = ap (λ n. kind_at (take n body)) k-is ∙ head.0 in
    let len : length_at (take k body) ≡ length_at body = ap (λ n. length_at (take n body)) k-is ∙ head.1 in
    let following : drop 4 (take k body) ≡ take m (drop 4 body) = ap (λ n. drop 4 (take n body)) k-is ∙ head.2 in
    let size : size_at (take k body) ≡ size_at body = ap (λ n. 4 + padded n) len in
    let value : take (length_at (take k body)) (drop 4 (take k body)) ≡ take (length_at body) (drop 4 body) =
    ap (λ n. take n (drop 4 (take k body))) len ∙ ap (take (length_at body)) following ∙ take_both (length_at body) m (drop 4 body) (omega arith) in
    let reaches : size_at body ≤ length (take k body) = omega (arith, long, length-take k body) in
    record {
      whole = whole_from (take k body) (omega (arith, reaches)) (omega (arith, reaches, size));
      attribute = ap (λ n. let a : Attr = record { kind = n; value = take (length_at (take k body)) (drop 4 (take k body)) } in a) kind ∙ ap (λ (v : List ℕ). let a : Attr = record { kind = kind_at body; value = v } in a) value;
      size = size;
    }

cut_more : (before : ℕ) (body : List ℕ) → is_whole body ≡ true → may_follow before (rank (kind_at body)) ≡ true → Cut (rank (kind_at body)) (drop (size_at body) body) → Cut before body
cut_more before body whole follows others =
    let rest = drop (size_at body) body in
    let later = visible_after (rank (kind_at body)) rest in
    let more = sum_by attr_size later in
    let long = whole_long body whole in
    let step = visible_step before body whole follows in
    let others-fit = others.fits in
    let sum : sum_by attr_size (visible_after before body) ≡ size_at body + more = ap (sum_by attr_size) step ∙ sum_by-cons attr_size (attr_at body) later ∙ ap (λ n. n + more) (size_whole body whole) in
    let text = take (size_at body + more) body in
    let attribute_head = attribute_head_taken more body whole in
    record {
      fits = omega (arith, sum, others-fit, long, length-drop (size_at body) body);
      same = ap (λ n. attributes (take n body)) sum ∙ attributes_whole text attribute_head.whole
          ∙ ap (λ (a : Attr). a ∷ attributes (drop (size_at text) text)) attribute_head.attribute
          ∙ ap (λ (l : List Attr). attr_at body ∷ l) (ap (λ n. attributes (drop n text)) attribute_head.size ∙ ap attributes (drop-take (size_at body) more body) ∙ others.same)
          ∙ sym step;
    }

cut_visible : (n before : ℕ) (body : List ℕ) → length body ≤ n → Cut before body
cut_visible zero before body few = none_cut before body (visible_short before body (not_whole body (inl (omega (arith, few)))))
cut_visible (suc n) before body few =
    elim (cases_Bool (is_whole body)) [
      | inr short ↦ none_cut before body (visible_short before body short)
      | inl whole ↦ elim (cases_Bool (may_follow before (rank (kind_at body)))) [
        | inr stops ↦ none_cut before body (visible_stops before body stops)
        | inl follows ↦ cut_more before body whole follows (cut_visible n (rank (kind_at body)) (drop (size_at body) body) (let long = whole_long body whole in omega (arith, few, long, length-drop (size_at body) body)))
      ]
    ]

cut_of : (bytes : List ℕ) → Cut 0 (drop 20 bytes)
cut_of bytes = cut_visible (length (drop 20 bytes)) 0 (drop 20 bytes) (omega arith)

-- ---- where the scan ends

-- If no more attributes are visible, the visible ones end here.
pub end_of_visible : (before : ℕ) (rest bytes : List ℕ) → Continues before rest bytes → visible_after before rest ≡ [] → (length bytes - length rest ≡ 20 + sum_by attr_size (visible bytes)) × (20 + sum_by attr_size (visible bytes) ≤ length bytes)
unfolding visible after_visible
end_of_visible before rest bytes so_far none =
    let cut = cut_of bytes in
    let fits = cut.fits in
    let within = so_far.within in
    let following : rest ≡ drop (sum_by attr_size (visible_after 0 (drop 20 bytes))) (drop 20 bytes) = sym (after_stops before rest none) ∙ so_far.following in
    let size = ap length following in
    (omega (arith, fits, within, size, length-drop 20 bytes, length-drop (sum_by attr_size (visible_after 0 (drop 20 bytes))) (drop 20 bytes)), omega (arith, fits, within, length-drop 20 bytes))

-- The bytes between the header and that end are the bytes of the visible attributes.
pub visible_text : (bytes attribute_head text : List ℕ) (end : ℕ) → end ≡ 20 + sum_by attr_size (visible bytes) → end ≤ length bytes → attribute_head ≡ take end bytes → text ≡ drop 20 attribute_head → IsVisibleText bytes text
unfolding visible
visible_text bytes attribute_head text end end-is long attribute_head-is text-is =
    let size = sum_by attr_size (visible_after 0 (drop 20 bytes)) in
    let cut = cut_of bytes in
    let text-at : text ≡ take size (drop 20 bytes) = text-is ∙ ap (drop 20) attribute_head-is ∙ ap (λ n. drop 20 (take n bytes)) end-is ∙ drop-take 20 size bytes in
    let shows : attributes text ≡ visible_after 0 (drop 20 bytes) = ap attributes text-at ∙ cut.same in
    let fits = cut.fits in
    let len : length text ≡ size = ap length text-at ∙ omega (arith, fits, length-take size (drop 20 bytes)) in
    record { shows = shows; whole = ap (sum_by attr_size) shows ∙ sym len }

-- ---- one attribute after another

abbrev of_kind : ℕ → ℕ × Attr → Bool
of_kind kind x = eqb x.1.kind kind

-- If the rest of the visible attributes is not empty, it starts with a complete attribute.
pub begins_whole : (left : List ℕ) → (length left ≡ 0 → ⊥) → sum_by attr_size (attributes left) ≡ length left → is_whole left ≡ true
begins_whole left some sum =
    elim (cases_Bool (is_whole left)) [
      | inl whole ↦ whole
      | inr short ↦ absurd (some (sym sum ∙ ap (sum_by attr_size) (attributes_short left short)))
    ]

pub left_sum : (left : List ℕ) → is_whole left ≡ true → sum_by attr_size (attributes left) ≡ length left → sum_by attr_size (attributes (drop (size_at left) left)) ≡ length (drop (size_at left) left)
left_sum left whole sum =
    let long = whole_long left whole in
    let step : sum_by attr_size (attributes left) ≡ size_at left + sum_by attr_size (attributes (drop (size_at left) left)) =
    ap (sum_by attr_size) (attributes_whole left whole) ∙ sum_by-cons attr_size (attr_at left) (attributes (drop (size_at left) left)) ∙ ap (λ n. n + sum_by attr_size (attributes (drop (size_at left) left))) (size_whole left whole) in
    omega (arith, sum, step, long, length-drop (size_at left) left)

-- The first attribute, as the code slices it.
pub attribute_is : (left attribute after_header value : List ℕ) (raw : Attr) (kind size len : ℕ) → raw.kind ≡ kind → raw.value ≡ value → kind ≡ kind_at left → size ≡ size_at left → len ≡ length_at left
    → attribute ≡ take size left → after_header ≡ drop 4 attribute → value ≡ take len after_header → raw ≡ attr_at left
attribute_is left attribute after_header value raw kind size len raw-kind raw-value kind-is size-is len-is attribute-is header-is value-is =
    let l = length_at left in
    let text : value ≡ take l (drop 4 left) =
    value-is ∙ ap (λ n. take n after_header) len-is ∙ ap (take l) (header-is ∙ ap (drop 4) (attribute-is ∙ ap (λ n. take n left) size-is) ∙ drop-take 4 (padded l) left) ∙ take_both l (padded l) (drop 4 left) (omega arith) in
    ap (λ n. let a : Attr = record { kind = n; value = raw.value } in a) (raw-kind ∙ kind-is) ∙ ap (λ (v : List ℕ). let a : Attr = record { kind = kind_at left; value = v } in a) (raw-value ∙ text)

-- The first attribute of a type is the first attribute, if that has the type.
pub first_at : (left : List ℕ) (offset kind : ℕ) → is_whole left ≡ true → eqb (kind_at left) kind ≡ true → find (of_kind kind) (numbered offset (attributes left)) ≡ Some (offset, attr_at left)
first_at left offset kind whole same = rw (attributes_whole left whole, same) refl

pub first_at_after : (left : List ℕ) (offset kind : ℕ) → is_whole left ≡ true → eqb (kind_at left) kind ≡ false → find (of_kind kind) (numbered offset (attributes left)) ≡ find (of_kind kind) (numbered (offset + size_at left) (attributes (drop (size_at left) left)))
first_at_after left offset kind whole other = rw (attributes_whole left whole, other, size_whole left whole) refl

pub none_at : (left : List ℕ) (offset kind : ℕ) → length left ≡ 0 → find (of_kind kind) (numbered offset (attributes left)) ≡ None
none_at left offset kind empty = rw (attributes_short left (not_whole left (inl (omega (arith, empty))))) refl

-- The search finds the same attribute with and without offsets.
alone : (offset kind : ℕ) (all : List Attr) → option_map (λ x. x.1) (find (of_kind kind) (numbered offset all)) ≡ find (λ (a : Attr). eqb a.kind kind) all
alone offset kind [] = refl
alone offset kind (a ∷ all) =
    elim (cases_Bool (eqb a.kind kind)) [
      | inl decoded ↦ rw (decoded) refl
      | inr untold ↦ rw (untold) (alone (offset + attr_size a) kind all)
    ]

pub found_alone : (offset kind : ℕ) (all : List Attr) (e : ℕ × Attr) → find (of_kind kind) (numbered offset all) ≡ Some e → find (λ (a : Attr). eqb a.kind kind) all ≡ Some e.1
found_alone offset kind all e h = sym (alone offset kind all) ∙ ap (option_map (λ (x : ℕ × Attr). x.1)) h

pub none_alone : (offset kind : ℕ) (all : List Attr) → find (of_kind kind) (numbered offset all) ≡ None → find (λ (a : Attr). eqb a.kind kind) all ≡ None
none_alone offset kind all h = sym (alone offset kind all) ∙ ap (option_map (λ (x : ℕ × Attr). x.1)) h
