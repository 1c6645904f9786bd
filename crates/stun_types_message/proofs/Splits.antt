-- The visible attributes before a given one, in texts with a common prefix.
use Rattle.std.proofs.Common.{◌≡◌, ℕ, ◌+◌, ◌≤◌, true, List, [], ◌∷◌, ◌++◌, length, drop, refl, sym, ap, subst, ◌∙◌, arith, inl, inr}
use Rattle.std.proofs.lemmas.Bool.{cases_Bool}
use Rattle.std.proofs.lemmas.List.{length-drop, drop-append-le, take-append-le}
use Rattle.stun_types_attributes.specs.Wire.Attributes.{Attr, attr_size, attr_at, kind_at, length_at, size_at, is_whole}
use Rattle.stun_types_attributes.specs.Wire.Shape.{rank, may_follow}
use Rattle.stun_types_attributes.proofs.Wire.Whole.{whole_long, size_whole}
use Rattle.stun_types_attributes.proofs.Wire.Scan.{visible_short}
use Rattle.stun_types_attributes.proofs.Wire.Left.{left_at, none_stops, left_step}

-- ---- the first attribute that is left

record Step (before offset : ℕ) (bytes : List ℕ) (e : ℕ × Attr) (later : List (ℕ × Attr)) : Type 0 where
  index : e.0 ≡ offset
  whole : is_whole (drop offset bytes) ≡ true
  is : e.1 ≡ attr_at (drop offset bytes)
  rest : left_at (rank e.1.kind) (offset + attr_size e.1) bytes ≡ later

step_of : (before offset : ℕ) (bytes : List ℕ) (e : ℕ × Attr) (later : List (ℕ × Attr)) → left_at before offset bytes ≡ e ∷ later → Step before offset bytes e later
step_of before offset bytes e later h =
    let rest = drop offset bytes in
    elim (cases_Bool (is_whole rest)) [
      | inl w ↦ elim (cases_Bool (may_follow before (rank (kind_at rest)))) [
        | inl follows ↦
            let long = whole_long rest w in
            let four : 4 ≤ length rest = omega arith in
            let next = left_at (rank (kind_at rest)) (offset + size_at rest) bytes in
            let step : left_at before offset bytes ≡ (offset, attr_at rest) ∷ next =
            left_step before offset (rank (kind_at rest)) (kind_at rest) (size_at rest) (length_at rest) bytes rest (attr_at rest) refl four refl refl follows refl long refl refl refl in
            let both : (offset, attr_at rest) ∷ next ≡ e ∷ later = sym step ∙ h in
            let first : (offset, attr_at rest) ≡ e = cc in
            let tail : next ≡ later = cc in
            let own : Step before offset bytes (offset, attr_at rest) later = record {
              index = refl;
              whole = w;
              is = refl;
              rest = ap (λ n. left_at (rank (kind_at rest)) (offset + n) bytes) (size_whole rest w) ∙ tail;
            } in
            let P : ℕ × Attr → Type 0 = λ x. Step before offset bytes x later in
            subst P first own
        | inr stops ↦ absurd (let q = rw (none_stops before offset (rank (kind_at rest)) (kind_at rest) bytes rest refl refl refl stops) at h in cc)
      ]
      | inr short ↦ absurd (let q = rw (visible_short before rest short) at h in cc)
    ]

-- ---- an attribute after others

no_earlier : (before offset : ℕ) (bytes : List ℕ) (attribute_head : List (ℕ × Attr)) (e : ℕ × Attr) (following : List (ℕ × Attr)) → left_at before offset bytes ≡ attribute_head ++ e ∷ following → offset ≤ e.0
no_earlier before offset bytes [] e following h =
    let s = step_of before offset bytes e following h in
    let index = s.index in
    omega arith
no_earlier before offset bytes (x ∷ attribute_head) e following h =
    let s = step_of before offset bytes x (attribute_head ++ e ∷ following) h in
    let later = no_earlier (rank x.1.kind) (offset + attr_size x.1) bytes attribute_head e following s.rest in
    omega arith

-- A complete attribute starts at the offset, and is the one decoded there.
pub record Occurs (bytes : List ℕ) (e : ℕ × Attr) : Type 0 where
  pub whole : is_whole (drop e.0 bytes) ≡ true
  pub is : e.1 ≡ attr_at (drop e.0 bytes)

pub occurs : (before offset : ℕ) (bytes : List ℕ) (attribute_head : List (ℕ × Attr)) (e : ℕ × Attr) (following : List (ℕ × Attr)) → left_at before offset bytes ≡ attribute_head ++ e ∷ following → Occurs bytes e
occurs before offset bytes [] e following h =
    let s = step_of before offset bytes e following h in
    let P : ℕ → Type 0 = λ n. (is_whole (drop n bytes) ≡ true) × (e.1 ≡ attr_at (drop n bytes)) in
    let both : P e.0 = subst P (sym s.index) (s.whole, s.is) in
    record { whole = both.0; is = both.1 }
occurs before offset bytes (x ∷ attribute_head) e following h =
    let s = step_of before offset bytes x (attribute_head ++ e ∷ following) h in
    occurs (rank x.1.kind) (offset + attr_size x.1) bytes attribute_head e following s.rest

pub not_before : (bytes : List ℕ) (attribute_head : List (ℕ × Attr)) (e : ℕ × Attr) (following : List (ℕ × Attr)) → left_at 0 20 bytes ≡ attribute_head ++ e ∷ following → 20 ≤ e.0
not_before bytes attribute_head e following h = no_earlier 0 20 bytes attribute_head e following h

-- ---- texts with a common head

-- An attribute that ends within the common prefix is the same in both texts.
same_attr : (c x y : List ℕ) → size_at (c ++ x) ≤ length c → attr_at (c ++ x) ≡ attr_at (c ++ y)
same_attr [] x y fits = absurd (omega arith)
same_attr (p ∷ []) x y fits = absurd (omega arith)
same_attr (p ∷ q ∷ []) x y fits = absurd (omega arith)
same_attr (p ∷ q ∷ r ∷ []) x y fits = absurd (omega arith)
same_attr (p ∷ q ∷ r ∷ s ∷ c) x y fits =
    let n = length_at (p ∷ q ∷ r ∷ s ∷ c) in
    let within : n ≤ length c = omega arith in
    let P : List ℕ → Attr = λ v. record { kind = kind_at (p ∷ q ∷ r ∷ s ∷ c); value = v } in
    ap P (take-append-le n c x within ∙ sym (take-append-le n c y within))

same_entry : (n m : ℕ) (a b : Attr) → n ≡ m → a ≡ b → ◌≡◌ {A = ℕ × Attr} (n, a) (m, b)
same_entry n m a b p q = rw (p, q) refl

-- If an attribute of each text starts where the common prefix ends, the attributes before them are the same.
pub same_before : (c x y : List ℕ) (before offset : ℕ) (fx fy : List (ℕ × Attr)) (ex ey : ℕ × Attr) (bx by : List (ℕ × Attr))
    → left_at before offset (c ++ x) ≡ fx ++ ex ∷ bx → left_at before offset (c ++ y) ≡ fy ++ ey ∷ by → ex.0 ≡ length c → ey.0 ≡ length c → fx ≡ fy
same_before c x y before offset [] [] ex ey bx by hx hy px py = refl
same_before c x y before offset [] (v ∷ fy) ex ey bx by hx hy px py =
    let sx = step_of before offset (c ++ x) ex bx hx in
    let index = sx.index in
    let sy = step_of before offset (c ++ y) v (fy ++ ey ∷ by) hy in
    let later = no_earlier (rank v.1.kind) (offset + attr_size v.1) (c ++ y) fy ey by sy.rest in
    absurd (omega arith)
same_before c x y before offset (u ∷ fx) [] ex ey bx by hx hy px py =
    let sy = step_of before offset (c ++ y) ey by hy in
    let index = sy.index in
    let sx = step_of before offset (c ++ x) u (fx ++ ex ∷ bx) hx in
    let later = no_earlier (rank u.1.kind) (offset + attr_size u.1) (c ++ x) fx ex bx sx.rest in
    absurd (omega arith)
same_before c x y before offset (u ∷ fx) (v ∷ fy) ex ey bx by hx hy px py =
    let sx = step_of before offset (c ++ x) u (fx ++ ex ∷ bx) hx in
    let sy = step_of before offset (c ++ y) v (fy ++ ey ∷ by) hy in
    let later = no_earlier (rank u.1.kind) (offset + attr_size u.1) (c ++ x) fx ex bx sx.rest in
    let within : offset ≤ length c = omega arith in
    let attribute_head-x = drop-append-le offset c x within in
    let attribute_head-y = drop-append-le offset c y within in
    let size : attr_size u.1 ≡ size_at (drop offset c ++ x) = ap attr_size sx.is ∙ size_whole (drop offset (c ++ x)) sx.whole ∙ ap size_at attribute_head-x in
    let fits : size_at (drop offset c ++ x) ≤ length (drop offset c) = omega (arith, length-drop offset c) in
    let one : u.1 ≡ v.1 = sx.is ∙ ap attr_at attribute_head-x ∙ same_attr (drop offset c) x y fits ∙ sym (ap attr_at attribute_head-y) ∙ sym sy.is in
    let index : u.0 ≡ v.0 = sx.index ∙ sym sy.index in
    let rest-y : left_at (rank u.1.kind) (offset + attr_size u.1) (c ++ y) ≡ fy ++ ey ∷ by = ap (λ (a : Attr). left_at (rank a.kind) (offset + attr_size a) (c ++ y)) one ∙ sy.rest in
    let more : fx ≡ fy = same_before c x y (rank u.1.kind) (offset + attr_size u.1) fx fy ex ey bx by sx.rest rest-y px py in
    ap (λ (e : ℕ × Attr). e ∷ fx) (same_entry u.0 v.0 u.1 v.1 index one) ∙ ap (λ (l : List (ℕ × Attr)). v ∷ l) more
