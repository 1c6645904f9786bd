-- The attributes that an iterator has yet to return, and one step of it.
use Rattle.std.proofs.Common.{◌≡◌, ℕ, ◌+◌, ◌<◌, ◌≤◌, true, false, List, [], ◌∷◌, length, take, drop, map, refl, sym, ap, ◌∙◌, arith, inl, inr}
use Rattle.std.proofs.lemmas.List.{length-drop, drop-drop}
use Rattle.stun_types_wire.specs.Attributes.{Attr, attr_size, attr_at, kind_at, length_at, size_at, is_whole, numbered}
use Rattle.stun_types_wire.specs.Shape.{rank, may_follow, visible_after}
use Rattle.stun_types_wire.proofs.Whole.{whole_from, not_whole, size_whole}
use Rattle.stun_types_wire.proofs.Scan.{visible_short, visible_stops, visible_step}

-- The visible attributes from an offset on.
abbrev pub left_at : ℕ → ℕ → List ℕ → List (ℕ × Attr)
left_at before offset bytes = numbered offset (visible_after before (drop offset bytes))

none_left : (before offset : ℕ) (bytes rest : List ℕ) → rest ≡ drop offset bytes → visible_after before rest ≡ [] → left_at before offset bytes ≡ []
none_left before offset bytes rest rest-is none = rw (← rest-is, none) refl

pub none_past : (before offset : ℕ) (bytes : List ℕ) → length bytes ≤ offset → left_at before offset bytes ≡ []
none_past before offset bytes past =
    none_left before offset bytes (drop offset bytes) refl (visible_short before (drop offset bytes) (not_whole (drop offset bytes) (inl (omega (arith, length-drop offset bytes)))))

pub none_short : (before offset : ℕ) (bytes rest : List ℕ) → rest ≡ drop offset bytes → length rest < 4 → left_at before offset bytes ≡ []
none_short before offset bytes rest rest-is short = none_left before offset bytes rest rest-is (visible_short before rest (not_whole rest (inl short)))

pub none_cut : (before offset size : ℕ) (bytes rest : List ℕ) → rest ≡ drop offset bytes → size ≡ size_at rest → length rest < size → left_at before offset bytes ≡ []
none_cut before offset size bytes rest rest-is size-is short = none_left before offset bytes rest rest-is (visible_short before rest (not_whole rest (inr (rw size-is at short))))

pub none_stops : (before offset next kind : ℕ) (bytes rest : List ℕ) → rest ≡ drop offset bytes → kind ≡ kind_at rest → next ≡ rank kind → may_follow before next ≡ false → left_at before offset bytes ≡ []
none_stops before offset next kind bytes rest rest-is kind-is next-is stops =
    let rank-is : next ≡ rank (kind_at rest) = next-is ∙ ap rank kind-is in
    none_left before offset bytes rest rest-is (visible_stops before rest (rw (← rank-is) stops))

abbrev attr_of : ℕ → List ℕ → Attr
attr_of k v = record { kind = k; value = v }

-- The attribute at the offset is the next one, followed by the visible attributes after it.
pub left_step : (before offset next kind size len : ℕ) (bytes rest : List ℕ) (a : Attr) → rest ≡ drop offset bytes → 4 ≤ length rest → kind ≡ kind_at rest → next ≡ rank kind → may_follow before next ≡ true
    → size ≡ size_at rest → size ≤ length rest → len ≡ length_at rest → a.kind ≡ kind → a.value ≡ take len (drop 4 rest)
    → left_at before offset bytes ≡ (offset, a) ∷ left_at next (offset + size) bytes
left_step before offset next kind size len bytes rest a rest-is four kind-is next-is follows size-is long len-is a-kind a-value =
    let rank-is : next ≡ rank (kind_at rest) = next-is ∙ ap rank kind-is in
    let follows' : may_follow before (rank (kind_at rest)) ≡ true = rw (← rank-is) follows in
    let whole : is_whole rest ≡ true = whole_from rest four (rw size-is at long) in
    let others = visible_after next (drop (offset + size) bytes) in
    let later : drop (size_at rest) rest ≡ drop (offset + size) bytes = ap (λ n. drop n rest) (sym size-is) ∙ ap (λ (l : List ℕ). drop size l) rest-is ∙ drop-drop size offset bytes in
    let shows : visible_after before rest ≡ attr_at rest ∷ others =
    visible_step before rest whole follows' ∙ ap (λ r. attr_at rest ∷ visible_after r (drop (size_at rest) rest)) (sym rank-is) ∙ ap (λ (l : List ℕ). attr_at rest ∷ visible_after next l) later in
    let size-of : attr_size (attr_at rest) ≡ size = size_whole rest whole ∙ sym size-is in
    let same : (k : ℕ) (v : List ℕ) → k ≡ kind_at rest → v ≡ take (length_at rest) (drop 4 rest) → attr_of k v ≡ attr_at rest = λ k v p q. rw (p, q) refl in
    let attr-is : a ≡ attr_at rest = same a.kind a.value (a-kind ∙ kind-is) (a-value ∙ ap (λ n. take n (drop 4 rest)) len-is) in
    ap (λ (l : List ℕ). numbered offset (visible_after before l)) (sym rest-is) ∙ ap (λ (l : List Attr). numbered offset l) shows
    ∙ ap (λ n. (offset, attr_at rest) ∷ numbered (offset + n) others) size-of ∙ ap (λ (b : Attr). (offset, b) ∷ numbered (offset + size) others) (sym attr-is)

pub goes_from_step : (s t : List (ℕ × Attr)) (x : ℕ × Attr) → s ≡ x ∷ t → length t < length s
goes_from_step s t x e = rw e (omega arith)

-- Removing the offsets gives the attributes again.
pub map_numbered : (offset : ℕ) (all : List Attr) → map (λ (x : ℕ × Attr). x.1) (numbered offset all) ≡ all
map_numbered offset [] = refl
map_numbered offset (a ∷ rest) = ap (λ (l : List Attr). a ∷ l) (map_numbered (offset + attr_size a) rest)
