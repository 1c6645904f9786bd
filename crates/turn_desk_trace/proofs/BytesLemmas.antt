-- The parts of a BYTES word, one after another.
use Rattle.std.proofs.Common.{ℕ, ◌≡◌, ◌<◌, ◌≤◌, ◌≢◌, ◌+◌, List, [], ◌∷◌, ◌++◌, length, get_or, drop, true, false, refl, sym, ◌∙◌, ap, append_assoc, drop-cons, add-one}
use Rattle.std.specs.Prelude.{Option, Some, None, Result, Err, map, ◌==◌}
use Rattle.std.specs.List.{slice_split}
use Rattle.std.proofs.lemmas.List.{drop_all, append-nil}
use Rattle.std.proofs.Common.{Bor, suc}
use Rattle.std.proofs.lemmas.Bool.{ne_eqb}
use Rattle.turn_desk_trace.specs.Bytes.{answered_part, both, joined, part_bytes, prepend, some_bytes, named_bytes}
use Rattle.line_io.specs.LowerHex.{hex_bytes, is_dash}

-- A part that begins with `@`.
pub part_answered : (answers : List (List ℕ)) (chunk rest : List ℕ) → chunk ≡ 64 ∷ rest
    → part_bytes answers chunk ≡ answered_part answers rest
unfolding part_bytes
part_answered answers chunk rest e = rw e refl

-- Any other part.
pub part_hex : (answers : List (List ℕ)) (chunk : List ℕ) → ((rest : List ℕ) → chunk ≢ 64 ∷ rest)
    → part_bytes answers chunk ≡ some_bytes (hex_bytes chunk)
unfolding part_bytes
part_hex answers [] other = refl
part_hex answers (c ∷ cs) other =
    let plain : (c == 64) ≡ false = ne_eqb c 64 (λ q. other cs (ap (λ x. x ∷ cs) q)) in rw plain refl

-- An error of one call that is passed on as the error of another.
pub err_of : {A B E : Type 0} (x y : E) → ◌≡◌ {A = Result A E} (Err x) (Err y) → ◌≡◌ {A = Result B E} (Err x) (Err y)
err_of x y h = let same : x ≡ y = cc in ap (λ e. Err e) same

-- The bytes that a part names are appended to those read before.
pub named_after : (old named new : List ℕ) → (length named == 0) ≡ false → new ≡ old ++ named → prepend old (some_bytes (Some named)) ≡ Some new
named_after old [] new some same = absurd cc
named_after old (b ∷ bs) new some same = ap (λ bytes. Some bytes) (sym same)

module _ {X : Type 0} (named : X → Option (List ℕ)) where
  -- A part that names bytes.
  pub joined_more : (old new : List ℕ) (chunk : X) (rest : List X) → prepend old (named chunk) ≡ Some new
      → prepend old (joined (map named (chunk ∷ rest))) ≡ prepend new (joined (map named rest))
  unfolding joined
  joined_more old new chunk rest e = one (named chunk) (joined (map named rest)) e
    where
      one : (first others : Option (List ℕ)) → prepend old first ≡ Some new → prepend old (both first others) ≡ prepend new others
      one None others e = absurd cc
      one (Some bytes) None e = refl
      one (Some bytes) (Some others) e =
          let same : old ++ bytes ≡ new = cc in
          ap (λ b. Some b) (sym (append_assoc old bytes others) ∙ ap (λ b. b ++ others) same)

  -- A part that names no bytes.
  pub joined_none : (chunk : X) (rest : List X) → named chunk ≡ None → joined (map named (chunk ∷ rest)) ≡ None
  unfolding joined
  joined_none chunk rest e = rw e refl

  -- A part that names bytes, for the parts from one index on.
  pub joined_step : (old new : List ℕ) (parts : List X) (i : ℕ) (d : X) → i < length parts
      → prepend old (named (get_or parts i d)) ≡ Some new
      → prepend old (joined (map named (drop i parts))) ≡ prepend new (joined (map named (drop (i + 1) parts)))
  joined_step old new parts i d inside e =
      rw (add-one, drop-cons parts i d inside) (joined_more old new (get_or parts i d) (drop (suc i) parts) e)

  pub joined_stop : (parts : List X) (i : ℕ) (d : X) → i < length parts → named (get_or parts i d) ≡ None
      → joined (map named (drop i parts)) ≡ None
  joined_stop parts i d inside e = rw (drop-cons parts i d inside) (joined_none (get_or parts i d) (drop (suc i) parts) e)

  -- No part is left.
  pub joined_end : (old : List ℕ) (parts : List X) (i : ℕ) → length parts ≤ i
      → prepend old (joined (map named (drop i parts))) ≡ Some old
  unfolding joined
  joined_end old parts i past = rw (drop_all i parts past) (ap (λ b. Some b) (append-nil old))

-- Prepending no bytes changes nothing.
pub prepend_none : (named : Option (List ℕ)) → prepend [] named ≡ named
prepend_none None = refl
prepend_none (Some bytes) = refl

-- If nothing is named, nothing is joined.
pub after_none : (old : List ℕ) (named : Option (List ℕ)) → named ≡ None → prepend old named ≡ None
after_none old named e = rw e refl

map_now : (answers : List (List ℕ)) (parts : List (Bor (List ℕ)))
    → map (part_bytes answers) (map (λ x. x.now) parts) ≡ map (λ x. part_bytes answers x.now) parts
map_now answers [] = refl
map_now answers (chunk ∷ parts) = ap (λ rest. part_bytes answers chunk.now ∷ rest) (map_now answers parts)

-- The word `-`.
pub named_dash : (answers : List (List ℕ)) (word : List ℕ) → is_dash word ≡ true → named_bytes answers word ≡ Some []
unfolding named_bytes
named_dash answers word dash = rw dash refl

-- Any other word.
pub named_parts : (answers : List (List ℕ)) (word : List ℕ) (parts : List (Bor (List ℕ))) → is_dash word ≡ false
    → map (λ x. x.now) parts ≡ slice_split (λ b. b == 43) word
    → named_bytes answers word ≡ joined (map (λ x. part_bytes answers x.now) parts)
unfolding named_bytes
named_parts answers word parts other cut =
    let found : joined (map (part_bytes answers) (slice_split (λ b. b == 43) word)) ≡ joined (map (λ x. part_bytes answers x.now) parts) =
    ap (λ chunks. joined (map (part_bytes answers) chunks)) (sym cut) ∙ ap (λ named. joined named) (map_now answers parts) in
    rw other found
