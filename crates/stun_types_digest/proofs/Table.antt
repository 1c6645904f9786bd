-- Each entry of the table is what eight more steps leave of the entry 256 positions before it. The bytes 0 to
-- 255 take the place of the entries before the first.
use Rattle.std.specs.Prelude.{◌≡◌, ℕ, zero, suc, ◌+◌, ◌*◌, ◌<◌, List, [], ◌∷◌, ◌++◌, length, Bool, true, false, ◌&&◌, nat_eq}
use Rattle.std.proofs.Common.{refl, sym, ap, ◌∙◌, arith, get_or}
use Rattle.std.specs.List.{range_with_len}
use Rattle.std.proofs.lemmas.Bool.{and_parts, eqb-true}
use Rattle.std.proofs.lemmas.List.{get_or_append_left, get_or-append-add}
use Rattle.std.proofs.lemmas.List.FromFn.{get_or-range_with_len, length-range_with_len}
use Rattle.stun_types_digest.specs.Crc.{bit_steps}
use Rattle.stun_types_digest.specs.declared.crc.table.TheConstants.{TABLE}
use Rattle.stun_types_digest.proofs.Register.{bit_steps-add}

-- Whether each number of the second list is what eight steps leave of the number at the same index of the
-- first list.
abbrev pub is_stepped : List ℕ → List ℕ → Bool
is_stepped xs [] = true
is_stepped [] (y ∷ ys) = false
is_stepped (x ∷ xs) (y ∷ ys) = nat_eq y (bit_steps 8 x) && is_stepped xs ys

stepped_at : (xs ys : List ℕ) (k : ℕ) → is_stepped xs ys ≡ true → k < length ys → get_or ys k 0 ≡ bit_steps 8 (get_or xs k 0)
stepped_at xs [] k h lt = absurd (omega arith)
stepped_at [] (y ∷ ys) k h lt = cc
stepped_at (x ∷ xs) (y ∷ ys) zero h lt = eqb-true y (bit_steps 8 x) (and_parts (nat_eq y (bit_steps 8 x)) (is_stepped xs ys) h).0
stepped_at (x ∷ xs) (y ∷ ys) (suc k) h lt =
    stepped_at xs ys k (and_parts (nat_eq y (bit_steps 8 x)) (is_stepped xs ys) h).1 (omega arith)

-- The bytes 0 to 255, followed by the table.
abbrev after_bytes : List ℕ → List ℕ
after_bytes table = range_with_len 0 256 ++ table

entry_of : (table : List ℕ) → is_stepped (after_bytes table) table ≡ true → (zeros byte : ℕ) → byte < 256 → 256 * zeros + byte < length table
    → get_or table (256 * zeros + byte) 0 ≡ bit_steps (8 * (zeros + 1)) byte
entry_of table h zero byte small lt =
    let index : 256 * zero + byte ≡ byte = omega arith in
    stepped_at (after_bytes table) table (256 * zero + byte) h lt
    ∙ ap (λ k. bit_steps 8 (get_or (after_bytes table) k 0)) index
    ∙ ap (bit_steps 8) (get_or_append_left (range_with_len 0 256) table 0 byte (omega (arith, length-range_with_len 0 256)) ∙ get_or-range_with_len 0 256 byte 0 small ∙ omega arith)
entry_of table h (suc zeros) byte small lt =
    let index : 256 * suc zeros + byte ≡ length (range_with_len 0 256) + (256 * zeros + byte) = omega (arith, length-range_with_len 0 256) in
    let bits : 8 * (zeros + 1) + 8 ≡ 8 * (suc zeros + 1) = omega arith in
    stepped_at (after_bytes table) table (256 * suc zeros + byte) h lt
    ∙ ap (λ k. bit_steps 8 (get_or (after_bytes table) k 0)) index
    ∙ ap (bit_steps 8) (get_or-append-add (range_with_len 0 256) table (256 * zeros + byte) 0 ∙ entry_of table h zeros byte small (omega arith))
    ∙ sym (bit_steps-add (8 * (zeros + 1)) 8 byte) ∙ ap (λ n. bit_steps n byte) bits

-- Checked by computing every entry of the table.
table_is_stepped : is_stepped (after_bytes TABLE) TABLE ≡ true
unfolding bit_steps
table_is_stepped = refl

length-TABLE : length TABLE ≡ 4096
length-TABLE = refl

pub entry : (zeros byte : ℕ) → zeros < 16 → byte < 256 → get_or TABLE (256 * zeros + byte) 0 ≡ bit_steps (8 * (zeros + 1)) byte
entry zeros byte few small = entry_of TABLE table_is_stepped zeros byte small (omega (arith, length-TABLE))
