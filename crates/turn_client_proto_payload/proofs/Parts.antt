-- The positions of attribute values in the bytes of a message.
use Rattle.std.proofs.Common.{◌≡◌, ℕ, zero, suc, ◌+◌, ◌≤◌, eqb, List, [], ◌∷◌, length, take, drop, fold, Option, Some, None, refl, sym, ap, ◌∙◌, subst, arith, inl, inr}
use Rattle.std.specs.List.{AllByRecursion}
use Rattle.std.specs.Option.{option_map}
use Rattle.std.proofs.lemmas.Bool.{cases_Bool}
use Rattle.std.proofs.lemmas.List.{length-drop, length-take, drop-drop, drop-take}
use Rattle.stun_types_wire.specs.Attributes.{Attr, attr_at, is_whole, kind_at, length_at, numbered, size_at}
use Rattle.stun_types_wire.specs.Grammar.{visible}
use Rattle.stun_types_wire.specs.Shape.{may_follow, rank}
use Rattle.stun_types_wire.proofs.Left.{left_at, left_step, none_past, none_stops}
use Rattle.stun_types_wire.proofs.Scan.{visible_short}
use Rattle.stun_types_wire.proofs.Whole.{whole_long}
use Rattle.turn_client_proto_api.specs.Payloads.{part_of}
use Rattle.turn_client_proto_core.specs.TurnRuns.Indications.{entries, last_listed}
use Rattle.turn_client_proto_payload.proofs.Last.{last_is, later}

-- Taking as many elements as were taken takes the same ones.
takes_all : {X : Type 0} (k : ℕ) (xs : List X) → take (length (take k xs)) xs ≡ take k xs
takes_all zero xs = refl
takes_all (suc k) [] = refl
takes_all {X} (suc k) (x ∷ xs) = ap (λ (l : List X). x ∷ l) (takes_all k xs)

-- Bytes that were taken after an offset are the part of the bytes at that offset.
pub occurs : (bytes : List ℕ) (a k : ℕ) → part_of bytes a (a + length (take k (drop a bytes))) ≡ take k (drop a bytes)
occurs bytes a k = drop-take a (length (take k (drop a bytes))) bytes ∙ takes_all k (drop a bytes)

-- A value lies within the bytes, after the header of its attribute.
pub record IsActiveIn (bytes : List ℕ) (e : ℕ × Attr) : Type 0 where
  pub fits : e.0 + 4 + length e.1.value ≤ length bytes
  pub is : part_of bytes (e.0 + 4) (e.0 + 4 + length e.1.value) ≡ e.1.value

first_is_active : (bytes : List ℕ) (offset : ℕ) → 4 ≤ length (drop offset bytes) → IsActiveIn bytes (offset, attr_at (drop offset bytes))
first_is_active bytes offset four =
    let rest = drop offset bytes in
    let k = length_at rest in
    let same : drop (offset + 4) bytes ≡ drop 4 rest = sym (drop-drop 4 offset bytes) in
    record {
      fits = omega (arith, four, length-drop offset bytes, length-take k (drop 4 rest), length-drop 4 rest);
      is =
          subst (λ (ys : List ℕ). part_of bytes (offset + 4) (offset + 4 + length (take k ys)) ≡ take k ys) same (occurs bytes (offset + 4) k);
    }

each_is_active : (n before offset : ℕ) (bytes : List ℕ) → length bytes ≤ offset + n → AllByRecursion (IsActiveIn bytes) (left_at before offset bytes)
each_is_active zero before offset bytes few = subst (AllByRecursion (IsActiveIn bytes)) (sym (none_past before offset bytes (omega arith))) tt
each_is_active (suc n) before offset bytes few =
    let rest = drop offset bytes in
    elim (cases_Bool (is_whole rest)) [
      | inl w ↦ elim (cases_Bool (may_follow before (rank (kind_at rest)))) [
        | inl follows ↦
            let long = whole_long rest w in
            let four : 4 ≤ length rest = omega arith in
            let step : left_at before offset bytes ≡ (offset, attr_at rest) ∷ left_at (rank (kind_at rest)) (offset + size_at rest) bytes =
            left_step before offset (rank (kind_at rest)) (kind_at rest) (size_at rest) (length_at rest) bytes rest (attr_at rest) refl four refl refl follows refl long refl refl refl in
            subst (AllByRecursion (IsActiveIn bytes)) (sym step)
            (first_is_active bytes offset four, each_is_active n (rank (kind_at rest)) (offset + size_at rest) bytes (omega arith))
        | inr stops ↦ subst (AllByRecursion (IsActiveIn bytes)) (sym (none_stops before offset (rank (kind_at rest)) (kind_at rest) bytes rest refl refl refl stops)) tt
      ]
      | inr short ↦ subst (AllByRecursion (IsActiveIn bytes)) (sym (ap (λ l. numbered offset l) (visible_short before rest short))) tt
    ]

all_stand : (bytes : List ℕ) → AllByRecursion (IsActiveIn bytes) (entries bytes)
unfolding visible
all_stand bytes = each_is_active (length bytes) 0 20 bytes (omega arith)

-- The last attribute of a type has what all attributes have.
one_of : {P : ℕ × Attr → Type 0} (kind : ℕ) (all : List (ℕ × Attr)) (found : Option (ℕ × Attr)) (e : ℕ × Attr)
    → AllByRecursion P all → ((x : ℕ × Attr) → found ≡ Some x → P x) → fold (later kind) found all ≡ Some e → P e
one_of kind [] found e each was is = was e is
one_of {P} kind (x ∷ all) found e each was is = one_of kind all (later kind found x) e each.1 still is
  where
    still : (y : ℕ × Attr) → later kind found x ≡ Some y → P y
    still y same =
        elim (cases_Bool (eqb x.1.kind kind)) [
          | inl reported ↦ let now : Some x ≡ Some y = rw reported at same in let e : x ≡ y = Prim.cc now in subst P e each.0
          | inr untold ↦ was y (rw untold at same)
        ]

pub entry_in : (kind : ℕ) (bytes : List ℕ) (e : ℕ × Attr) → last_listed kind bytes ≡ Some e → IsActiveIn bytes e
entry_in kind bytes e is = one_of kind (entries bytes) None e (all_stand bytes) (λ x none. absurd (Prim.cc none)) (last_is kind (entries bytes) ∙ is)

decoded_fits : (kind offset len : ℕ) (bytes : List ℕ) (found : Option (ℕ × Attr)) → last_listed kind bytes ≡ found
    → option_map {U = ℕ × ℕ} (λ e. (e.0, length e.1.value)) found ≡ Some (offset, len) → offset + 4 + len ≤ length bytes
decoded_fits kind offset len bytes None at is = absurd (Prim.cc is)
decoded_fits kind offset len bytes (Some e) at is =
    let same : (e.0, length e.1.value) ≡ (offset, len) = Prim.cc is in
    subst (λ (p : ℕ × ℕ). p.0 + 4 + p.1 ≤ length bytes) same (entry_in kind bytes e at).fits

-- So the value of the last attribute of a type lies within the bytes.
pub index_fits : (kind offset len : ℕ) (bytes : List ℕ) → option_map {U = ℕ × ℕ} (λ e. (e.0, length e.1.value)) (last_listed kind bytes) ≡ Some (offset, len)
    → offset + 4 + len ≤ length bytes
index_fits kind offset len bytes is = decoded_fits kind offset len bytes (last_listed kind bytes) refl is
