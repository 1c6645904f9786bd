-- The requests as contracts see them, after each change of the entries.
use Rattle.std.proofs.Common.{◌≡◌, ℕ, ◌≤◌, Bool, List, length, get_or, set, Some, None, refl, sym, ap, ◌∙◌, subst}
use Rattle.std.specs.Prelude.{MatchOption, OnErr, OnOk, Result, Ok, Err, true, false}
use Rattle.std.specs.Result.{is_err}
use Rattle.std.specs.List.{insert, remove}
use Rattle.std.specs.FinMap as map
use Rattle.std.specs.Ordering.{nat_cmp}
use Rattle.stun_proto_transaction.specs.Agents.{Transaction}
use Rattle.stun_proto_transaction.specs.StoredRequests.{Requests, with_number}
use Rattle.stun_proto_transaction.specs.Sorted.{IsAt, IsGap, IsStrictlySorted}
use Rattle.stun_proto_transaction.proofs.Edits.{remove-inserted}
use Rattle.stun_proto_transaction.proofs.Maps.{MapOf, absent_map, inserted_map, present_map, removed_map, unchanged_map, written_map}
use Rattle.stun_proto_transaction.proofs.Sounds.{Entry, own_number}

-- The requests of entries, as contracts see them.
abbrev pub visible : Bool → List Entry → Requests
visible tcp es = record { is_tcp = tcp; by_number = MapOf es }

abbrev pub with_map : Bool → map.FinMap nat_cmp Transaction → Requests
with_map tcp m = record { is_tcp = tcp; by_number = m }

module _ (tcp : Bool) (es : List Entry) (old : Requests) (view_is : visible tcp es ≡ old) where
  pub got : (number : ℕ) → map.get old.by_number number ≡ map.get (MapOf es) number
  got number = ap (λ (r : Requests). map.get r.by_number number) (sym view_is)

  pub listed_inserted : (number position : ℕ) (t : Transaction) → IsGap es number position → visible tcp (insert es position (number, t)) ≡ with_number old number t
  listed_inserted number position t gap = ap (with_map tcp) (inserted_map es number position t gap) ∙ ap (λ r. with_number r number t) view_is

  pub listed_written : (number position : ℕ) (t : Transaction) → IsAt es number position → IsStrictlySorted es → visible tcp (set es position (number, t)) ≡ with_number old number t
  listed_written number position t at sorted = ap (with_map tcp) (written_map es number position t at sorted) ∙ ap (λ r. with_number r number t) view_is

  abbrev Without : ℕ → Requests
  Without number = record old { by_number = map.remove old.by_number number }

  pub listed_removed : (number position : ℕ) → IsAt es number position → IsStrictlySorted es → visible tcp (remove es position) ≡ Without number
  listed_removed number position at sorted = ap (with_map tcp) (removed_map es number position at sorted) ∙ ap {A = Requests} {B = Requests} (λ r. record r { by_number = map.remove r.by_number number }) view_is

  pub listed_unchanged : (number position : ℕ) → IsGap es number position → old ≡ Without number
  listed_unchanged number position gap =
      sym view_is ∙ ap (with_map tcp) (unchanged_map es number (absent_map es number position gap)) ∙ ap {A = Requests} {B = Requests} (λ r. record r { by_number = map.remove r.by_number number }) view_is

  pub listed_undone : (number position : ℕ) (t : Transaction) → position ≤ length es → visible tcp (remove (insert es position (number, t)) position) ≡ old
  listed_undone number position t there = ap (visible tcp) (remove-inserted es position (number, t) there) ∙ view_is

  pub none_visible : (number position : ℕ) → IsGap es number position → map.get old.by_number number ≡ None
  none_visible number position gap = got number ∙ absent_map es number position gap

  -- A look-up finds what is read at the index.
  pub read_listed : (number position : ℕ) (e : Entry) → IsAt es number position → IsStrictlySorted es → e ≡ get_or es position e → map.get old.by_number number ≡ Some e.1
  read_listed number position e at sorted read = got number ∙ present_map es number position e at sorted ∙ ap (λ (x : Entry). Some x.1) (sym read)

  -- The table after the request with a transaction ID, if there is one, is changed by `f`.
  abbrev pub IsChange : Requests → ℕ → (Bool → Transaction → Transaction) → Type 0
  IsChange new number f = MatchOption (map.get old.by_number number) (new ≡ old) (λ t. new ≡ with_number old number (f old.is_tcp t))

  pub listed_changed : (number position : ℕ) (e : Entry) (x : Transaction) (f : Bool → Transaction → Transaction) → IsAt es number position → IsStrictlySorted es → e ≡ get_or es position e → x ≡ f tcp e.1
      → IsChange (visible tcp (set es position (e.0, x))) number f
  listed_changed number position e x f at sorted read is =
      let own = own_number es number position e at read in
      let same : f tcp e.1 ≡ f old.is_tcp e.1 = ap (λ (r : Requests). f r.is_tcp e.1) view_is in
      let all : visible tcp (set es position (e.0, x)) ≡ with_number old number (f old.is_tcp e.1) =
      ap (λ n. visible tcp (set es position (n, x))) own ∙ listed_written number position x at sorted ∙ ap (with_number old number) (is ∙ same) in
      subst (λ o. MatchOption o (visible tcp (set es position (e.0, x)) ≡ old) (λ t. visible tcp (set es position (e.0, x)) ≡ with_number old number (f old.is_tcp t))) (sym (read_listed number position e at sorted read)) all

  pub listed_same : (number position : ℕ) (f : Bool → Transaction → Transaction) → IsGap es number position → IsChange old number f
  listed_same number position f gap = subst (λ o. MatchOption o (old ≡ old) (λ t. old ≡ with_number old number (f old.is_tcp t))) (sym (none_visible number position gap)) refl

-- ---- results

pub on_ok : {A E : Type 0} (r : Result A E) (P : Type 0) → P → OnOk r P
on_ok (Ok a) P p = p
on_ok (Err e) P p = tt

pub on_err : {A E : Type 0} (r : Result A E) (P : Type 0) → P → OnErr r P
on_err (Ok a) P p = tt
on_err (Err e) P p = p

pub at_ok : {A E : Type 0} (r : Result A E) (P : Type 0) → is_err r ≡ false → OnOk r P → P
at_ok (Ok a) P is p = p
at_ok (Err e) P is p = absurd (Prim.cc is)

pub at_err : {A E : Type 0} (r : Result A E) (P : Type 0) → is_err r ≡ true → OnErr r P → P
at_err (Ok a) P is p = absurd (Prim.cc is)
at_err (Err e) P is p = p
