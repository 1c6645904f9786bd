-- The scan that lists a message's unknown types.
use Rattle.std.specs.Prelude.{Option, Some, ◌≡◌, ℕ, Bool, true, false, not, ◌&&◌, ◌||◌, eqb, ◌==◌, List, [], ◌∷◌, ◌++◌, length, map, filter, find, is_some}
use Rattle.std.specs.List.{list_any}
use Rattle.std.proofs.Common.{refl, sym, ap, ◌∙◌, arith, inl, inr, append_assoc}
use Rattle.std.proofs.lemmas.Bool.{cases_Bool, eqb-true}
use Rattle.std.proofs.lemmas.List.{append-nil}
use Rattle.std.proofs.lemmas.List.Folds.{list_any-append}
use Rattle.stun_types_attributes.specs.Wire.declared.attribute.AttributeType.{AttributeType}
use Rattle.stun_types_attributes.specs.Wire.Attributes.{Attr}
use Rattle.stun_types_attributes.specs.Wire.Shape.{kinds_of}
use Rattle.stun_types_add.specs.Write.Adding.{has_kind}
use Rattle.stun_types_message.specs.Objections.{each_once, is_missing, is_unknown, objection, objection_refusal, objection_refusal_to, objection_to, unknown_kinds, unknown_refusal, unknown_response_attributes, with_unknown}

-- ---- filters

pub filter-same : (p q : ℕ → Bool) → ((n : ℕ) → p n ≡ q n) → (ns : List ℕ) → filter p ns ≡ filter q ns
filter-same p q same [] = refl
filter-same p q same (n ∷ ns) =
    let rest = filter-same p q same ns in
    elim (cases_Bool (q n)) [
      | inl h ↦ rw (same n, h) (ap (λ (l : List ℕ). n ∷ l) rest)
      | inr h ↦ rw (same n, h) rest
    ]

pub filter-both : (p q : ℕ → Bool) (ns : List ℕ) → filter p (filter q ns) ≡ filter (λ n. q n && p n) ns
filter-both p q [] = refl
filter-both p q (n ∷ ns) =
    let rest = filter-both p q ns in
    elim (cases_Bool (q n)) [
      | inr h ↦ rw h rest
      | inl h ↦ elim (cases_Bool (p n)) [
        | inl k ↦ rw (h, k) (ap (λ (l : List ℕ). n ∷ l) rest)
        | inr k ↦ rw (h, k) rest
      ]
    ]

filter-all : (ns : List ℕ) → filter (λ n. true) ns ≡ ns
filter-all [] = refl
filter-all (n ∷ ns) = ap (λ (l : List ℕ). n ∷ l) (filter-all ns)

-- ---- the list so far, and what is still to be added

-- The remaining types that are not yet listed.
abbrev unlisted : List ℕ → List ℕ → List ℕ
unlisted seen left = filter (λ m. not (has_kind m seen)) left

-- The final list, given what is listed and the attributes that remain.
unfoldable pub listed_with : List ℕ → List ℕ → List Attr → List ℕ
listed_with supported seen left = seen ++ unlisted seen (each_once (filter (is_unknown supported) (kinds_of left)))

pub none_listed : (supported : List ℕ) (all : List Attr) → listed_with supported [] all ≡ unknown_kinds all supported
unfolding listed_with unknown_kinds
none_listed supported all = filter-all (each_once (filter (is_unknown supported) (kinds_of all)))

pub all_listed : (supported seen : List ℕ) → listed_with supported seen [] ≡ seen
unfolding listed_with each_once
all_listed supported seen = append-nil seen

-- A known type adds nothing to the final list.
pub known_step : (supported seen : List ℕ) (a : Attr) (left : List Attr) → is_unknown supported a.kind ≡ false → listed_with supported seen left ≡ listed_with supported seen (a ∷ left)
unfolding listed_with
known_step supported seen a left known = rw known refl

-- A type that is already listed adds nothing.
passed_again : (k m : ℕ) (seen : List ℕ) → has_kind k seen ≡ true → (not (k == m) && not (has_kind m seen)) ≡ not (has_kind m seen)
passed_again k m seen listed =
    elim (cases_Bool (eqb k m)) [
      | inl h ↦
          let same : has_kind m seen ≡ true = ap (λ (n : ℕ). has_kind n seen) (sym (eqb-true k m h)) ∙ listed in
          rw (h, same) refl
      | inr h ↦ rw h refl
    ]

pub listed_step : (supported seen : List ℕ) (a : Attr) (left : List Attr) → is_unknown supported a.kind ≡ true → has_kind a.kind seen ≡ true → listed_with supported seen left ≡ listed_with supported seen (a ∷ left)
unfolding listed_with each_once
listed_step supported seen a left unknown listed =
    let later = each_once (filter (is_unknown supported) (kinds_of left)) in
    let again : unlisted seen (filter (λ m. not (a.kind == m)) later) ≡ unlisted seen later =
    filter-both (λ m. not (has_kind m seen)) (λ m. not (a.kind == m)) later ∙ filter-same _ _ (λ m. passed_again a.kind m seen listed) later in
    rw (unknown, listed) (ap (λ (l : List ℕ). seen ++ l) (sym again))

-- A type that is not yet listed is appended.
passed_more : (k m : ℕ) (seen : List ℕ) → (not (k == m) && not (has_kind m seen)) ≡ not (has_kind m (seen ++ k ∷ []))
passed_more k m seen =
    rw (list_any-append (λ n. n == m) seen (k ∷ []))
    (elim (cases_Bool (eqb k m)) [
      | inl h ↦ elim (cases_Bool (has_kind m seen)) [
        | inl s ↦ rw (h, s) refl
        | inr s ↦ rw (h, s) refl
      ]
      | inr h ↦ elim (cases_Bool (has_kind m seen)) [
        | inl s ↦ rw (h, s) refl
        | inr s ↦ rw (h, s) refl
      ]
    ])

pub unlisted_step : (supported seen : List ℕ) (a : Attr) (left : List Attr) → is_unknown supported a.kind ≡ true → has_kind a.kind seen ≡ false → listed_with supported (seen ++ a.kind ∷ []) left ≡ listed_with supported seen (a ∷ left)
unfolding listed_with each_once
unlisted_step supported seen a left unknown new =
    let later = each_once (filter (is_unknown supported) (kinds_of left)) in
    let more : unlisted seen (filter (λ m. not (a.kind == m)) later) ≡ unlisted (seen ++ a.kind ∷ []) later =
    filter-both (λ m. not (has_kind m seen)) (λ m. not (a.kind == m)) later ∙ filter-same _ _ (λ m. passed_more a.kind m seen) later in
    rw (unknown, new) (append_assoc seen (a.kind ∷ []) (unlisted (seen ++ a.kind ∷ []) later) ∙ ap (λ (l : List ℕ). seen ++ a.kind ∷ l) (sym more))

-- ---- one type after another

pub next_listed : (supported seen more : List ℕ) (a : Attr) (left : List Attr) → more ≡ with_unknown supported seen a.kind → listed_with supported more left ≡ listed_with supported seen (a ∷ left)
next_listed supported seen more a left is =
    elim (cases_Bool (is_unknown supported a.kind)) [
      | inr known ↦
          let same : more ≡ seen = is ∙ (rw known refl) in
          rw same (known_step supported seen a left known)
      | inl unknown ↦ elim (cases_Bool (has_kind a.kind seen)) [
        | inl there ↦
            let same : more ≡ seen = is ∙ (rw (unknown, there) refl) in
            rw same (listed_step supported seen a left unknown there)
        | inr new ↦
            let same : more ≡ seen ++ a.kind ∷ [] = is ∙ (rw (unknown, new) refl) in
            rw same (unlisted_step supported seen a left unknown new)
      ]
    ]

pub numbers_more : (ts : List AttributeType) (t : AttributeType) → map (λ (t : AttributeType). t.0) (ts ++ t ∷ []) ≡ map (λ (t : AttributeType). t.0) ts ++ t.0 ∷ []
numbers_more [] t = refl
numbers_more (u ∷ ts) t = ap (λ (l : List ℕ). u.0 ∷ l) (numbers_more ts t)

-- ---- a required type that is not shown

visible_kind : (kind : ℕ) (all : List Attr) → is_some (find (λ a. a.kind == kind) all) ≡ has_kind kind (kinds_of all)
visible_kind kind [] = refl
visible_kind kind (a ∷ all) =
    elim (cases_Bool (eqb a.kind kind)) [
      | inl h ↦ rw h refl
      | inr h ↦ rw h (visible_kind kind all)
    ]

pub missing_numbers : (all : List Attr) (required : List AttributeType) → list_any (λ (t : AttributeType). not (is_some (find (λ a. a.kind == t.0) all))) required ≡ is_missing all (map (λ (t : AttributeType). t.0) required)
missing_numbers all [] = refl
missing_numbers all (t ∷ required) =
    rw (visible_kind t.0 all) (ap (λ (b : Bool). not (has_kind t.0 (kinds_of all)) || b) (missing_numbers all required))

-- ---- what is wrong where no type is listed

-- If the list of the unknown types is empty, there are none.
pub none_unknown : (all : List Attr) (supported : List ℕ) (listed : List AttributeType) → map (λ (t : AttributeType). t.0) listed ≡ unknown_kinds all supported → length listed ≡ 0 → unknown_kinds all supported ≡ []
none_unknown all supported [] is none = sym is
none_unknown all supported (t ∷ listed) is none = absurd (omega (arith, none))

-- A required type is missing exactly if the code finds one that is not visible.
pub missing_is : (all : List Attr) (required : List AttributeType) (lacks answer : Bool) → lacks ≡ list_any (λ (t : AttributeType). not (is_some (find (λ a. a.kind == t.0) all))) required → lacks ≡ answer → is_missing all (map (λ (t : AttributeType). t.0) required) ≡ answer
missing_is all required lacks answer is decoded = sym (missing_numbers all required) ∙ sym is ∙ decoded

-- ---- whether an unknown type is visible

no_unknown : (p : ℕ → Bool) (all : List Attr) → list_any (λ (a : Attr). p a.kind) all ≡ false → filter p (kinds_of all) ≡ []
no_unknown p [] h = refl
no_unknown p (a ∷ all) h =
    elim (cases_Bool (p a.kind)) [
      | inl is ↦ absurd (let q = rw is at h in cc)
      | inr isnt ↦ rw isnt (no_unknown p all (rw isnt at h))
    ]

-- If no unknown type is visible, the list is empty.
pub none_visible : (all : List Attr) (supported : List ℕ) → list_any (λ (a : Attr). is_unknown supported a.kind) all ≡ false → unknown_kinds all supported ≡ []
unfolding unknown_kinds each_once
none_visible all supported h = ap each_once (no_unknown (is_unknown supported) all h)

-- The list is not empty.
record AreSome (kinds : List ℕ) : Type 0 where
  first : ℕ
  rest : List ℕ
  is : kinds ≡ first ∷ rest

some_unknown : (p : ℕ → Bool) (all : List Attr) → list_any (λ (a : Attr). p a.kind) all ≡ true → AreSome (filter p (kinds_of all))
some_unknown p [] h = absurd (cc h)
some_unknown p (a ∷ all) h =
    elim (cases_Bool (p a.kind)) [
      | inl is ↦ record { first = a.kind; rest = filter p (kinds_of all); is = rw is refl }
      | inr isnt ↦ rw isnt (some_unknown p all (rw isnt at h))
    ]

some_once : (kinds : List ℕ) → AreSome kinds → AreSome (each_once kinds)
unfolding each_once
some_once kinds h = record { first = h.first; rest = filter (λ m. not (h.first == m)) (each_once h.rest); is = ap each_once h.is }

some_objection : (kinds : List ℕ) (missing : Bool) → AreSome kinds → objection_to kinds missing ≡ Some (unknown_response_attributes kinds)
some_objection kinds missing h = rw (h.is) refl

some_refusal : (limit : Option ℕ) (kinds : List ℕ) (missing : Bool) → AreSome kinds → objection_refusal_to limit kinds missing ≡ unknown_refusal limit (length kinds)
some_refusal limit kinds missing h = rw (h.is) refl

some_visible : (all : List Attr) (supported : List ℕ) → list_any (λ (a : Attr). is_unknown supported a.kind) all ≡ true → AreSome (unknown_kinds all supported)
unfolding unknown_kinds
some_visible all supported h = some_once _ (some_unknown (is_unknown supported) all h)

-- If an unknown type is visible, the response lists the unknown types.
pub unknown_objection : (all : List Attr) (supported required : List ℕ) → list_any (λ (a : Attr). is_unknown supported a.kind) all ≡ true → objection all supported required ≡ Some (unknown_response_attributes (unknown_kinds all supported))
unknown_objection all supported required h = some_objection _ (is_missing all required) (some_visible all supported h)

pub unknown_refused : (limit : Option ℕ) (all : List Attr) (supported required : List ℕ) (count : ℕ) → list_any (λ (a : Attr). is_unknown supported a.kind) all ≡ true → count ≡ length (unknown_kinds all supported)
    → unknown_refusal limit count ≡ objection_refusal limit all supported required
unknown_refused limit all supported required count h counted = ap (λ (n : ℕ). unknown_refusal limit n) counted ∙ sym (some_refusal limit _ (is_missing all required) (some_visible all supported h))
