-- The first address of each family, taken one after another.
use Rattle.std.proofs.Common.{◌≡◌, ℕ, Bool, true, false, not, ◌&&◌, ◌||◌, cond, List, [], ◌∷◌, ◌++◌, map, fold, Option, Some, None, refl, sym, ap, ◌∙◌, inl, inr}
use Rattle.std.specs.List.{filter, filter_map, take_while}
use Rattle.std.specs.Prelude.{is_some}
use Rattle.std.specs.declared.net.socket_addr.SocketAddr.{SocketAddr}
use Rattle.std.proofs.lemmas.Bool.{cases_Bool}
use Rattle.std.proofs.lemmas.List.{append_assoc, append-nil}
use Rattle.std.proofs.lemmas.List.Folds.{list_any-append}
use Rattle.std.proofs.lemmas.List.Sums.{take_while-cons}
use Rattle.stun_types_wire.specs.Attributes.{Attr}
use Rattle.stun_types_base.specs.Family.{family_of_socket}
use Rattle.stun_types_base.specs.declared.family.AddressFamily.{AddressFamily}
use Rattle.stun_types_base.specs.declared.family.AddressFamily.TheVariants.{IPV4, IPV6}
use Rattle.stun_types_base.specs.declared.transport.TransportType.{TransportType}
use Rattle.turn_types_peer.specs.TurnShows.{address_in}
use Rattle.turn_client_proto_allocation.specs.Refreshing.{granted}
use Rattle.turn_client_proto_allocation.specs.declared.allocation.Allocation.{Allocation}
use Rattle.turn_client_proto_api.specs.Families.{is_same_family}
use Rattle.turn_client_proto_messages.specs.Granting.{allocations_of, are_of_one_family, counts, first_of_each, has_family, is_wanted, with_address}
use Rattle.turn_client_proto_messages.specs.Reported.{addresses_in}
use Rattle.stun_types_wire.proofs.Left.{map_numbered}

-- ---- the addresses, one attribute after the other

-- The address, if there is one, before the others.
abbrev pub with_others : Option SocketAddr → List SocketAddr → List SocketAddr
with_others None others = []
with_others (Some address) others = address ∷ others

-- The addresses in attributes, up to the first that is malformed.
unfoldable pub reported_before : ℕ → List Attr → List SocketAddr
reported_before number [] = []
reported_before number (a ∷ rest) = with_others (address_in number a) (reported_before number rest)

one_read : (o : Option SocketAddr) (h : Attr → Option SocketAddr) (a : Attr) (rest : List Attr) → h a ≡ o
    → filter_map h (cond (is_some o) (a ∷ rest) []) ≡ with_others o (filter_map h rest)
one_read None h a rest is = refl
one_read (Some address) h a rest is = rw is refl

pub all_read : (number : ℕ) (all : List Attr) → reported_before number all ≡ addresses_in number all
unfolding reported_before
all_read number [] = refl
all_read number (a ∷ rest) =
    ap (with_others (address_in number a)) (all_read number rest)
    ∙ sym (one_read (address_in number a) (address_in number) a (take_while (λ b. is_some (address_in number b)) rest) refl)
    ∙ ap (filter_map (address_in number)) (sym (take_while-cons (λ b. is_some (address_in number b)) a rest))

-- ---- tests, one after the other

-- Filtering by one test and then by another is filtering by both.
filter_both : {X : Type 0} (p q r : X → Bool) → ((x : X) → r x ≡ (q x && p x)) → (all : List X) → filter p (filter q all) ≡ filter r all
filter_both p q r is [] = refl
filter_both p q r is (x ∷ rest) =
    let others = filter_both p q r is rest in
    elim (cases_Bool (q x)) [
      | inl first ↦ elim (cases_Bool (p x)) [
        | inl second ↦ rw (is x, first, second) (ap (λ l. x ∷ l) others)
        | inr second ↦ rw (is x, first, second) others
      ]
      | inr first ↦ rw (is x, first) others
    ]

-- Tests that agree filter alike.
filter_alike : {X : Type 0} (p q : X → Bool) → ((x : X) → p x ≡ q x) → (all : List X) → filter p all ≡ filter q all
filter_alike p q is [] = refl
filter_alike p q is (x ∷ rest) =
    let others = filter_alike p q is rest in
    elim (cases_Bool (q x)) [
      | inl passes ↦ rw (is x, passes) (ap (λ l. x ∷ l) others)
      | inr fails ↦ rw (is x, fails) others
    ]

-- ---- a test that likes pass alike

swapped : (b c : Bool) → (b && c) ≡ (c && b)
swapped true true = refl
swapped true false = refl
swapped false true = refl
swapped false false = refl

-- An element that fails leaves none that is like it.
fails_for_likes : {X : Type 0} (p : X → Bool) (like : X → X → Bool) (x : X) → ((y : X) → like x y ≡ true → p y ≡ p x) → p x ≡ false → (y : X) → p y ≡ (not (like x y) && p y)
fails_for_likes p like x alike fails y =
    elim (cases_Bool (like x y)) [
      | inl is ↦ rw is (alike y is ∙ fails)
      | inr is ↦ rw is refl
    ]

first_passing : {X : Type 0} (p : X → Bool) (like : X → X → Bool) → ((x y : X) → like x y ≡ true → p y ≡ p x) → (all : List X)
    → filter p (first_of_each like all) ≡ first_of_each like (filter p all)
first_passing {X = X} p like alike [] = refl
first_passing {X = X} p like alike (x ∷ rest) =
    let others = first_passing p like alike rest in
    let unlike : X → Bool = λ y. not (like x y) in
    let firsts : List X = first_of_each like rest in
    elim (cases_Bool (p x)) [
      | inl passes ↦ rw passes (ap (λ l. x ∷ l) (
          filter_both p unlike (λ y. unlike y && p y) (λ y. refl) firsts
          ∙ sym (filter_both unlike p (λ y. unlike y && p y) (λ y. swapped (unlike y) (p y)) firsts)
          ∙ ap (filter unlike) others))
      | inr fails ↦ rw fails (
          filter_both p unlike p (fails_for_likes p like x (alike x) fails) firsts ∙ others)
    ]

-- ---- families

same_family_alike : (a b c : AddressFamily) → is_same_family b c ≡ true → not (is_same_family a c) ≡ not (is_same_family a b)
same_family_alike IPV4 IPV4 IPV4 is = refl
same_family_alike IPV4 IPV6 IPV6 is = refl
same_family_alike IPV6 IPV4 IPV4 is = refl
same_family_alike IPV6 IPV6 IPV6 is = refl
same_family_alike a IPV4 IPV6 is = absurd cc
same_family_alike a IPV6 IPV4 is = absurd cc

same_family_back : (a b : AddressFamily) → is_same_family b a ≡ is_same_family a b
same_family_back IPV4 IPV4 = refl
same_family_back IPV4 IPV6 = refl
same_family_back IPV6 IPV4 = refl
same_family_back IPV6 IPV6 = refl

-- ---- the allocations, one address after the other

none_of_more : (wanted had back like : Bool) → back ≡ like → (wanted && not (had || (back || false))) ≡ ((wanted && not had) && not like)
none_of_more false had back like is = refl
none_of_more true true back like is = refl
none_of_more true false true true is = refl
none_of_more true false false false is = refl
none_of_more true false true false is = absurd cc
none_of_more true false false true is = absurd cc

-- After an address was added, another one counts if it counted before and is of another family.
counts_after : (families : List AddressFamily) (transport : TransportType) (lifetime now : ℕ) (before : List Allocation) (x y : SocketAddr)
    → counts families (before ++ granted transport x lifetime now ∷ []) y ≡ (counts families before y && not (are_of_one_family x y))
counts_after families transport lifetime now before x y =
    let test : Allocation → Bool = λ a. is_same_family (family_of_socket y) (family_of_socket a.address) in
    ap (λ (b : Bool). is_wanted families y && not b) (list_any-append test before (granted transport x lifetime now ∷ []))
    ∙ none_of_more (is_wanted families y) (has_family (family_of_socket y) before) (is_same_family (family_of_socket y) (family_of_socket x)) (are_of_one_family x y) (same_family_back (family_of_socket x) (family_of_socket y))

-- The given allocations, and after them those for the first address of each family that counts.
abbrev granted_after : List AddressFamily → TransportType → ℕ → ℕ → List Allocation → List SocketAddr → List Allocation
granted_after families transport lifetime now before addresses =
    before ++ map (λ a. granted transport a lifetime now) (first_of_each are_of_one_family (filter (counts families before) addresses))

one_by_one : (families : List AddressFamily) (transport : TransportType) (lifetime now : ℕ) (before : List Allocation) (addresses : List SocketAddr)
    → fold (with_address families transport lifetime now) before addresses ≡ granted_after families transport lifetime now before addresses
unfolding with_address
one_by_one families transport lifetime now before [] = sym (append-nil before)
one_by_one families transport lifetime now before (x ∷ rest) =
    let grant : SocketAddr → Allocation = λ a. granted transport a lifetime now in
    let more : List Allocation = before ++ grant x ∷ [] in
    let unlike : SocketAddr → Bool = λ y. not (are_of_one_family x y) in
    let following : filter unlike (first_of_each are_of_one_family (filter (counts families before) rest)) ≡ first_of_each are_of_one_family (filter (counts families more) rest) =
    first_passing unlike are_of_one_family (λ u v. same_family_alike (family_of_socket x) (family_of_socket u) (family_of_socket v)) (filter (counts families before) rest)
    ∙ ap (first_of_each are_of_one_family) (filter_both unlike (counts families before) (counts families more) (counts_after families transport lifetime now before x) rest) in
    elim (cases_Bool (counts families before x)) [
      | inl is ↦ rw is (
          one_by_one families transport lifetime now more rest
          ∙ append_assoc before (grant x ∷ []) (map grant (first_of_each are_of_one_family (filter (counts families more) rest)))
          ∙ ap (λ l. before ++ grant x ∷ map grant l) (sym following))
      | inr is ↦ rw is (one_by_one families transport lifetime now before rest)
    ]

wanted_alone : (families : List AddressFamily) (y : SocketAddr) → counts families [] y ≡ is_wanted families y
wanted_alone families y = swapped (is_wanted families y) true

pub all_granted : (families : List AddressFamily) (transport : TransportType) (lifetime now number : ℕ) (all : List Attr)
    → fold (with_address families transport lifetime now) [] (reported_before number all) ≡ allocations_of families transport lifetime now (addresses_in number all)
all_granted families transport lifetime now number all =
    one_by_one families transport lifetime now [] (reported_before number all)
    ∙ ap (λ l. map (λ a. granted transport a lifetime now) (first_of_each are_of_one_family l)) (filter_alike (counts families []) (is_wanted families) (wanted_alone families) (reported_before number all))
    ∙ ap (allocations_of families transport lifetime now) (all_read number all)

-- One more attribute, and all of them.
pub ruleset firsts = (map_numbered, all_granted)
