-- The elements that are not like an earlier one, when the list grows.
use Rattle.std.proofs.Common.{◌≡◌, ℕ, ◌+◌, ◌<◌, Bool, true, false, ◌||◌, not, List, [], ◌∷◌, ◌++◌, filter, get_or, length, take, if◌then◌else◌, refl, sym, ◌∙◌, ap}
use Rattle.std.proofs.lemmas.List.Elements.{filter-append}
use Rattle.std.proofs.lemmas.List.{append-nil, take_more}
use Rattle.std.specs.List.{list_any}
use Rattle.std.specs.declared.net.ip_addr.IpAddr.{IpAddr}
use Rattle.turn_client_proto_allocation.specs.Firsts.{first_of_each}
use Rattle.turn_client_proto_allocation.specs.Permissions.{each_once}
use Rattle.turn_client_proto_allocation.specs.Same.{is_same_ip}

-- The element alone, unless it is passed over.
abbrev pub unless : {X : Type 0} → Bool → X → List X
unless passed y = if passed then [] else y ∷ []

alone : {X : Type 0} (alike : Bool) (y : X) → (if not alike then y ∷ [] else []) ≡ unless alike y
alone true y = refl
alone false y = refl

or_true : (b : Bool) → (b || true) ≡ true
or_true true = refl
or_true false = refl

or_false : (b : Bool) → (b || false) ≡ b
or_false true = refl
or_false false = refl

filter_unless : {X : Type 0} (like : X → Bool) (passed : Bool) (y : X) → filter (λ z. not (like z)) (unless passed y) ≡ unless (like y || passed) y
filter_unless like true y = rw (or_true (like y)) refl
filter_unless like false y = alone (like y) y ∙ rw (or_false (like y)) refl

-- One more element counts unless it is like an earlier one.
pub first_more : {X : Type 0} (like : X → X → Bool) (xs : List X) (y : X) → first_of_each like (xs ++ y ∷ []) ≡ first_of_each like xs ++ unless (list_any (λ x. like x y) xs) y
first_more like [] y = refl
first_more {X = X} like (x ∷ xs) y =
    let passed = list_any (λ z. like z y) xs in
    let unlike : X → Bool = λ z. not (like x z) in
    ap (λ (l : List X). x ∷ filter unlike l) (first_more like xs y)
    ∙ ap (λ (l : List X). x ∷ l) (filter-append unlike (first_of_each like xs) (unless passed y) ∙ ap (λ (l : List X). filter unlike (first_of_each like xs) ++ l) (filter_unless (like x) passed y))

-- The address `y` comes before: it is `ip` or one of these.
abbrev pub comes_before : IpAddr → List IpAddr → IpAddr → Bool
comes_before ip before y = list_any (λ x. is_same_ip x y) (ip ∷ before)

once_more : (ip : IpAddr) (others : List IpAddr) (i : ℕ) (d : IpAddr) → i < length others
    → each_once (ip ∷ take (i + 1) others) ≡ each_once (ip ∷ take i others) ++ unless (comes_before ip (take i others) (get_or others i d)) (get_or others i d)
once_more ip others i d less =
    ap (λ (l : List IpAddr). each_once (ip ∷ l)) (take_more others i d less) ∙ first_more is_same_ip (ip ∷ take i others) (get_or others i d)

-- Each address once, of one address more: it does not come before.
pub once_new : (ip : IpAddr) (others : List IpAddr) (i : ℕ) (d : IpAddr) → i < length others → comes_before ip (take i others) (get_or others i d) ≡ false
    → each_once (ip ∷ take (i + 1) others) ≡ each_once (ip ∷ take i others) ++ get_or others i d ∷ []
once_new ip others i d less new =
    once_more ip others i d less ∙ ap (λ (b : Bool). each_once (ip ∷ take i others) ++ unless b (get_or others i d)) new

-- It comes before.
pub once_again : (ip : IpAddr) (others : List IpAddr) (i : ℕ) (d : IpAddr) → i < length others → comes_before ip (take i others) (get_or others i d) ≡ true
    → each_once (ip ∷ take (i + 1) others) ≡ each_once (ip ∷ take i others)
once_again ip others i d less again =
    once_more ip others i d less ∙ ap (λ (b : Bool). each_once (ip ∷ take i others) ++ unless b (get_or others i d)) again ∙ append-nil (each_once (ip ∷ take i others))

-- A list that holds each address once, with the new one appended.
pub appended_new : (ips told more : List IpAddr) (y : IpAddr) → ips ≡ told → more ≡ told ++ y ∷ [] → ips ++ y ∷ [] ≡ more
appended_new ips told more y is new = ap (λ (l : List IpAddr). l ++ y ∷ []) is ∙ sym new
