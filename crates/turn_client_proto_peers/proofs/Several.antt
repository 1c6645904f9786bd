-- Permissions of several addresses.
use Rattle.std.proofs.Common.{◌≡◌, ℕ, ◌+◌, ◌<◌, List, [], ◌∷◌, ◌++◌, length, map, take, refl, sym, ◌∙◌, ap, arith}
use Rattle.std.specs.Prelude.{◌≢◌}
use Rattle.std.specs.List.{flat_map}
use Rattle.std.proofs.lemmas.List.{append_assoc, length-append, map-append, take-append-le}
use Rattle.std.specs.declared.net.ip_addr.IpAddr.{IpAddr}
use Rattle.turn_client_proto_allocation.proofs.Reported.{left_some}
use Rattle.turn_client_proto_allocation.specs.Permissions.{addresses_of}
use Rattle.turn_client_proto_allocation.specs.declared.permission.PendingPermission.{PendingPermission}

-- ---- the last element is taken off

-- A list that is not empty, by its last element.
last_of : {X : Type 0} (xs : List X) → 0 < length xs → (before : List X) × (x : X) × (xs ≡ before ++ x ∷ [])
last_of [] some = absurd (omega (arith, some))
last_of (x ∷ []) some = ([], x, refl)
last_of {X = X} (x ∷ y ∷ rest) some =
    let later = last_of (y ∷ rest) (omega arith) in
    (x ∷ later.0, later.1, ap (λ (l : List X). x ∷ l) later.2)

-- What taking the last element off leaves: the first elements, and one element less.
pub taken_off : {X : Type 0} (count : ℕ) (old new : List X) → ((xs : List X) (x : X) → old ≡ xs ++ x ∷ [] → new ≡ xs) → count < length old
    → (take count new ≡ take count old) × (length new < length old)
taken_off {X = X} count old new undone many =
    let last = last_of old (omega (arith, many)) in
    let before : List X = last.0 in
    let is : new ≡ before = undone before last.1 last.2 in
    let long : length old ≡ length before + 1 = ap (λ (l : List X). length l) last.2 ∙ length-append before (last.1 ∷ []) in
    let short : length new ≡ length before = ap (λ (l : List X). length l) is in
    (ap (take count) is ∙ sym (take-append-le count before (last.1 ∷ []) (omega (arith, many, long))) ∙ ap (take count) (sym last.2), omega (arith, long, short))

-- ---- events for several addresses

-- One more address was told.
pub told_more : {X : Type 0} (f : IpAddr → X) (events now : List X) (told more : List IpAddr) (y : IpAddr) → now ≡ events ++ map f told → more ≡ told ++ y ∷ []
    → now ++ f y ∷ [] ≡ events ++ map f more
told_more {X = X} f events now told more y is grown =
    ap (λ (l : List X). l ++ f y ∷ []) is ∙ append_assoc events (map f told) (f y ∷ []) ∙ ap (λ (l : List X). events ++ l) (sym (map-append f told (y ∷ [])) ∙ ap (map f) (sym grown))

-- An address that comes before was not told again.
pub told_again : {X : Type 0} (f : IpAddr → X) (events now : List X) (told more : List IpAddr) → now ≡ events ++ map f told → more ≡ told → now ≡ events ++ map f more
told_again {X = X} f events now told more is same = is ∙ ap (λ (l : List IpAddr). events ++ map f l) (sym same)

-- Each pending permission has an address.
pub some_named : (xs : List PendingPermission) → xs ≢ [] → flat_map addresses_of xs ≢ []
some_named [] some = absurd (some refl)
some_named (p ∷ xs) some = left_some (addresses_of p) (flat_map addresses_of xs) (λ none. absurd (Prim.cc none))
