-- Distinct algorithms that are added one after another.
use Rattle.std.proofs.Common.{◌≡◌, Bool, false, if◌then◌else◌, List, [], ◌∷◌, ◌++◌, refl, ap, ◌∙◌}
use Rattle.std.specs.List.{AllByRecursion, IsDistinct, list_any}
use Rattle.stun_types_message.specs.Wire.declared.algorithm.IntegrityAlgorithm.{IntegrityAlgorithm}
use Rattle.stun_proto_auth.specs.SupportedAlgorithms.{is_same_algorithm, with_algorithm}
use Rattle.stun_proto_auth.proofs.Keeping.{others}

-- What holds of each element holds of the one after `head`.
of_middle : (P : IntegrityAlgorithm → Type 0) (head : List IntegrityAlgorithm) (a : IntegrityAlgorithm) (following : List IntegrityAlgorithm) → AllByRecursion P (head ++ a ∷ following) → P a
of_middle P [] a following all = all.0
of_middle P (x ∷ head) a following all = of_middle P head a following all.1

-- In a list of distinct algorithms, none is among those before it.
pub not_before : (head : List IntegrityAlgorithm) (a : IntegrityAlgorithm) (following : List IntegrityAlgorithm) → IsDistinct is_same_algorithm (head ++ a ∷ following) → list_any (is_same_algorithm a) head ≡ false
unfolding IsDistinct
not_before [] a following d = refl
not_before (x ∷ head) a following d =
    let other : is_same_algorithm a x ≡ false = others x a (of_middle (λ y. is_same_algorithm x y ≡ false) head a following d.0) in
    rw other (not_before head a following d.1)

joined : (head : List IntegrityAlgorithm) (a : IntegrityAlgorithm) (following : List IntegrityAlgorithm) → (head ++ a ∷ []) ++ following ≡ head ++ a ∷ following
joined [] a following = refl
joined (x ∷ head) a following = ap (λ (l : List IntegrityAlgorithm). x ∷ l) (joined head a following)

-- So adding it to those before it appends it.
pub next_added : (head : List IntegrityAlgorithm) (a : IntegrityAlgorithm) (following : List IntegrityAlgorithm) → IsDistinct is_same_algorithm (head ++ a ∷ following) → with_algorithm head a ++ following ≡ head ++ a ∷ following
next_added head a following d =
    let new = not_before head a following d in
    ap (λ (b : Bool). (if b then head else head ++ a ∷ []) ++ following) new ∙ joined head a following
