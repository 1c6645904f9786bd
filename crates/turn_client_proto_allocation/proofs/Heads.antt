-- The first elements of a list to which something was appended twice.
use Rattle.std.proofs.Common.{◌≡◌, List, [], ◌∷◌, ◌++◌, length, take, refl, ap, ◌∙◌}
use Rattle.turn_client_proto_allocation.proofs.Prefixes.{head_stored, whole_stored}

pub head_of : {X : Type 0} (prefix middle all : List X) → take (length (prefix ++ middle)) all ≡ prefix ++ middle → take (length prefix) all ≡ prefix
head_of [] middle all is = refl
head_of (x ∷ prefix) middle [] is = absurd (Prim.cc is)
head_of {X = X} (x ∷ prefix) middle (y ∷ all) is =
    let head : y ≡ x = Prim.cc is in
    let tail : take (length (prefix ++ middle)) all ≡ prefix ++ middle = Prim.cc is in
    ap (λ (z : X). z ∷ take (length prefix) all) head ∙ ap (λ (l : List X). x ∷ l) (head_of prefix middle all tail)

-- The first elements of a list that grows.
pub ruleset heads = (head_stored, whole_stored, head_of)
