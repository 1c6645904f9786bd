-- Printing one text after another.
use Rattle.std.proofs.Common.{ℕ, List, [], ◌++◌, sym, ◌∙◌, ap, append_assoc}
use Rattle.std.specs.Prelude.{Option, Some, None}
use Rattle.std.specs.Io.KnownBytes.{Appends, Keeps}
use Rattle.std.proofs.lemmas.List.{append-nil}

-- Printing two texts prints their concatenation.
pub appends_on : (old mid new : Option (List ℕ)) (xs ys : List ℕ) → Appends old mid xs → Appends mid new ys → Appends old new (xs ++ ys)
appends_on None mid new xs ys first second = tt
appends_on (Some a) None new xs ys first second = absurd first
appends_on (Some a) (Some b) None xs ys first second = absurd second
appends_on (Some a) (Some b) (Some c) xs ys first second =
    second ∙ ap (λ head. head ++ ys) first ∙ append_assoc a xs ys

-- Printing nothing leaves the output unchanged.
pub appends_nothing : (old : Option (List ℕ)) → Appends old old []
appends_nothing None = tt
appends_nothing (Some a) = sym (append-nil a)

pub appends_stored : (old mid new : Option (List ℕ)) (xs : List ℕ) → Appends old mid xs → Keeps mid new → Appends old new xs
appends_stored None mid new xs first stored = tt
appends_stored (Some a) None new xs first stored = absurd first
appends_stored (Some a) (Some b) None xs first stored = absurd stored
appends_stored (Some a) (Some b) (Some c) xs first stored = stored ∙ first
