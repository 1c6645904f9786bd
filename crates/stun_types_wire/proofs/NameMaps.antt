-- The maps of names, as the fields store them and as contracts see them.
use Rattle.std.proofs.Common.{◌≡◌, ℕ, List, Option, Some, Bor, sym, ap, ◌∙◌}
use Rattle.std.specs.BTreeMap as tree
use Rattle.std.specs.Cmp.{nat_cmp_total}
use Rattle.std.specs.FinMap as map
use Rattle.std.specs.FinMap.{nat_cmp-IsAntisymmetric}
use Rattle.std.specs.Option.{option_map}
use Rattle.std.specs.Ordering.{nat_cmp}
use Rattle.stun_types_base.proofs.MapView.{get-finite_map, insert-finite_map}
use Rattle.stun_types_wire.specs.NamesView.{names_in}

abbrev text_of : Bor (List ℕ) → List ℕ
text_of name = name.now

-- Looking up a number in the map of contracts gives the name that the stored map has for it.
pub get-names : (stored : tree.BTreeMap ℕ (Bor (List ℕ))) (n : ℕ) (found : Option (Bor (List ℕ)))
    → found ≡ tree.get nat_cmp stored n → map.get (names_in stored) n ≡ option_map text_of found
get-names stored n found is =
    get-finite_map (λ key. key) nat_cmp_total text_of stored n ∙ ap (option_map text_of) (sym is)

-- Adding a name for a number to the stored map adds it to the map of contracts.
pub insert-names : (old new : tree.BTreeMap ℕ (Bor (List ℕ))) (n : ℕ) (name : Bor (List ℕ))
    → tree.Updates nat_cmp old new n (Some name) → names_in new ≡ map.insert (names_in old) n name.now
insert-names old new n name updates =
    insert-finite_map (λ key. key) nat_cmp_total text_of nat_cmp-IsAntisymmetric old new n name updates.0
