-- Lists of address families.
use Rattle.std.specs.Prelude.{Bool, true, false, if◌then◌else◌, List, [], ◌∷◌, ◌++◌}
use Rattle.std.specs.List.{list_any}
use Rattle.stun_types_base.specs.declared.family.AddressFamily.{AddressFamily}
use Rattle.stun_types_base.specs.declared.family.AddressFamily.TheVariants.{IPV4, IPV6}

-- Two families are equal.
abbrev pub is_same_family : AddressFamily → AddressFamily → Bool
is_same_family IPV4 IPV4 = true
is_same_family IPV6 IPV6 = true
is_same_family IPV4 IPV6 = false
is_same_family IPV6 IPV4 = false

-- The list with a family added at its end, or the list itself if it has that family already.
abbrev pub with_family : List AddressFamily → AddressFamily → List AddressFamily
with_family families family =
    if list_any (is_same_family family) families then families else families ++ family ∷ []
