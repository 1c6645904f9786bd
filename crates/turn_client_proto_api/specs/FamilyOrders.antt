-- The lists of requested families, as they are stored.
use Rattle.std.specs.Prelude.{◌≡◌, List, [], ◌∷◌, refl}
use Rattle.stun_types_base.specs.declared.family.AddressFamily.{AddressFamily}
use Rattle.stun_types_base.specs.declared.family.AddressFamily.TheVariants.{IPV4, IPV6}
use Rattle.turn_client_proto_api.specs.declared.families.FamilyOrder.{FamilyOrder}
use Rattle.turn_client_proto_api.specs.declared.families.FamilyOrder.TheVariants.{OnlyV4, OnlyV6, V4First, V6First}

-- The families of an order, the first one first.
abbrev pub families_in : FamilyOrder → List AddressFamily
families_in OnlyV4 = IPV4 ∷ []
families_in OnlyV6 = IPV6 ∷ []
families_in V4First = IPV4 ∷ IPV6 ∷ []
families_in V6First = IPV6 ∷ IPV4 ∷ []

-- The order of a list of distinct families.
abbrev pub family_order_of : List AddressFamily → FamilyOrder
family_order_of [] = OnlyV4
family_order_of (IPV4 ∷ []) = OnlyV4
family_order_of (IPV6 ∷ []) = OnlyV6
family_order_of (IPV4 ∷ second ∷ others) = V4First
family_order_of (IPV6 ∷ second ∷ others) = V6First

-- The order of the list of an order's families is that order.
pub family_order_of-families_in : (order : FamilyOrder) → family_order_of (families_in order) ≡ order
family_order_of-families_in OnlyV4 = refl
family_order_of-families_in OnlyV6 = refl
family_order_of-families_in V4First = refl
family_order_of-families_in V6First = refl
