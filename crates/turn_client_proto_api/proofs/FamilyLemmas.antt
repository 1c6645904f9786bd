-- Lemmas on the lists of requested families.
use Rattle.std.proofs.Common.{refl}
use Rattle.std.specs.List.{IsDistinct}
use Rattle.turn_client_proto_api.specs.Families.{is_same_family}
use Rattle.turn_client_proto_api.specs.FamilyOrders.{families_in}
use Rattle.turn_client_proto_api.specs.declared.families.FamilyOrder.{FamilyOrder}
use Rattle.turn_client_proto_api.specs.declared.families.FamilyOrder.TheVariants.{OnlyV4, OnlyV6, V4First, V6First}

-- The families of an order are distinct.
pub families_in-IsDistinct : (order : FamilyOrder) → IsDistinct is_same_family (families_in order)
unfolding IsDistinct
families_in-IsDistinct OnlyV4 = (tt, tt)
families_in-IsDistinct OnlyV6 = (tt, tt)
families_in-IsDistinct V4First = ((refl, tt), (tt, tt))
families_in-IsDistinct V6First = ((refl, tt), (tt, tt))
