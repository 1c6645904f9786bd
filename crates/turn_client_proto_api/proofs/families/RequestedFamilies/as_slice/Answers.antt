use Rattle.turn_client_proto_api.specs.declared.families.FamilyOrder.TheVariants.{OnlyV4, OnlyV6, V4First, V6First}
use Rattle.turn_client_proto_api.proofs.FamilyLemmas.{families_in-IsDistinct}
use Rattle.turn_client_proto_api.proofs.families.RequestedFamilies.as_slice.Goals as goal

pub returns-in-OnlyV4-clause-distinct : goal.returns-in-OnlyV4-clause-distinct
returns-in-OnlyV4-clause-distinct c = families_in-IsDistinct OnlyV4

pub returns-in-OnlyV6-clause-distinct : goal.returns-in-OnlyV6-clause-distinct
returns-in-OnlyV6-clause-distinct c = families_in-IsDistinct OnlyV6

pub returns-in-V4First-clause-distinct : goal.returns-in-V4First-clause-distinct
returns-in-V4First-clause-distinct c = families_in-IsDistinct V4First

pub returns-in-V6First-clause-distinct : goal.returns-in-V6First-clause-distinct
returns-in-V6First-clause-distinct c = families_in-IsDistinct V6First
