use Rattle.std.proofs.Common.{List, arith, subst}
use Rattle.stun_types_base.specs.declared.family.AddressFamily.{AddressFamily}
use Rattle.std.specs.List.{IsDistinct}
use Rattle.turn_client_proto_api.specs.Families.{is_same_family}
use Rattle.turn_client_proto_messages.proofs.Families.{two_families}
use Rattle.turn_client_proto_messages.proofs.laws.proof_requests_are_lawful.Goals as goal

pub returns-in-FirstAllocate : goal.returns-in-FirstAllocate
returns-in-FirstAllocate c =
    let slice = c.as_slice-families in
    rw c.in-FirstAllocate.is (record {
      few = two_families c.in-FirstAllocate.families (subst (λ (l : List AddressFamily). IsDistinct is_same_family l) slice.ensures.value slice.ensures.distinct);
      fits = (let bound = c.lifetime_of-lifetime.type_inv in let same = c.lifetime_of-lifetime.ensures in omega (arith, bound, same));
    })

pub returns-in-Allocate : goal.returns-in-Allocate
returns-in-Allocate c =
    let slice = c.as_slice-families-in-Allocate in
    rw c.in-Allocate.is (record {
      few = two_families c.in-Allocate.families (subst (λ (l : List AddressFamily). IsDistinct is_same_family l) slice.ensures.value slice.ensures.distinct);
      fits = (let bound = c.lifetime_of-lifetime-in-Allocate.type_inv in let same = c.lifetime_of-lifetime-in-Allocate.ensures in omega (arith, bound, same));
    })
