-- The requested address families.
use Rattle.std.proofs.Common.{◌≤◌, List, [], ◌∷◌, length, arith}
use Rattle.std.specs.List.{IsDistinct}
use Rattle.stun_types_base.specs.declared.family.AddressFamily.{AddressFamily}
use Rattle.stun_types_base.specs.declared.family.AddressFamily.TheVariants.{IPV4, IPV6}
use Rattle.turn_client_proto_api.specs.Families.{is_same_family}

-- There are at most two distinct families.
pub two_families : (families : List AddressFamily) → IsDistinct is_same_family families → length families ≤ 2
unfolding IsDistinct
two_families [] d = omega arith
two_families (a ∷ []) d = omega arith
two_families (a ∷ b ∷ []) d = omega arith
two_families (IPV4 ∷ IPV4 ∷ c ∷ rest) d = absurd (Prim.cc d.0.0)
two_families (IPV4 ∷ IPV6 ∷ IPV4 ∷ rest) d = absurd (Prim.cc d.0.1.0)
two_families (IPV4 ∷ IPV6 ∷ IPV6 ∷ rest) d = absurd (Prim.cc d.1.0.0)
two_families (IPV6 ∷ IPV4 ∷ IPV4 ∷ rest) d = absurd (Prim.cc d.1.0.0)
two_families (IPV6 ∷ IPV4 ∷ IPV6 ∷ rest) d = absurd (Prim.cc d.0.1.0)
two_families (IPV6 ∷ IPV6 ∷ c ∷ rest) d = absurd (Prim.cc d.0.0)
