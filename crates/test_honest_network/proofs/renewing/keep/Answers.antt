use Rattle.std.proofs.Common.{[], ◌∷◌, refl, sym, ap}
use Rattle.stun_types_base.specs.declared.family.AddressFamily.{AddressFamily}
use Rattle.test_honest_network.specs.Simulations.{plan_of}
use Rattle.test_honest_network.proofs.Driving.{known}
use Rattle.test_honest_network.proofs.renewing.keep.Goals as goal

pub returns : goal.returns
returns c = known (plan_of c.args.setting.now) c.args.address c.in_ok-world.world c.in_ok-world.ensures.fresh c.simulate_and_keep-stored.result
    (c.simulate_and_keep-stored.ensures (plan_of c.args.setting.now) c.in_ok-world.ensures.fresh refl refl (ap (λ (f : AddressFamily). f ∷ []) (sym c.requires.family)) c.requires.whole)
