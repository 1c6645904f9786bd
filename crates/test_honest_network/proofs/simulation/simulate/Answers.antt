use Rattle.std.proofs.Common.{[], ◌∷◌, refl, sym, ap}
use Rattle.stun_types_base.specs.declared.family.AddressFamily.{AddressFamily}
use Rattle.test_honest_network.specs.Simulations.{plan_of}
use Rattle.test_honest_network.proofs.Shaking.{known}
use Rattle.test_honest_network.proofs.simulation.simulate.Goals as goal

pub returns : goal.returns
returns c = known (plan_of c.args.setting.now) c.args.address c.in_ok-world.world c.shake-outcome.new.world c.in_ok-world.ensures.fresh c.shake-outcome.result
    (c.shake-outcome.ensures (plan_of c.args.setting.now) c.in_ok-world.ensures.fresh refl (sym c.from_nanos-second.ensures) (ap (λ (f : AddressFamily). f ∷ []) (sym c.requires.family)) c.requires.whole)
