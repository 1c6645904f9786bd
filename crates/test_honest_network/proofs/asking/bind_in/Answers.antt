use Rattle.std.proofs.Common.{[], ◌∷◌, refl, sym, ap}
use Rattle.stun_types_base.specs.declared.family.AddressFamily.{AddressFamily}
use Rattle.test_honest_network.specs.Simulations.{plan_of}
use Rattle.test_honest_network.proofs.Wished.{wished_channel}
use Rattle.test_honest_network.proofs.asking.bind_in.Goals as goal

pub returns-in-Allocated : goal.returns-in-Allocated
returns-in-Allocated c = λ fresh.
    let met = rw c.in-Allocated.is at (c.in_ok-shake.ensures (plan_of c.args.setting.now) fresh refl (sym c.from_nanos-second.ensures) (ap (λ (f : AddressFamily). f ∷ []) (sym c.requires.family)) c.requires.whole) in
    wished_channel c.requested_things_are_held.ensures.channel c.honest_runs_allocate.ensures.occurs c.args.setting.now c.args.address c.args.peer c.args.world.now c.shake.new.world c.ask.new.world fresh met c.ask.result c.ask.ensures
