use Rattle.turn_desk_world.specs.Model.{World}
use Rattle.test_honest_network.specs.Simulations.{plan_of}
use Rattle.test_honest_network.specs.Wishes.{IsBound}
use Rattle.test_honest_network.specs.declared.asking.Wish.{Wish}
use Rattle.test_honest_network.proofs.Wished.{known}
use Rattle.test_honest_network.proofs.asking.bind.Goals as goal

pub returns : goal.returns
returns c = known (plan_of c.args.setting.now) (λ (old : World) (wish : Wish) (new : World). IsBound (plan_of c.args.setting.now) c.args.address c.args.peer old wish new)
    c.in_ok-world.world c.bind_in-wish.new.world c.in_ok-world.ensures.fresh c.bind_in-wish.result (c.bind_in-wish.ensures c.in_ok-world.ensures.fresh)
