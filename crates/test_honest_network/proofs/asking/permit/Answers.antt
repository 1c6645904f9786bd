use Rattle.turn_desk_world.specs.Model.{World}
use Rattle.test_honest_network.specs.Simulations.{plan_of}
use Rattle.test_honest_network.specs.Wishes.{IsPermitted}
use Rattle.test_honest_network.specs.declared.asking.Wish.{Wish}
use Rattle.test_honest_network.proofs.Wished.{known}
use Rattle.test_honest_network.proofs.asking.permit.Goals as goal

pub returns : goal.returns
returns c = known (plan_of c.args.setting.now) (λ (old : World) (wish : Wish) (new : World). IsPermitted (plan_of c.args.setting.now) c.args.address c.args.ip old wish new)
    c.in_ok-world.world c.permit_in-wish.new.world c.in_ok-world.ensures.fresh c.permit_in-wish.result (c.permit_in-wish.ensures c.in_ok-world.ensures.fresh)
