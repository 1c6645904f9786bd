use Rattle.test_honest_network.specs.Simulations.{plan_of}
use Rattle.test_honest_network.proofs.Processing.{known}
use Rattle.test_honest_network.proofs.asking.receive.Goals as goal

pub returns : goal.returns
returns c = known (plan_of c.args.setting.now) c.args.address c.in_ok-world.world c.receive_in-wish.new.world c.in_ok-world.ensures.fresh c.receive_in-wish.result (c.receive_in-wish.ensures c.in_ok-world.ensures.fresh)
