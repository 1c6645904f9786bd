use Rattle.test_honest_network.proofs.Processing.{came}
use Rattle.test_honest_network.proofs.asking.process.Goals as goal

pub returns-in-Peer : goal.returns-in-Peer
returns-in-Peer c = came c.args.here c.args.server c.args.world.now c.happen.new.world _ _ _ c.in_ok-indication.ensures c.from_nanos.ensures c.in_ok-happen.ensures
