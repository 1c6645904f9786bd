use Rattle.test_honest_network.proofs.Looped.{shaken_then}
use Rattle.test_honest_network.proofs.latency.shake_and_wait.Goals as goal

pub returns : goal.returns
returns c = λ none. shaken_then c.args.address c.args.network.now c.args.world.now c.shake_slowly.new.network c.shake_slowly.new.world c.in_ok-outcome.outcome (c.in_ok-outcome.ensures none)
