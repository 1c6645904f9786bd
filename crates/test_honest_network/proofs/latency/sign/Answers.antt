use Rattle.std.proofs.Common.{subst}
use Rattle.turn_desk_core.specs.declared.decision.Decision.{Decision}
use Rattle.test_driver.specs.Carrying.{HasExchanged}
use Rattle.test_honest_network.specs.declared.latency.TheConstants.{PATIENCE}
use Rattle.test_honest_network.proofs.latency.sign.Goals as goal

pub returns-in-Success : goal.returns-in-Success
returns-in-Success c = λ none.
    subst (λ (d : Decision). HasExchanged PATIENCE d c.args.network.now c.args.world.now c.exchange.new.network c.exchange.new.world) c.in_ok-decision.ensures (rw c.in-Success.is at (c.in_ok-exchange.ensures none))
