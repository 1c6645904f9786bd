use Rattle.turn_desk_core.specs.declared.decision.Decision.TheVariants as by
use Rattle.test_driver.specs.Carrying.{HasBrought}
use Rattle.test_driver.proofs.Deliveries.{not_forged}
use Rattle.test_honest_network.proofs.Looped.{brought_alike, shaken_on}
use Rattle.test_honest_network.proofs.latency.shake_slowly.Goals as goal

pub returns-in-Error : goal.returns-in-Error
returns-in-Error c = λ none.
    let first : HasBrought (by.Refuse 400) c.in-Transmit.sent c.args.network.now c.happen.new.world c.bring.new.network c.bring.new.world = rw c.in-Error.is at (c.in_ok-bring-in-Transmit.ensures none) in
    shaken_on c.args.address c.args.network.now c.args.world.now c.in-Transmit.sent c.happen.new.world c.bring.new.network c.bring.new.world c.sign.new.network c.sign.new.world (rw c.in-Transmit.is at c.in_ok-sent.ensures) first c.sign.result
    (c.sign.ensures (not_forged c.args.network.now c.bring.new.network none (brought_alike (by.Refuse 400) c.in-Transmit.sent c.args.network.now c.happen.new.world c.bring.new.network c.bring.new.world first)))
