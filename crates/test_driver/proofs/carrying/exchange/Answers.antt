use Rattle.test_driver.proofs.Deliveries.{exchanged_on, not_forged}
use Rattle.test_driver.proofs.carrying.exchange.Goals as goal

pub returns-in-Transmits : goal.returns-in-Transmits
returns-in-Transmits c = λ none.
    let transmits = rw c.in-Transmits.is at c.in_ok-sent.ensures in
    exchanged_on c.args.patience c.args.decision c.in-Transmits.sent c.args.network.now c.args.world.now _ c.drive.new.network c.drive.new.world c.after-until.ensures transmits c.bring.new.network c.bring.new.world c.bring.result
    (c.bring.ensures (not_forged c.args.network.now c.drive.new.network none transmits.drives.alike))
