use Rattle.std.proofs.Common.{subst}
use Rattle.std.specs.declared.net.ip_addr.IpAddr.{IpAddr}
use Rattle.test_honest_network.specs.Simulations.{plan_of}
use Rattle.test_honest_network.specs.Wishes.{HasPermitted}
use Rattle.test_honest_network.proofs.Processing.{received}
use Rattle.test_honest_network.proofs.asking.receive_in.Goals as goal

pub returns-in-Held : goal.returns-in-Held
returns-in-Held c = λ fresh.
    let held = rw c.in-Held.is at (c.in_ok-permit_in.ensures fresh) in
    received (plan_of c.args.setting.now) c.requires.transport c.args.address c.args.world.now c.permit_in.new.world c.process.new.world
    (subst (λ (ip : IpAddr). HasPermitted (plan_of c.args.setting.now) c.args.address ip c.args.world.now c.permit_in.new.world) c.peer_ip.ensures held) c.process.result c.process.ensures
