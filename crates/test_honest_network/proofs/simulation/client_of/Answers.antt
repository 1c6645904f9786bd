use Rattle.test_honest_network.proofs.Beginning.{over_datagrams, over_stream}
use Rattle.test_honest_network.proofs.simulation.client_of.Goals as goal

pub returns-in-Ok : goal.returns-in-Ok
returns-in-Ok c = over_datagrams c.args.setting.now.here c.args.setting.now.server c.args.config _ c.args.setting.now.transport c.in-Udp.is c.in-Ok.client.0 c.in-Ok.ensures.client

pub returns-in-Ok-allocate : goal.returns-in-Ok-allocate
returns-in-Ok-allocate c = over_stream c.args.setting.now.here c.args.setting.now.server c.args.config _ c.args.setting.now.transport c.in-Tcp.is c.in-Ok-allocate.client.0 c.in-Ok-allocate.ensures.client.0 c.in-Ok-allocate.ensures.client.1
