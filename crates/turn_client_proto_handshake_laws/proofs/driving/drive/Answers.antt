use Rattle.turn_client_proto_handshake_laws.specs.declared.driving.Stage.TheVariants.{Drawing}
use Rattle.turn_client_proto_handshake_laws.proofs.Steps.{no_step, one_step}
use Rattle.turn_client_proto_handshake_laws.proofs.driving.drive.Goals as goal

pub loop-init : goal.loop-init
loop-init c = no_step (Drawing c.args.made) c.args.client.now

pub loop-preserved : goal.loop-preserved
loop-preserved c = one_step c.loop.counter (Drawing c.args.made) c.loop.stage c.in-Some.next c.args.client.now c.loop.client c.go_on.new.client c.loop.invariant c.in-Some.ensures.some
