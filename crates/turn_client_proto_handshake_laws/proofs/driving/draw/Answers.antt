use Rattle.std.proofs.Common.{None, Some}
use Rattle.turn_client_proto_api.specs.Sent.{sent_of}
use Rattle.turn_client_proto_handshake_laws.proofs.Steps.{draw_steps, failure_steps}
use Rattle.turn_client_proto_handshake_laws.proofs.driving.draw.Goals as goal

pub returns-in-Ok-Some : goal.returns-in-Ok-Some
returns-in-Ok-Some c =
    let is = rw c.in-Ok-Some.field-0-is at c.in-Ok-Some.ensures.ok in
    draw_steps c.args.client.now c.poll_transmit.new.protocol c.args.now (Some (sent_of c.in-Ok-Some.field-0-0)) c.requires is

pub returns-in-Ok-None : goal.returns-in-Ok-None
returns-in-Ok-None c =
    let is = rw c.in-Ok-None.field-0-is at c.in-Ok-None.ensures.ok in
    draw_steps c.args.client.now c.poll_transmit.new.protocol c.args.now None c.requires is

pub returns : goal.returns
returns c = failure_steps c.args.client.now c.poll_transmit.new.protocol c.args.now c.requires c.in-Err.ensures.err c.in-Err.ensures.memory
