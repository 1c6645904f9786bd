use Rattle.std.proofs.Common.{inl, inr, subst}
use Rattle.turn_client_proto_api.specs.declared.answer.TurnPollRet.{TurnPollRet}
use Rattle.turn_client_proto_api.specs.declared.answer.TurnPollRet.TheVariants.{Closed, NoMemory, WaitUntil}
use Rattle.turn_client_proto_handshake_laws.specs.Driving.{IsStep, polled_at}
use Rattle.turn_client_proto_handshake_laws.specs.declared.driving.Stage.TheVariants.{Polling}
use Rattle.turn_client_proto_handshake_laws.proofs.Steps.{poll_steps}
use Rattle.turn_client_proto_handshake_laws.proofs.driving.ask.Goals as goal

pub returns-in-WaitUntil : goal.returns-in-WaitUntil
returns-in-WaitUntil c = poll_steps c.args.client.now c.poll.new.protocol c.args.now (WaitUntil c.in-WaitUntil.time) c.requires c.in-WaitUntil.ensures.polled

pub returns-in-Closed : goal.returns-in-Closed
returns-in-Closed c = poll_steps c.args.client.now c.poll.new.protocol c.args.now Closed c.requires c.in-Closed.ensures.polled

pub returns-in-NoMemory : goal.returns-in-NoMemory
returns-in-NoMemory c = poll_steps c.args.client.now c.poll.new.protocol c.args.now NoMemory c.requires c.in-NoMemory.ensures.polled

pub returns-in-AllocateTcpSocket : goal.returns-in-AllocateTcpSocket
returns-in-AllocateTcpSocket c =
    let step = poll_steps c.args.client.now c.poll.new.protocol c.args.now c.poll.result c.requires c.poll.ensures.polled in
    elim c.in-AllocateTcpSocket.is [
      | inl opens ↦ subst (λ (r : TurnPollRet). IsStep (Polling c.args.now) c.args.client.now (polled_at c.args.now r) c.poll.new.protocol) opens.3 step
      | inr closes ↦ subst (λ (r : TurnPollRet). IsStep (Polling c.args.now) c.args.client.now (polled_at c.args.now r) c.poll.new.protocol) closes.2 step
    ]
