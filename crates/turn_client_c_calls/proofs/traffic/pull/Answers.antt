use Rattle.std.proofs.Common.{rules, Option, Some, None, Ok, Err, subst}
use Rattle.turn_client_proto_api.specs.Payloads.{PeerPayload}
use Rattle.turn_client_proto.specs.Clients.{stored_of}
use Rattle.turn_client_proto.specs.Recv.Receipts.{IsWaitingGiven}
use Rattle.turn_client_c_calls.specs.Traffic.{Refused}
use Rattle.turn_client_c_calls.proofs.Reporting.{is_pulled}
use Rattle.turn_client_c_calls.proofs.traffic.pull.Goals as goal

pub returns-in-Ok-Some : goal.returns-in-Ok-Some
returns-in-Ok-Some c =
    is_pulled {E = Refused} (Ok (Some c.in-Ok-Some.given)) c.args.now _ c.args.payload.now c.report_waiting.new.payload c.args.whole.now (record { client = c.poll_recv.new.self; joined = c.report_waiting.new.joined })
    (search rules)
    (subst (λ (g : Option PeerPayload). IsWaitingGiven (stored_of c.args.whole.now.client) c.args.now g (stored_of c.poll_recv.new.self)) c.in-Ok-Some.field-0-is c.in-Ok-Some.ensures.ok)
    tt (search rules) c.report_waiting.ensures.reported (λ _. c.report_waiting.ensures.joined)

pub returns-in-Ok-None : goal.returns-in-Ok-None
returns-in-Ok-None c =
    is_pulled {E = Refused} (Ok None) c.args.now _ c.args.payload.now c.args.payload.now c.args.whole.now (record { client = c.poll_recv.new.self; joined = c.args.whole.now.joined })
    (search rules)
    (subst (λ (g : Option PeerPayload). IsWaitingGiven (stored_of c.args.whole.now.client) c.args.now g (stored_of c.poll_recv.new.self)) c.in-Ok-None.field-0-is c.in-Ok-None.ensures.ok)
    tt (search rules) (search rules) (λ empty. empty)

pub returns-in-Err : goal.returns-in-Err
returns-in-Err c =
    is_pulled {E = Refused} (Err tt) c.args.now _ c.args.payload.now c.args.payload.now c.args.whole.now (record { client = c.poll_recv.new.self; joined = c.args.whole.now.joined })
    (search rules) tt c.in-Err.ensures.err (search rules) (search rules) (λ empty. empty)
