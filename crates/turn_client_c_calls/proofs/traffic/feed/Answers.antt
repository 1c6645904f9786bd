use Rattle.std.proofs.Common.{rules, ℕ, List, Bor, ap, subst, ◌∙◌}
use Rattle.stun_types_base.specs.declared.transmit.Transmit.{Transmit}
use Rattle.stun_types_base.specs.declared.transport.TransportType.{TransportType}
use Rattle.turn_client_proto.specs.Clients.{stored_of}
use Rattle.turn_client_proto.specs.Recv.Receipts.{IsReceived}
use Rattle.turn_client_c_calls.proofs.Reporting.{is_fed}
use Rattle.turn_client_c_calls.proofs.traffic.feed.Goals as goal

pub returns : goal.returns
returns c =
    let came : Transmit (Bor (List ℕ)) = record { bytes = c.args.bytes; transport = (stored_of c.args.whole.now.client).core.agent.transport; from = c.args.from; to = c.args.to } in
    is_fed c.recv-answer.result c.args.bytes c.args.from c.args.to c.args.now _ c.args.payload.now c.report.new.payload c.args.whole.now (record { client = c.recv-answer.new.self; joined = c.report.new.joined })
    (search rules)
    (subst (λ (t : Transmit (Bor (List ℕ))). IsReceived (λ (b : Bor (List ℕ)). b.now) (stored_of c.args.whole.now.client) t c.args.now c.recv-answer.result (stored_of c.recv-answer.new.self))
    (c.new-came.ensures ∙ ap (λ (t : TransportType). record came { transport = t }) c.transport.ensures) c.recv-answer.ensures.received)
    (search rules) c.report.ensures.reported c.report.ensures.joined
