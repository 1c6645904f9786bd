use Rattle.turn_client_proto_handshake_laws.proofs.Granted.{holding_polled, holds, success_processed}
use Rattle.turn_client_proto_handshake_laws.proofs.stages.granted_clients_hold.Goals as goal

pub returns-clause-holds : goal.returns-clause-holds
returns-clause-holds c = λ b choice many last queue old new address lifetime bytes now handled w one is processed.
    let h = success_processed b choice many last queue old w address lifetime bytes is now handled new processed in
    (h.is_handled, holds b choice many last queue old w address lifetime bytes is now handled new h one)

pub returns-clause-polled : goal.returns-clause-polled
returns-clause-polled c = λ b choice address lifetime made last queue event others old new now ret is polled.
    holding_polled old event others is.events_are now ret new polled
