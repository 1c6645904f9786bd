use Rattle.turn_client_proto_core.proofs.UnderWay.{failed_from}
use Rattle.turn_client_proto_recv.proofs.processing.process_at.Goals as goal

pub returns-in-Err-clause-err : goal.returns-in-Err-clause-err
returns-in-Err-clause-err c = failed_from c.args.protocol.now c.process.new.protocol c.fail.new.self c.len-events.result c.len-events.ensures c.in-Err.ensures.err c.fail.ensures
