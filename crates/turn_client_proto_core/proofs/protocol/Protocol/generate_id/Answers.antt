use Rattle.turn_client_proto_core.proofs.Numbers.{still_all, still_first}
use Rattle.turn_client_proto_core.proofs.Results.{if_err, if_ok}
use Rattle.turn_client_proto_core.specs.Numbering.{generated}
use Rattle.turn_client_proto_core.proofs.protocol.Protocol.generate_id.Goals as goal

pub returns-clause-number : goal.returns-clause-number
returns-clause-number c =
    if_ok c.first_free.result (λ number is. still_first c.args.self.now c.generated-generated.new.rng c.generated-generated.result (generated c.args.self.now.rng) number c.generated-generated.ensures.number is) c.first_free.ensures.free

pub returns-clause-full : goal.returns-clause-full
returns-clause-full c = if_err c.first_free.result (still_all c.args.self.now c.generated-generated.new.rng) c.first_free.ensures.full
