use Rattle.turn_client_proto_messages.proofs.Answering.{no_other}
use Rattle.turn_client_proto_messages.proofs.answer.add_code.Goals as goal

pub unreachable-requires : goal.unreachable-requires
unreachable-requires c =
    no_other c.builder.result c.args.code c.in-Err.e c.builder.ensures.code c.builder.ensures.reason c.requires.code c.in-Err.ensures.cause c.in_default.not-NoMemory
