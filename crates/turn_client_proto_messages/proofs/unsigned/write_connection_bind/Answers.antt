use Rattle.std.proofs.Common.{[]}
use Rattle.stun_types_wire.specs.declared.class.MessageClass.TheVariants.{Request}
use Rattle.stun_types_wire.specs.Types.{type_of}
use Rattle.turn_types_attributes.specs.TurnRegistry.{connection_bind_method}
use Rattle.turn_client_proto_messages.proofs.unsigned.write_connection_bind.Goals as goal

pub returns-clause-request : goal.returns-clause-request
returns-clause-request c = c.in_ok-add_connection.ensures.following (type_of Request connection_bind_method) c.args.transaction_id [] c.in_ok-draft.ensures.unsigned
