use Rattle.std.proofs.Common.{[]}
use Rattle.stun_types_wire.specs.declared.class.MessageClass.TheVariants.{Request}
use Rattle.stun_types_wire.specs.Types.{type_of}
use Rattle.turn_types_attributes.specs.TurnRegistry.{create_permission_method}
use Rattle.turn_client_proto_messages.proofs.unsigned.write_create_permission.Goals as goal

pub returns-clause-request : goal.returns-clause-request
returns-clause-request c = c.in_ok-add_peers.ensures.following (type_of Request create_permission_method) c.args.transaction_id [] c.in_ok-draft.ensures.unsigned
