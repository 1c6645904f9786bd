use Rattle.std.proofs.Common.{[]}
use Rattle.stun_types_wire.specs.declared.class.MessageClass.TheVariants.{Request}
use Rattle.stun_types_wire.specs.Types.{type_of}
use Rattle.turn_types_attributes.specs.TurnRegistry.{channel_bind_method}
use Rattle.turn_client_proto_messages.proofs.unsigned.write_channel_bind.Goals as goal

pub returns-clause-request : goal.returns-clause-request
returns-clause-request c =
    let kind = type_of Request channel_bind_method in
    let number = c.args.transaction_id in
    let one = c.in_ok-add_channel.ensures.following kind number [] c.in_ok-draft.ensures.unsigned in
    c.in_ok-add_peer.ensures.following kind number _ one
