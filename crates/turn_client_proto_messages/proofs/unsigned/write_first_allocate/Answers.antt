use Rattle.std.proofs.Common.{[]}
use Rattle.stun_types_wire.specs.declared.class.MessageClass.TheVariants.{Request}
use Rattle.stun_types_wire.specs.Types.{type_of}
use Rattle.turn_types_attributes.specs.TurnRegistry.{allocate_method}
use Rattle.turn_client_proto_messages.proofs.unsigned.write_first_allocate.Goals as goal

pub returns-clause-request : goal.returns-clause-request
returns-clause-request c =
    let kind = type_of Request allocate_method in
    let number = c.args.transaction_id in
    let one = c.in_ok-add_lifetime.ensures.following kind number [] c.in_ok-first.ensures.unsigned in
    let two = c.in_ok-add_transport.ensures.following kind number _ one in
    let three = c.in_ok-add_dont_fragment.ensures.following kind number _ two in
    let four = c.in_ok-add_port.ensures.port.following kind number _ three in
    c.in_ok-add_families_beside.ensures.families.following kind number _ four
