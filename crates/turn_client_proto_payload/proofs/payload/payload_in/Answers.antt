use Rattle.std.proofs.Common.{rules}
use Rattle.turn_types_attributes.specs.TurnRegistry.{data_kind}
use Rattle.turn_client_proto_payload.proofs.Parts.{index_fits}
use Rattle.turn_client_proto_payload.proofs.payload.payload_in.Goals as goal

pub index-start-requires : goal.index-start-requires
index-start-requires c =
    rw c.as_ref.ensures.bytes (index_fits data_kind c.in-Some.offset c.in-Some.len c.args.message.now (search rules))
