pub mod Printed
-- Crates that depend on this one reach these definitions through it.
pub use Rattle.turn_client_proto_api.specs.TurnTypesFrame as TurnTypesFrame
pub use Rattle.turn_client_proto_api.specs.StunProtoTransaction as StunProtoTransaction
pub use Rattle.turn_client_proto_api.specs as TurnClientProtoApi
