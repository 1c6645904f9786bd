pub mod Answers
pub mod Composing
pub mod Judging
pub mod OwnClaims
pub mod Peers
pub mod ReadTexts
pub mod Requests
pub mod ShortTexts
pub mod ReportedRequests
pub mod Waiting
pub mod Granting
pub mod Reporting
pub mod Reported
pub mod Noted
-- The crates above this one use these definitions through this file.
pub use Rattle.stun_types_base.specs as StunTypesBase
pub use Rattle.stun_types_wire.specs as StunTypesWire
pub use Rattle.stun_types_write.specs as StunTypesWrite
pub use Rattle.stun_types_integrity.specs as StunTypesIntegrity
pub use Rattle.turn_types_attributes.specs as TurnTypesAttributes
pub use Rattle.turn_types_peer.specs as TurnTypesPeer
pub use Rattle.turn_client_proto_allocation.specs.TurnTypesFrame as TurnTypesFrame
pub use Rattle.turn_client_proto_allocation.specs.StunProtoTransaction as StunProtoTransaction
pub use Rattle.turn_client_proto_api.specs.StunProtoAgent as StunProtoAgent
pub use Rattle.stun_proto_auth.specs as StunProtoAuth
pub use Rattle.stun_proto_client.specs as StunProtoClient
pub use Rattle.turn_client_proto_allocation.specs as Allocation
pub use Rattle.turn_client_proto_api.specs as Api
pub use Rattle.turn_runs.specs as TurnRuns
