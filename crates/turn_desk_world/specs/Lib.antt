pub mod Calls
pub mod Desks
pub mod Determined
pub mod Model
pub mod Runs
pub mod Answers
pub mod Happenings
pub mod Keeping
pub mod Progress
pub mod Replay
pub mod Settings
pub mod Wanted
-- Crates that depend on this one reach these definitions through it.
pub use Rattle.stun_proto_auth.specs as StunProtoAuth
pub use Rattle.turn_client_proto.specs.Connection as TurnClientProtoConnection
pub use Rattle.turn_client_proto.specs.TurnRuns as TurnRuns
pub use Rattle.turn_client_proto.specs.Peers as TurnClientProtoPeers
pub use Rattle.turn_client_proto.specs.Core as TurnClientProtoCore
pub use Rattle.turn_client_proto.specs.PayloadPart as TurnClientProtoPayload
pub use Rattle.turn_client_proto.specs as TurnClientProto
