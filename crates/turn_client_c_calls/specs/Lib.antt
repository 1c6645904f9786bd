pub mod Answers
pub mod Calls
pub mod Causes
pub mod Codes
pub mod Held
pub mod Lengths
pub mod Opened
pub mod Visible
pub mod Sockets
pub mod Speaking
pub mod Traffic
pub mod Waits
-- Re-exported for the crates above this one.
pub use Rattle.turn_client_proto.specs.Core as TurnClientProtoCore
pub use Rattle.turn_client_proto.specs.Recv as TurnClientProtoRecv
pub use Rattle.turn_client_proto.specs as TurnClientProto
