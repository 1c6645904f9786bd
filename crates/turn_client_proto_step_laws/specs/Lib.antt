pub mod RunClient
pub mod Held
pub mod ClientWords
pub mod Sound
pub mod Beginning
pub mod Bounds
pub mod Causes
pub mod RunSteps
pub mod Adding
pub mod Cuts
pub mod Order
pub mod SocketCuts
-- Crates above this one get these definitions through it.
pub use Rattle.turn_client_proto_timers.specs.Connection as Connection
pub use Rattle.turn_client_proto_timers.specs.Peers as Peers
pub use Rattle.turn_client_proto_recv.specs.Payload as Payload
pub use Rattle.turn_client_proto_recv.specs as Recv
pub use Rattle.turn_client_proto_timers.specs as Timers
