pub mod RequestedConnections
pub mod RequestedSockets
pub mod UnderWay
pub mod Usual
pub mod Asking
pub mod Following
pub mod Bytes
pub mod Draining
pub mod Exchanging
pub mod Feeding
pub mod Failing
pub mod Loops
pub mod Noting
pub mod Received
pub mod Steps
pub mod Streamed
pub mod Taking
pub mod Waiting
pub mod UsualHanding
-- Re-exports for the crates above this one.
pub use Rattle.stun_types_message.proofs as StunTypesMessage
pub use Rattle.turn_types_frame.proofs as TurnTypesFrame
pub use Rattle.stun_proto_client.proofs as StunProtoClient
pub use Rattle.turn_client_proto_payload.proofs as Payload
