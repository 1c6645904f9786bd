pub mod Closing
pub mod Connecting
pub mod Processing
pub mod Sockets
pub mod Control
pub mod Datagrams
pub mod HandingIn
pub mod ClientState
pub mod Chunks
pub mod Pulls
pub mod Receipts
pub mod SocketChunks
pub mod Waiting
pub mod Notes
-- Re-exports for the crates above this one.
pub use Rattle.turn_types_attributes.specs as TurnTypesAttributes
pub use Rattle.turn_types_frame.specs as TurnTypesFrame
pub use Rattle.stun_proto_client.specs as StunProtoClient
pub use Rattle.turn_client_proto_payload.specs as Payload
