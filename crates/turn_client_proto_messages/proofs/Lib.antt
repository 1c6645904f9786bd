pub mod Answering
pub mod Beside
pub mod Claims
pub mod Families
pub mod Growing
pub mod Peers
pub mod Readable
pub mod Reading
pub mod Short
pub mod Signed
pub mod Signing
pub mod Small
pub mod ReportedBytes
pub mod Writing
pub mod Firsts
-- The crates above this one use these proofs through this file.
pub use Rattle.turn_client_proto_allocation.proofs.TurnTypesFrame as TurnTypesFrame
pub use Rattle.turn_client_proto_allocation.proofs.StunProtoTransaction as StunProtoTransaction
pub use Rattle.turn_client_proto_api.proofs.StunProtoAgent as StunProtoAgent
pub use Rattle.stun_proto_auth.proofs as StunProtoAuth
pub use Rattle.stun_proto_client.proofs as StunProtoClient
