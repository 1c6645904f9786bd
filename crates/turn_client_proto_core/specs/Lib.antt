pub mod Allocating
pub mod Asking
pub mod Attempting
pub mod Authenticating
pub mod Beginning
pub mod Binding
pub mod Deleting
pub mod Ending
pub mod Numbering
pub mod Outcomes
pub mod Permitting
pub mod Receiving
pub mod Responding
pub mod Speaking
pub mod Standing
-- Re-exports for the crates above this one.
pub use Rattle.stun_proto_client.specs as StunProtoClient
pub use Rattle.turn_client_proto_messages.specs.TurnRuns as TurnRuns
