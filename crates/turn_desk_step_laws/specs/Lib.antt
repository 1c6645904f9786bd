pub mod Challenged
pub mod DeskRun
pub mod Users
pub mod Handshakes
-- Crates that build on this one reach these definitions through it.
pub use Rattle.turn_client_proto_messages.specs.Allocation as TurnClientProtoAllocation
pub use Rattle.turn_runs_laws.specs.TurnRuns as TurnRuns
