pub mod Bytes
pub mod Joined
pub mod Clients
pub mod KeepingLemmas
pub mod StoredLemmas
pub mod OneLine
pub mod Replays
pub mod Standing
pub mod WantedLemmas
-- Crates that depend on this one reach these proofs through it.
pub use Rattle.turn_client_proto.proofs.PayloadPart as TurnClientProtoPayload
