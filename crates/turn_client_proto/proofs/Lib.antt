pub mod Distinct
-- Re-exported for the crates above this one.
pub use Rattle.turn_client_proto_payload.proofs as PayloadPart
