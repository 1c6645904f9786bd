pub mod Consistent
pub mod Judging
-- Re-exported for the crates that depend on this one.
pub use Rattle.stun_proto_auth.proofs as Auth
pub use Rattle.stun_proto_auth.proofs.Base as Base
