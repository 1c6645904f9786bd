pub mod HmacState
pub mod Credentials
pub mod TruncatedHmacs
pub mod Hmacs
pub mod Integrity
pub mod KeyBytes
pub mod Keys
pub mod Signing
-- Re-exports for the crates above this one.
pub use Rattle.stun_types_write.specs as Write
pub use Rattle.stun_types_write.specs.Wire as Wire
pub use Rattle.stun_types_write.specs.Digest as Digest
pub use Rattle.stun_types_write.specs.Base as Base
