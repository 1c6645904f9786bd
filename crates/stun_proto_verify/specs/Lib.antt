pub mod AuthErrors
pub mod Consistency
pub mod Knowledge
pub mod Judgement
pub mod UserKeys
-- Re-exported for the crates that depend on this one.
pub use Rattle.stun_proto_auth.specs as Auth
pub use Rattle.stun_proto_auth.specs.Integrity as Integrity
pub use Rattle.stun_proto_auth.specs.AuthAttributes as AuthAttributes
pub use Rattle.stun_proto_auth.specs.Write as Write
pub use Rattle.stun_proto_auth.specs.Wire as Wire
pub use Rattle.stun_proto_auth.specs.Base as Base
