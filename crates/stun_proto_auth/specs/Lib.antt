pub mod SupportedAlgorithms
pub mod Nonce
pub mod StoredAlgorithms
pub mod Claims
pub mod Offers
pub mod Lists
pub mod Addition
pub mod Sizes
pub mod AdditionStages
-- Re-exports for the crates above this one.
pub use Rattle.stun_types_message.specs as Message
pub use Rattle.stun_types_message.specs.Integrity as Integrity
pub use Rattle.stun_types_message.specs.AuthAttributes as AuthAttributes
pub use Rattle.stun_types_message.specs.Wire as Wire
pub use Rattle.stun_types_message.specs.Add as Add
pub use Rattle.stun_types_message.specs.Write as Write
pub use Rattle.stun_types_message.specs.Base as Base
