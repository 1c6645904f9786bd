pub mod ChannelFrames
pub mod Frames
pub mod StreamAnswers
pub mod StreamHeads
pub mod Streams
pub mod Channeled
pub mod Indications
-- Crates above this one reach these definitions through it.
pub use Rattle.turn_types_peer.specs.Base as StunTypesBase
pub use Rattle.turn_types_peer.specs.Wire as StunTypesWire
pub use Rattle.stun_types_add.specs.Write as StunTypesWrite
pub use Rattle.turn_types_peer.specs.TurnAttributes as Attributes
pub use Rattle.turn_types_peer.specs as Peer
