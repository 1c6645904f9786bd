-- The definitions used in the contracts of this facade, each file under its own name.
pub mod FrameHeads
pub mod IncomingFrames
pub mod StoredFrames
pub use Rattle.turn_types_attributes.specs.AddressErrors
pub use Rattle.turn_types_attributes.specs.EvenPorts
pub use Rattle.turn_types_attributes.specs.FamilyValues
pub use Rattle.turn_types_attributes.specs.Transports
pub use Rattle.turn_types_attributes.specs.TurnRegistry
pub use Rattle.turn_types_peer.specs.PeerValues
pub use Rattle.turn_types_peer.specs.TurnShows
pub use Rattle.turn_types_frame.specs.ChannelFrames
pub use Rattle.turn_types_frame.specs.Frames
pub use Rattle.turn_types_frame.specs.StreamAnswers
pub use Rattle.turn_types_frame.specs.StreamHeads
pub use Rattle.turn_types_frame.specs.Streams
pub use Rattle.turn_types_frame.specs.Channeled
pub use Rattle.turn_types_frame.specs.Indications
-- Crates above this one reach these definitions through it.
pub use Rattle.stun_types_base.specs as StunTypesBase
pub use Rattle.stun_types_message.specs as StunTypesMessage
pub use Rattle.turn_types_attributes.specs as Attributes
pub use Rattle.turn_types_peer.specs as Peer
