-- What a chunk of a stream completed, by name.
pub use Rattle.turn_types_frame.specs.declared.tcp.IncomingTcp.{IncomingTcp}
pub use Rattle.turn_types_frame.specs.declared.tcp.IncomingTcp.TheVariants.{CompleteMessage, CompleteChannel, StoredMessage, StoredChannel, NoMemory}
