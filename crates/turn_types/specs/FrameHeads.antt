-- What the first bytes of a stream are, by name.
pub use Rattle.turn_types_frame.specs.declared.head.FrameHead.{FrameHead}
pub use Rattle.turn_types_frame.specs.declared.head.FrameHead.TheVariants.{Message, Channel, Incomplete, Invalid}
