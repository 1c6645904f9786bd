-- The kinds of frames taken out of a stream's buffer, by name.
pub use Rattle.turn_types_frame.specs.declared.tcp.StoredTcp.{StoredTcp}
pub use Rattle.turn_types_frame.specs.declared.tcp.StoredTcp.TheVariants.{Message, Channel}
