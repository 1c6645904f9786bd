-- The results of a simulation's events, by name.
pub use Rattle.turn_desk_event.specs.declared.answer.Answer.{Answer}
pub use Rattle.turn_desk_event.specs.declared.answer.Answer.TheVariants.{Reply, Nothing, Transmit, Handled, Ignored, Peer, Icmp, Wait, Socket, Close, Closed, Event, Done, Refused, Have, Relayed, Permissions, Channels, Connections, OutOfRange}
