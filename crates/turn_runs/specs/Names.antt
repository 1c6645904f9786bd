-- The types of the lower crates that the definitions of runs use.
pub use Rattle.std.specs.Net.Socket.{socket_ip}
pub use Rattle.std.specs.declared.net.ip_addr.IpAddr.{IpAddr}
pub use Rattle.std.specs.declared.net.socket_addr.SocketAddr.{SocketAddr}
pub use Rattle.turn_types_frame.specs.StunTypesWire.declared.algorithm.IntegrityAlgorithm.{IntegrityAlgorithm}
pub use Rattle.turn_types_frame.specs.StunTypesWire.declared.class.MessageClass.{MessageClass}
pub use Rattle.turn_types_frame.specs.StunTypesWire.declared.class.MessageClass.TheVariants.{Request, Indication, Success, Error}
pub use Rattle.turn_types_frame.specs.StunTypesBase.declared.transport.TransportType.{TransportType}
pub use Rattle.turn_types_frame.specs.Peer.PeerValues.{IcmpReport}
