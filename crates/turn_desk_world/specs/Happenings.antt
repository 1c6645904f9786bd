-- The events of a simulation, by name.
pub use Rattle.turn_desk_event.specs.declared.event.ClientCall.{ClientCall}
pub use Rattle.turn_desk_event.specs.declared.event.ClientCall.TheVariants.{Poll, PollEvent, Delete, CreatePermission, CreatePermissions, HavePermission, Permissions, BindChannel, Channels, SendTo, PollRecv, ProtocolError, RelayedAddresses, TcpConnect, AllocatedTcpSocket, TcpClosed, Connections}
pub use Rattle.turn_desk_event.specs.declared.event.Event.{Event}
pub use Rattle.turn_desk_event.specs.declared.event.Event.TheVariants.{Call, Draw, ToClient, ToDesk}
