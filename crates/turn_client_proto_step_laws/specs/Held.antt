-- What a client stores of an allocation, by name.
pub use Rattle.turn_client_proto_timers.specs.Allocation.declared.allocation.Allocation.{Allocation}
pub use Rattle.turn_client_proto_timers.specs.Allocation.declared.channel.Channel.{Channel}
pub use Rattle.turn_client_proto_timers.specs.Allocation.declared.channel.ExpiredChannel.{ExpiredChannel}
pub use Rattle.turn_client_proto_timers.specs.Allocation.declared.channel.PendingChannel.{PendingChannel}
pub use Rattle.turn_client_proto_timers.specs.Allocation.declared.connection.Binding.{Binding}
pub use Rattle.turn_client_proto_timers.specs.Allocation.declared.connection.Connecting.{Connecting}
pub use Rattle.turn_client_proto_timers.specs.Allocation.declared.connection.Connection.{Connection}
pub use Rattle.turn_client_proto_timers.specs.Allocation.declared.connection.Waiting.{Waiting}
pub use Rattle.turn_client_proto_timers.specs.Allocation.declared.permission.PendingPermission.{PendingPermission}
pub use Rattle.turn_client_proto_timers.specs.Allocation.declared.permission.Permission.{Permission}
pub use Rattle.turn_client_proto_timers.specs.Allocation.declared.refresh.PendingRefresh.{PendingRefresh}
