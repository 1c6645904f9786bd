-- The results of the trait's calls, by the statuses that report them to C.
use Rattle.std.specs.Prelude.{ℕ, ℤ, Option, Some, None, Result, Ok, Err, if◌then◌else◌}
use Rattle.turn_client_proto_api.specs.declared.error.BindChannelError.{BindChannelError}
use Rattle.turn_client_proto_api.specs.declared.error.BindChannelError.TheVariants as binding
use Rattle.turn_client_proto_api.specs.declared.error.CreatePermissionError.{CreatePermissionError}
use Rattle.turn_client_proto_api.specs.declared.error.CreatePermissionError.TheVariants as permission
use Rattle.turn_client_proto_api.specs.declared.error.CreatePermissionsError.{CreatePermissionsError}
use Rattle.turn_client_proto_api.specs.declared.error.CreatePermissionsError.TheVariants as permissions
use Rattle.turn_client_proto_api.specs.declared.error.DeleteError.{DeleteError}
use Rattle.turn_client_proto_api.specs.declared.error.DeleteError.TheVariants as deletion
use Rattle.turn_client_proto_api.specs.declared.error.TcpAllocateError.{TcpAllocateError}
use Rattle.turn_client_proto_api.specs.declared.error.TcpAllocateError.TheVariants as socket
use Rattle.turn_client_proto_api.specs.declared.error.TcpConnectError.{TcpConnectError}
use Rattle.turn_client_proto_api.specs.declared.error.TcpConnectError.TheVariants as connection
use Rattle.turn_client_c_calls.specs.Codes.{already_exists, bad_addresses, expired_channel, no_allocation, no_channel, no_memory, no_permission, ok, same}

abbrev pub delete_answer : ℤ → Option (Result (Unit {0}) DeleteError)
delete_answer s =
    if same s ok then Some (Ok tt)
    else if same s no_allocation then Some (Err deletion.NoAllocation)
    else if same s no_memory then Some (Err deletion.NoMemory) else None

abbrev pub permission_answer : ℤ → Option (Result (Unit {0}) CreatePermissionError)
permission_answer s =
    if same s ok then Some (Ok tt)
    else if same s no_allocation then Some (Err permission.NoAllocation)
    else if same s already_exists then Some (Err permission.AlreadyExists)
    else if same s no_memory then Some (Err permission.NoMemory) else None

abbrev pub permissions_answer : ℤ → Option (Result (Unit {0}) CreatePermissionsError)
permissions_answer s =
    if same s ok then Some (Ok tt)
    else if same s bad_addresses then Some (Err permissions.InvalidAddresses)
    else if same s no_allocation then Some (Err (permissions.Refused permission.NoAllocation))
    else if same s already_exists then Some (Err (permissions.Refused permission.AlreadyExists))
    else if same s no_memory then Some (Err (permissions.Refused permission.NoMemory)) else None

-- With the last time at which an expired channel makes the peer refused.
abbrev pub bind_answer : ℤ → ℕ → Option (Result (Unit {0}) BindChannelError)
bind_answer s until =
    if same s ok then Some (Ok tt)
    else if same s no_allocation then Some (Err binding.NoAllocation)
    else if same s already_exists then Some (Err binding.AlreadyExists)
    else if same s expired_channel then Some (Err (binding.ExpiredChannelExists until))
    else if same s no_channel then Some (Err binding.NoChannel)
    else if same s no_memory then Some (Err binding.NoMemory) else None

abbrev pub connect_answer : ℤ → Option (Result (Unit {0}) TcpConnectError)
connect_answer s =
    if same s ok then Some (Ok tt)
    else if same s no_allocation then Some (Err connection.NoAllocation)
    else if same s no_permission then Some (Err connection.NoPermission)
    else if same s already_exists then Some (Err connection.AlreadyExists)
    else if same s no_memory then Some (Err connection.NoMemory) else None

abbrev pub socket_answer : ℤ → Option (Result (Unit {0}) TcpAllocateError)
socket_answer s =
    if same s ok then Some (Ok tt)
    else if same s no_allocation then Some (Err socket.NoAllocation)
    else if same s already_exists then Some (Err socket.AlreadyExists)
    else if same s no_memory then Some (Err socket.NoMemory) else None

-- Success, or a failed allocation.
abbrev pub memory_answer : ℤ → Option (Result (Unit {0}) (Unit {0}))
memory_answer s = if same s ok then Some (Ok tt) else if same s no_memory then Some (Err tt) else None
