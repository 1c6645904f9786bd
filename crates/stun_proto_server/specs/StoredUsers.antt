-- When the users of a server are found by the hashes that are registered.
use Rattle.std.specs.Prelude.{◌≡◌, false}
use Rattle.stun_proto_server.specs.StoredKeys.{AllRegistered}
use Rattle.stun_proto_server.specs.declared.users.Users.{Users}

-- Each user's name is registered under its hash, unless two users had the same hash once.
abbrev pub IsSound : Users → Type 0
IsSound users = users.is_shared ≡ false → AllRegistered users.by_hash users.by_name
