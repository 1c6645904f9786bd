-- Limits on what a call takes.
use Rattle.std.specs.Prelude.{ℕ}

-- The most addresses for which one call requests permissions.
abbrev pub most_peer_ips : ℕ
most_peer_ips = 32
