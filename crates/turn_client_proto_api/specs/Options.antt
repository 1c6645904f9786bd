-- What a client asks of the server for its allocation, besides transport and families, and how fast it sends.
use Rattle.std.specs.Prelude.{ℕ}
use Rattle.turn_client_proto_api.specs.declared.options.AllocateOptions.{AllocateOptions}
use Rattle.turn_client_proto_api.specs.declared.options.RelayedPort.TheVariants.{Any}

-- The lifetime, in seconds, that a client requests for an allocation unless it is set otherwise: half an hour.
abbrev pub allocation_lifetime : ℕ
allocation_lifetime = 1800

-- The options of new settings: half an hour, and any port.
abbrev pub default_options : AllocateOptions
default_options = record { lifetime = allocation_lifetime; port = Any }

-- The least time between two sent messages, in nanoseconds, unless it is set otherwise.
abbrev pub cadence : ℕ
cadence = 50_000_000
