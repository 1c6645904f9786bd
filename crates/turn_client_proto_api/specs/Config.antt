-- The settings of a TURN client as contracts see them (RFC 8656, sections 7.1, 8.3, 18.6, 18.8 and 18.11).
use Rattle.std.specs.Prelude.{ℕ, Bool, false, List, [], ◌∷◌, Option, None}
use Rattle.turn_types_attributes.specs.StunTypesIntegrity.Credentials.{NameAndPassword}
use Rattle.stun_types_wire.specs.declared.algorithm.IntegrityAlgorithm.{IntegrityAlgorithm}
use Rattle.stun_types_wire.specs.declared.algorithm.IntegrityAlgorithm.TheVariants.{Sha1}
use Rattle.stun_types_base.specs.declared.family.AddressFamily.{AddressFamily}
use Rattle.stun_types_base.specs.declared.family.AddressFamily.TheVariants.{IPV4}
use Rattle.stun_types_base.specs.declared.transport.TransportType.{TransportType}
use Rattle.stun_types_base.specs.declared.transport.TransportType.TheVariants.{Udp}
use Rattle.stun_proto_auth.specs.declared.feature.Feature.{Feature}
use Rattle.stun_proto_auth.specs.declared.feature.Feature.TheVariants.{Auto}
use Rattle.stun_proto_agent.specs.Transaction.Schedule.{Waits}
use Rattle.stun_proto_agent.specs.State.{default_waits}
use Rattle.turn_client_proto_api.specs.Options.{cadence, default_options}
use Rattle.turn_client_proto_api.specs.declared.options.AllocateOptions.{AllocateOptions}

-- The settings: the user's name and password; the transport of the requested allocation, and the families of
-- its addresses, in order; the supported integrity algorithms, in order; whether the name is hidden; whether the
-- client is hardened; how many connections may wait while it accepts a further one of a peer; whether a REFRESH
-- may shorten an allocation; whether indications may announce connections of peers; what an ALLOCATE asks for
-- besides; the least time between two messages, in nanoseconds; and how long a request waits for its response.
pub record Config : Type 0 where
  pub credentials : NameAndPassword
  pub transport : TransportType
  pub families : List AddressFamily
  pub algorithms : List IntegrityAlgorithm
  pub anonymous_username : Feature
  pub hardened : Bool
  pub max_connection_attempts : Option ℕ
  pub short_lifetimes : Bool
  pub attempt_indications : Bool
  pub options : AllocateOptions
  pub pace : ℕ
  pub waits : Waits

-- The settings of a new client: an allocation over UDP, of one IPv4 address; `Sha1`; the name is hidden if the
-- server supports it; not hardened; no limit on connections of peers, and no indication announces one; no
-- REFRESH shortens an allocation; half an hour, and any port; 50 ms between two messages; the waits of a new agent.
abbrev pub default_config : NameAndPassword → Config
default_config credentials = record {
  credentials = credentials;
  transport = Udp;
  families = IPV4 ∷ [];
  algorithms = Sha1 ∷ [];
  anonymous_username = Auto;
  hardened = false;
  max_connection_attempts = None;
  short_lifetimes = false;
  attempt_indications = false;
  options = default_options;
  pace = cadence;
  waits = default_waits;
}
