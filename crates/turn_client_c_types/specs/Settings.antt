-- The settings of a client, as C passes them.
use Rattle.std.specs.Prelude.{ℕ, ◌*◌, ◌/◌, ◌%◌, ◌==◌, nat_lt, Bool, not, ◌&&◌, ◌||◌, List, [], ◌∷◌, filter, Option, Some, None, if◌then◌else◌, replicate}
use Rattle.std.specs.Cmp.Lexicographic.{pointwise}
use Rattle.turn_types_attributes.specs.StunTypesIntegrity.Credentials.{NameAndPassword}
use Rattle.stun_types_wire.specs.declared.algorithm.IntegrityAlgorithm.{IntegrityAlgorithm}
use Rattle.stun_types_wire.specs.declared.algorithm.IntegrityAlgorithm.TheVariants.{Sha1, Sha256, Sha512}
use Rattle.stun_types_wire.specs.Strength.{all_algorithms}
use Rattle.stun_types_base.specs.declared.family.AddressFamily.{AddressFamily}
use Rattle.stun_types_base.specs.declared.family.AddressFamily.TheVariants.{IPV6}
use Rattle.stun_types_base.specs.declared.transport.TransportType.{TransportType}
use Rattle.stun_types_base.specs.declared.transport.TransportType.TheVariants.{Udp, Tcp}
use Rattle.stun_proto_auth.specs.declared.feature.Feature.{Feature}
use Rattle.stun_proto_auth.specs.declared.feature.Feature.TheVariants.{Required, Disabled}
use Rattle.turn_client_proto_api.specs.StunProtoTransaction.Schedule.{Waits}
use Rattle.turn_client_proto_api.specs.Config.{Config, default_config}
use Rattle.turn_client_proto_api.specs.Families.{with_family}
use Rattle.turn_client_proto_api.specs.declared.options.AllocateOptions.{AllocateOptions}
use Rattle.turn_client_proto_api.specs.declared.options.RelayedPort.{RelayedPort}
use Rattle.turn_client_proto_api.specs.declared.options.RelayedPort.TheVariants.{Any, Even, EvenAndNextReserved, Reserved}
use Rattle.turn_client_c_types.specs.Addresses.{transport_of}
use Rattle.turn_client_c_types.specs.declared.settings.TurnSettings.{TurnSettings}

-- The size of the settings in bytes.
abbrev pub settings_size : ℕ
settings_size = 128

-- The settings state this size.
abbrev pub has_size : TurnSettings → Bool
has_size s = s.size == settings_size

-- All 32 bytes of a seed are zero.
abbrev pub is_zero_seed : List ℕ → Bool
is_zero_seed seed = pointwise (λ one other. one == other) seed (replicate 32 0)

-- The transport with this protocol number in IP; 0 is UDP.
abbrev pub transport_set : ℕ → Option TransportType
transport_set number = if number == 0 then Some Udp else transport_of number

-- Both transports. If the one to the server is UDP, the one to the peers has to be UDP.
abbrev pub both_of : Option TransportType → Option TransportType → Option (TransportType × TransportType)
both_of (Some Udp) (Some Udp) = Some (Udp, Udp)
both_of (Some Tcp) (Some peers) = Some (Tcp, peers)
both_of _ _ = None

-- The transports to the server and to the peers. `None` if a number of the settings is not one of its
-- choices.
unfoldable pub transports_of : TurnSettings → Option (TransportType × TransportType)
transports_of s =
    if nat_lt 3 s.families || (nat_lt 7 s.integrity || (nat_lt 2 s.anonymous
    || (nat_lt 1 s.compatible || (nat_lt 1 s.ignore_short_lifetimes || (nat_lt 3 s.port
    || nat_lt 1 s.attempt_indications))))) then None
    else both_of (transport_set s.transport) (transport_set s.peers)

-- The requested families, by the bits of families; by default IPv4.
abbrev pub families_of : ℕ → List AddressFamily → List AddressFamily
families_of bits first = if bits == 2 then IPV6 ∷ [] else if bits == 3 then with_family first IPV6 else first

-- A number has this bit.
abbrev pub has_bit : ℕ → ℕ → Bool
has_bit number bit = number / bit % 2 == 1

-- The bit of an integrity algorithm.
abbrev pub bit_of : IntegrityAlgorithm → ℕ
bit_of Sha1 = 1
bit_of Sha256 = 2
bit_of Sha512 = 4

-- These algorithms, or the others if there are none.
abbrev pub or_others : List IntegrityAlgorithm → List IntegrityAlgorithm → List IntegrityAlgorithm
or_others [] others = others
or_others (some ∷ rest) _ = some ∷ rest

-- The supported algorithms if no bit is set.
abbrev pub default_algorithms : List IntegrityAlgorithm
default_algorithms = Sha1 ∷ Sha256 ∷ []

-- The supported algorithms, by the bits of algorithms, the weaker ones first; by default HMAC-SHA1 and
-- HMAC-SHA256.
unfoldable pub algorithms_of : ℕ → List IntegrityAlgorithm → List IntegrityAlgorithm
algorithms_of bits first = if bits == 0 then default_algorithms
    else or_others (filter (λ algorithm. has_bit bits (bit_of algorithm)) all_algorithms) first

-- Whether the name is hidden; by default it is if the server supports it.
abbrev pub anonymous_of : ℕ → Feature → Feature
anonymous_of number first = if number == 1 then Required else if number == 2 then Disabled else first

abbrev pub millisecond : ℕ
millisecond = 1_000_000

-- How long requests wait; the default if `sends` is 0.
abbrev pub waits_of : TurnSettings → Waits → Waits
waits_of s first = if s.sends == 0 then first else record {
  initial = s.first_wait * millisecond;
  most = Some (s.most_wait * millisecond);
  retransmits = s.sends;
  final = s.last_wait * millisecond;
}

-- The limit on connections of peers of a hardened client that states none.
abbrev pub default_attempts : ℕ
default_attempts = 64

-- The limit on connections of peers, if they state this number. If it is 0, a client that is not hardened has
-- none.
abbrev pub attempts_of : TurnSettings → Option ℕ
attempts_of s = if not (s.max_connection_attempts == 0) then Some s.max_connection_attempts
    else if s.compatible == 1 then None else Some default_attempts

-- Whether a REFRESH may shorten an allocation: it may if the client is hardened, unless they say otherwise.
abbrev pub short_lifetimes_of : TurnSettings → Bool
short_lifetimes_of s = not (s.ignore_short_lifetimes == 1) && not (s.compatible == 1)

-- The requested port of the relayed address.
abbrev pub port_of : TurnSettings → RelayedPort
port_of s = if s.port == 1 then Even else if s.port == 2 then EvenAndNextReserved
    else if s.port == 3 then Reserved s.reservation else Any

-- What an ALLOCATE asks for besides transport and families. The lifetime is the default if it is 0.
abbrev pub options_of : TurnSettings → AllocateOptions → AllocateOptions
options_of s first = record {
  lifetime = if s.lifetime == 0 then first.lifetime else s.lifetime;
  port = port_of s;
}

-- The greatest number stands for no time between two messages.
abbrev pub no_pace : ℕ
no_pace = 4_294_967_295

-- The least time between two messages, in nanoseconds; the default if it is 0.
abbrev pub pace_of : TurnSettings → ℕ → ℕ
pace_of s first = if s.pace == no_pace then 0 else if s.pace == 0 then first else s.pace * millisecond

-- The settings of a client of this user, whose allocation is over this transport. It is hardened unless they say
-- otherwise.
abbrev pub config_of : TurnSettings → TransportType → NameAndPassword → Config
config_of s peers user = record (default_config user) {
  transport = peers;
  families = families_of s.families (default_config user).families;
  algorithms = algorithms_of s.integrity (default_config user).algorithms;
  anonymous_username = anonymous_of s.anonymous (default_config user).anonymous_username;
  hardened = not (s.compatible == 1);
  max_connection_attempts = attempts_of s;
  short_lifetimes = short_lifetimes_of s;
  attempt_indications = s.attempt_indications == 1;
  options = options_of s (default_config user).options;
  pace = pace_of s (default_config user).pace;
  waits = waits_of s (default_config user).waits;
}
