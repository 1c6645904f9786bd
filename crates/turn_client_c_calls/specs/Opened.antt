-- What a client is that C opened, and why one is not opened.
use Rattle.std.specs.Prelude.{◌≡◌, ◌⊎◌, ◌≤◌, ◌<◌, ◌||◌, ℕ, ℤ, Bool, true, false, is_some, List, [], length, Some, None, IsUtf8}
use Rattle.std.specs.declared.net.socket_addr.SocketAddr.{SocketAddr}
use Rattle.stun_types_wire.specs.Registry.{longest_username}
use Rattle.stun_types_base.specs.declared.transport.TransportType.{TransportType}
use Rattle.stun_types_base.specs.declared.transport.TransportType.TheVariants.{Udp, Tcp}
use Rattle.turn_types_frame.specs.Streams.{alive}
use Rattle.turn_client_proto.specs.Core.Beginning.{IsNew}
use Rattle.turn_client_proto.specs.Clients.{noted_of, stored_of}
use Rattle.turn_client_proto_api.specs.Config.{Config}
use Rattle.turn_client_proto.specs.Recv.Control.{Control, Datagrams, Open}
use Rattle.turn_client_proto.specs.Recv.Notes.{no_notes}
use Rattle.turn_client_proto.specs.declared.client.TurnClient.{TurnClient}
use Rattle.turn_client_c_types.specs.Addresses.{address_of}
use Rattle.turn_client_c_calls.specs.Codes as code
use Rattle.turn_client_c_calls.specs.Codes.{same}
use Rattle.turn_client_c_calls.specs.Held.{Held}
use Rattle.turn_client_c_calls.specs.Lengths.{is_bad_length}
use Rattle.turn_client_c_types.specs.Settings.{config_of, has_size, is_zero_seed, transports_of}
use Rattle.turn_client_c_types.specs.declared.settings.TurnSettings.{TurnSettings}
use Rattle.turn_client_c_calls.specs.declared.whole.HandleState.{HandleState}

-- How bytes arrive at a new client.
abbrev pub first_control : TransportType → Control
first_control Udp = Datagrams
first_control Tcp = Open (alive [])

-- The client is new, over this transport and between these addresses, and has noted nothing.
pub record IsStarted (by : TransportType) (local server : SocketAddr) (config : Config) (seed : List ℕ)
    (client : TurnClient) : Type 0 where
  pub is_new : IsNew by local server config seed (stored_of client).core
  pub control : (stored_of client).control ≡ first_control by
  pub noted : noted_of client ≡ no_notes

-- The client is new and of this user, all of its settings are valid, its seed is not zero, and no joined bytes are
-- unread.
pub record IsOpened (s : TurnSettings) (name password seed : List ℕ) (whole : HandleState) : Type 0 where
  pub size : has_size s ≡ true
  pub local : SocketAddr
  pub local_is : address_of s.local ≡ Some local
  pub server : SocketAddr
  pub server_is : address_of s.server ≡ Some server
  pub by : TransportType × TransportType
  pub by_is : transports_of s ≡ Some by
  pub name_is_text : IsUtf8 name
  pub password_is_text : IsUtf8 password
  pub short : length name ≤ longest_username
  pub not_zero : is_zero_seed seed ≡ false
  pub started : IsStarted by.0 local server (config_of s by.1 (record { username = name; password = password })) seed
      whole.client
  pub none_wait : whole.joined.items ≡ []

abbrev pub HoldsOpened : TurnSettings → (name password seed : List ℕ) → Held → Type 0
HoldsOpened s name password seed None = ⊥
HoldsOpened s name password seed (Some whole) = IsOpened s name password seed whole

-- The statuses that `turn_client_open` returns.
abbrev pub is_answer : ℤ → Bool
is_answer s = same s code.ok || (same s code.already_open || (same s code.bad_family || (same s code.bad_setting
    || (same s code.bad_text || (same s code.long_name || (same s code.no_memory || (same s code.zero_seed
    || same s code.bad_length)))))))

-- A status of `turn_client_open` is returned only if its reason holds. It is `already_open` if and only if
-- the handle is open. A seed of zeros is checked last: with it no client is opened, and no memory is allocated.
pub record WhyNot (old : Held) (s : TurnSettings) (name password seed : List ℕ) (status : ℤ) : Type 0 where
  pub answer : is_answer status ≡ true
  pub already : is_some old ≡ true → status ≡ code.already_open
  pub is_open : status ≡ code.already_open → is_some old ≡ true
  pub family : status ≡ code.bad_family → (address_of s.local ≡ None) ⊎ (address_of s.server ≡ None)
  pub setting : status ≡ code.bad_setting → (has_size s ≡ false) ⊎ (transports_of s ≡ None)
  pub size : status ≡ code.bad_length → (is_bad_length (length name) ≡ true) ⊎ (is_bad_length (length password) ≡ true)
  pub text : status ≡ code.bad_text → ¬ (IsUtf8 name × IsUtf8 password)
  pub long : status ≡ code.long_name → longest_username < length name
  pub zero : status ≡ code.zero_seed → is_zero_seed seed ≡ true
  pub last : status ≡ code.no_memory → is_zero_seed seed ≡ false
