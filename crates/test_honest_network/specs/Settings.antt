-- A client and a server core as they are made from settings.
use Rattle.std.specs.Prelude.{List, [], ◌∷◌, None}
use Rattle.std.specs.FinMap as map
use Rattle.stun_types_wire.specs.declared.algorithm.IntegrityAlgorithm.{IntegrityAlgorithm}
use Rattle.stun_types_wire.specs.declared.algorithm.IntegrityAlgorithm.TheVariants.{Sha1, Sha256, Sha512}
use Rattle.stun_proto_server.specs.Server.{Server}
use Rattle.turn_client_proto_api.specs.Config.{Config, default_config}
use Rattle.test_honest_network.specs.declared.setting.Setting.{Setting}
use Rattle.test_honest_network.specs.declared.setting.Supported.{Supported}
use Rattle.test_honest_network.specs.declared.setting.Supported.TheVariants.{OnlySha1, OnlySha256, OnlySha512, Both, All}

abbrev pub algorithms_of : Supported → List IntegrityAlgorithm
algorithms_of OnlySha1 = Sha1 ∷ []
algorithms_of OnlySha256 = Sha256 ∷ []
algorithms_of OnlySha512 = Sha512 ∷ []
algorithms_of Both = Sha1 ∷ Sha256 ∷ []
algorithms_of All = Sha1 ∷ Sha256 ∷ Sha512 ∷ []

-- The client requests one address, of this family, for an allocation over UDP.
abbrev pub config_of : Setting → Config
config_of s = record (default_config (record { username = s.name.now; password = s.password.now })) {
  families = s.family ∷ [];
  algorithms = algorithms_of s.own;
  anonymous_username = s.hides;
}

-- The server core knows only the client's user, and stores nothing for any address.
abbrev pub server_of : Setting → Server
server_of s = record {
  realm = s.realm.now;
  users = map.insert map.empty s.name.now s.password.now;
  clients = map.empty;
  nonce_expiry = 3_600_000_000_000;
  algorithms = algorithms_of s.others;
  anonymous_username = s.takes;
  max_clients = None;
}
