-- A simulation of a client and a server core with these settings is ready for an honest run.
use Rattle.std.proofs.Common.{◌≡◌, ◌≤◌, ◌<◌, ℕ, List, [], Some, None, length, replicate, refl, sym, ap, ◌∙◌, subst, arith}
use Rattle.std.specs.FinMap as map
use Rattle.std.specs.declared.net.socket_addr.SocketAddr.{SocketAddr}
use Rattle.stun_types_wire.specs.Registry.{longest_username}
use Rattle.stun_types_base.specs.SocketAddrs.{socket_addr_cmp}
use Rattle.stun_types_base.specs.declared.transport.TransportType.{TransportType}
use Rattle.stun_types_base.specs.declared.transport.TransportType.TheVariants.{Udp, Tcp}
use Rattle.stun_types_base.specs.Times.{time_after}
use Rattle.stun_proto_server.specs.Server.{Server}
use Rattle.stun_proto_server.specs.Users.{HashesDiffer}
use Rattle.turn_client_proto_api.specs.TurnTypesFrame.Streams.{alive}
use Rattle.turn_desk_progress_laws.specs.TurnClientProtoHandshakeLaws.Sent.{IsUsual}
use Rattle.turn_desk_progress_laws.specs.Promises.{IsFresh, IsTimely, control_at, over}
use Rattle.turn_desk_progress_laws.specs.Scripts.{plan_over}
use Rattle.turn_client_proto.specs.Core.Beginning.{IsNew}
use Rattle.turn_client_proto_api.specs.Config.{Config}
use Rattle.turn_client_proto.specs.Recv.Control.{Control, Open}
use Rattle.turn_client_proto.specs.Recv.ClientState.{ClientState, Protocol, over_udp}
use Rattle.turn_desk_world.specs.Model.{World}
use Rattle.test_honest_network.specs.Simulations.{IsStarted, plan_of}
use Rattle.test_honest_network.specs.Settings.{config_of, server_of}
use Rattle.test_honest_network.specs.declared.simulation.TheConstants.{SECOND}
use Rattle.test_honest_network.specs.declared.setting.Setting.{Setting}
use Rattle.test_honest_network.proofs.Users.{differ, put_user}

-- ---- the client

module _ (here server : SocketAddr) (config : Config) (seed : List ℕ) where
  abbrev Started : TransportType → ClientState → Type 0
  Started transport k = (core : Protocol) × (k ≡ over (control_at transport []) core) × IsNew transport here server config seed core

  pub over_datagrams : (transport : TransportType) → transport ≡ Udp → (core : Protocol) → IsNew Udp here server config seed core → Started transport (over_udp core)
  over_datagrams transport is core new = subst (λ (t : TransportType). Started t (over_udp core)) (sym is) (core, refl, new)

  pub over_stream : (transport : TransportType) → transport ≡ Tcp → (k : ClientState) → IsNew Tcp here server config seed k.core → k.control ≡ Open (alive []) → Started transport k
  over_stream transport is k new open_is = subst (λ (t : TransportType). Started t k) (sym is) (k.core, ap (λ (c : Control). over c k.core) open_is, new)

-- ---- the world

abbrev pub Law : Config → Type 0
Law config = (transport : TransportType) (local remote : SocketAddr) (seed : List ℕ) (made second : ℕ) (core : Protocol) (w : World) → w.client ≡ Some (over (control_at transport []) core)
    → IsNew transport local remote config seed core → length config.credentials.username ≤ longest_username → IsUsual config → map.get w.desk.auth.clients local ≡ None
    → map.get w.desk.auth.users config.credentials.username ≡ Some config.credentials.password → HashesDiffer w.desk.auth
    → IsTimely (plan_over transport local remote config seed made second) → second < time_after made w.desk.auth.nonce_expiry
    → IsFresh (plan_over transport local remote config seed made second) w

pub begins : (s : Setting) (config : Config) (w : World) (k : ClientState) → Law config → config ≡ config_of s → w.desk.auth ≡ server_of s → w.client ≡ Some k → IsStarted s config k → length s.name.now ≤ longest_username → IsFresh (plan_of s) w
begins s config w k law config_is auth_is there started short =
    let l : Law (config_of s) = subst Law config_is law in
    let new = subst (λ (c : Config). IsNew s.transport s.here s.server c (replicate 32 0) started.0) config_is started.2 in
    l s.transport s.here s.server (replicate 32 0) 0 SECOND started.0 w (there ∙ ap Some started.1) new short (record { lifetime = refl; pace = refl; indications = refl })
    (ap (λ (a : Server). map.get a.clients s.here) auth_is ∙ map.get-empty socket_addr_cmp s.here)
    (ap (λ (a : Server). map.get a.users s.name.now) auth_is ∙ put_user s.name.now s.password.now)
    (differ w.desk.auth s.name.now s.password.now (ap (λ (a : Server). a.users) auth_is))
    (record { apart = omega arith; in_range = omega arith })
    (subst (λ (a : Server). SECOND < time_after 0 a.nonce_expiry) (sym auth_is) (omega arith))
