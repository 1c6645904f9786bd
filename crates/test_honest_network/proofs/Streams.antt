-- A simulation of a server core and of a client over TCP that requests an allocation over TCP is ready for an
-- honest run.
use Rattle.std.proofs.Common.{◌≡◌, ◌≤◌, ◌<◌, [], Some, length, replicate, refl, sym, ap, ◌∙◌, subst, arith}
use Rattle.std.specs.Prelude.{Bool, IfOk, IsTrue, Result, Ok, Err}
use Rattle.std.specs.FinMap as map
use Rattle.std.specs.declared.net.socket_addr.SocketAddr.{SocketAddr}
use Rattle.stun_types_wire.specs.Registry.{longest_username}
use Rattle.stun_types_base.specs.SocketAddrs.{socket_addr_cmp}
use Rattle.stun_types_base.specs.declared.transport.TransportType.TheVariants.{Tcp}
use Rattle.stun_types_base.specs.Times.{time_after}
use Rattle.stun_proto_server.specs.Server.{Server}
use Rattle.turn_client_proto_api.specs.TurnTypesFrame.Streams.{alive}
use Rattle.turn_desk_progress_laws.specs.Promises.{IsFresh, over}
use Rattle.turn_desk_progress_laws.specs.Joining.{KeepsOwn}
use Rattle.turn_desk_progress_laws.specs.Links.{Link}
use Rattle.turn_client_proto.specs.Core.Beginning.{IsNew}
use Rattle.turn_client_proto_api.specs.Config.{Config}
use Rattle.turn_client_proto.specs.Recv.Control.{Control, Open}
use Rattle.turn_client_proto.specs.Recv.ClientState.{ClientState}
use Rattle.turn_desk_world.specs.Model.{World}
use Rattle.test_honest_network.specs.Connections.{HasBound, stream_config_of, stream_plan_of}
use Rattle.test_honest_network.specs.Settings.{server_of}
use Rattle.test_honest_network.specs.declared.simulation.TheConstants.{SECOND}
use Rattle.test_honest_network.specs.declared.setting.Setting.{Setting}
use Rattle.test_honest_network.proofs.Beginning.{Law}
use Rattle.test_honest_network.proofs.Users.{differ, put_user}

pub begins : (s : Setting) (config : Config) (w : World) (k : ClientState) → Law config → config ≡ stream_config_of s → w.desk.auth ≡ server_of s → w.client ≡ Some k → IsNew Tcp s.here s.server config (replicate 32 0) k.core
    → k.control ≡ Open (alive []) → length s.name.now ≤ longest_username → IsFresh (stream_plan_of s) w
begins s config w k law config_is auth_is there started open_is short =
    let l : Law (stream_config_of s) = subst Law config_is law in
    let new = subst (λ (c : Config). IsNew Tcp s.here s.server c (replicate 32 0) k.core) config_is started in
    l Tcp s.here s.server (replicate 32 0) 0 SECOND k.core w (there ∙ ap (λ (c : Control). Some (over c k.core)) open_is) new short (record { lifetime = refl; pace = refl; indications = refl })
    (ap (λ (a : Server). map.get a.clients s.here) auth_is ∙ map.get-empty socket_addr_cmp s.here)
    (ap (λ (a : Server). map.get a.users s.name.now) auth_is ∙ put_user s.name.now s.password.now)
    (differ w.desk.auth s.name.now s.password.now (ap (λ (a : Server). a.users) auth_is))
    (record { apart = omega arith; in_range = omega arith })
    (subst (λ (a : Server). SECOND < time_after 0 a.nonce_expiry) (sym auth_is) (omega arith))

-- The server core stores nothing for any address.
pub keeps : (s : Setting) (link : Link) (server : Server) → server ≡ server_of s → KeepsOwn link server
keeps s link server is = λ stored there. absurd (Prim.cc (sym (ap (λ (a : Server). map.get a.clients link.local) is ∙ map.get-empty socket_addr_cmp link.local) ∙ there))

-- The outcome for the connection holds in a simulation that is ready for an honest run.
pub known : {E : Type 0} (s : Setting) (address : SocketAddr) (link : Link) (old new : World) (result : Result Bool E) → IfOk result (λ is. IsTrue is → HasBound (stream_plan_of s) address link old new)
    → IfOk result (λ is. IsTrue is → (x : World) × (y : World) × HasBound (stream_plan_of s) address link x y)
known s address link old new (Ok is) bound = λ yes. (old, new, bound yes)
known s address link old new (Err error) bound = tt
