-- A simulation begins new with a client as its constructor makes it.
use Rattle.std.proofs.Common.{◌≡◌, ℕ, List, [], length, Option, Some, refl, sym, ap, ◌∙◌, subst, ◌≤◌}
use Rattle.std.specs.declared.net.socket_addr.SocketAddr.{SocketAddr}
use Rattle.turn_desk_core.specs.StunTypesWire.Headers.{AreBytes}
use Rattle.turn_desk_core.specs.StunTypesWire.Registry.{longest_username}
use Rattle.stun_types_base.specs.declared.transport.TransportType.{TransportType}
use Rattle.turn_desk_event.specs.TurnTypesFrame.StreamAnswers.{IsNone, looked}
use Rattle.turn_desk_event.specs.TurnTypesFrame.StreamHeads.{head}
use Rattle.turn_desk_event.specs.TurnTypesFrame.Streams.{alive}
use Rattle.turn_desk_world.specs.TurnClientProtoCore.Beginning.{IsNew}
use Rattle.turn_desk_event.specs.TurnClientProtoApi.Config.{Config}
use Rattle.turn_client_proto_step_laws.specs.Recv.Control.{Control, Datagrams, Open}
use Rattle.turn_client_proto_step_laws.specs.Recv.ClientState.{ClientState}
use Rattle.turn_client_proto_step_laws.specs.Recv.Waiting.{bytes_waiting, frames_waiting}
use Rattle.turn_client_proto_step_laws.proofs.Recv.Waiting.{none_waits}
use Rattle.turn_client_proto_step_laws.specs.Beginning.{first_client}
use Rattle.turn_desk_world.specs.Model.{World}
use Rattle.turn_desk_world_laws.specs.Safety.{BeginsNew}
use Rattle.turn_desk_world_laws.specs.Reported.{IsAt}

-- No bytes contain no frame.
none_of_nothing : IsNone (looked (alive []))
unfolding head
none_of_nothing = tt

-- By how bytes come, none of which are buffered.
module _ (transport : TransportType) (here server : SocketAddr) (config : Config) (seed : List ℕ) (k : ClientState) (w : World) (is : w.client ≡ Some k) (new : IsNew transport here server config seed k.core)
    (short : length config.credentials.username ≤ longest_username) (few : length config.families ≤ 2) where
  begins : (control : Control) → k.control ≡ control → frames_waiting control ≡ [] → AreBytes (bytes_waiting control) → BeginsNew transport here server config seed k.core w
  begins control at none are_bytes = record {
    client = subst (λ (o : Option ClientState). IsAt o (first_client config.credentials seed k.core)) (sym is)
        (record { core = refl; waits = ap frames_waiting at ∙ none; are_bytes = subst (λ (o : Control). AreBytes (bytes_waiting o)) (sym at) are_bytes });
    new = new;
    short = short;
    few = few;
  }

  pub begins_udp : k.control ≡ Datagrams → BeginsNew transport here server config seed k.core w
  begins_udp at = begins Datagrams at refl refl

  pub begins_tcp : k.control ≡ Open (alive []) → BeginsNew transport here server config seed k.core w
  begins_tcp at = begins (Open (alive [])) at (none_waits (alive []) none_of_nothing) refl
