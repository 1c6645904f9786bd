-- The success response by which a server core grants an allocation, as the client reads it.
use Rattle.std.specs.Prelude.{◌&&◌}
use Rattle.std.proofs.Common.{◌≡◌, ℕ, List, None, if◌then◌else◌, ap, subst, sym}
use Rattle.std.specs.declared.net.socket_addr.SocketAddr.{SocketAddr}
use Rattle.turn_client_proto_messages.specs.StunTypesIntegrity.Integrity.{Validates}
use Rattle.turn_desk_core.specs.StunTypesWire.declared.class.MessageClass.{MessageClass}
use Rattle.turn_desk_core.specs.StunTypesBase.declared.transport.TransportType.{TransportType}
use Rattle.turn_client_proto_messages.specs.StunProtoClient.Challenges.{challenge_visible, is_challenge_code, is_error, reported_of}
use Rattle.turn_client_proto_messages.specs.StunProtoAuth.Claims.{claimed, code_visible}
use Rattle.turn_client_proto_messages.specs.StunProtoClient.Client.{Standing, standing_key}
use Rattle.turn_client_proto_messages.specs.StunProtoClient.Digests.{IsRight}
use Rattle.turn_desk_core.specs.StunProtoVerify.Judgement.{user_key}
use Rattle.turn_desk_core.specs.State.{State}
use Rattle.turn_desk_step_laws.specs.Users.{IsAllocationGranted}
use Rattle.turn_desk_step_laws.specs.Handshakes.{IsOfServer, user_of}

module _ (old new : State) (from : SocketAddr) (bytes reply : List ℕ) (transport : TransportType) (relayed : List SocketAddr) (lifetime : ℕ) (s : Standing) (own : IsOfServer old.auth from s)
    (is : IsAllocationGranted old from bytes transport relayed lifetime (user_of s) reply new) where
  pub success_right : IsRight reply (standing_key s)
  success_right = record {
    text = is.text;
    validates = subst (λ (r : List ℕ). Validates reply (user_key r s.account.username s.account.password s.challenge.choice) s.challenge.choice is.text) (sym own.realm) is.valid;
  }

  pub no_challenge : challenge_visible reply ≡ None
  no_challenge = ap (λ (c : MessageClass). if is_error c && is_challenge_code (code_visible reply) then reported_of (claimed reply) else None) is.success
