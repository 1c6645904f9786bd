use Rattle.std.proofs.Common.{◌≡◌, Some, subst}
use Rattle.stun_proto_server.specs.Server.{nonce_at}
use Rattle.turn_desk_core.specs.State.{State}
use Rattle.turn_desk_core.specs.Steps.{FitsChallenge, unvalidated_party}
use Rattle.turn_desk_core.proofs.Challenges.{server_fits}
use Rattle.turn_desk_core.proofs.desk.Desk.has_room.Goals as goal

pub returns : goal.returns
returns c nonce =
    subst (λ (s : State). nonce_at s.auth c.args.from ≡ Some nonce → FitsChallenge (unvalidated_party s.auth nonce)) c.self.view_is
    (λ has. server_fits c.self.inside.auth c.args.from c.realm-realm.result.now nonce c.nonce_for_client-nonce.result c.supported_integrity.result.now
    c.realm-realm.ensures.value c.realm-realm.ensures.short c.nonce_for_client-nonce.ensures.value c.nonce_for_client-nonce.ensures.short c.supported_integrity.ensures.value c.supported_integrity.ensures.distinct
    c.supported_integrity.ensures.never_empty c.proof_text_is_read.ensures.utf8 c.found_is_read.ensures has)
