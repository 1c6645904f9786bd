use Rattle.std.proofs.Common.{rules, ◌≡◌, ℕ, List, Some, sym, subst}
use Rattle.std.specs.Prelude.{IsSome}
use Rattle.stun_types_write.specs.Lent.{own_draft}
use Rattle.stun_types_wire.specs.Registry.{bad_request_code}
use Rattle.stun_proto_server.specs.Server.{nonce_at}
use Rattle.stun_proto_verify.specs.declared.error.LongTermServerAuthError.{LongTermServerAuthError}
use Rattle.turn_desk_core.specs.State.{State}
use Rattle.turn_desk_core.specs.Steps.{FitsChallenge, IsTurnedReply, refusal_attributes, unvalidated_party}
use Rattle.turn_desk_core.specs.Replies.{failure_attributes}
use Rattle.turn_desk_core.proofs.Challenges.{keeps_nonce, plain_reply}
use Rattle.turn_desk_core.proofs.desk.Desk.refuse_unauthenticated.Goals as goal

pub returns-in_ok-reply-in-BadRequest : goal.returns-in_ok-reply-in-BadRequest
returns-in_ok-reply-in-BadRequest c =
    let has : IsSome (nonce_at c.self.inside.auth c.args.from) = search rules in
    let k = keeps_nonce c.self.inside.auth c.args.from has in
    let fits = subst (λ (s : State). (n : List ℕ) → nonce_at s.auth c.args.from ≡ Some n → FitsChallenge (unvalidated_party s.auth n)) (sym c.self.view_is) c.has_room.ensures k.nonce k.stored in
    subst (λ (error : LongTermServerAuthError). IsTurnedReply c.args.self.now.auth c.args.from c.args.request.now (refusal_attributes error) c.finish.result.items) (sym c.in-BadRequest.is)
    (subst (λ (s : State). IsTurnedReply s.auth c.args.from c.args.request.now (λ party. failure_attributes bad_request_code) c.finish.result.items) c.self.view_is
    (plain_reply c.self.inside.auth c.args.from c.args.request.now k.nonce bad_request_code (own_draft c.in_ok-reply-in-BadRequest.reply) c.finish.result.items k.stored fits c.in_ok-reply-in-BadRequest.ensures c.finish.ensures))
