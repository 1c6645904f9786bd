use Rattle.std.proofs.Common.{rules, ◌≡◌, Some, None, List, ℕ, sym, subst}
use Rattle.std.specs.Prelude.{IsSome}
use Rattle.stun_types_write.specs.Lent.{own_draft}
use Rattle.stun_proto_server.specs.Server.{nonce_at, outcome_at}
use Rattle.turn_desk_core.specs.State.{State}
use Rattle.turn_desk_core.specs.Steps.{FitsChallenge, IsTurnedReply, challenge_attributes, unvalidated_party}
use Rattle.turn_desk_core.proofs.Challenges.{challenge_accepted, challenge_reply, keeps_nonce}
use Rattle.turn_desk_core.proofs.desk.Desk.challenge.Goals as goal

pub sign_outgoing_message_unchecked-requires-clause-accepted : goal.sign_outgoing_message_unchecked-requires-clause-accepted
sign_outgoing_message_unchecked-requires-clause-accepted c =
    let has : IsSome (nonce_at c.self.inside.auth c.args.from) = search rules in
    let none : outcome_at c.self.inside.auth c.args.from ≡ None = search rules in
    let k = keeps_nonce c.self.inside.auth c.args.from has in
    let fits = subst (λ (s : State). (n : List ℕ) → nonce_at s.auth c.args.from ≡ Some n → FitsChallenge (unvalidated_party s.auth n)) (sym c.self.view_is) c.has_room.ensures k.nonce k.stored in
    challenge_accepted c.self.inside.auth c.args.from c.args.request.now k.nonce c.args.code (own_draft c.in_ok-reply.reply) c.requires.request k.stored none fits c.in_ok-reply.ensures

pub returns : goal.returns
returns c =
    let has : IsSome (nonce_at c.self.inside.auth c.args.from) = search rules in
    let none : outcome_at c.self.inside.auth c.args.from ≡ None = search rules in
    let k = keeps_nonce c.self.inside.auth c.args.from has in
    let fits = subst (λ (s : State). (n : List ℕ) → nonce_at s.auth c.args.from ≡ Some n → FitsChallenge (unvalidated_party s.auth n)) (sym c.self.view_is) c.has_room.ensures k.nonce k.stored in
    subst (λ (s : State). IsTurnedReply s.auth c.args.from c.args.request.now (challenge_attributes c.args.code) c.finish.result.items) c.self.view_is
    (challenge_reply c.self.inside.auth c.args.from c.args.request.now k.nonce c.args.code (own_draft c.in_ok-reply.reply) (own_draft c.in_ok-challenge.challenge) c.finish.result.items c.requires.request k.stored none fits c.in_ok-reply.ensures
    c.in_ok-challenge.ensures.ok c.finish.ensures)
