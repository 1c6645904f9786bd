use Rattle.std.proofs.Common.{rules, subst}
use Rattle.std.specs.Prelude.{IsSome}
use Rattle.turn_desk_core.specs.State.{State}
use Rattle.turn_desk_core.specs.Steps.{IsSignedFor, key_at}
use Rattle.stun_types_write.specs.Lent.{own_draft}
use Rattle.turn_desk_core.proofs.Keys.{accepted_for, signed_for}
use Rattle.turn_desk_core.proofs.desk.Desk.sign.Goals as goal

pub sign_outgoing_message_unchecked-requires-clause-accepted : goal.sign_outgoing_message_unchecked-requires-clause-accepted
sign_outgoing_message_unchecked-requires-clause-accepted c =
    accepted_for c.self.inside.auth c.args.from _ (own_draft c.args.reply) c.requires.response (search rules) c.requires.signable

pub returns : goal.returns
returns c kind number attributes reply =
    let has : IsSome (key_at c.self.inside.auth c.args.from) = search rules in
    subst (λ (s : State). IsSignedFor s.auth c.args.from kind number attributes c.finish.result.items) c.self.view_is
    (signed_for c.self.inside.auth c.args.from _ (own_draft c.args.reply) (own_draft c.in_ok-signed.signed) c.finish.result.items c.requires.response has c.finish.ensures c.in_ok-signed.ensures.ok kind number attributes reply)
