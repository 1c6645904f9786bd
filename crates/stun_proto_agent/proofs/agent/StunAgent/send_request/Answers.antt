use Rattle.std.proofs.Common.{◌≡◌, None, refl, ap, ◌∙◌, subst}
use Rattle.stun_proto_transaction.specs.Wire.Grammar.{number_at}
use Rattle.stun_proto_agent.specs.Sending.{started, stored_under, request_refusal}
use Rattle.stun_proto_agent.proofs.Sent.{after_request, first_sent}
use Rattle.stun_proto_agent.proofs.agent.StunAgent.send_request.Goals as goal

pub returns : goal.returns
returns g c =
    let bytes = g.T.AsSlice.items c.args.msg in
    let stored = c.in_ok-keep_request.ensures.ok ∙ ap (λ b. stored_under c.args.self.now c.in_ok-number.number (started c.args.self.now b c.args.to c.args.now)) c.as_slice-2.ensures in
    let cause = subst (λ b. request_refusal c.args.self.now b ≡ None) c.as_slice.ensures c.in_ok-number.ensures.0 in
    let own = c.in_ok-number.ensures.1 ∙ ap number_at c.as_slice.ensures in (
      (refl, λ _. tt, after_request c.args.self.now c.keep_request.new.self bytes c.in_ok-number.number c.args.to c.args.now stored own),
      record {
        cause = cause;
        sent = first_sent c.args.self.now c.keep_request.new.self bytes c.in_ok-number.number c.args.to c.args.now c.first_transmission.result stored c.first_transmission.ensures;
        state = tt;
      },
    )
