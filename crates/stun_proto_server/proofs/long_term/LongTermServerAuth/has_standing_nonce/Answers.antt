use Rattle.std.proofs.Common.{sym, ap, ◌∙◌, nat_lt}
use Rattle.stun_proto_verify.specs.Base.Times.{time_after}
use Rattle.stun_proto_server.specs.Server.{is_standing}
use Rattle.stun_proto_server.proofs.Maps.{get-clients}
use Rattle.stun_proto_server.proofs.long_term.LongTermServerAuth.has_standing_nonce.Goals as goal

pub returns-in-None : goal.returns-in-None
returns-in-None c =
    sym (ap (is_standing c.args.self.now.nonce_expiry c.args.now) (get-clients c.self.inside _ c.args.client _ c.self.view_is c.in-None.ensures))

pub returns-in-Some : goal.returns-in-Some
returns-in-Some c =
    c.occurs.ensures ∙ ap (λ v. nat_lt c.args.now (time_after c.in-Some.stored.now.generated v.nonce_expiry)) c.self.view_is
    ∙ sym (ap (is_standing c.args.self.now.nonce_expiry c.args.now) (get-clients c.self.inside _ c.args.client _ c.self.view_is c.in-Some.ensures))
