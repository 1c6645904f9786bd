use Rattle.std.proofs.Common.{sym, ap, ◌∙◌}
use Rattle.std.specs.Option.{option_and_then}
use Rattle.stun_proto_server.proofs.Maps.{get-clients}
use Rattle.stun_proto_server.proofs.long_term.LongTermServerAuth.validated_user.Goals as goal

pub returns-in-None : goal.returns-in-None
returns-in-None c = sym (ap (option_and_then (λ x. x.outcome)) (get-clients c.self.inside _ c.args.client _ c.self.view_is c.in-None.ensures))

pub returns-in-Some : goal.returns-in-Some
returns-in-Some c = c.as_ref.ensures.value ∙ sym (ap (option_and_then (λ x. x.outcome)) (get-clients c.self.inside _ c.args.client _ c.self.view_is c.in-Some.ensures))
