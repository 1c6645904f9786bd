use Rattle.std.proofs.Common.{sym, ap, ◌∙◌, Some}
use Rattle.std.specs.Option.{option_map}
use Rattle.stun_proto_server.proofs.Maps.{get-clients}
use Rattle.stun_proto_server.proofs.long_term.LongTermServerAuth.nonce_for_client.Goals as goal

pub returns-in-None-clause-value : goal.returns-in-None-clause-value
returns-in-None-clause-value c = sym (ap (option_map (λ x. x.nonce)) (get-clients c.self.inside _ c.args.client _ c.self.view_is c.in-None.ensures))

pub returns-in-Some-clause-value : goal.returns-in-Some-clause-value
returns-in-Some-clause-value c =
    sym (ap (option_map (λ x. x.nonce)) (get-clients c.self.inside _ c.args.client _ c.self.view_is c.in-Some.ensures)
    ∙ ap Some (sym c.as_str.ensures.value))
