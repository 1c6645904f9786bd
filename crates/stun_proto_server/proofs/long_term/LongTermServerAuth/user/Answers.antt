use Rattle.std.proofs.Common.{sym, ◌∙◌}
use Rattle.std.specs.Option.{option_copied}
use Rattle.stun_proto_server.proofs.Maps.{found_has, found_password, get-users, keys_found}
use Rattle.stun_proto_server.proofs.long_term.LongTermServerAuth.user.Goals as goal

pub returns-clause-password : goal.returns-clause-password
returns-clause-password c = found_password c.get.result ∙ sym (get-users c.self.inside _ c.args.name.now _ c.self.view_is c.get.ensures)

pub returns-clause-keys : goal.returns-clause-keys
returns-clause-keys c =
    found_has c.args.self.now.realm c.args.name.now c.get.result
    (keys_found c.self.inside c.args.self.now c.args.name.now (option_copied c.get.result) c.self.view_is c.self.invariant.1 c.get.ensures)
