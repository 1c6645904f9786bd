use Rattle.std.specs.String.{string_bytes}
use Rattle.stun_proto_server.proofs.Maps.{keys_removed, remove-users}
use Rattle.stun_proto_server.proofs.long_term.LongTermServerAuth.remove_user.Goals as goal

pub returns : goal.returns
returns c = remove-users c.self.inside c.remove.new.self c.args.self.now c.args.user.now c.self.view_is c.remove.ensures.removed

pub invariant_of-self : goal.invariant_of-self
invariant_of-self c =
    (c.self.invariant.0, keys_removed c.self.inside.users.by_name c.remove.new.self.by_name (string_bytes c.self.inside.realm) c.args.user.now c.self.invariant.1 c.remove.ensures.removed, c.remove.ensures.sound)
