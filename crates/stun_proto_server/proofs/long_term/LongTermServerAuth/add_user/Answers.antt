use Rattle.std.proofs.Common.{ℕ, List, sym, ap, ◌∙◌, subst}
use Rattle.std.specs.FinMap as map
use Rattle.std.specs.String.{string_bytes}
use Rattle.stun_proto_server.specs.StoredKeys.{IsKeyed}
use Rattle.stun_proto_server.specs.Server.{Server}
use Rattle.stun_proto_server.proofs.Maps.{insert-users, keys_inserted}
use Rattle.stun_proto_server.proofs.long_term.LongTermServerAuth.add_user.Goals as goal

pub returns-clause-ok : goal.returns-clause-ok
returns-clause-ok c =
    let name = c.in_ok-name.ensures.ok ∙ c.username.ensures in
    insert-users c.self.inside c.insert.new.self c.args.self.now (string_bytes c.in_ok-name.name) c.in_ok-keyed.keyed c.self.view_is c.in_ok-insert.ensures.ok
    ∙ (λ i. record c.args.self.now { users = map.insert c.args.self.now.users (name i) (c.in_ok-keyed.ensures.0 i).password })

pub invariant_of-self-2 : goal.invariant_of-self-2
invariant_of-self-2 c =
    let name = sym (c.in_ok-name.ensures.ok ∙ c.username.ensures) in
    let realm = sym (ap (λ (s : Server). s.realm) c.self.view_is) in
    let keys = subst (λ (r : List ℕ). IsKeyed r (string_bytes c.in_ok-name.name) c.in_ok-keyed.keyed) realm
    (subst (λ (n : List ℕ). IsKeyed c.args.self.now.realm n c.in_ok-keyed.keyed) name c.in_ok-keyed.ensures.1) in
    (c.self.invariant.0, keys_inserted c.self.inside.users.by_name c.insert.new.self.by_name (string_bytes c.self.inside.realm) (string_bytes c.in_ok-name.name) c.in_ok-keyed.keyed c.self.invariant.1 keys c.in_ok-insert.ensures.ok, c.insert.ensures.sound)
