use Rattle.std.proofs.Common.{◌≡◌, ℕ, List, Some, sym, ap, ◌∙◌, subst}
use Rattle.std.specs.Option.{option_map}
use Rattle.stun_proto_verify.specs.AuthAttributes.Userhashes.{userhash_of}
use Rattle.stun_proto_server.specs.StoredKeys.{IsHashed}
use Rattle.stun_proto_server.specs.Users.{IsFoundBy}
use Rattle.stun_proto_server.specs.declared.users.KeyedUser.{KeyedUser}
use Rattle.stun_proto_server.proofs.Naming.{by_hash, keys_by_hash, named_by, decodes}
use Rattle.stun_proto_server.proofs.long_term.LongTermServerAuth.user_hashed.Goals as goal

pub named-requires : goal.named-requires
named-requires c =
    let pair : List ℕ × KeyedUser = (c.in-Some.name.now, c.in-Some.user.now) in
    let found = subst (IsHashed c.self.inside.users.by_name c.args.hash.now) (ap decodes c.in-Some.is) c.with_hash.ensures in
    keys_by_hash c.self.inside c.args.self.now pair c.self.view_is c.self.invariant.1 found.0

pub returns-in-Some : goal.returns-in-Some
returns-in-Some c =
    let found = by_hash c.self.inside c.args.self.now c.args.hash.now (decodes c.with_hash.result) c.self.view_is c.self.invariant.1 c.with_hash.ensures in
    subst (IsFoundBy c.args.self.now (λ other. Some c.args.hash.now ≡ Some (userhash_of other c.args.self.now.realm)))
    (ap (λ r. option_map named_by (decodes r)) c.in-Some.is ∙ ap Some (sym c.named.ensures)) found

pub returns-in-None : goal.returns-in-None
returns-in-None c =
    let found = by_hash c.self.inside c.args.self.now c.args.hash.now (decodes c.with_hash.result) c.self.view_is c.self.invariant.1 c.with_hash.ensures in
    subst (IsFoundBy c.args.self.now (λ other. Some c.args.hash.now ≡ Some (userhash_of other c.args.self.now.realm)))
    (ap (λ r. option_map named_by (decodes r)) c.in-None.is) found
