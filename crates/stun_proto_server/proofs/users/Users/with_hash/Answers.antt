use Rattle.std.proofs.Common.{sym, ap, subst, ◌∙◌, ◌≢◌, Option, Some}
use Rattle.std.specs.Prelude.{IfSome}
use Rattle.std.specs.BTreeMap as tree
use Rattle.std.specs.Cmp.Lexicographic.{slice_cmp}
use Rattle.std.specs.Option.{option_copied}
use Rattle.std.specs.Ordering.{nat_cmp}
use Rattle.std.specs.String.{string_bytes}
use Rattle.stun_proto_server.specs.declared.users.KeyedUser.{KeyedUser}
use Rattle.stun_proto_server.proofs.Registered.{first_is, lacks_hash, none_under}
use Rattle.stun_proto_server.proofs.users.Users.with_hash.Goals as goal

pub returns-then-self : goal.returns-then-self
returns-then-self c = first_is c.args.self.now.by_name c.args.hash.now _ c.first_hashed.ensures.stored c.first_hashed.ensures.first

pub returns-in_default-get-2 : goal.returns-in_default-get-2
returns-in_default-get-2 c =
    let whole = c.in-Ok.ensures.1 in
    let found = ap option_copied (sym c.in-Some.is) ∙ c.get.ensures.value ∙ ap (tree.get (slice_cmp nat_cmp) c.args.self.now.by_hash) whole.same in
    let none = c.in_default-get-2.ensures.value ∙ ap (tree.get_by_text c.args.self.now.by_name) c.as_str.ensures.value in
    none_under c.args.self.now.by_hash c.args.self.now.by_name c.args.hash.now (Some c.in-Some.name.now) (c.requires c.if-self.false) found
    (subst (λ (o : Option KeyedUser). IfSome o (λ own. own.hash ≢ c.args.hash.now)) none tt)

pub returns-else-has_hash : goal.returns-else-has_hash
returns-else-has_hash c =
    let whole = c.in-Ok.ensures.1 in
    let found = ap option_copied (sym c.in-Some.is) ∙ c.get.ensures.value ∙ ap (tree.get (slice_cmp nat_cmp) c.args.self.now.by_hash) whole.same in
    let own = ap option_copied (sym c.in-Some-get.is) ∙ c.get-2.ensures.value ∙ ap (tree.get_by_text c.args.self.now.by_name) c.as_str.ensures.value in
    none_under c.args.self.now.by_hash c.args.self.now.by_name c.args.hash.now (Some c.in-Some.name.now) (c.requires c.if-self.false) found
    (lacks_hash c.args.self.now.by_name c.args.hash.now (string_bytes c.in-Some.name.now) c.in-Some-get.user.now own (sym c.if-has_hash.ensures))
