use Rattle.std.proofs.Common.{◌∙◌, ◌≡◌, ap, sym, subst, ℕ, List, Option, Some}
use Rattle.std.specs.Prelude.{IfSome}
use Rattle.std.specs.Prelude as list
use Rattle.std.specs.BTreeMap as tree
use Rattle.std.specs.Cmp.Lexicographic.{slice_cmp}
use Rattle.std.specs.Ordering.{nat_cmp}
use Rattle.std.specs.String.{string_bytes}
use Rattle.std.specs.declared.alloc.Global.{Global}
use Rattle.std.specs.declared.string.String.{String}
use Rattle.stun_proto_server.proofs.Registered.{IsSameName, inserted, none_shared, undone}
use Rattle.stun_proto_server.proofs.users.Users.insert.Goals as goal

pub returns-in-Ok-clause-sound : goal.returns-in-Ok-clause-sound
returns-in-Ok-clause-sound c = λ one.
    let hash = c.args.user.hash in
    let name = string_bytes c.args.name in
    let value = c.hash.ensures.value in
    let both = none_shared c.in_ok-former.former c.as_str-2.result.now c.args.self.now.is_shared c.is_shared-self.result c.is_shared-self.ensures one in
    let same : IsSameName c.args.self.now.by_hash hash name =
    subst (λ (h : List ℕ). IsSameName c.args.self.now.by_hash h name) value
    (subst (λ (o : Option (String Global)). IfSome o (λ other. string_bytes other ≡ name)) c.in_ok-former.ensures.old (subst (λ (n : List ℕ). IfSome c.in_ok-former.former (λ other. string_bytes other ≡ n)) c.as_str-2.ensures.value both.1)) in
    let registers = subst (λ (h : List ℕ). tree.UpdatesBy (slice_cmp nat_cmp) (slice_cmp nat_cmp h) c.args.self.now.by_hash c.insert.new.self (Some c.in_ok-copy.copy)) value c.in_ok-former.ensures.updates in
    inserted c.args.self.now.by_hash c.insert.new.self c.args.self.now.by_name c.insert-2.new.self name c.in_ok-copy.copy c.args.user (c.requires both.0) (ap list.length (sym value) ∙ c.hash.ensures.length)
    (c.in_ok-copy.ensures.ok ∙ c.as_str.ensures.value) same c.in-Ok.ensures.updates registers

pub returns-clause-sound : goal.returns-clause-sound
returns-clause-sound c = λ one.
    let hash = c.hash.result.now in
    let name = string_bytes c.args.name in
    let both = none_shared c.in_ok-former.former c.as_str-2.result.now c.args.self.now.is_shared c.is_shared-self.result c.is_shared-self.ensures one in
    let same : IsSameName c.args.self.now.by_hash hash name =
    subst (λ (o : Option (String Global)). IfSome o (λ other. string_bytes other ≡ name)) c.in_ok-former.ensures.old (subst (λ (n : List ℕ). IfSome c.in_ok-former.former (λ other. string_bytes other ≡ n)) c.as_str-2.ensures.value both.1) in
    undone c.args.self.now.by_hash c.insert.new.self c.remove.new.self c.args.self.now.by_name c.insert-2.new.self hash name c.in_ok-copy.copy (c.requires both.0)
    same c.in-Err.ensures.absent c.in-Err.ensures.err c.in_ok-former.ensures.updates c.remove.ensures.updates
