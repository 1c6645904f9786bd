use Rattle.std.proofs.Common.{◌∙◌, sym, subst, ℕ, List, None}
use Rattle.std.specs.BTreeMap as tree
use Rattle.std.specs.Cmp.Lexicographic.{slice_cmp}
use Rattle.std.specs.Ordering.{nat_cmp}
use Rattle.stun_proto_server.proofs.Registered.{removed}
use Rattle.stun_proto_server.proofs.users.Users.remove.Goals as goal

pub returns-in-Some-clause-sound : goal.returns-in-Some-clause-sound
returns-in-Some-clause-sound c = λ one.
    let user = c.in-Some.user in
    let unregisters = subst (λ (h : List ℕ). tree.UpdatesBy (slice_cmp nat_cmp) (slice_cmp nat_cmp h) c.args.self.now.by_hash c.remove-in-Some.new.self None) c.hash.ensures.value c.remove-in-Some.ensures.updates in
    removed c.args.self.now.by_hash c.remove-in-Some.new.self c.args.self.now.by_name c.remove.new.self c.args.name.now user (c.requires one) (sym c.in-Some.is ∙ c.remove.ensures.value) c.remove.ensures.updates unregisters
