use Rattle.std.proofs.Common.{◌≡◌, ap, map, refl, rules, ◌∙◌}
use Rattle.std.proofs.lemmas.Fn.{filter_same}
use Rattle.turn_client_proto_allocation.specs.Permissions.{not_over, polled_permission, standing}
use Rattle.turn_client_proto_allocation.proofs.Lent.{each_back}
use Rattle.turn_client_proto_peers.specs.Permission.Reporting.{polled}
use Rattle.turn_client_proto_peers.proofs.permission.one.poll.Goals as goal

pub returns : goal.returns
unfolding polled
returns c =
    let left : c.retain.new.self ≡ standing c.args.now c.args.a.now.permissions = filter_same _ _ _ (λ x b f' k. search rules) _ _ c.retain.ensures in
    let pending : c.retain-2.new.self ≡ not_over c.args.ended.now c.args.a.now.pending_permissions = filter_same _ _ _ (λ x b f' k. search rules) _ _ c.retain-2.ensures in
    let permissions = each_back (polled_permission c.args.ended.now) c.retain.new.self c.as_mut_slice.result.now c.poll.new.permissions c.as_mut_slice.ensures.value c.poll.ensures ∙ ap (map (polled_permission c.args.ended.now)) left in
    rw (permissions, pending) refl
