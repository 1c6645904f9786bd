use Rattle.std.proofs.Common.{◌≡◌, refl, rules}
use Rattle.std.proofs.lemmas.Fn.{filter_same}
use Rattle.turn_client_proto_allocation.specs.Permissions.{not_pending_request}
use Rattle.turn_client_proto_peers.proofs.permission.one.permit_each.Goals as goal

pub returns-clause-ok : goal.returns-clause-ok
returns-clause-ok c =
    let pending : c.retain.new.self ≡ not_pending_request c.args.transaction_id c.args.a.now.pending_permissions = filter_same _ _ _ (λ x b f' k. search rules) _ _ c.retain.ensures in
    rw (c.in_ok-grant_each.ensures.ok, pending) refl
