use Rattle.std.proofs.Common.{◌≡◌, refl, rules}
use Rattle.std.proofs.lemmas.Fn.{filter_same}
use Rattle.turn_client_proto_allocation.specs.Permissions.{not_pending_request, not_renewed_by}
use Rattle.turn_client_proto_peers.specs.Permission.Granted.{rejected}
use Rattle.turn_client_proto_peers.proofs.permission.one.reject.Goals as goal

pub returns : goal.returns
unfolding rejected
returns c =
    let standing : c.retain.new.self ≡ not_renewed_by c.args.transaction_id c.args.a.now.permissions = filter_same _ _ _ (λ x b f' k. search rules) _ _ c.retain.ensures in
    let pending : c.retain-2.new.self ≡ not_pending_request c.args.transaction_id c.args.a.now.pending_permissions = filter_same _ _ _ (λ x b f' k. search rules) _ _ c.retain-2.ensures in
    rw (standing, pending) refl
