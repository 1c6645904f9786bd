use Rattle.std.proofs.Common.{ap, get_or, sym, ◌∙◌}
use Rattle.turn_client_proto_allocation.proofs.Changes.{on_ok, put_there}
use Rattle.turn_client_proto_allocation.specs.declared.permission.PendingPermission.{PendingPermission}
use Rattle.turn_client_proto_allocation.specs.Awaited.{asks_for_permission}
use Rattle.turn_client_proto_allocation.specs.Permissions.{with_number}
use Rattle.turn_client_proto_allocation.proofs.permissions.ask_again.Goals as goal

pub returns-clause-ok : goal.returns-clause-ok
returns-clause-ok c =
    let x : PendingPermission = get_or c.args.pending.now c.in-Some.index c.index-pending-index.result in
    let is_there = ap (λ y. get_or c.args.pending.now c.in-Some.index y) c.index-pending-index.is in
    on_ok c.push.result (λ is. put_there (asks_for_permission c.args.old) (with_number c.args.transaction_id) c.args.pending.now c.in-Some.index x (record x { numbers = c.push.new.self }) (sym c.index_requested.ensures ∙ c.in-Some.is) is_there (ap (λ l. record x { numbers = l }) is)) c.push.ensures.ok
