use Rattle.std.proofs.Common.{ap, get_or, sym, ◌∙◌}
use Rattle.turn_client_proto_allocation.proofs.Changes.{on_ok, put_there}
use Rattle.turn_client_proto_allocation.specs.declared.permission.Permission.{Permission}
use Rattle.turn_client_proto_allocation.specs.Permissions.{awaiting, wants_renewal}
use Rattle.turn_client_proto_allocation.proofs.permissions.renew_first.Goals as goal

pub returns-clause-ok : goal.returns-clause-ok
returns-clause-ok c =
    let x : Permission = get_or c.args.permissions.now c.in-Some.index c.index-permissions-index.result in
    let is_there = ap (λ y. get_or c.args.permissions.now c.in-Some.index y) c.index-permissions-index.is in
    on_ok c.push.result (λ is. put_there (wants_renewal c.args.now) (awaiting c.args.transaction_id) c.args.permissions.now c.in-Some.index x (record x { renewals = c.push.new.self }) (sym c.index_wanting.ensures ∙ c.in-Some.is) is_there (ap (λ l. record x { renewals = l }) is)) c.push.ensures.ok
