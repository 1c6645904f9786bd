use Rattle.std.proofs.Common.{ap, get_or}
use Rattle.turn_client_proto_allocation.proofs.Changes.{on_ok}
use Rattle.turn_client_proto_allocation.specs.declared.allocation.Allocation.{Allocation}
use Rattle.turn_client_proto_connection.specs.Attempts.{offered}
use Rattle.turn_client_proto_allocation.proofs.Lent.{changed_in, stored_in, on_err}
use Rattle.turn_client_proto_connection.proofs.attempts.offer.Goals as goal

pub returns-clause-ok : goal.returns-clause-ok
returns-clause-ok c =
    let x : Allocation = get_or c.as_mut_slice-items.result.now c.args.index c.index-items-index.result in
    let is_there = ap (λ y. get_or c.as_mut_slice-items.result.now c.args.index y) c.index-items-index.is in
    on_ok c.push.result (λ is. changed_in (offered c.args.connection c.args.peer) c.args.allocations.now c.as_mut_slice-items.result.now c.args.index x (record x { waiting = c.push.new.self }) c.as_mut_slice-items.ensures.value c.requires is_there (ap (λ l. record x { waiting = l }) is)) c.push.ensures.ok

pub returns-clause-err : goal.returns-clause-err
returns-clause-err c =
    let x : Allocation = get_or c.as_mut_slice-items.result.now c.args.index c.index-items-index.result in
    let is_there = ap (λ y. get_or c.as_mut_slice-items.result.now c.args.index y) c.index-items-index.is in
    on_err c.push.result (λ is. stored_in c.args.allocations.now c.as_mut_slice-items.result.now c.args.index x (record x { waiting = c.push.new.self }) c.as_mut_slice-items.ensures.value c.requires is_there (ap (λ l. record x { waiting = l }) is)) c.push.ensures.err
