use Rattle.std.proofs.Common.{List, [], arith, subst}
use Rattle.std.specs.Prelude.{◌≢◌, OnErr}
use Rattle.turn_client_proto_allocation.specs.declared.allocation.Allocation.{Allocation}
use Rattle.turn_client_proto_allocation.specs.declared.connection.Connection.{Connection}
use Rattle.turn_client_proto_allocation.proofs.Reported.{always_reported, some_reported}
use Rattle.turn_client_proto_connection.specs.Expiring.{sockets_gone}
use Rattle.turn_client_proto_connection.proofs.expire.close_all_gone.Goals as goal

pub returns-in_err-close_gone-clause-reported : goal.returns-in_err-close_gone-clause-reported
returns-in_err-close_gone-clause-reported c =
    let gone : Allocation → _ = λ (a : Allocation). sockets_gone c.args.ended.now c.args.now a.connections in
    let reported = subst (λ r. OnErr r (sockets_gone c.args.ended.now c.args.now c.as_slice.result.now ≢ [])) c.in_err-close_gone.was c.close_gone.ensures.reported in
    let own = subst (λ (l : List Connection). sockets_gone c.args.ended.now c.args.now l ≢ []) c.as_slice.ensures reported in
    let there = subst (λ (a : Allocation). gone a ≢ []) c.allocation-item.is own in
    always_reported c.from_residual.result (some_reported gone c.args.allocations.now c.loop-allocation.allocation-index c.allocation-item.result (omega arith) there)
