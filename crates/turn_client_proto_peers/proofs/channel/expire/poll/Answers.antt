use Rattle.std.proofs.Common.{[], get_or, subst}
use Rattle.std.specs.Prelude.{◌≢◌, OnErr}
use Rattle.turn_client_proto_allocation.specs.declared.allocation.Allocation.{Allocation}
use Rattle.turn_client_proto_allocation.proofs.Reported.{always_reported, some_reported}
use Rattle.turn_client_proto_peers.proofs.Walks.{untouched}
use Rattle.std.proofs.lemmas.List.Edits.{map_over_more}
use Rattle.turn_client_proto_peers.specs.Channel.Expiring.{peers_expiring, polled}
use Rattle.turn_client_proto_peers.proofs.channel.expire.poll.Goals as goal

pub loop-allocation-preserved : goal.loop-allocation-preserved
loop-allocation-preserved c =
    rw (c.in_ok-poll_in.ensures.ok, ← c.allocation-item.is) (map_over_more (polled c.args.ended.now c.args.now) c.args.allocations.now c.loop-allocation.allocations c.loop-allocation.allocation-index c.allocation-item.result c.loop-allocation-test.true c.loop-allocation.invariant c.allocation-item.is)

pub returns-in_err-poll_in-clause-reported : goal.returns-in_err-poll_in-clause-reported
returns-in_err-poll_in-clause-reported c =
    let i = c.loop-allocation.allocation-index in
    let x = c.allocation-item.result in
    let there = untouched (polled c.args.ended.now c.args.now) c.args.allocations.now c.loop-allocation.allocations i x c.loop-allocation-test.true c.loop-allocation.invariant in
    let reported = subst (λ r. OnErr r (peers_expiring c.args.now (get_or c.loop-allocation.allocations i x) ≢ [])) c.in_err-poll_in.was c.poll_in.ensures.reported in
    always_reported c.from_residual.result (some_reported (peers_expiring c.args.now) c.args.allocations.now i x c.loop-allocation-test.true (subst (λ (a : Allocation). peers_expiring c.args.now a ≢ []) there reported))
