use Rattle.std.proofs.Common.{ap, get_or, refl, sym, ◌∙◌}
use Rattle.turn_client_proto_allocation.proofs.Changes.{put_there}
use Rattle.turn_client_proto_allocation.specs.declared.connection.Connecting.{Connecting}
use Rattle.turn_client_proto_allocation.specs.Awaited.{is_connecting}
use Rattle.turn_client_proto_allocation.specs.PendingRequests.{connecting_by}
use Rattle.turn_client_proto_allocation.proofs.pending.connect_again.Goals as goal

pub returns : goal.returns
returns c =
    let x : Connecting = get_or c.args.connecting.now c.in-Some.index c.index-connecting-index.result in
    let is_there = ap (λ y. get_or c.args.connecting.now c.in-Some.index y) c.index-connecting-index.is in
    put_there (is_connecting c.args.old) (connecting_by c.args.transaction_id) c.args.connecting.now c.in-Some.index x (connecting_by c.args.transaction_id x) (sym c.index_connecting.ensures ∙ c.in-Some.is) is_there refl
