use Rattle.std.proofs.Common.{Some, ap, sym, ◌∙◌}
use Rattle.turn_client_proto_allocation.proofs.Lent.{each_back}
use Rattle.turn_client_proto_allocation.specs.PendingRequests.{pending_request}
use Rattle.turn_client_proto_peers.specs.Channel.Granted.{expire_due}
use Rattle.turn_client_proto_core.proofs.Bound.{expires}
use Rattle.turn_client_proto_core.proofs.protocol.Protocol.refuse_channel.Goals as goal

pub returns-in_ok-expire_due-in-ChannelRenewal-clause-ok :
    goal.returns-in_ok-expire_due-in-ChannelRenewal-clause-ok
returns-in_ok-expire_due-in-ChannelRenewal-clause-ok c =
    let old = c.args.self.now in
    let requested = ap (pending_request c.args.transaction_id) (sym c.as_slice.ensures) ∙ c.in-Some.ensures.requested ∙ ap Some c.in-ChannelRenewal.is in
    expires old (pending_request c.args.transaction_id old.allocations) c.in-ChannelRenewal.transport c.in-ChannelRenewal.field-1 c.in-ChannelRenewal.peer c.args.transaction_id 0 _ c.push_back.new.self requested
    (each_back (expire_due c.args.transaction_id) old.allocations c.as_mut_slice.result.now c.expire_due.new.allocations c.as_mut_slice.ensures.value c.in_ok-expire_due-in-ChannelRenewal.ensures) c.in_ok-push_back-in-ChannelRenewal.ensures.ok
