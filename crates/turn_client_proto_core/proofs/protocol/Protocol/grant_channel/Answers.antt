use Rattle.std.proofs.Common.{Some, ap, position, sym, ◌∙◌}
use Rattle.turn_client_proto_allocation.proofs.Lent.{each_back, first_back}
use Rattle.turn_client_proto_allocation.specs.PendingRequests.{pending_request, awaits_reply}
use Rattle.turn_client_proto_peers.specs.Channel.Granted.{bound, renewed}
use Rattle.turn_client_proto_core.specs.Binding.{permission_with}
use Rattle.turn_client_proto_core.proofs.Bound.{granted, renews, still_awaits}
use Rattle.turn_client_proto_core.proofs.protocol.Protocol.grant_channel.Goals as goal

pub bind-requires : goal.bind-requires
bind-requires c =
    let old = c.args.self.now in
    let requested = ap (pending_request c.args.transaction_id) (sym c.as_slice.ensures) ∙ c.in-Some.ensures.requested ∙ ap Some c.in-NewChannel.is in
    let here = ap (position (awaits_reply c.args.transaction_id)) (sym c.as_slice.ensures) ∙ c.in-Some.ensures.index in
    ap (position (awaits_reply c.args.transaction_id)) (c.as_mut_slice-allocations.ensures.value ∙ ap (λ p. p.allocations) c.in_ok-permit_beside-in-NewChannel.ensures.ok)
    ∙ still_awaits old.allocations (permission_with c.args.transaction_id old.allocations) c.args.transaction_id c.args.now c.in-Some.index c.in-NewChannel.transport c.in-NewChannel.channel c.in-NewChannel.peer requested here

pub returns-in_ok-bind-in-NewChannel-clause-ok : goal.returns-in_ok-bind-in-NewChannel-clause-ok
returns-in_ok-bind-in-NewChannel-clause-ok c =
    let old = c.args.self.now in
    let mid = c.permit_beside.new.self in
    let requested = ap (pending_request c.args.transaction_id) (sym c.as_slice.ensures) ∙ c.in-Some.ensures.requested ∙ ap Some c.in-NewChannel.is in
    granted old (pending_request c.args.transaction_id old.allocations) c.in-NewChannel.transport c.in-NewChannel.channel c.in-NewChannel.peer c.args.transaction_id c.args.now mid _ c.push_back.new.self requested c.in_ok-permit_beside-in-NewChannel.ensures.ok
    (first_back (awaits_reply c.args.transaction_id) (bound c.in-NewChannel.channel c.in-NewChannel.peer c.args.transaction_id c.args.now) mid.allocations c.as_mut_slice-allocations.result.now c.bind.new.allocations c.as_mut_slice-allocations.ensures.value c.in_ok-bind-in-NewChannel.ensures.ok)
    c.in_ok-push_back-in-NewChannel.ensures.ok

pub returns-in-ChannelRenewal-clause-ok : goal.returns-in-ChannelRenewal-clause-ok
returns-in-ChannelRenewal-clause-ok c =
    let old = c.args.self.now in
    let requested = ap (pending_request c.args.transaction_id) (sym c.as_slice.ensures) ∙ c.in-Some.ensures.requested ∙ ap Some c.in-ChannelRenewal.is in
    renews old (pending_request c.args.transaction_id old.allocations) c.in-ChannelRenewal.field-0 c.in-ChannelRenewal.field-1 c.in-ChannelRenewal.field-2 c.args.transaction_id c.args.now _ requested
    (each_back (renewed c.args.transaction_id c.args.now) old.allocations c.as_mut_slice.result.now c.renew.new.allocations c.as_mut_slice.ensures.value c.renew.ensures)
