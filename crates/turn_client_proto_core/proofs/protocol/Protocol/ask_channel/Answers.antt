use Rattle.std.proofs.Common.{◌<◌, ap, length, refl, slice_get, subst, sym, ◌∙◌}
use Rattle.turn_client_proto_peers.specs.Channel.Binding.{asking}
use Rattle.turn_client_proto_messages.specs.ReportedRequests.{IsLawfulRequest}
use Rattle.turn_client_proto_messages.specs.declared.request.TurnRequest.TheVariants.{ChannelBind}
use Rattle.turn_client_proto_core.specs.Numbering.{after_number}
use Rattle.turn_client_proto_core.proofs.RequestedChannels.{both_requested}
use Rattle.turn_client_proto_core.proofs.Indexes.{read_there, undone}
use Rattle.turn_client_proto_core.proofs.protocol.Protocol.ask_channel.Goals as goal

pub returns-in-Ok-clause-ok : goal.returns-in-Ok-clause-ok
returns-in-Ok-clause-ok c =
    let number = c.in_ok-number.number in
    let request = ap (λ n. ChannelBind n c.args.peer) c.number.ensures.number in
    let requested = both_requested c.args.index c.args.channel number c.args.now c.args.peer c.ask_beside.new.self c.in_ok-pending.pending c.ask.new.allocations
    c.generate_id.new.self (after_number c.args.self.now) (ChannelBind c.number.result c.args.peer) (ChannelBind c.args.channel c.args.peer)
    c.generate_id.ensures.after request c.requires c.in_ok-pending.ensures c.in_ok-ask.ensures.ok c.in-Ok.ensures.ok in
    (number, c.in_ok-number.ensures.number, subst IsLawfulRequest request c.proof_requests_are_lawful.ensures, requested)

pub returns-in-Err-clause-err : goal.returns-in-Err-clause-err
returns-in-Err-clause-err c =
    let drew = c.generate_id.new.self in
    let within = subst (λ p. c.args.index < length p.allocations) (sym c.generate_id.ensures.after) c.requires in
    undone asking drew c.ask_beside.new.self c.forget.new.allocations c.ask.new.allocations c.args.index c.in_ok-pending.pending (slice_get drew.allocations c.args.index) refl (read_there drew.allocations c.args.index within)
    c.in_ok-ask.ensures.ok c.in-Err.ensures.err c.forget.ensures ∙ c.generate_id.ensures.after
