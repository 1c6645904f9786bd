use Rattle.std.proofs.Common.{ap, get_or, length, refl, slice_get, sym, ◌∙◌}
use Rattle.std.proofs.lemmas.Option.{slice_get_read}
use Rattle.std.specs.Net.Socket.{socket_ip}
use Rattle.turn_client_proto_allocation.proofs.Changes.{on_ok}
use Rattle.turn_client_proto_peers.specs.Permission.Asking.{knows}
use Rattle.turn_client_proto_core.proofs.RequestedChannels.{beside_requested, beside_known}
use Rattle.turn_client_proto_core.proofs.protocol.Protocol.ask_beside.Goals as goal

pub returns-then-knows-clause-ok : goal.returns-then-knows-clause-ok
returns-then-knows-clause-ok c =
    let old = c.args.self.now in
    let a = c.index-as_slice-index.result in
    let at = c.index-as_slice-index.is ∙ ap (λ l. get_or l c.args.index a) c.as_slice.ensures in
    let there = slice_get_read old.allocations (length old.allocations) c.args.index a refl c.requires.there at in
    let known = ap (λ ip. knows ip a) (sym c.ip.ensures) ∙ sym c.knows.ensures ∙ c.if-knows.true in
    on_ok c.ask.result (beside_known old c.ask.new.self c.args.request (socket_ip c.args.peer) c.args.transaction_id c.args.now c.args.index a (slice_get old.allocations c.args.index) refl there known) c.ask.ensures.ok

pub returns-clause-ok : goal.returns-clause-ok
returns-clause-ok c =
    let old = c.args.self.now in
    let a = c.index-as_slice-index.result in
    let at = c.index-as_slice-index.is ∙ ap (λ l. get_or l c.args.index a) c.as_slice.ensures in
    let there = slice_get_read old.allocations (length old.allocations) c.args.index a refl c.requires.there at in
    let unknown = ap (λ ip. knows ip a) (sym c.ip.ensures) ∙ sym c.knows.ensures ∙ c.if-knows.false in
    on_ok c.ask_by.result (beside_requested old c.ask_by.new.self c.args.request (socket_ip c.args.peer) c.args.transaction_id c.args.now c.args.index a (slice_get old.allocations c.args.index) c.ip-2.result there c.ip-2.ensures unknown) c.ask_by.ensures.ok
