use Rattle.std.proofs.Common.{None, Some, ap, false, get_or, length, sym, true, ◌∙◌}
use Rattle.turn_client_proto_allocation.proofs.Changes.{on_ok}
use Rattle.turn_client_proto_core.proofs.Offered.{barred, crowded, limit_at, started, nowhere, tested_most, tested_room}
use Rattle.turn_client_proto_core.proofs.Tried.{index_by}
use Rattle.turn_client_proto_core.proofs.protocol.Protocol.take_offer.Goals as goal

pub returns-in_default-index_of-clause-ok : goal.returns-in_default-index_of-clause-ok
returns-in_default-index_of-clause-ok c =
    let p = c.args.self.now in
    let peer = c.in-Some-peer_reported.peer in
    let at = index_by p peer c.transport-transport.result c.from-family.result c.as_slice.result.now c.index_of.result None c.transport-transport.ensures c.from-family.ensures c.as_slice.ensures c.index_of.ensures c.in_default-index_of.is in
    nowhere c.args.message.now p c.in-Some.connection peer (sym c.connection_reported.ensures ∙ c.in-Some.is) (sym c.peer_reported.ensures ∙ c.in-Some-peer_reported.is) at

pub returns-then-is_joining-clause-ok : goal.returns-then-is_joining-clause-ok
returns-then-is_joining-clause-ok c =
    let p = c.args.self.now in
    let peer = c.in-Some-peer_reported.peer in
    let index = c.in-Some-index_of.index in
    let at = index_by p peer c.transport-transport.result c.from-family.result c.as_slice.result.now c.index_of.result (Some index) c.transport-transport.ensures c.from-family.ensures c.as_slice.ensures c.index_of.ensures c.in-Some-index_of.is in
    let a = c.index-as_slice-index.result in
    let read = c.index-as_slice-index.is ∙ ap (λ l. get_or l index a) c.as_slice-2.ensures in
    barred c.args.message.now p c.in-Some.connection peer (sym c.connection_reported.ensures ∙ c.in-Some.is) (sym c.peer_reported.ensures ∙ c.in-Some-peer_reported.is) index a at read (sym c.is_joining.ensures ∙ c.if-is_joining.true)

pub returns-then-offers_limit-count-clause-ok : goal.returns-then-offers_limit-count-clause-ok
returns-then-offers_limit-count-clause-ok c =
    let p = c.args.self.now in
    let peer = c.in-Some-peer_reported.peer in
    let index = c.in-Some-index_of.index in
    let at = index_by p peer c.transport-transport.result c.from-family.result c.as_slice.result.now c.index_of.result (Some index) c.transport-transport.ensures c.from-family.ensures c.as_slice.ensures c.index_of.ensures c.in-Some-index_of.is in
    let a = c.index-as_slice-index.result in
    let read = c.index-as_slice-index.is ∙ ap (λ l. get_or l index a) c.as_slice-2.ensures in
    let b = c.index-as_slice-index-2.result in
    let again = c.index-as_slice-index-2.is ∙ ap (λ l. get_or l index b) c.as_slice-3.ensures in
    let full = limit_at c.args.message.now p c.in-Some.connection peer (sym c.connection_reported.ensures ∙ c.in-Some.is) (sym c.peer_reported.ensures ∙ c.in-Some-peer_reported.is) index a at read b again c.len-count.result (c.len-count.ensures ∙ ap (λ x. length x.waiting) (sym c.index-as_slice-index-2.is)) c.offers_limit.result true c.offers_limit.ensures (tested_most c.offers_limit.result c.len-count.result c.if-offers_limit-count.true) in
    crowded c.args.message.now p c.in-Some.connection peer (sym c.connection_reported.ensures ∙ c.in-Some.is) (sym c.peer_reported.ensures ∙ c.in-Some-peer_reported.is) index a at read (sym c.is_joining.ensures ∙ c.if-is_joining.false) full

pub returns-clause-ok : goal.returns-clause-ok
returns-clause-ok c =
    let p = c.args.self.now in
    let peer = c.in-Some-peer_reported.peer in
    let index = c.in-Some-index_of.index in
    let at = index_by p peer c.transport-transport.result c.from-family.result c.as_slice.result.now c.index_of.result (Some index) c.transport-transport.ensures c.from-family.ensures c.as_slice.ensures c.index_of.ensures c.in-Some-index_of.is in
    let a = c.index-as_slice-index.result in
    let read = c.index-as_slice-index.is ∙ ap (λ l. get_or l index a) c.as_slice-2.ensures in
    let b = c.index-as_slice-index-2.result in
    let again = c.index-as_slice-index-2.is ∙ ap (λ l. get_or l index b) c.as_slice-3.ensures in
    let room = limit_at c.args.message.now p c.in-Some.connection peer (sym c.connection_reported.ensures ∙ c.in-Some.is) (sym c.peer_reported.ensures ∙ c.in-Some-peer_reported.is) index a at read b again c.len-count.result (c.len-count.ensures ∙ ap (λ x. length x.waiting) (sym c.index-as_slice-index-2.is)) c.offers_limit.result false c.offers_limit.ensures (tested_room c.offers_limit.result c.len-count.result c.if-offers_limit-count.false) in
    on_ok c.offer.result (started c.args.message.now p c.in-Some.connection peer (sym c.connection_reported.ensures ∙ c.in-Some.is) (sym c.peer_reported.ensures ∙ c.in-Some-peer_reported.is) index a at read c.offer.new.allocations (sym c.is_joining.ensures ∙ c.if-is_joining.false) room) c.offer.ensures.ok
