use Rattle.std.proofs.Common.{None, Some, ap, false, get_or, length, sym, true, ◌∙◌}
use Rattle.turn_client_proto_allocation.proofs.Changes.{on_ok}
use Rattle.turn_client_proto_core.proofs.Tried.{barred, crowded, limit_at, started, nowhere, index_by}
use Rattle.turn_client_proto_core.proofs.protocol.Protocol.take_attempt.Goals as goal

pub returns-in_default-index_of-clause-ok : goal.returns-in_default-index_of-clause-ok
returns-in_default-index_of-clause-ok c =
    let p = c.args.self.now in
    let peer = c.in-Some-peer_reported.peer in
    let at = index_by p peer c.transport-transport.result c.from-family.result c.as_slice.result.now c.index_of.result None c.transport-transport.ensures c.from-family.ensures c.as_slice.ensures c.index_of.ensures c.in_default-index_of.is in
    on_ok c.reject_attempt-in_default-index_of.result (λ is. is ∙ nowhere c.args.message.now p c.in-Some.connection peer c.transaction_id-number.result (sym c.connection_reported.ensures ∙ c.in-Some.is) (sym c.peer_reported.ensures ∙ c.in-Some-peer_reported.is) c.transaction_id-number.ensures at) c.reject_attempt-in_default-index_of.ensures.ok

pub returns-then-is_joining-clause-ok : goal.returns-then-is_joining-clause-ok
returns-then-is_joining-clause-ok c =
    let p = c.args.self.now in
    let peer = c.in-Some-peer_reported.peer in
    let index = c.in-Some-index_of.index in
    let at = index_by p peer c.transport-transport.result c.from-family.result c.as_slice.result.now c.index_of.result (Some index) c.transport-transport.ensures c.from-family.ensures c.as_slice.ensures c.index_of.ensures c.in-Some-index_of.is in
    let a = c.index-as_slice-index.result in
    let read = c.index-as_slice-index.is ∙ ap (λ l. get_or l index a) c.as_slice-2.ensures in
    on_ok c.reject_attempt-then-is_joining.result (λ is. is ∙ barred c.args.message.now p c.in-Some.connection peer c.transaction_id-number.result (sym c.connection_reported.ensures ∙ c.in-Some.is) (sym c.peer_reported.ensures ∙ c.in-Some-peer_reported.is) c.transaction_id-number.ensures index a at read (sym c.is_joining.ensures ∙ c.if-is_joining.true)) c.reject_attempt-then-is_joining.ensures.ok

pub returns-then-is_at_limit-clause-ok : goal.returns-then-is_at_limit-clause-ok
returns-then-is_at_limit-clause-ok c =
    let p = c.args.self.now in
    let peer = c.in-Some-peer_reported.peer in
    let index = c.in-Some-index_of.index in
    let at = index_by p peer c.transport-transport.result c.from-family.result c.as_slice.result.now c.index_of.result (Some index) c.transport-transport.ensures c.from-family.ensures c.as_slice.ensures c.index_of.ensures c.in-Some-index_of.is in
    let a = c.index-as_slice-index.result in
    let read = c.index-as_slice-index.is ∙ ap (λ l. get_or l index a) c.as_slice-2.ensures in
    let b = c.index-as_slice-index-2.result in
    let again = c.index-as_slice-index-2.is ∙ ap (λ l. get_or l index b) c.as_slice-3.ensures in
    let limit = limit_at c.args.message.now p c.in-Some.connection peer c.transaction_id-number.result (sym c.connection_reported.ensures ∙ c.in-Some.is) (sym c.peer_reported.ensures ∙ c.in-Some-peer_reported.is) c.transaction_id-number.ensures index a at read b again c.len-waiting.result (c.len-waiting.ensures ∙ ap (λ x. length x.waiting) (sym c.index-as_slice-index-2.is)) c.is_at_limit.result true c.is_at_limit.ensures c.if-is_at_limit.true in
    on_ok c.reject_attempt-then-is_at_limit.result (λ is. is ∙ crowded c.args.message.now p c.in-Some.connection peer c.transaction_id-number.result (sym c.connection_reported.ensures ∙ c.in-Some.is) (sym c.peer_reported.ensures ∙ c.in-Some-peer_reported.is) c.transaction_id-number.ensures index a at read (sym c.is_joining.ensures ∙ c.if-is_joining.false) limit) c.reject_attempt-then-is_at_limit.ensures.ok

pub returns-clause-ok : goal.returns-clause-ok
returns-clause-ok c =
    let p = c.args.self.now in
    let peer = c.in-Some-peer_reported.peer in
    let index = c.in-Some-index_of.index in
    let at = index_by p peer c.transport-transport.result c.from-family.result c.as_slice.result.now c.index_of.result (Some index) c.transport-transport.ensures c.from-family.ensures c.as_slice.ensures c.index_of.ensures c.in-Some-index_of.is in
    let a = c.index-as_slice-index.result in
    let read = c.index-as_slice-index.is ∙ ap (λ l. get_or l index a) c.as_slice-2.ensures in
    let b = c.index-as_slice-index-2.result in
    let again = c.index-as_slice-index-2.is ∙ ap (λ l. get_or l index b) c.as_slice-3.ensures in
    let limit = limit_at c.args.message.now p c.in-Some.connection peer c.transaction_id-number.result (sym c.connection_reported.ensures ∙ c.in-Some.is) (sym c.peer_reported.ensures ∙ c.in-Some-peer_reported.is) c.transaction_id-number.ensures index a at read b again c.len-waiting.result (c.len-waiting.ensures ∙ ap (λ x. length x.waiting) (sym c.index-as_slice-index-2.is)) c.is_at_limit.result false c.is_at_limit.ensures c.if-is_at_limit.false in
    on_ok c.begin.result (started c.args.message.now p c.in-Some.connection peer c.transaction_id-number.result (sym c.connection_reported.ensures ∙ c.in-Some.is) (sym c.peer_reported.ensures ∙ c.in-Some-peer_reported.is) c.transaction_id-number.ensures index a at read c.begin.new.allocations (sym c.is_joining.ensures ∙ c.if-is_joining.false) limit) c.begin.ensures.ok
