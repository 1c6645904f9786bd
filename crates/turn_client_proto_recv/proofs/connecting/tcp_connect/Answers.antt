use Rattle.std.proofs.Common.{ap, get_or, slice_get, refl, sym, ◌∙◌, length}
use Rattle.std.proofs.lemmas.List.Quantifiers.{position-Some}
use Rattle.std.proofs.lemmas.Option.{slice_get_read}
use Rattle.std.specs.Prelude.{None, Some, Ok, Err}
use Rattle.stun_types_base.specs.Family.{family_of_socket}
use Rattle.stun_types_base.specs.declared.transport.TransportType.TheVariants.{Tcp}
use Rattle.turn_client_proto_api.specs.declared.error.TcpConnectError.TheVariants.{NoAllocation, NoMemory}
use Rattle.turn_client_proto_peers.specs.Permission.Asking.{is_of}
use Rattle.turn_client_proto_core.proofs.Indexes.{found, marked_past, nowhere, index_is, unmarked}
use Rattle.turn_client_proto_recv.proofs.RequestedConnections.{answered_by, requested_there, barred, ended, past, refused_by}
use Rattle.turn_client_proto_recv.proofs.connecting.tcp_connect.Goals as goal

pub returns-in_default : goal.returns-in_default
returns-in_default c =
    let old = c.args.protocol.now in
    let own = family_of_socket c.args.peer in
    refused_by old c.args.peer c.args.now None (nowhere old Tcp own (index_is old Tcp own c.index_of.result None c.from-family.result c.as_slice-allocations.result.now c.from-family.ensures c.as_slice-allocations.ensures c.index_of.ensures c.in_default.is)) NoAllocation old refl refl

pub returns-then-is_past : goal.returns-then-is_past
returns-then-is_past c =
    let old = c.args.protocol.now in
    let own = family_of_socket c.args.peer in
    let a = c.index-as_slice-index.result in
    let here = index_is old Tcp own c.index_of.result (Some c.in-Some.index) c.from-family.result c.as_slice-allocations.result.now c.from-family.ensures c.as_slice-allocations.ensures c.index_of.ensures c.in-Some.is in
    let at = c.index-as_slice-index.is ∙ ap (λ l. get_or l c.in-Some.index a) c.as_slice.ensures in
    let is = sym c.is_past.ensures ∙ c.if-is_past.true in
    refused_by old c.args.peer c.args.now (Some a) (found old Tcp own c.args.now c.in-Some.index a here at) NoAllocation _
    (past old.phase c.args.peer c.args.now a is)
    (marked_past old Tcp own c.args.now c.in-Some.index a here at c.mark.new.allocations is c.mark.ensures)

pub returns-then-not-is_authenticated : goal.returns-then-not-is_authenticated
returns-then-not-is_authenticated c =
    let old = c.args.protocol.now in
    let own = family_of_socket c.args.peer in
    let a = c.index-as_slice-index.result in
    let here = index_is old Tcp own c.index_of.result (Some c.in-Some.index) c.from-family.result c.as_slice-allocations.result.now c.from-family.ensures c.as_slice-allocations.ensures c.index_of.ensures c.in-Some.is in
    let at = c.index-as_slice-index.is ∙ ap (λ l. get_or l c.in-Some.index a) c.as_slice.ensures in
    let not_past = sym c.is_past.ensures ∙ c.if-is_past.false in
    refused_by old c.args.peer c.args.now (Some a) (found old Tcp own c.args.now c.in-Some.index a here at) NoAllocation old
    (ended old.phase c.args.peer c.args.now a not_past (sym c.is_authenticated.ensures ∙ c.if-not-is_authenticated.true))
    (unmarked old Tcp own c.args.now c.in-Some.index a here at not_past)

pub returns-in-Some-barring : goal.returns-in-Some-barring
returns-in-Some-barring c =
    let old = c.args.protocol.now in
    let own = family_of_socket c.args.peer in
    let a = c.index-as_slice-index.result in
    let here = index_is old Tcp own c.index_of.result (Some c.in-Some.index) c.from-family.result c.as_slice-allocations.result.now c.from-family.ensures c.as_slice-allocations.ensures c.index_of.ensures c.in-Some.is in
    let at = c.index-as_slice-index.is ∙ ap (λ l. get_or l c.in-Some.index a) c.as_slice.ensures in
    let not_past = sym c.is_past.ensures ∙ c.if-is_past.false in
    let occurs = sym c.is_authenticated.ensures ∙ c.if-not-is_authenticated.false in
    refused_by old c.args.peer c.args.now (Some a) (found old Tcp own c.args.now c.in-Some.index a here at) c.in-Some-barring.error old
    (barred old.phase c.args.peer c.args.now a (Some c.in-Some-barring.error) not_past occurs (sym c.barring.ensures ∙ c.in-Some-barring.is))
    (unmarked old Tcp own c.args.now c.in-Some.index a here at not_past)

pub returns-in-Ok : goal.returns-in-Ok
returns-in-Ok c =
    let old = c.args.protocol.now in
    let own = family_of_socket c.args.peer in
    let a = c.index-as_slice-index.result in
    let here = index_is old Tcp own c.index_of.result (Some c.in-Some.index) c.from-family.result c.as_slice-allocations.result.now c.from-family.ensures c.as_slice-allocations.ensures c.index_of.ensures c.in-Some.is in
    let at = c.index-as_slice-index.is ∙ ap (λ l. get_or l c.in-Some.index a) c.as_slice.ensures in
    let not_past = sym c.is_past.ensures ∙ c.if-is_past.false in
    let occurs = sym c.is_authenticated.ensures ∙ c.if-not-is_authenticated.false in
    let free = barred old.phase c.args.peer c.args.now a None not_past occurs (sym c.barring.ensures ∙ c.in_default-barring.is) in
    let within = position-Some (is_of Tcp own) old.allocations c.in-Some.index a here in
    let there = slice_get_read old.allocations (length old.allocations) c.in-Some.index a refl within.0 at in
    let is = c.in-Ok.ensures.ok in
    answered_by old c.args.peer c.args.now (Some a) (found old Tcp own c.args.now c.in-Some.index a here at) (Ok tt) c.ask_connection.new.protocol free
    (requested_there old c.args.peer c.args.now c.in-Some.index a is.0 c.ask_connection.new.protocol (slice_get old.allocations c.in-Some.index) here refl there is.1 is.2)

pub returns-in-Err : goal.returns-in-Err
returns-in-Err c =
    let old = c.args.protocol.now in
    let own = family_of_socket c.args.peer in
    let a = c.index-as_slice-index.result in
    let here = index_is old Tcp own c.index_of.result (Some c.in-Some.index) c.from-family.result c.as_slice-allocations.result.now c.from-family.ensures c.as_slice-allocations.ensures c.index_of.ensures c.in-Some.is in
    let at = c.index-as_slice-index.is ∙ ap (λ l. get_or l c.in-Some.index a) c.as_slice.ensures in
    let not_past = sym c.is_past.ensures ∙ c.if-is_past.false in
    let occurs = sym c.is_authenticated.ensures ∙ c.if-not-is_authenticated.false in
    let free = barred old.phase c.args.peer c.args.now a None not_past occurs (sym c.barring.ensures ∙ c.in_default-barring.is) in
    answered_by old c.args.peer c.args.now (Some a) (found old Tcp own c.args.now c.in-Some.index a here at) (Err NoMemory) c.ask_connection.new.protocol free
    (refl, c.in-Err.ensures.err)
