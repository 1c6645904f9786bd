use Rattle.std.proofs.Common.{ap, get_or, slice_get, refl, sym, ◌∙◌}
use Rattle.std.proofs.lemmas.List.Quantifiers.{position-Some}
use Rattle.std.specs.Prelude.{None, Some, Ok, Err}
use Rattle.stun_types_base.specs.Family.{family_of_socket}
use Rattle.turn_client_proto_api.specs.declared.error.BindChannelError.TheVariants.{NoAllocation, NoChannel, NoMemory}
use Rattle.turn_client_proto_peers.specs.Permission.Asking.{is_of}
use Rattle.turn_client_proto_core.proofs.RequestedChannels.{all_taken, requested_there, barred, ended, free, past, refused_by, refused_memory, tried_by}
use Rattle.turn_client_proto_core.proofs.Indexes.{found, marked_past, nowhere, index_is, read_there, unmarked}
use Rattle.turn_client_proto_core.proofs.binding.bind_channel.Goals as goal

pub returns-in_default : goal.returns-in_default
returns-in_default c =
    let old = c.args.protocol.now in
    let own = family_of_socket c.args.peer in
    refused_by old c.args.transport c.args.peer c.args.now None (nowhere old c.args.transport own (index_is old c.args.transport own c.index_of.result None c.from-family.result c.as_slice.result.now c.from-family.ensures c.as_slice.ensures c.index_of.ensures c.in_default.is)) NoAllocation old refl refl

pub returns-then-is_past : goal.returns-then-is_past
returns-then-is_past c =
    let old = c.args.protocol.now in
    let own = family_of_socket c.args.peer in
    let a = c.index-as_slice-index.result in
    let here = index_is old c.args.transport own c.index_of.result (Some c.in-Some.index) c.from-family.result c.as_slice.result.now c.from-family.ensures c.as_slice.ensures c.index_of.ensures c.in-Some.is in
    let at = c.index-as_slice-index.is ∙ ap (λ l. get_or l c.in-Some.index a) c.as_slice-2.ensures in
    let is = sym c.is_past.ensures ∙ c.if-is_past.true in
    refused_by old c.args.transport c.args.peer c.args.now (Some a) (found old c.args.transport own c.args.now c.in-Some.index a here at) NoAllocation _
    (past old.phase c.args.peer c.args.now a is)
    (marked_past old c.args.transport own c.args.now c.in-Some.index a here at c.mark.new.allocations is c.mark.ensures)

pub returns-in-Some-barring : goal.returns-in-Some-barring
returns-in-Some-barring c =
    let old = c.args.protocol.now in
    let own = family_of_socket c.args.peer in
    let a = c.index-as_slice-index.result in
    let here = index_is old c.args.transport own c.index_of.result (Some c.in-Some.index) c.from-family.result c.as_slice.result.now c.from-family.ensures c.as_slice.ensures c.index_of.ensures c.in-Some.is in
    let at = c.index-as_slice-index.is ∙ ap (λ l. get_or l c.in-Some.index a) c.as_slice-2.ensures in
    let not_past = sym c.is_past.ensures ∙ c.if-is_past.false in
    refused_by old c.args.transport c.args.peer c.args.now (Some a) (found old c.args.transport own c.args.now c.in-Some.index a here at) c.in-Some-barring.error old
    (barred old.phase c.args.peer c.args.now a c.in-Some-barring.error not_past (sym c.barring.ensures ∙ c.in-Some-barring.is))
    (unmarked old c.args.transport own c.args.now c.in-Some.index a here at not_past)

pub returns-then-not-is_authenticated : goal.returns-then-not-is_authenticated
returns-then-not-is_authenticated c =
    let old = c.args.protocol.now in
    let own = family_of_socket c.args.peer in
    let a = c.index-as_slice-index.result in
    let here = index_is old c.args.transport own c.index_of.result (Some c.in-Some.index) c.from-family.result c.as_slice.result.now c.from-family.ensures c.as_slice.ensures c.index_of.ensures c.in-Some.is in
    let at = c.index-as_slice-index.is ∙ ap (λ l. get_or l c.in-Some.index a) c.as_slice-2.ensures in
    let not_past = sym c.is_past.ensures ∙ c.if-is_past.false in
    refused_by old c.args.transport c.args.peer c.args.now (Some a) (found old c.args.transport own c.args.now c.in-Some.index a here at) NoAllocation old
    (ended old.phase c.args.peer c.args.now a not_past (sym c.barring.ensures ∙ c.in_default-barring.is) (sym c.is_authenticated.ensures ∙ c.if-not-is_authenticated.true))
    (unmarked old c.args.transport own c.args.now c.in-Some.index a here at not_past)

pub returns-in_default-free_number : goal.returns-in_default-free_number
returns-in_default-free_number c =
    let old = c.args.protocol.now in
    let own = family_of_socket c.args.peer in
    let a = c.index-as_slice-index.result in
    let here = index_is old c.args.transport own c.index_of.result (Some c.in-Some.index) c.from-family.result c.as_slice.result.now c.from-family.ensures c.as_slice.ensures c.index_of.ensures c.in-Some.is in
    let at = c.index-as_slice-index.is ∙ ap (λ l. get_or l c.in-Some.index a) c.as_slice-2.ensures in
    let not_past = sym c.is_past.ensures ∙ c.if-is_past.false in
    tried_by old c.args.transport c.args.peer c.args.now (Some a) (found old c.args.transport own c.args.now c.in-Some.index a here at) (Err NoChannel) old
    (free old.phase c.args.peer c.args.now a not_past (sym c.barring.ensures ∙ c.in_default-barring.is) (sym c.is_authenticated.ensures ∙ c.if-not-is_authenticated.false))
    (all_taken old c.args.transport c.args.peer c.args.now c.as_slice-3.result.now c.free_number.result c.as_slice-3.ensures c.in_default-free_number.is c.free_number.ensures)

pub returns-in-Ok : goal.returns-in-Ok
returns-in-Ok c =
    let old = c.args.protocol.now in
    let own = family_of_socket c.args.peer in
    let a = c.index-as_slice-index.result in
    let here = index_is old c.args.transport own c.index_of.result (Some c.in-Some.index) c.from-family.result c.as_slice.result.now c.from-family.ensures c.as_slice.ensures c.index_of.ensures c.in-Some.is in
    let at = c.index-as_slice-index.is ∙ ap (λ l. get_or l c.in-Some.index a) c.as_slice-2.ensures in
    let not_past = sym c.is_past.ensures ∙ c.if-is_past.false in
    let within = position-Some (is_of c.args.transport own) old.allocations c.in-Some.index a here in
    let is = c.in-Ok.ensures.ok in
    tried_by old c.args.transport c.args.peer c.args.now (Some a) (found old c.args.transport own c.args.now c.in-Some.index a here at) (Ok tt) c.ask_channel.new.self
    (free old.phase c.args.peer c.args.now a not_past (sym c.barring.ensures ∙ c.in_default-barring.is) (sym c.is_authenticated.ensures ∙ c.if-not-is_authenticated.false))
    (requested_there old c.args.transport c.args.peer c.args.now c.as_slice-3.result.now c.free_number.result c.in-Some.index c.in-Some-free_number.channel is.0 c.ask_channel.new.self (slice_get old.allocations c.in-Some.index)
    c.as_slice-3.ensures c.in-Some-free_number.is c.free_number.ensures here refl (read_there old.allocations c.in-Some.index within.0) is.1 is.2 is.3)

pub returns-in-Err : goal.returns-in-Err
returns-in-Err c =
    let old = c.args.protocol.now in
    let own = family_of_socket c.args.peer in
    let a = c.index-as_slice-index.result in
    let here = index_is old c.args.transport own c.index_of.result (Some c.in-Some.index) c.from-family.result c.as_slice.result.now c.from-family.ensures c.as_slice.ensures c.index_of.ensures c.in-Some.is in
    let at = c.index-as_slice-index.is ∙ ap (λ l. get_or l c.in-Some.index a) c.as_slice-2.ensures in
    let not_past = sym c.is_past.ensures ∙ c.if-is_past.false in
    tried_by old c.args.transport c.args.peer c.args.now (Some a) (found old c.args.transport own c.args.now c.in-Some.index a here at) (Err NoMemory) c.ask_channel.new.self
    (free old.phase c.args.peer c.args.now a not_past (sym c.barring.ensures ∙ c.in_default-barring.is) (sym c.is_authenticated.ensures ∙ c.if-not-is_authenticated.false))
    (refused_memory old c.args.transport c.args.peer c.args.now c.as_slice-3.result.now c.free_number.result c.in-Some-free_number.channel c.ask_channel.new.self c.as_slice-3.ensures c.in-Some-free_number.is c.free_number.ensures c.in-Err.ensures.err)
