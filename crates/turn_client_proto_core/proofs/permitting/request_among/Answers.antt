use Rattle.std.proofs.Common.{ap, get_or, slice_get, refl, sym, ◌∙◌, length}
use Rattle.std.proofs.lemmas.List.Quantifiers.{position-Some}
use Rattle.std.proofs.lemmas.Option.{slice_get_read}
use Rattle.std.specs.Prelude.{None, Some, Ok, Err}
use Rattle.turn_client_proto_api.specs.declared.error.CreatePermissionError.TheVariants.{AlreadyExists, NoAllocation, NoMemory}
use Rattle.turn_client_proto_peers.specs.Permission.Asking.{is_of}
use Rattle.turn_client_proto_core.specs.Permitting.{family_of_ip}
use Rattle.turn_client_proto_core.proofs.Granting.{answered_by, requested_there, ended, free, known, past, refused_by}
use Rattle.turn_client_proto_core.proofs.Indexes.{found, marked_past, nowhere, index_is, unmarked}
use Rattle.turn_client_proto_core.proofs.permitting.request_among.Goals as goal

pub returns-in_default : goal.returns-in_default
returns-in_default c =
    let old = c.args.protocol.now in
    let own = family_of_ip c.args.ip in
    refused_by old c.args.transport c.args.ip c.args.others.now c.args.now None (nowhere old c.args.transport own (index_is old c.args.transport own c.index_of.result None c.from-family.result c.as_slice.result.now c.from-family.ensures c.as_slice.ensures c.index_of.ensures c.in_default.is)) NoAllocation old refl refl

pub returns-then-is_past : goal.returns-then-is_past
returns-then-is_past c =
    let old = c.args.protocol.now in
    let own = family_of_ip c.args.ip in
    let a = c.index-as_slice-index.result in
    let here = index_is old c.args.transport own c.index_of.result (Some c.in-Some.index) c.from-family.result c.as_slice.result.now c.from-family.ensures c.as_slice.ensures c.index_of.ensures c.in-Some.is in
    let at = c.index-as_slice-index.is ∙ ap (λ l. get_or l c.in-Some.index a) c.as_slice-2.ensures in
    let is = sym c.is_past.ensures ∙ c.if-is_past.true in
    refused_by old c.args.transport c.args.ip c.args.others.now c.args.now (Some a) (found old c.args.transport own c.args.now c.in-Some.index a here at) NoAllocation _
    (past old.phase c.args.ip c.args.others.now c.args.now a is)
    (marked_past old c.args.transport own c.args.now c.in-Some.index a here at c.mark.new.allocations is c.mark.ensures)

pub returns-then-knows_any : goal.returns-then-knows_any
returns-then-knows_any c =
    let old = c.args.protocol.now in
    let own = family_of_ip c.args.ip in
    let a = c.index-as_slice-index.result in
    let here = index_is old c.args.transport own c.index_of.result (Some c.in-Some.index) c.from-family.result c.as_slice.result.now c.from-family.ensures c.as_slice.ensures c.index_of.ensures c.in-Some.is in
    let at = c.index-as_slice-index.is ∙ ap (λ l. get_or l c.in-Some.index a) c.as_slice-2.ensures in
    let not_past = sym c.is_past.ensures ∙ c.if-is_past.false in
    refused_by old c.args.transport c.args.ip c.args.others.now c.args.now (Some a) (found old c.args.transport own c.args.now c.in-Some.index a here at) AlreadyExists old
    (known old.phase c.args.ip c.args.others.now c.args.now a not_past (sym c.knows_any.ensures ∙ c.if-knows_any.true))
    (unmarked old c.args.transport own c.args.now c.in-Some.index a here at not_past)

pub returns-then-not-is_authenticated : goal.returns-then-not-is_authenticated
returns-then-not-is_authenticated c =
    let old = c.args.protocol.now in
    let own = family_of_ip c.args.ip in
    let a = c.index-as_slice-index.result in
    let here = index_is old c.args.transport own c.index_of.result (Some c.in-Some.index) c.from-family.result c.as_slice.result.now c.from-family.ensures c.as_slice.ensures c.index_of.ensures c.in-Some.is in
    let at = c.index-as_slice-index.is ∙ ap (λ l. get_or l c.in-Some.index a) c.as_slice-2.ensures in
    let not_past = sym c.is_past.ensures ∙ c.if-is_past.false in
    refused_by old c.args.transport c.args.ip c.args.others.now c.args.now (Some a) (found old c.args.transport own c.args.now c.in-Some.index a here at) NoAllocation old
    (ended old.phase c.args.ip c.args.others.now c.args.now a not_past (sym c.knows_any.ensures ∙ c.if-knows_any.false) (sym c.is_authenticated.ensures ∙ c.if-not-is_authenticated.true))
    (unmarked old c.args.transport own c.args.now c.in-Some.index a here at not_past)

pub returns-in-Ok : goal.returns-in-Ok
returns-in-Ok c =
    let old = c.args.protocol.now in
    let own = family_of_ip c.args.ip in
    let a = c.index-as_slice-index.result in
    let here = index_is old c.args.transport own c.index_of.result (Some c.in-Some.index) c.from-family.result c.as_slice.result.now c.from-family.ensures c.as_slice.ensures c.index_of.ensures c.in-Some.is in
    let at = c.index-as_slice-index.is ∙ ap (λ l. get_or l c.in-Some.index a) c.as_slice-2.ensures in
    let not_past = sym c.is_past.ensures ∙ c.if-is_past.false in
    let within = position-Some (is_of c.args.transport own) old.allocations c.in-Some.index a here in
    let there = slice_get_read old.allocations (length old.allocations) c.in-Some.index a refl within.0 at in
    let is = c.in-Ok.ensures.ok in
    answered_by old c.args.transport c.args.ip c.args.others.now c.args.now (Some a) (found old c.args.transport own c.args.now c.in-Some.index a here at) (Ok tt) c.ask_permission.new.self
    (free old.phase c.args.ip c.args.others.now c.args.now a not_past (sym c.knows_any.ensures ∙ c.if-knows_any.false) (sym c.is_authenticated.ensures ∙ c.if-not-is_authenticated.false))
    (requested_there old c.args.transport c.args.ip c.args.others.now c.args.now c.in-Some.index a is.0 c.ask_permission.new.self (slice_get old.allocations c.in-Some.index) here refl there is.1 is.2 is.3)

pub returns-in-Err : goal.returns-in-Err
returns-in-Err c =
    let old = c.args.protocol.now in
    let own = family_of_ip c.args.ip in
    let a = c.index-as_slice-index.result in
    let here = index_is old c.args.transport own c.index_of.result (Some c.in-Some.index) c.from-family.result c.as_slice.result.now c.from-family.ensures c.as_slice.ensures c.index_of.ensures c.in-Some.is in
    let at = c.index-as_slice-index.is ∙ ap (λ l. get_or l c.in-Some.index a) c.as_slice-2.ensures in
    let not_past = sym c.is_past.ensures ∙ c.if-is_past.false in
    answered_by old c.args.transport c.args.ip c.args.others.now c.args.now (Some a) (found old c.args.transport own c.args.now c.in-Some.index a here at) (Err NoMemory) c.ask_permission.new.self
    (free old.phase c.args.ip c.args.others.now c.args.now a not_past (sym c.knows_any.ensures ∙ c.if-knows_any.false) (sym c.is_authenticated.ensures ∙ c.if-not-is_authenticated.false))
    (refl, c.in-Err.ensures.err)
