use Rattle.std.proofs.Common.{rules, ◌≡◌, []}
use Rattle.std.specs.Prelude.{option_to_list, slice_get}
use Rattle.std.specs.Option.{option_copied}
use Rattle.stun_types_wire.specs.Grammar.{number_at}
use Rattle.stun_types_wire.specs.declared.error.StunWriteError.TheVariants.{NoMemory}
use Rattle.stun_types_write.specs.Lent.{own_draft}
use Rattle.stun_types_add.specs.Calls.{IsComposed}
use Rattle.stun_types_add.proofs.Taken.{composed_none}
use Rattle.turn_desk_core.specs.Replies.{relayed_attributes, success_type}
use Rattle.turn_desk_core.proofs.Adding.{allocated_composed, second_of}
use Rattle.turn_desk_core.proofs.Room.{first-length, lifetime_room, mapped_room, none-length, only_memory, relayed_room}
use Rattle.turn_desk_core.proofs.Sizes.{allocated_reply}
use Rattle.turn_desk_core.proofs.allocated.write_allocated.Goals as goal

pub add_relayed-requires-clause-room : goal.add_relayed-requires-clause-room
add_relayed-requires-clause-room c =
    let kind = success_type c.args.request.now in
    let n = number_at c.args.request.now in
    let r0 = composed_none kind n (own_draft c.new.result) (own_draft c.in_ok-reply.reply) c.in_ok-reply.ensures.started in
    relayed_room kind n c.transaction_id-number.result [] (own_draft c.new.result) (own_draft c.in_ok-reply.reply) c.new.ensures r0 (none-length kind n)

pub add_relayed-requires-2-clause-room : goal.add_relayed-requires-2-clause-room
add_relayed-requires-2-clause-room c =
    let kind = success_type c.args.request.now in
    let m = c.transaction_id-number.result in
    let first = option_copied c.first.result in
    let old = own_draft c.new.result in
    let r0 = composed_none kind _ old (own_draft c.in_ok-reply.reply) c.in_ok-reply.ensures.started in
    let r1 = c.in_ok-add_relayed.ensures.composed kind [] old (rw c.transaction_id-number.ensures r0) in
    relayed_room kind m m (relayed_attributes m (option_to_list first)) old (own_draft c.add_relayed.new.reply) c.new.ensures r1 (first-length kind m m first)

pub returns-in_err-add_as-clause-memory : goal.returns-in_err-add_as-clause-memory
returns-in_err-add_as-clause-memory c =
    let kind = success_type c.args.request.now in
    let n = number_at c.args.request.now in
    let old = own_draft c.new.result in
    let r0 = composed_none kind n old (own_draft c.in_ok-reply.reply) c.in_ok-reply.ensures.started in
    let r1 = c.in_ok-add_relayed.ensures.composed kind [] old (rw c.transaction_id-number.ensures r0) in
    let r2 = c.in_ok-add_relayed-2.ensures.composed kind _ old r1 in
    let second = second_of c.get.result c.args.relayed.now c.get.ensures.lookup.3 in
    let memory : c.in_err-add_as.field-0.0 ≡ NoMemory =
    only_memory _ _ c.in_err-add_as.ensures.cause
    (lifetime_room kind _ n c.args.relayed.now c.args.from _ _ old _ c.new-lifetime.result c.transaction_id-number.ensures c.requires.few c.first.ensures.value second c.new.ensures r2) in
    search rules

pub returns-in_err-add_as-2-clause-memory : goal.returns-in_err-add_as-2-clause-memory
returns-in_err-add_as-2-clause-memory c =
    let kind = success_type c.args.request.now in
    let n = number_at c.args.request.now in
    let old = own_draft c.new.result in
    let r0 = composed_none kind n old (own_draft c.in_ok-reply.reply) c.in_ok-reply.ensures.started in
    let r1 = c.in_ok-add_relayed.ensures.composed kind [] old (rw c.transaction_id-number.ensures r0) in
    let r2 = c.in_ok-add_relayed-2.ensures.composed kind _ old r1 in
    let second = second_of c.get.result c.args.relayed.now c.get.ensures.lookup.3 in
    let memory : c.in_err-add_as-2.field-0.0 ≡ NoMemory =
    only_memory _ _ c.in_err-add_as-2.ensures.cause
    (mapped_room kind _ n c.args.relayed.now c.args.from _ _ old _ _ c.new-lifetime.result _ c.transaction_id-number.ensures c.requires.few c.first.ensures.value second c.new.ensures r2
    c.in_ok-add_as.ensures.ok c.in_ok-add_as.ensures.cause c.new-mapped.ensures) in
    search rules

pub returns-clause-reply : goal.returns-clause-reply
returns-clause-reply c =
    let kind = success_type c.args.request.now in
    let n = number_at c.args.request.now in
    let number : c.transaction_id-number.result ≡ n = c.transaction_id-number.ensures in
    let old = own_draft c.new.result in
    let r0 : IsComposed kind n [] old (own_draft c.in_ok-reply.reply) = composed_none kind n old (own_draft c.in_ok-reply.reply) c.in_ok-reply.ensures.started in
    let r1 = c.in_ok-add_relayed.ensures.composed kind [] old (rw number r0) in
    let r2 = c.in_ok-add_relayed-2.ensures.composed kind _ old r1 in
    let second : option_copied c.get.result ≡ slice_get c.args.relayed.now 1 = second_of c.get.result c.args.relayed.now c.get.ensures.lookup.3 in
    let composed = allocated_composed kind _ n c.args.relayed.now c.args.lifetime c.args.from _ _ old _ _ _ _ _ number c.requires.few c.first.ensures.value second r2
    c.in_ok-add_as.ensures.ok c.in_ok-add_as.ensures.cause c.in_ok-add_as-2.ensures.ok c.in_ok-add_as-2.ensures.cause c.new-lifetime.ensures c.new-mapped.ensures in
    allocated_reply kind n c.args.lifetime c.args.from c.args.relayed.now old _ c.new.ensures c.requires.few composed
