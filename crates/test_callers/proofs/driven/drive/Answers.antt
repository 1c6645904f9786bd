use Rattle.std.proofs.Common.{◌≡◌, ◌<◌, length, ◌≤◌, ◌^◌, ℕ, List, [], Option, Some, refl, sym, ◌∙◌, subst, arith, inl, inr}
use Rattle.std.specs.Prelude.{option_map}
use Rattle.stun_types.specs.Base.declared.data.Data.{Data}
use Rattle.stun_types.specs.Base.declared.transmit.Transmit.{Transmit}
use Rattle.turn_client_proto.specs.Api.Sent.{Sent, sent_of}
use Rattle.std.specs.Borrow.{Bor}
use Rattle.turn_client_proto.specs.Api.TurnTypesFrame.declared.build.TransmitBuild.{TransmitBuild}
use Rattle.turn_client_proto.specs.Api.declared.send.DelayedMessageOrChannelSend.{DelayedMessageOrChannelSend}
use Rattle.turn_client_proto.specs.Drawing.{IsTransmitted}
use Rattle.turn_client_proto.specs.Sending.{written_as}
use Rattle.test_callers.proofs.Driving.{HasTaken, IsAnswered, IsDrawOf, all_taken, bytes_built, none_built, end_asked, channel_asked, limit_taken, nothing_drawn, one_drawn, one_taken, permission_asked, polls, up_to_limit, up_to_nothing}
use Rattle.test_callers.proofs.driven.drive.Goals.{else-loop-test, then-loop-test+in_ok-sent+in_default, in-AllocationCreated+in_ok-create_permission-in-AllocationCreated, in-PermissionCreated+in_ok-bind_channel-in-PermissionCreated, in-ChannelCreated+in_ok-sending-in-ChannelCreated+in-Some-2+in_ok-sent-in-ChannelCreated+in_ok-write-in-ChannelCreated, in-ChannelCreated+in_ok-sending-in-ChannelCreated+in_default-2, in_default-event+in_ok-delete-in_default-event}
use Rattle.test_callers.proofs.driven.drive.Goals as goal

-- What `send_to` returned, with its bytes written.
abbrev written : TransmitBuild (DelayedMessageOrChannelSend (Bor (List ℕ))) → Sent
written = written_as (λ (b : Bor (List ℕ)). b.now)

pub loop-init : goal.loop-init
loop-init g c = λ early. nothing_drawn c.args.now (g.C.TurnClientApi.stored c.args.client.now)

pub loop-preserved : goal.loop-preserved
loop-preserved g c = λ early.
    let stored = g.C.TurnClientApi.stored in
    let p = stored c.loop.client in
    let q = stored c.poll_transmit.new.self in
    let ok = c.in_ok-sent.ensures.ok in
    let is = subst (λ (o : Option (Transmit Data)). IsTransmitted p.core c.args.now (option_map sent_of o) q.core) c.in-Some.is ok.0 in
    one_drawn c.args.now c.loop.counter (stored c.args.client.now) p q c.in-Some.sent early (c.loop.invariant early) (is, ok.1)

pub loop-2-init : goal.loop-2-init
loop-2-init g c = λ early.
    let stored = g.C.TurnClientApi.stored in
    let old = stored c.args.client.now in
    let p = stored c.loop.client in
    let so = c.loop.invariant early in
    let by_draw : IsDrawOf c.args.now old (stored c.loop-test.client) = elim c.loop-test.branch [
      | else-loop-test w ↦ subst (λ (x : _). IsDrawOf c.args.now old (stored x)) (sym w.client-is) (up_to_limit c.args.now c.loop.counter old p (omega (arith, w.loop-test.false, c.loop.auto.counter-end)) so)
      | then-loop-test+in_ok-sent+in_default w ↦
          let q = stored w.poll_transmit.new.self in
          let ok = w.in_ok-sent.ensures.ok in
          let is = subst (λ (o : Option (Transmit Data)). IsTransmitted p.core c.args.now (option_map sent_of o) q.core) w.in_default.is ok.0 in
          subst (λ (x : _). IsDrawOf c.args.now old (stored x)) (sym w.client-is) (up_to_nothing c.args.now c.loop.counter old p q early so (is, ok.1))
    ] in
    polls c.args.now c.poll-answer.result old (stored c.loop-test.client) (stored c.poll-answer.new.self) early by_draw c.poll-answer.ensures.polled

pub returns-in_default-poll_event-clause-turn : goal.returns-in_default-poll_event-clause-turn
returns-in_default-poll_event-clause-turn g c = λ other early.
    let stored = g.C.TurnClientApi.stored in
    let e = c.in_default-poll_event.ensures in
    elim (c.loop-2.invariant early) [
      | inl failed ↦ absurd (other failed.0)
      | inr so ↦ all_taken c.args.now c.loop-2.counter (stored c.args.client.now) (stored c.loop-2.client) (stored c.poll_event.new.self) early so e.none e.event e.others
    ]

pub loop-2-preserved : goal.loop-2-preserved
loop-2-preserved g c = λ early.
    let stored = g.C.TurnClientApi.stored in
    let old = stored c.args.client.now in
    let p = stored c.loop-2.client in
    let q = stored c.poll_event.new.self in
    let e = c.in-Some-poll_event.ensures in
    let so : HasTaken c.args.now c.loop-2.counter old p = elim (c.loop-2.invariant early) [
      | inl failed ↦ absurd (Prim.cc (sym failed.1 ∙ e.event))
      | inr so ↦ so
    ] in
    let answered : IsAnswered c.args.now q (stored c.match-event.client) = elim c.match-event.branch [
      | in-AllocationCreated+in_ok-create_permission-in-AllocationCreated w ↦ subst (λ (x : _). IsAnswered c.args.now q (stored x)) (sym w.client-is)
          (permission_asked c.args.now w.in-AllocationCreated.by w.ip.result q (stored w.create_permission.new.self) w.in_ok-create_permission-in-AllocationCreated.ensures.permitted)
      | in-PermissionCreated+in_ok-bind_channel-in-PermissionCreated w ↦ subst (λ (x : _). IsAnswered c.args.now q (stored x)) (sym w.client-is)
          (channel_asked c.args.now w.in-PermissionCreated.by c.args.peer q (stored w.bind_channel.new.self) w.in_ok-bind_channel-in-PermissionCreated.ensures.bound)
      | in-ChannelCreated+in_ok-sending-in-ChannelCreated+in-Some-2+in_ok-sent-in-ChannelCreated+in_ok-write-in-ChannelCreated w ↦
          let ok = w.in_ok-sending-in-ChannelCreated in
          subst (λ (x : _). IsAnswered c.args.now q (stored x)) (sym w.client-is)
          (bytes_built written ok.field-0 w.in-Some-2.sending w.in-Some-2.is c.args.alloc c.args.now w.in-ChannelCreated.by w.in-ChannelCreated.to w.as_slice-in-ChannelCreated.result.now q (stored w.send_to.new.self) (subst (λ (l : List ℕ). length l < 2 ^ 63) (sym w.as_slice-in-ChannelCreated.ensures) (omega arith)) ok.ensures.sent)
      | in-ChannelCreated+in_ok-sending-in-ChannelCreated+in_default-2 w ↦
          let ok = w.in_ok-sending-in-ChannelCreated in
          absurd (none_built q.core (stored w.send_to.new.self).core w.in-ChannelCreated.to w.as_slice-in-ChannelCreated.result.now written ok.field-0 w.in_default-2.is w.in-ChannelCreated.by c.args.now ok.ensures.sent.0)
      | in_default-event+in_ok-delete-in_default-event w ↦ subst (λ (x : _). IsAnswered c.args.now q (stored x)) (sym w.client-is)
          (end_asked c.args.now q (stored w.delete.new.self) w.in_ok-delete-in_default-event.ensures.deleted)
    ] in
    inr (one_taken c.args.now c.loop-2.counter old p q (stored c.match-event.client) c.in-Some-poll_event.event early so e.event e.others answered)

pub returns-clause-turn : goal.returns-clause-turn
returns-clause-turn g c = λ other early.
    let stored = g.C.TurnClientApi.stored in
    elim (c.loop-2.invariant early) [
      | inl failed ↦ absurd (omega (arith, failed.2, c.loop-2-test.false))
      | inr so ↦ limit_taken c.args.now c.loop-2.counter (stored c.args.client.now) (stored c.loop-2.client) (omega (arith, c.loop-2-test.false, c.loop-2.auto.counter-end)) so
    ]
