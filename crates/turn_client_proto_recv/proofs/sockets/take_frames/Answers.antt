use Rattle.std.proofs.Common.{◌≡◌, ◌≤◌, length, true, false, take, Some, refl, sym, subst}
use Rattle.turn_types_frame.specs.StreamAnswers.{IsAnswer, after_incoming, joined, looked}
use Rattle.turn_client_proto_api.specs.declared.answer.TurnRecvRet.TheVariants as recv
use Rattle.turn_client_proto_recv.specs.SocketChunks.{IsHeadTaken}
use Rattle.turn_client_proto_recv.proofs.Feeding.{started_before, for_client, for_nobody, in_place, waits_fed}
use Rattle.turn_client_proto_recv.proofs.Taking.{is_channel, is_message, range_fits}
use Rattle.turn_client_proto_recv.specs.Notes.{Start}
use Rattle.turn_client_proto_recv.proofs.Noting.{then_failed}
use Rattle.turn_client_proto_recv.proofs.sockets.take_frames.Goals as goal

pub take_in_place-requires : goal.take_in_place-requires
take_in_place-requires g c =
    let reported = (subst (λ f. IsAnswer c.args.stream.now (g.T.AsSlice.items c.args.transmit.bytes) c.args.transmit (Some f)) c.in-Some-CompleteMessage.field-0-is c.in-Some-CompleteMessage.ensures.answer) in
    subst (λ t. c.in-Some-CompleteMessage.range.end ≤ length (g.T.AsSlice.items t.bytes)) (sym reported.2) (range_fits g.T.AsSlice.items c.args.stream.now c.args.transmit c.in-Some-CompleteMessage.range.end reported.1 reported.3.end_is)

pub returns-in-Some-CompleteMessage-clause-taken : goal.returns-in-Some-CompleteMessage-clause-taken
returns-in-Some-CompleteMessage-clause-taken g c =
    let reported = (subst (λ f. IsAnswer c.args.stream.now (g.T.AsSlice.items c.args.transmit.bytes) c.args.transmit (Some f)) c.in-Some-CompleteMessage.field-0-is c.in-Some-CompleteMessage.ensures.answer) in
    in_place g.T.AsSlice.items c.args.transmit.to c.args.now c.args.stream.now c.args.protocol.now c.args.transmit c.take_in_place.result c.take_in_place.new.stream c.take_in_place.new.protocol c.requires true
    c.in-Some-CompleteMessage.range.end c.incoming_tcp.new.self (is_message (looked (joined c.args.stream.now (g.T.AsSlice.items c.args.transmit.bytes))) reported.0) (for_client (looked (joined c.args.stream.now (g.T.AsSlice.items c.args.transmit.bytes))) reported.0) reported.1 reported.3.end_is
    (subst (λ f. c.incoming_tcp.new.self ≡ after_incoming c.args.stream.now (g.T.AsSlice.items c.args.transmit.bytes) (Some f)) c.in-Some-CompleteMessage.field-0-is c.in-Some-CompleteMessage.ensures.state)
    (subst (λ t. IsHeadTaken t.to c.args.now true (take c.in-Some-CompleteMessage.range.end (g.T.AsSlice.items t.bytes)) c.incoming_tcp.new.self c.args.protocol.now t c.take_in_place.result c.take_in_place.new.stream c.take_in_place.new.protocol) reported.2 c.take_in_place.ensures.taken)

pub take_in_place-requires-in-Some-CompleteChannel : goal.take_in_place-requires-in-Some-CompleteChannel
take_in_place-requires-in-Some-CompleteChannel g c =
    let reported = (subst (λ f. IsAnswer c.args.stream.now (g.T.AsSlice.items c.args.transmit.bytes) c.args.transmit (Some f)) c.in-Some-CompleteChannel.field-0-is c.in-Some-CompleteChannel.ensures.answer) in
    subst (λ t. c.in-Some-CompleteChannel.range.end ≤ length (g.T.AsSlice.items t.bytes)) (sym reported.2) (range_fits g.T.AsSlice.items c.args.stream.now c.args.transmit c.in-Some-CompleteChannel.range.end reported.1 reported.3.end_is)

pub returns-in-Some-CompleteChannel-clause-taken : goal.returns-in-Some-CompleteChannel-clause-taken
returns-in-Some-CompleteChannel-clause-taken g c =
    let reported = (subst (λ f. IsAnswer c.args.stream.now (g.T.AsSlice.items c.args.transmit.bytes) c.args.transmit (Some f)) c.in-Some-CompleteChannel.field-0-is c.in-Some-CompleteChannel.ensures.answer) in
    in_place g.T.AsSlice.items c.args.transmit.to c.args.now c.args.stream.now c.args.protocol.now c.args.transmit c.take_in_place-in-Some-CompleteChannel.result c.take_in_place-in-Some-CompleteChannel.new.stream c.take_in_place-in-Some-CompleteChannel.new.protocol c.requires false
    c.in-Some-CompleteChannel.range.end c.incoming_tcp.new.self (is_channel (looked (joined c.args.stream.now (g.T.AsSlice.items c.args.transmit.bytes))) reported.0) (for_nobody (looked (joined c.args.stream.now (g.T.AsSlice.items c.args.transmit.bytes))) reported.0) reported.1 reported.3.end_is
    (subst (λ f. c.incoming_tcp.new.self ≡ after_incoming c.args.stream.now (g.T.AsSlice.items c.args.transmit.bytes) (Some f)) c.in-Some-CompleteChannel.field-0-is c.in-Some-CompleteChannel.ensures.state)
    (subst (λ t. IsHeadTaken t.to c.args.now false (take c.in-Some-CompleteChannel.range.end (g.T.AsSlice.items t.bytes)) c.incoming_tcp.new.self c.args.protocol.now t c.take_in_place-in-Some-CompleteChannel.result c.take_in_place-in-Some-CompleteChannel.new.stream c.take_in_place-in-Some-CompleteChannel.new.protocol) reported.2 c.take_in_place-in-Some-CompleteChannel.ensures.taken)

pub returns-in-Some-StoredMessage-clause-taken : goal.returns-in-Some-StoredMessage-clause-taken
returns-in-Some-StoredMessage-clause-taken g c =
    let reported = (subst (λ f. IsAnswer c.args.stream.now (g.T.AsSlice.items c.args.transmit.bytes) c.args.transmit (Some f)) c.in-Some-StoredMessage.field-0-is c.in-Some-StoredMessage.ensures.answer) in
    started_before g.T.AsSlice.items c.args.transmit.to c.args.now c.args.stream.now c.args.protocol.now c.args.transmit c.take_apart.result c.take_apart.new.stream c.take_apart.new.protocol c.requires true
    c.as_slice.result.now c.in-Some-StoredMessage.frame.items c.incoming_tcp.new.self (is_message (looked (joined c.args.stream.now (g.T.AsSlice.items c.args.transmit.bytes))) reported.0) (for_client (looked (joined c.args.stream.now (g.T.AsSlice.items c.args.transmit.bytes))) reported.0) reported.3 c.as_slice.ensures.value
    (subst (λ f. c.incoming_tcp.new.self ≡ after_incoming c.args.stream.now (g.T.AsSlice.items c.args.transmit.bytes) (Some f)) c.in-Some-StoredMessage.field-0-is c.in-Some-StoredMessage.ensures.state)
    (subst (λ t. IsHeadTaken t.to c.args.now true c.as_slice.result.now c.incoming_tcp.new.self c.args.protocol.now t c.take_apart.result c.take_apart.new.stream c.take_apart.new.protocol) reported.2 c.take_apart.ensures.taken)

pub returns-in-Some-StoredChannel-clause-taken : goal.returns-in-Some-StoredChannel-clause-taken
returns-in-Some-StoredChannel-clause-taken g c =
    let reported = (subst (λ f. IsAnswer c.args.stream.now (g.T.AsSlice.items c.args.transmit.bytes) c.args.transmit (Some f)) c.in-Some-StoredChannel.field-0-is c.in-Some-StoredChannel.ensures.answer) in
    started_before g.T.AsSlice.items c.args.transmit.to c.args.now c.args.stream.now c.args.protocol.now c.args.transmit c.take_apart-in-Some-StoredChannel.result c.take_apart-in-Some-StoredChannel.new.stream c.take_apart-in-Some-StoredChannel.new.protocol c.requires false
    c.as_slice-in-Some-StoredChannel.result.now c.in-Some-StoredChannel.frame.items c.incoming_tcp.new.self (is_channel (looked (joined c.args.stream.now (g.T.AsSlice.items c.args.transmit.bytes))) reported.0) (for_nobody (looked (joined c.args.stream.now (g.T.AsSlice.items c.args.transmit.bytes))) reported.0) reported.3 c.as_slice-in-Some-StoredChannel.ensures.value
    (subst (λ f. c.incoming_tcp.new.self ≡ after_incoming c.args.stream.now (g.T.AsSlice.items c.args.transmit.bytes) (Some f)) c.in-Some-StoredChannel.field-0-is c.in-Some-StoredChannel.ensures.state)
    (subst (λ t. IsHeadTaken t.to c.args.now false c.as_slice-in-Some-StoredChannel.result.now c.incoming_tcp.new.self c.args.protocol.now t c.take_apart-in-Some-StoredChannel.result c.take_apart-in-Some-StoredChannel.new.stream c.take_apart-in-Some-StoredChannel.new.protocol) reported.2 c.take_apart-in-Some-StoredChannel.ensures.taken)

pub returns-in-None-clause-taken : goal.returns-in-None-clause-taken
returns-in-None-clause-taken g c =
    waits_fed g.T.AsSlice.items c.args.transmit.to c.args.now c.args.stream.now c.args.protocol.now c.args.transmit recv.Handled c.incoming_tcp.new.self c.args.protocol.now c.requires
    (subst (λ r. IsAnswer c.args.stream.now (g.T.AsSlice.items c.args.transmit.bytes) c.args.transmit r) c.in-None.is c.incoming_tcp.ensures.answer) refl
    (subst (λ r. c.incoming_tcp.new.self ≡ after_incoming c.args.stream.now (g.T.AsSlice.items c.args.transmit.bytes) r) c.in-None.is c.incoming_tcp.ensures.state) refl

pub returns-in-None-clause-noted : goal.returns-in-None-clause-noted
returns-in-None-clause-noted g c =
    Start

pub returns-in-Some-NoMemory-clause-noted : goal.returns-in-Some-NoMemory-clause-noted
returns-in-Some-NoMemory-clause-noted g c =
    then_failed c.args.now c.args.protocol.now c.args.notes.now c.args.protocol.now c.args.notes.now Start c.give_up.new.protocol c.give_up.ensures
