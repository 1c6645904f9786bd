-- Results of the trait's calls, as they are reported to C.
use Rattle.std.proofs.Common.{◌≡◌, ◌≢◌, ℕ, eqb, true, false, List, [], ◌∷◌, ◌++◌, length, Option, Some, None, Result, Ok, Err, option_map, refl, sym, ap, ◌∙◌, subst, arith}
use Rattle.std.proofs.lemmas.Bool.{eqb-true}
use Rattle.std.specs.Prelude.{ℤ, IfNone, IfOk, OnErr, option_to_list}
use Rattle.std.specs.Borrow.{Bor}
use Rattle.std.specs.declared.net.socket_addr.SocketAddr.{SocketAddr}
use Rattle.stun_types_base.specs.declared.data.Data.{Data}
use Rattle.stun_types_base.specs.declared.transmit.Transmit.{Transmit}
use Rattle.stun_types_base.specs.declared.transport.TransportType.{TransportType}
use Rattle.turn_client_proto_api.specs.Payloads.{PeerPayload}
use Rattle.turn_client_proto_api.specs.declared.answer.TurnPollRet.{TurnPollRet}
use Rattle.turn_client_proto_api.specs.declared.answer.TurnRecvRet.{TurnRecvRet}
use Rattle.turn_client_proto_api.specs.declared.error.SendError.{SendError}
use Rattle.turn_client_proto_api.specs.Expired.{first_of}
use Rattle.turn_client_proto_api.specs.declared.event.TurnEvent.{TurnEvent}
use Rattle.turn_client_proto_api.specs.declared.expired.AllocationExpired.{AllocationExpired}
use Rattle.turn_client_proto.specs.Clients.{noted_of, stored_of}
use Rattle.turn_client_proto.specs.Notes.{after_report, expired_after, held_of}
use Rattle.turn_client_proto.specs.Recv.Notes.{after_event}
use Rattle.turn_client_proto.specs.Timers.Drawing.{HasToSend, IsTransmitted}
use Rattle.turn_client_proto_api.specs.Sent.{Sent, sent_of}
use Rattle.turn_client_proto.specs.Core.Ending.{HasFailed}
use Rattle.turn_client_proto.specs.Recv.ClientState.{ClientState, Leaves, Protocol}
use Rattle.turn_client_proto.specs.Timers.Polling.{IsPolled}
use Rattle.turn_client_proto.specs.Recv.Receipts.{IsFirstGiven, IsGivenBy, IsReceived, IsStreamRequested, IsWaitingGiven, IsWaitingLost}
use Rattle.turn_client_proto.specs.Recv.Control.{Closed, Control, Datagrams, Open}
use Rattle.turn_client_proto.specs.Recv.Chunks.{IsFrameHandled, apart, data_given, data_taken}
use Rattle.turn_client_proto.specs.Recv.Pulls.{Ends, Gives, Goes, IsPulled, frame_of}
use Rattle.turn_client_proto.specs.Recv.SocketChunks.{raw_stored, raw_waiting}
use Rattle.turn_client_proto.specs.Recv.declared.handing.Taken.{Taken}
use Rattle.turn_client_proto.specs.Recv.declared.handing.Taken.TheVariants.{Garbled, Given, Handled, Ignored}
use Rattle.turn_client_proto.specs.PayloadPart.declared.payload.Payload.{Payload}
use Rattle.turn_client_proto.specs.PayloadPart.declared.payload.Payload.TheVariants.{Data as Reported, Framed, Report}
use Rattle.turn_client_proto.specs.Allocation.declared.connection.Connection.{Connection}
use Rattle.turn_types_frame.specs.StreamAnswers.{after_look}
use Rattle.turn_types_frame.specs.Streams.{Stream}
use Rattle.turn_client_proto.specs.PayloadPart.Sending.{IsSendAnswered}
use Rattle.turn_client_proto_api.specs.declared.answer.Socket5Tuple.{Socket5Tuple}
use Rattle.turn_client_proto_api.specs.declared.error.TcpAllocateError.{TcpAllocateError}
use Rattle.turn_client_proto.specs.SocketsReported.{IsSocketReported}
use Rattle.turn_client_c_calls.specs.Calls.{OnStored}
use Rattle.turn_client_c_calls.specs.Codes as code
use Rattle.turn_client_c_calls.specs.Sockets.{own_tuple}
use Rattle.turn_client_c_calls.specs.Traffic as traffic
use Rattle.turn_client_c_calls.specs.Traffic.{Fed, IsTransmittedReported, IsFed, IsCarried, IsPulledReported, Pulled, Refused, brought}
use Rattle.turn_client_c_calls.specs.Waits as waits
use Rattle.turn_client_c_calls.specs.Waits.{IsEventReported, IsExpiredReported, IsPollReported}
use Rattle.turn_client_c_types.specs.declared.event.TurnClientEvent.{TurnClientEvent}
use Rattle.turn_client_c_types.specs.declared.reported.TurnPayload.{TurnPayload}
use Rattle.turn_client_c_types.specs.declared.reported.TurnTransmit.{TurnTransmit}
use Rattle.turn_client_c_types.specs.declared.reported.TurnWait.{TurnWait}
use Rattle.turn_client_c_calls.specs.declared.getters.TurnRelayed.{TurnRelayed}
use Rattle.turn_client_c_calls.specs.declared.whole.HandleState.{HandleState}

-- ---- time and events

pub poll_reported : (answer : TurnPollRet) (now : ℕ) (status : ℤ) (before reported : TurnWait) (old new : HandleState)
    → Leaves (λ old new. IsPolled old now answer new) (stored_of old.client) (stored_of new.client)
    → (noted_of new.client).expired ≡ expired_after (held_of (stored_of old.client).core (noted_of old.client)) (stored_of new.client).core (noted_of old.client).expired
    → new.joined ≡ old.joined
    → status ≡ waits.poll_status answer → reported ≡ waits.poll_reported before answer → IsPollReported now status before reported old new
poll_reported answer now status before reported old new polled expired joined one two =
    record { answer = answer; polled = (polled, joined); expired = expired; status_is = one; reported_is = two }

pub event_reported : (answer : Option TurnEvent) (status : ℤ) (before reported : TurnClientEvent) (old new : HandleState)
    → (stored_of old.client).core.events ≡ option_to_list answer ++ (stored_of new.client).core.events
    → IfNone answer ((stored_of old.client).core.events ≡ [])
    → Leaves (λ old new. new ≡ record old { events = new.events }) (stored_of old.client) (stored_of new.client)
    → noted_of new.client ≡ after_event answer (noted_of old.client) → new.joined ≡ old.joined
    → status ≡ waits.event_status answer → reported ≡ waits.event_reported before answer → IsEventReported status before reported old new
event_reported answer status before reported old new first none others noted joined one two =
    record { answer = answer; first = first; none = none; others = (others, joined); noted = noted; status_is = one; reported_is = two }

pub expired_reported : (answer : Option AllocationExpired) (status : ℤ) (before reported : TurnRelayed) (old new : HandleState)
    → answer ≡ first_of (noted_of old.client).expired → noted_of new.client ≡ after_report (noted_of old.client)
    → stored_of new.client ≡ stored_of old.client → new.joined ≡ old.joined
    → status ≡ waits.expired_status answer → reported ≡ waits.expired_reported before answer → IsExpiredReported status before reported old new
expired_reported answer status before reported old new oldest left client joined one two =
    record { status_is = one ∙ ap waits.expired_status oldest; reported_is = two ∙ ap (waits.expired_reported before) oldest; left = left; client = (client, joined) }

-- ---- sockets

pub socket_reported : (answer : Result (Unit {0}) TcpAllocateError) (id now : ℕ) (tuple : Socket5Tuple) (to : SocketAddr) (here : Option SocketAddr) (old new : HandleState)
    → tuple ≡ own_tuple old.client → IsSocketReported (stored_of old.client) id tuple to here now answer (stored_of new.client) → new.joined ≡ old.joined
    → OnStored (λ before after. IsSocketReported before id (own_tuple old.client) to here now answer after) old new
socket_reported answer id now tuple to here old new is reported joined =
    (subst (λ (t : Socket5Tuple). IsSocketReported (stored_of old.client) id t to here now answer (stored_of new.client)) is reported, joined)

-- ---- what comes

none_stored : (bytes : List ℕ) → eqb (length bytes) 0 ≡ true → bytes ≡ []
none_stored [] is = refl
none_stored (b ∷ bytes) is = absurd (let none = eqb-true (length (b ∷ bytes)) 0 is in omega arith)

some_stored : (bytes : List ℕ) → eqb (length bytes) 0 ≡ false → bytes ≢ []
some_stored [] is same = Prim.cc is
some_stored (b ∷ bytes) is same = Prim.cc same

pub waits_unread : (bytes : Bor (List ℕ)) (from to : SocketAddr) (now : ℕ) (status : ℤ) (before reported : TurnPayload) (old new : HandleState)
    → eqb (length old.joined.items) 0 ≡ false → status ≡ code.unread → new ≡ old → IsFed bytes from to now status before reported old new
waits_unread bytes from to now status before reported old new some one two = traffic.IsFed.Waits (some_stored old.joined.items some) one two

pub is_fed : (answer : TurnRecvRet (Bor (List ℕ))) (bytes : Bor (List ℕ)) (from to : SocketAddr) (now : ℕ) (status : ℤ) (before reported : TurnPayload) (old new : HandleState)
    → eqb (length old.joined.items) 0 ≡ true
    → IsReceived (λ (b : Bor (List ℕ)). b.now) (stored_of old.client) (brought old bytes from to) now answer (stored_of new.client)
    → status ≡ traffic.recv_status answer → reported ≡ traffic.recv_reported before answer → (old.joined.items ≡ [] → new.joined.items ≡ traffic.recv_joined answer)
    → IsFed bytes from to now status before reported old new
is_fed answer bytes from to now status before reported old new none received one two three =
    let empty = none_stored old.joined.items none in Fed empty answer received one two (three empty)

-- ---- what waits

own_data : (frame : List ℕ) (payload : Payload) (given : PeerPayload) → Some given ≡ data_given frame payload → given.index ≡ None
own_data frame (Reported transport peer start end) given is = let same : given ≡ apart frame transport peer start end = Prim.cc is in ap (λ (g : PeerPayload). g.index) same
own_data frame (Report transport peer report) given is = absurd (Prim.cc is)
own_data frame (Framed number transport peer start end) given is = let same : given ≡ apart frame transport peer start end = Prim.cc is in ap (λ (g : PeerPayload). g.index) same

own_taken : (frame : List ℕ) (taken : Taken) (given : PeerPayload) → Some given ≡ data_taken frame taken → given.index ≡ None
own_taken frame (Given payload) given is = own_data frame payload given is
own_taken frame Handled given is = absurd (Prim.cc is)
own_taken frame Ignored given is = absurd (Prim.cc is)
own_taken frame Garbled given is = absurd (Prim.cc is)

own_pulled : (now : ℕ) (stream : Stream) (state : Protocol) (given : Option PeerPayload) (left : Stream) (after : Protocol) → IsPulled (IsFrameHandled now) stream state given left after → (one : PeerPayload) → given ≡ Some one → one.index ≡ None
own_pulled now _ _ _ _ _ (Ends stream state none) one is = absurd (Prim.cc is)
own_pulled now _ _ _ _ _ (Gives stream state payload after some holds) one is = own_taken (frame_of stream) holds.taken one (sym is ∙ holds.gives)
own_pulled now _ _ _ _ _ (Goes stream state middle given left after some holds more) one is = own_pulled now (after_look stream) middle given left after more one is

no_data : {A : Type 0} (given : PeerPayload) → Some given ≡ None → A
no_data given is = absurd (Prim.cc is)

-- Data of `poll_recv` is not in received bytes.
module _ (now : ℕ) (old : Protocol) (given : PeerPayload) (new : ClientState) where
  requested_owned : (control : Control) → IsStreamRequested now control old (Some given) new → given.index ≡ None
  requested_owned Datagrams is = no_data given is.0
  requested_owned (Open stream) is = own_pulled now stream old (Some given) is.left new.core is.pulled given refl
  requested_owned Closed is = no_data given is.0

  first_owned : (raw : Option Connection) (control : Control) → IsFirstGiven now raw control old (Some given) new → given.index ≡ None
  first_owned None control is = requested_owned control is
  first_owned (Some c) control is = let same : given ≡ raw_stored c = Prim.cc is.0.gives in ap (λ (g : PeerPayload). g.index) same

  by_owned : (control : Control) → IsGivenBy now control old (Some given) new → given.index ≡ None
  by_owned Datagrams is = requested_owned Datagrams is
  by_owned (Open stream) is = first_owned (raw_waiting old) (Open stream) is
  by_owned Closed is = first_owned (raw_waiting old) Closed is

pub waiting_owned : (old : ClientState) (now : ℕ) (given : PeerPayload) (new : ClientState) → IsWaitingGiven old now (Some given) new → given.index ≡ None
waiting_owned old now given new is = by_owned now old.core given new old.control is

pub waits_still : (now : ℕ) (status : ℤ) (before reported : TurnPayload) (old new : HandleState)
    → eqb (length old.joined.items) 0 ≡ false → status ≡ code.unread → new ≡ old → IsPulledReported now status before reported old new
waits_still now status before reported old new some one two = traffic.IsPulledReported.Waits (some_stored old.joined.items some) one two

pub is_pulled : {E : Type 0} (answer : Result (Option PeerPayload) E) (now : ℕ) (status : ℤ) (before reported : TurnPayload) (old new : HandleState)
    → eqb (length old.joined.items) 0 ≡ true
    → IfOk answer (λ given. IsWaitingGiven (stored_of old.client) now given (stored_of new.client))
    → OnErr answer (IsWaitingLost (stored_of old.client) now (stored_of new.client))
    → status ≡ traffic.pull_status answer → reported ≡ traffic.pull_reported before answer → (old.joined.items ≡ [] → new.joined.items ≡ traffic.pull_joined answer)
    → IsPulledReported now status before reported old new
is_pulled (Ok given) now status before reported old new none ok err one two three = let empty = none_stored old.joined.items none in Pulled empty (Ok given) ok err one two (three empty)
is_pulled (Err e) now status before reported old new none ok err one two three = let empty = none_stored old.joined.items none in Pulled empty (Err tt) ok err one two (three empty)

-- ---- what is sent

pub is_transmitted : {E : Type 0} (answer : Result (Option (Transmit Data)) E) (now : ℕ) (status : ℤ) (out filled : List ℕ) (before reported : TurnTransmit) (old new : HandleState)
    → Leaves (λ old new. IfOk answer (λ sent. IsTransmitted old now (option_map sent_of sent) new)) (stored_of old.client) (stored_of new.client)
    → OnErr answer (Leaves HasFailed (stored_of old.client) (stored_of new.client))
    → OnErr answer (HasToSend (stored_of old.client).core now) → new.joined ≡ old.joined
    → status ≡ traffic.draw_status (length out) answer → filled ≡ traffic.draw_written out answer → reported ≡ traffic.draw_reported before answer
    → IsTransmittedReported now status out filled before reported old new
is_transmitted (Ok sent) now status out filled before reported old new transmitted failed has joined one two three =
    record { answer = Ok sent; transmitted = (transmitted, joined); failed = tt; has_to_send = tt; status_is = one; filled_is = two; reported_is = three }
is_transmitted (Err e) now status out filled before reported old new transmitted failed has joined one two three =
    record { answer = Err tt; transmitted = (transmitted, joined); failed = (failed, joined); has_to_send = has; status_is = one; filled_is = two; reported_is = three }

pub is_carried : (answer : Result (Option Sent) SendError) (by : TransportType) (to : SocketAddr) (bytes : List ℕ) (now : ℕ) (status : ℤ) (out filled : List ℕ) (before reported : TurnTransmit) (old new : ClientState)
    → Leaves (λ old new. IsSendAnswered old by to bytes now answer new) old new
    → status ≡ traffic.send_status (length out) answer → filled ≡ traffic.send_written out answer → reported ≡ traffic.send_reported before answer
    → IsCarried by to bytes now status out filled before reported old new
is_carried answer by to bytes now status out filled before reported old new answered one two three =
    record { answer = answer; answered = answered; status_is = one; filled_is = two; reported_is = three }
