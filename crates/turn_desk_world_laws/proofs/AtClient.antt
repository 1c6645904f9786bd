-- What the client of a simulation returns is a step of a run.
use Rattle.std.proofs.Common.{Vec, Global, ◌≡◌, ℕ, Bool, true, false, List, [], ◌∷◌, Option, Some, None, Result, Ok, Err, is_none, refl, sym, ap, ◌∙◌, subst, inl, inr}
use Rattle.std.specs.Borrow.{Bor}
use Rattle.std.specs.Prelude.{MatchOption}
use Rattle.std.specs.declared.net.ip_addr.IpAddr.{IpAddr}
use Rattle.std.specs.declared.net.socket_addr.SocketAddr.{SocketAddr}
use Rattle.turn_desk_core.specs.StunTypesWire.Grammar.{refusal}
use Rattle.turn_desk_core.specs.StunTypesWire.Headers.{AreBytes}
use Rattle.turn_desk_core.specs.StunTypesWire.declared.error.StunParseError.{StunParseError}
use Rattle.stun_types_base.specs.declared.transmit.Transmit.{Transmit}
use Rattle.stun_types_base.specs.declared.transport.TransportType.{TransportType}
use Rattle.turn_desk_event.specs.TurnTypesFrame.ChannelFrames.{frame_at}
use Rattle.turn_desk_world.specs.TurnClientProto.Getters.{has_permission}
use Rattle.turn_desk_step_laws.specs.TurnRuns.Messages.{FromChannel, FromPeer, Held, Notice, Payload as Reported}
use Rattle.turn_desk_step_laws.specs.TurnClientProtoAllocation.Listed.{relayed_listed}
use Rattle.turn_desk_world.specs.TurnClientProtoPeers.Channel.Visible.{channels_listed}
use Rattle.turn_desk_world.specs.TurnClientProtoConnection.Visible.{connections_listed}
use Rattle.turn_client_proto_step_laws.specs.Recv.Sockets.{IsSocketAnswered}
use Rattle.turn_desk_event.specs.TurnClientProtoApi.declared.answer.Socket5Tuple.{Socket5Tuple}
use Rattle.turn_desk_event.specs.TurnClientProtoApi.declared.error.TcpAllocateError.{TcpAllocateError}
use Rattle.turn_desk_world.specs.TurnClientProtoPeers.Permission.Visible.{addresses_of, permissions_at}
use Rattle.turn_desk_event.specs.TurnClientProtoApi.Payloads.{PeerPayload}
use Rattle.turn_desk_event.specs.TurnClientProtoApi.declared.answer.TurnPollRet.TheVariants as poll
use Rattle.turn_desk_event.specs.TurnClientProtoApi.declared.answer.TurnRecvRet.{TurnRecvRet}
use Rattle.turn_desk_event.specs.TurnClientProtoApi.declared.answer.TurnRecvRet.TheVariants as recv
use Rattle.turn_desk_event.specs.TurnClientProtoApi.Sent.{sent_of}
use Rattle.turn_client_proto_step_laws.specs.Recv.Control.{Datagrams}
use Rattle.turn_client_proto_step_laws.specs.Recv.ClientState.{ClientState, Protocol, over_udp}
use Rattle.turn_desk_world.specs.TurnClientProtoPayload.Payloads.{payload_of}
use Rattle.turn_client_proto_step_laws.specs.Recv.Datagrams.{Foreign, Processed, IsDatagramTaken, IsGivenBack, IsDelivered, IsHandledAs, IsMessageTaken, IsRead, Lost, Own}
use Rattle.turn_desk_step_laws.specs.TurnRuns.Steps.{Call, ClientStep}
use Rattle.turn_desk_world.specs.TurnClientProtoPayload.declared.payload.Payload.{Payload}
use Rattle.turn_client_proto_step_laws.specs.ClientWords.{IsHeld, client_words}
use Rattle.turn_client_proto_step_laws.specs.RunClient.{Client}
use Rattle.turn_client_proto_step_laws.specs.RunSteps.{IsGiving, IsRunStep, call_of}
use Rattle.turn_client_proto_step_laws.specs.Sound.{IsSound, IsWhole}
use Rattle.turn_client_proto_step_laws.proofs.Drawing.{draw_step}
use Rattle.turn_client_proto_step_laws.proofs.Ending.{ended_step, event_step, failed_step, still}
use Rattle.turn_client_proto_step_laws.proofs.Giving.{giving_step}
use Rattle.turn_client_proto_step_laws.proofs.Polling.{poll_step}
use Rattle.turn_client_proto_step_laws.proofs.Receiving.{receive_step}
use Rattle.turn_client_proto_step_laws.proofs.Refreshing.{delete_step}
use Rattle.turn_client_proto_step_laws.proofs.Requesting.{permission_step, permissions_step}
use Rattle.turn_client_proto_step_laws.proofs.RequestingChannels.{bind_step}
use Rattle.turn_client_proto_step_laws.proofs.Connecting.{connect_step}
use Rattle.turn_client_proto_step_laws.proofs.Socketing.{close_step, socket_step}
use Rattle.turn_client_proto_step_laws.proofs.Sending.{send_step}
use Rattle.turn_desk_event.specs.declared.answer.Answer.{Answer}
use Rattle.turn_desk_event.specs.declared.answer.Answer.TheVariants as answer
use Rattle.turn_desk_event.specs.declared.answer.Refusal.TheVariants.{BindChannel as BindRefused, CreatePermission as PermissionRefused, CreatePermissions as PermissionsRefused, Delete as DeleteRefused, Send as SendRefused, TcpConnect as ConnectRefused}
use Rattle.turn_desk_event.specs.declared.event.ClientCall.{ClientCall}
use Rattle.turn_desk_event.specs.declared.event.ClientCall.TheVariants as call
use Rattle.turn_desk_event.specs.declared.event.Event.{Event}
use Rattle.turn_desk_event.specs.declared.event.Event.TheVariants as event
use Rattle.turn_desk_world.specs.Calls.{AreChannelsReported, ArePermissionsAnsweredAs, ArePermissionsReported, IsBindReported, IsCalled, IsDeleteReported, IsTransmittedAs, IsEndReported, IsEventReported, IsFed, IsHaveReported, IsPermissionReported, IsPolledAs, IsRelayedReported, IsSendReported, IsReported, IsConnectReported, AreConnectionsReported, IsClosedReported}
use Rattle.turn_desk_world_laws.specs.Reported.{IsFairEvent, arriving, bytes_transmitted, data_of, given_by, given_of, notices_in, payloads_in}
use Rattle.turn_desk_world_laws.proofs.Delivered.{delivered}
use Rattle.turn_desk_world_laws.proofs.Visible.{AreHeld, channels_held, connections_held, had_is_held, permissions_held, relayed_held}

-- What came by the event arrives, and what the result says is transmitted, reported and delivered.
abbrev pub reporting_call : Event → Client → Answer → Client → Call Client
reporting_call happening c ret after =
    record (call_of c (arriving happening) (bytes_transmitted happening ret) (notices_in ret) after) { payloads = payloads_in happening ret }

-- An event with this result.
pub record IsAnswered (happening : Event) (c : Client) (ret : Answer) (core : Protocol) : Type 0 where
  pub after : Client
  pub core_is : after.core ≡ core
  pub waits : after.waiting ≡ c.waiting
  pub step : ClientStep client_words (reporting_call happening c ret after)
  pub sound : IsSound after
  pub shows : AreHeld happening ret core

-- ---- a call

module _ (what : ClientCall) (c : Client) (sound : IsSound c) (now : ℕ) (new : Protocol) where
  abbrev happening : Event
  happening = event.Call what now

  -- Nothing arrives, and nothing is transmitted or delivered.
  by_call : (ret : Answer) → IsRunStep c [] None (notices_in ret) new → AreHeld happening ret new → IsAnswered happening c ret new
  by_call ret is shows = record { after = is.after; core_is = is.core_is; waits = is.waits; step = is.step; sound = is.sound; shows = shows }

  polled : (ret : Answer) → IsPolledAs ret c.core now new → IsAnswered happening c ret new
  polled (answer.Wait time) is = by_call (answer.Wait time) (poll_step c now (poll.WaitUntil time) new sound is) (λ h i. absurd i)
  polled (answer.Socket id socket peer) is = by_call (answer.Socket id socket peer) (poll_step c now (poll.AllocateTcpSocket id socket peer) new sound is) (λ h i. absurd i)
  polled (answer.Close local remote) is = by_call (answer.Close local remote) (poll_step c now (poll.TcpClose local remote) new sound is) (λ h i. absurd i)
  polled answer.Closed is = by_call answer.Closed (poll_step c now poll.Closed new sound is) (λ h i. absurd i)
  polled _ is = absurd is

  event_reported : (ret : Answer) → IsEventReported ret c.core new → IsAnswered happening c ret new
  event_reported (answer.Event event) is = by_call (answer.Event event) (event_step c (Some event) new sound is.0 is.1) (λ h i. absurd i)
  event_reported answer.Nothing is = by_call answer.Nothing (still c [] new sound is.1) (λ h i. absurd i)
  event_reported _ is = absurd is

  delete_reported : (ret : Answer) → IsDeleteReported ret c.core now new → IsAnswered happening c ret new
  delete_reported answer.Done is = by_call answer.Done (delete_step c now (Ok tt) new sound is) (λ h i. absurd i)
  delete_reported (answer.Refused (DeleteRefused error)) is = by_call (answer.Refused (DeleteRefused error)) (delete_step c now (Err error) new sound is.0) (λ h i. absurd i)
  delete_reported _ is = absurd is

  permission_reported : (transport : TransportType) (ip : IpAddr) (ret : Answer) → IsPermissionReported ret transport ip c.core now new → IsAnswered happening c ret new
  permission_reported transport ip answer.Done is = by_call answer.Done (permission_step c transport ip now (Ok tt) new sound is) (λ h i. absurd i)
  permission_reported transport ip (answer.Refused (PermissionRefused error)) is = by_call (answer.Refused (PermissionRefused error)) (permission_step c transport ip now (Err error) new sound is.0) (λ h i. absurd i)
  permission_reported transport ip _ is = absurd is

  permissions_answered : (transport : TransportType) (ips : List IpAddr) (ret : Answer) → ArePermissionsAnsweredAs ret transport ips c.core now new → IsAnswered happening c ret new
  permissions_answered transport ips answer.Done is = by_call answer.Done (permissions_step c transport ips now (Ok tt) new sound is) (λ h i. absurd i)
  permissions_answered transport ips (answer.Refused (PermissionsRefused error)) is = by_call (answer.Refused (PermissionsRefused error)) (permissions_step c transport ips now (Err error) new sound is.0) (λ h i. absurd i)
  permissions_answered transport ips _ is = absurd is

  bind_reported : (transport : TransportType) (peer : SocketAddr) → IsWhole peer → (ret : Answer) → IsBindReported ret transport peer c.core now new → IsAnswered happening c ret new
  bind_reported transport peer whole answer.Done is = by_call answer.Done (bind_step c transport peer now whole (Ok tt) new sound is) (λ h i. absurd i)
  bind_reported transport peer whole (answer.Refused (BindRefused error)) is = by_call (answer.Refused (BindRefused error)) (bind_step c transport peer now whole (Err error) new sound is.0) (λ h i. absurd i)
  bind_reported transport peer whole _ is = absurd is

  connect_reported : (peer : SocketAddr) → IsWhole peer → (ret : Answer) → IsConnectReported ret peer c.core now new → IsAnswered happening c ret new
  connect_reported peer whole answer.Done is = by_call answer.Done (connect_step c peer now whole (Ok tt) new sound is) (λ h i. absurd i)
  connect_reported peer whole (answer.Refused (ConnectRefused error)) is = by_call (answer.Refused (ConnectRefused error)) (connect_step c peer now whole (Err error) new sound is.0) (λ h i. absurd i)
  connect_reported peer whole _ is = absurd is

  channels_reported : (ret : Answer) → AreChannelsReported ret c.core new → IsAnswered happening c ret new
  channels_reported (answer.Channels list) is =
      by_call (answer.Channels list) (still c [] new sound is.1) (channels_held new list.items (is.0 ∙ ap (λ (p : Protocol). channels_listed p.allocations) (sym is.1)))
  channels_reported _ is = absurd is

  closed_reported : (here there : SocketAddr) (ret : Answer) → IsClosedReported ret here there c.core new → IsAnswered happening c ret new
  closed_reported here there answer.Done is = by_call answer.Done (close_step c here there new sound is) (λ h i. absurd i)
  closed_reported here there _ is = absurd is

  connections_reported : (ret : Answer) → AreConnectionsReported ret c.core new → IsAnswered happening c ret new
  connections_reported (answer.Connections list) is =
      by_call (answer.Connections list) (still c [] new sound is.1) (connections_held new list.items (is.0 ∙ ap (λ (p : Protocol). connections_listed p.allocations) (sym is.1)))
  connections_reported _ is = absurd is

  -- What carries bytes to a peer is written for the user, and does not count as transmitted.
  send_reported : (transport : TransportType) (to : SocketAddr) (bytes : List ℕ) (ret : Answer) → IsSendReported ret transport to bytes c.core now new → IsAnswered happening c ret new
  send_reported transport to bytes (answer.Transmit transmit) is = by_call (answer.Transmit transmit) (send_step c transport to bytes now (Ok (Some (sent_of transmit))) new sound is) (λ h i. absurd i)
  send_reported transport to bytes (answer.Refused (SendRefused error)) is = by_call (answer.Refused (SendRefused error)) (send_step c transport to bytes now (Err error) new sound is.0) (λ h i. absurd i)
  send_reported transport to bytes _ is = absurd is

  end_reported : (ret : Answer) → IsEndReported ret c.core new → IsAnswered happening c ret new
  end_reported answer.Done is = by_call answer.Done (subst (λ (p : Protocol). IsRunStep c [] None [] p) (sym is) (ended_step c sound)) (λ h i. absurd i)
  end_reported _ is = absurd is

  relayed_reported : (ret : Answer) → IsRelayedReported ret c.core new → IsAnswered happening c ret new
  relayed_reported (answer.Relayed list) is =
      by_call (answer.Relayed list) (still c [] new sound is.1) (relayed_held new list.items (is.0 ∙ ap (λ (p : Protocol). relayed_listed p.allocations) (sym is.1)))
  relayed_reported _ is = absurd is

module _ (c : Client) (sound : IsSound c) (now : ℕ) (new : Protocol) where
  permissions_reported : (transport : TransportType) (relayed : SocketAddr) (ret : Answer) → ArePermissionsReported ret transport relayed c.core new → IsAnswered (event.Call (call.Permissions transport relayed) now) c ret new
  permissions_reported transport relayed (answer.Permissions list) is =
      by_call (call.Permissions transport relayed) c sound now new (answer.Permissions list) (still c [] new sound is.1)
      (permissions_held new transport relayed list.items (is.0 ∙ ap (λ (p : Protocol). addresses_of (permissions_at transport relayed p.allocations)) (sym is.1)))
  permissions_reported transport relayed _ is = absurd is

  have_listed : (transport : TransportType) (ip : IpAddr) (has : Bool) → has ≡ has_permission transport ip new → AreHeld (event.Call (call.HavePermission transport ip) now) (answer.Have has) new
  have_listed transport ip true is = λ h i. elim i [
    | inl same ↦ subst (λ (x : Held). IsHeld new.allocations x) same (had_is_held new transport ip (sym is))
    | inr none ↦ absurd none
  ]
  have_listed transport ip false is = λ h i. absurd i

  have_reported : (transport : TransportType) (ip : IpAddr) (ret : Answer) → IsHaveReported ret transport ip c.core new → IsAnswered (event.Call (call.HavePermission transport ip) now) c ret new
  have_reported transport ip (answer.Have has) is =
      by_call (call.HavePermission transport ip) c sound now new (answer.Have has) (still c [] new sound is.1)
      (have_listed transport ip has (is.0 ∙ ap (λ (p : Protocol). has_permission transport ip p) (sym is.1)))
  have_reported transport ip _ is = absurd is

  pub called : (what : ClientCall) (ret : Answer) → IsFairEvent (event.Call what now) → IsCalled what ret c.core now new → IsAnswered (event.Call what now) c ret new
  unfolding IsCalled
  called call.Poll ret fair is = polled call.Poll c sound now new ret is
  called call.PollEvent ret fair is = event_reported call.PollEvent c sound now new ret is
  called call.Delete ret fair is = delete_reported call.Delete c sound now new ret is
  called (call.CreatePermission transport ip) ret fair is = permission_reported (call.CreatePermission transport ip) c sound now new transport ip ret is
  called (call.CreatePermissions transport ips) ret fair is = permissions_answered (call.CreatePermissions transport ips) c sound now new transport ips.items ret is
  called (call.HavePermission transport ip) ret fair is = have_reported transport ip ret is
  called (call.Permissions transport relayed) ret fair is = permissions_reported transport relayed ret is
  called (call.BindChannel transport peer) ret fair is = bind_reported (call.BindChannel transport peer) c sound now new transport peer fair ret is
  called (call.TcpConnect peer) ret fair is = connect_reported (call.TcpConnect peer) c sound now new peer fair ret is
  called (call.AllocatedTcpSocket id peer here) ret fair is = absurd is
  called (call.TcpClosed here there) ret fair is = closed_reported (call.TcpClosed here there) c sound now new here there ret is
  called call.Connections ret fair is = connections_reported call.Connections c sound now new ret is
  called call.Channels ret fair is = channels_reported call.Channels c sound now new ret is
  called (call.SendTo transport to bytes) ret fair is = send_reported (call.SendTo transport to bytes) c sound now new transport to bytes.items ret is
  called call.PollRecv ret fair is = absurd is
  called call.ProtocolError ret fair is = end_reported call.ProtocolError c sound now new ret is
  called call.RelayedAddresses ret fair is = relayed_reported call.RelayedAddresses c sound now new ret is

  -- A socket was given, whether the stream of the client's own connection stays or not.
  pub socket_reported : (connection : ℕ) (s : Socket5Tuple) (peer : SocketAddr) (here : Option SocketAddr) (ret : Answer) (answered : Result (Unit {0}) TcpAllocateError) → IsSocketAnswered c.core connection s peer here now answered new
      → notices_in ret ≡ [] → AreHeld (event.Call (call.AllocatedTcpSocket connection peer here) now) ret new → IsAnswered (event.Call (call.AllocatedTcpSocket connection peer here) now) c ret new
  socket_reported connection s peer here ret answered is decodes shows =
      by_call (call.AllocatedTcpSocket connection peer here) c sound now new ret
      (subst (λ (l : List Notice). IsRunStep c [] None l new) (sym decodes) (socket_step c connection s peer here now answered new sound is)) shows

  -- ---- what is sent

  by_draw : (ret : Answer) → IsRunStep c [] (bytes_transmitted (event.Draw now) ret) (notices_in ret) new → AreHeld (event.Draw now) ret new → IsAnswered (event.Draw now) c ret new
  by_draw ret is shows = record { after = is.after; core_is = is.core_is; waits = is.waits; step = is.step; sound = is.sound; shows = shows }

  pub transmitted : (ret : Answer) → IsTransmittedAs ret c.core now new → IsAnswered (event.Draw now) c ret new
  unfolding IsTransmittedAs
  transmitted (answer.Transmit transmit) is = by_draw (answer.Transmit transmit) (draw_step c now (Some (sent_of transmit)) new sound is) (λ h i. absurd i)
  transmitted answer.Nothing is = by_draw answer.Nothing (draw_step c now None new sound is) (λ h i. absurd i)
  transmitted _ is = absurd is

-- ---- what came

-- Bytes came that gave nothing.
none_given : (c : Client) (bytes : List ℕ) (new : Protocol) → IsRunStep c (bytes ∷ []) None [] new → IsGiving c bytes [] new
none_given c bytes new is = record { after = is.after; core_is = is.core_is; waits = is.waits; step = is.step; sound = is.sound }

handled_as : {T : Type 0} (bytes : List ℕ) (came : Transmit T) (handled : Bool) (took : TurnRecvRet T) → IsHandledAs came handled took → given_by bytes took ≡ []
handled_as bytes came true took is = ap (given_by bytes) is
handled_as bytes came false took is = ap (given_by bytes) is

module _ {T : Type 0} (items : T → List ℕ) (c : Client) (sound : IsSound c) (came : Transmit T) (now : ℕ) (took : TurnRecvRet T) (new : Protocol) where
  abbrev arrived : List ℕ
  arrived = items came.bytes

  abbrev Gives : Type 0
  Gives = IsGiving c arrived (given_by arrived took) new

  nothing : given_by arrived took ≡ [] → IsRunStep c (arrived ∷ []) None [] new → Gives
  nothing none is = subst (λ (l : List Reported). IsGiving c arrived l new) (sym none) (none_given c arrived new is)

  given_back : IsGivenBack c.core came took new → Gives
  given_back is = nothing (ap (given_by arrived) is.0) (still c (arrived ∷ []) new sound is.1)

  message_taken : AreBytes arrived → refusal arrived ≡ None → IsMessageTaken c.core arrived came now took new → Gives
  message_taken are_bytes message (Processed handled processed is) = nothing (handled_as arrived came handled took is) (receive_step c arrived now handled new sound are_bytes message processed)
  message_taken are_bytes message (Lost is grows failed) = nothing (ap (given_by arrived) is) (failed_step c new failed (arrived ∷ []))

  read : (refused : Option StunParseError) → refusal arrived ≡ refused → AreBytes arrived → IsRead refused c.core arrived came now took new → Gives
  read None message are_bytes is = message_taken are_bytes message is
  read (Some error) message are_bytes is = given_back is

  taken : (given : Option Payload) → payload_of c.core arrived ≡ given → AreBytes arrived
      → MatchOption given (IsRead (refusal arrived) c.core arrived came now took new) (λ payload. IsDelivered items came payload took × (new ≡ c.core)) → Gives
  taken None gives are_bytes is = read (refusal arrived) refl are_bytes is
  taken (Some payload) gives are_bytes is =
      subst (λ (p : Protocol). IsGiving c arrived (given_by arrived took) p) (sym is.1)
      (subst (λ (l : List Reported). IsGiving c arrived l c.core) (sym (delivered items c.core came payload took gives is.0)) (giving_step c arrived payload sound gives))

  pub received : AreBytes arrived → IsDatagramTaken items c.core came now took new → Gives
  received are_bytes (Own of_server is) = taken (payload_of c.core arrived) refl are_bytes is
  received are_bytes (Foreign other is) = given_back is

-- Owned or borrowed, the data are the same.
same_data : (is_message : Bool) (bytes : List ℕ) (held owned : PeerPayload) → owned ≡ record held { index = None } → data_of is_message bytes held ≡ data_of is_message bytes owned
same_data true bytes held owned is = ap (λ (g : PeerPayload). FromPeer g.transport g.peer g.payload) (sym is)
same_data false bytes held owned is = ap (λ (g : PeerPayload). FromChannel (frame_at bytes).id g.peer g.payload) (sym is)

-- The result for these bytes says what was given, and nothing else.
pub record IsReportedOf (bytes : List ℕ) (took : TurnRecvRet (Bor (List ℕ))) (ret : Answer) : Type 0 where
  pub hands : given_by bytes took ≡ given_of bytes ret
  pub decodes : notices_in ret ≡ []
  pub shows : (happening : Event) (core : Protocol) → AreHeld happening ret core

pub reported_of_it : (bytes : List ℕ) (took : TurnRecvRet (Bor (List ℕ))) (ret : Answer) → IsReported took ret → IsReportedOf bytes took ret
reported_of_it bytes recv.Handled answer.Handled is = record { hands = refl; decodes = refl; shows = λ happening core h i. absurd i }
reported_of_it bytes (recv.Ignored came) answer.Ignored is = record { hands = refl; decodes = refl; shows = λ happening core h i. absurd i }
reported_of_it bytes (recv.PeerData held) (answer.Peer owned) is = record {
  hands = ap (λ (p : Reported). p ∷ []) (same_data (is_none (refusal bytes)) bytes held owned is);
  decodes = refl;
  shows = λ happening core h i. absurd i;
}
reported_of_it bytes (recv.PeerIcmp t p k c d) (answer.Icmp transport peer kind code report) is = record {
  hands = cc;
  decodes = refl;
  shows = λ happening core h i. absurd i;
}
reported_of_it bytes recv.Handled _ is = absurd is
reported_of_it bytes (recv.Ignored came) _ is = absurd is
reported_of_it bytes (recv.PeerData held) _ is = absurd is
reported_of_it bytes (recv.PeerIcmp t p k c d) _ is = absurd is
reported_of_it bytes _ ret is = absurd is

pub fed : (c : Client) (sound : IsSound c) (ret : Answer) (bytes : Vec ℕ Global) (from to : SocketAddr) (now : ℕ) (new : ClientState) → IsFed ret (over_udp c.core) bytes.items from to now new
    → (new.control ≡ Datagrams) × IsAnswered (event.ToClient bytes from to now) c ret new.core
fed c sound ret bytes from to now new is =
    let came_bytes : AreBytes is.came.bytes.now = subst AreBytes (sym is.bytes_are) is.are_bytes in
    let up = received (λ (b : Bor (List ℕ)). b.now) c sound is.came now is.took new.core came_bytes is.received.0 in
    let gives : IsGiving c bytes.items (given_by bytes.items is.took) new.core = subst (λ (b : List ℕ). IsGiving c b (given_by b is.took) new.core) is.bytes_are up in
    let reported = reported_of_it bytes.items is.took ret is.reported in
    let step = subst (λ (l : List Reported). IsGiving c bytes.items l new.core) reported.hands gives in (
      is.received.1,
      record {
        after = step.after;
        core_is = step.core_is;
        waits = step.waits;
        step = subst (λ (l : List Notice). ClientStep client_words (record (call_of c (bytes.items ∷ []) None l step.after) { payloads = given_of bytes.items ret })) (sym reported.decodes) step.step;
        sound = step.sound;
        shows = reported.shows (event.ToClient bytes from to now) new.core;
      },
    )

-- ---- nothing happens

-- An event of the client that does nothing.
pub nothing_done : (happening : Event) (c : Client) (new : Protocol) → IsSound c → new ≡ c.core → IsAnswered happening c answer.OutOfRange new
nothing_done happening c new sound is = by (still c (arriving happening) new sound is)
  where
    transmitted_none : (happening : Event) → None ≡ bytes_transmitted happening answer.OutOfRange
    transmitted_none (event.Call what now) = refl
    transmitted_none (event.Draw now) = refl
    transmitted_none (event.ToClient bytes from to now) = refl
    transmitted_none (event.ToDesk bytes from now decision seed) = refl

    delivered_none : (happening : Event) → [] ≡ payloads_in happening answer.OutOfRange
    delivered_none (event.Call what now) = refl
    delivered_none (event.Draw now) = refl
    delivered_none (event.ToClient bytes from to now) = refl
    delivered_none (event.ToDesk bytes from now decision seed) = refl

    by : IsRunStep c (arriving happening) None [] new → IsAnswered happening c answer.OutOfRange new
    by step = record {
      after = step.after;
      core_is = step.core_is;
      waits = step.waits;
      step = subst (λ (l : List Reported). ClientStep client_words (record (call_of c (arriving happening) (bytes_transmitted happening answer.OutOfRange) [] step.after) { payloads = l })) (delivered_none happening)
          (subst (λ (o : Option (List ℕ)). ClientStep client_words (call_of c (arriving happening) o [] step.after)) (transmitted_none happening) step.step);
      sound = step.sound;
      shows = λ h i. absurd i;
    }
