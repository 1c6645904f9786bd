-- What an event of a simulation is for its client, after an honest run.
use Rattle.std.proofs.Common.{◌≡◌, ◌≢◌, ℕ, ◌≤◌, List, Option, Some, None, refl, sym, ap, ◌∙◌, subst, ◌⊎◌, inl, inr}
use Rattle.std.specs.Prelude.{if◌then◌else◌, Result, Ok, Err}
use Rattle.std.specs.declared.net.ip_addr.IpAddr.{IpAddr}
use Rattle.std.specs.declared.net.socket_addr.SocketAddr.{SocketAddr}
use Rattle.turn_desk_core.specs.StunTypesBase.declared.transport.TransportType.{TransportType}
use Rattle.turn_client_proto_api.specs.declared.answer.TurnPollRet.{TurnPollRet}
use Rattle.turn_client_proto_api.specs.declared.answer.TurnPollRet.TheVariants as poll
use Rattle.turn_client_proto_api.specs.declared.error.BindChannelError.{BindChannelError}
use Rattle.turn_client_proto_api.specs.declared.error.BindChannelError.TheVariants as not_bound
use Rattle.turn_client_proto_api.specs.declared.error.CreatePermissionError.{CreatePermissionError}
use Rattle.turn_client_proto_api.specs.declared.error.CreatePermissionError.TheVariants as not_permitted
use Rattle.turn_client_proto_api.specs.declared.event.TurnEvent.{TurnEvent}
use Rattle.turn_client_proto_step_laws.specs.Timers.Drawing.{IsTransmitted}
use Rattle.turn_client_proto_api.specs.Sent.{Sent, sent_of}
use Rattle.turn_client_proto_handshake_laws.specs.Driving.{IsEventTaken}
use Rattle.turn_client_proto_step_laws.specs.Timers.Polling.{IsPolled}
use Rattle.turn_client_proto_handshake_laws.specs.Sent.{Beginning}
use Rattle.turn_client_proto_handshake_laws.specs.Core.Binding.{IsBindAnswered}
use Rattle.turn_desk_world_laws.specs.TurnClientProto.SocketsReported.{replaced, takes_place}
use Rattle.turn_client_proto_api.specs.declared.error.TcpAllocateError.{TcpAllocateError}
use Rattle.turn_client_proto_api.specs.Payloads.{PeerPayload}
use Rattle.turn_client_proto_step_laws.specs.Recv.Receipts.{IsWaitingGiven}
use Rattle.turn_client_proto_progress_laws.specs.Asking.{HasMadeRequest, Wanted}
use Rattle.turn_client_proto_progress_laws.specs.Speaking.{Speaks}
use Rattle.turn_client_proto_progress_laws.proofs.Asking.Between as requested
use Rattle.turn_client_proto_progress_laws.proofs.Asking.Others as others
use Rattle.turn_client_proto_progress_laws.proofs.Asking.Speaking as speaking
use Rattle.turn_client_proto_handshake_laws.specs.Core.Permitting.{IsPermissionAnswered}
use Rattle.turn_desk_world_laws.specs.World.Calls.{AreChannelsReported, AreConnectionsReported, ArePermissionsAnsweredAs, ArePermissionsReported, IsBindReported, IsCallReported, IsCalled, IsClosedReported, IsConnectReported, IsDeleteReported, IsTransmittedAs, IsEndReported, IsEventReported, IsHaveReported, IsPermissionReported, IsPolledAs, IsRelayedReported, IsSendReported, IsSocketTaken, IsWaitingReported, own_tuple}
use Rattle.turn_client_proto_step_laws.specs.Recv.Control.{Control}
use Rattle.turn_client_proto_step_laws.specs.Recv.ClientState.{ClientState, Protocol}
use Rattle.turn_desk_world_laws.specs.World.Model.{World}
use Rattle.turn_desk_world_laws.specs.World.Runs.{IsOfClient, IsStep}
use Rattle.turn_desk_event.specs.declared.answer.Answer.{Answer}
use Rattle.turn_desk_event.specs.declared.answer.Answer.TheVariants as answer
use Rattle.turn_desk_event.specs.declared.answer.Refusal.TheVariants.{BindChannel as BindRefused, CreatePermission as PermissionRefused, CreatePermissions as PermissionsRefused, Delete as DeleteRefused, Send as SendRefused, TcpAllocate as SocketRefused, TcpConnect as ConnectRefused}
use Rattle.turn_desk_event.specs.declared.event.ClientCall.{ClientCall}
use Rattle.turn_desk_event.specs.declared.event.ClientCall.TheVariants as call
use Rattle.turn_desk_event.specs.declared.event.Event.TheVariants.{Call, Draw}
use Rattle.turn_desk_progress_laws.specs.Promises.{over}
use Rattle.turn_desk_progress_laws.specs.Scripts.{IsLook}
use Rattle.turn_desk_progress_laws.proofs.Clients.{IsLooked, Took, Still, done, looks, stays}
use Rattle.turn_desk_progress_laws.specs.Asking.{IsOwnCall}

-- What a client's own call, or `poll_transmit`, makes of its core at a time.
pub data IsActed (p : Protocol) (at : ℕ) (q : Protocol) : Type 0 where
  Nothing : q ≡ p → IsActed p at q
  Reported : (event : Option TurnEvent) → IsEventTaken p event q → IsActed p at q
  Polled : (r : TurnPollRet) → r ≢ poll.NoMemory → IsPolled p at r q → IsActed p at q
  Permitted : (transport : TransportType) (ip : IpAddr) (r : Result (Unit {0}) CreatePermissionError) → r ≢ Err not_permitted.NoMemory → IsPermissionAnswered p transport ip at r q → IsActed p at q
  Bound : (transport : TransportType) (peer : SocketAddr) (r : Result (Unit {0}) BindChannelError) → r ≢ Err not_bound.NoMemory → IsBindAnswered p transport peer at r q → IsActed p at q
  Transmitted : (sent : Option Sent) → IsTransmitted p at sent q → IsActed p at q

pub record IsActedOn (c : Control) (p : Protocol) (at : ℕ) (w v : World) : Type 0 where
  pub core : Protocol
  pub there : v.client ≡ Some (over c core)
  pub acted : IsActed p at core
  pub of : IsOfClient w v

-- ---- a call

pub looked_as : (p q : Protocol) (at : ℕ) (ret : Answer) → IsLooked p ret q → IsActed p at q
looked_as p q at ret (Took event taken said) = Reported event taken
looked_as p q at ret (Still same said) = Nothing same

permission_as : (transport : TransportType) (ip : IpAddr) (p q : Protocol) (at : ℕ) (ret : Answer) → IsPermissionReported ret transport ip p at q → IsActed p at q
permission_as transport ip p q at answer.Done is = Permitted transport ip (Ok tt) (λ e. Prim.cc e) is
permission_as transport ip p q at (answer.Refused (PermissionRefused error)) is = Permitted transport ip (Err error) (λ e. is.1 (Prim.cc e)) is.0
permission_as transport ip p q at _ is = absurd is

bound_as : (transport : TransportType) (peer : SocketAddr) (p q : Protocol) (at : ℕ) (ret : Answer) → IsBindReported ret transport peer p at q → IsActed p at q
bound_as transport peer p q at answer.Done is = Bound transport peer (Ok tt) (λ e. Prim.cc e) is
bound_as transport peer p q at (answer.Refused (BindRefused error)) is = Bound transport peer (Err error) (λ e. is.1 (Prim.cc e)) is.0
bound_as transport peer p q at _ is = absurd is

polled_as : (p q : Protocol) (at : ℕ) (ret : Answer) → IsPolledAs ret p at q → IsActed p at q
polled_as p q at (answer.Wait time) is = Polled (poll.WaitUntil time) (λ e. Prim.cc e) is
polled_as p q at (answer.Socket id socket peer) is = Polled (poll.AllocateTcpSocket id socket peer) (λ e. Prim.cc e) is
polled_as p q at (answer.Close local remote) is = Polled (poll.TcpClose local remote) (λ e. Prim.cc e) is
polled_as p q at answer.Closed is = Polled poll.Closed (λ e. Prim.cc e) is
polled_as p q at _ is = absurd is

-- For these calls alone.
other_reported : (c : Control) (what : ClientCall) (p : Protocol) (q : ClientState) (at : ℕ) (ret : Answer) → IsOwnCall what → IsCallReported what ret (over c p) at q → (IsActed p at q.core × (q.control ≡ c)) ⊎ IsLook what
unfolding IsCallReported IsCalled
other_reported c call.Poll p q at ret own is = inl (polled_as p q.core at ret is.0, is.1)
other_reported c (call.CreatePermission transport ip) p q at ret own is = inl (permission_as transport ip p q.core at ret is.0, is.1)
other_reported c (call.BindChannel transport peer) p q at ret own is = inl (bound_as transport peer p q.core at ret is.0, is.1)
other_reported c _ p q at ret own is = inr own

pub calls : (c : Control) (w v : World) (p : Protocol) (what : ClientCall) (at : ℕ) (ret : Answer) → w.client ≡ Some (over c p) → IsOwnCall what → IsStep (Call what at) w ret v → IsActedOn c p at w v
calls c w v p what at ret there own step =
    let d = done c at _ p w.client v.client ret there step.0 in
    elim d.outcome [
      | inl does ↦ elim (other_reported c what p d.after at ret own does.1) [
        | inl is ↦ record { core = d.after.core; there = d.there ∙ ap Some (stays c d.after is.1); acted = is.0; of = step.1 }
        | inr look ↦ (let l = looks c w v p what at ret there look step in record { core = l.core; there = l.there; acted = looked_as p l.core at ret l.looked; of = l.of })
      ]
      | inr out ↦ record { core = p; there = d.there ∙ ap Some out.1; acted = Nothing refl; of = step.1 }
    ]

-- ---- a draw

transmitted_as : (p q : Protocol) (at : ℕ) (ret : Answer) → IsTransmittedAs ret p at q → IsActed p at q
unfolding IsTransmittedAs
transmitted_as p q at (answer.Transmit sent) is = Transmitted (Some (sent_of sent)) is
transmitted_as p q at answer.Nothing is = Transmitted None is
transmitted_as p q at _ is = absurd is

pub draws : (c : Control) (w v : World) (p : Protocol) (at : ℕ) (ret : Answer) → w.client ≡ Some (over c p) → IsStep (Draw at) w ret v → IsActedOn c p at w v
draws c w v p at ret there step =
    let d = done c at _ p w.client v.client ret there step.0 in
    elim d.outcome [
      | inl does ↦ record { core = d.after.core; there = d.there ∙ ap Some (stays c d.after does.1.1); acted = transmitted_as p d.after.core at ret does.1.0; of = step.1 }
      | inr out ↦ record { core = p; there = d.there ∙ ap Some out.1; acted = Nothing refl; of = step.1 }
    ]

-- ---- what a client is once it was called or transmitted

pub acted_speaks : (b : Beginning) (realm : List ℕ) (address : SocketAddr) (p q : Protocol) (at : ℕ) → Speaks b realm address p → IsActed p at q → Speaks b realm address q
acted_speaks b realm address p q at is (Nothing same) = speaking.unchanged b realm address p is q same
acted_speaks b realm address p q at is (Reported event taken) = speaking.reported_speaks b realm address p is event q taken
acted_speaks b realm address p q at is (Polled r ample polled) = speaking.polled_speaks b realm address p is at r q ample polled
acted_speaks b realm address p q at is (Permitted transport ip r ample made) = speaking.permission_speaks b realm address p is transport ip at r q ample made
acted_speaks b realm address p q at is (Bound transport peer r ample made) = speaking.bind_speaks b realm address p is transport peer at r q ample made
acted_speaks b realm address p q at is (Transmitted sent transmitted) = speaking.transmitted_speaks b realm address p is at sent q transmitted

pub acted_asks : (b : Beginning) (realm : List ℕ) (address : SocketAddr) (wanted : Wanted) (request : List ℕ) (until beyond : ℕ) (Counts : ℕ → Type 0) (p q : Protocol) (at : ℕ) → at ≤ until → at ≤ beyond → HasMadeRequest b realm address wanted request until beyond Counts p → IsActed p at q
    → HasMadeRequest b realm address wanted request until beyond Counts q
acted_asks b realm address wanted request until beyond Counts p q at early before is (Nothing same) = subst (λ (x : Protocol). HasMadeRequest b realm address wanted request until beyond Counts x) (sym same) is
acted_asks b realm address wanted request until beyond Counts p q at early before is (Reported event taken) = requested.reported_so b realm address wanted request until beyond Counts p is event q taken
acted_asks b realm address wanted request until beyond Counts p q at early before is (Polled r ample polled) = requested.polled_so b realm address wanted request until beyond Counts p is at early before r q ample polled
acted_asks b realm address wanted request until beyond Counts p q at early before is (Permitted transport ip r ample made) = requested.permission_so b realm address wanted request until beyond Counts p is at early before transport ip r q ample made
acted_asks b realm address wanted request until beyond Counts p q at early before is (Bound transport peer r ample made) = requested.bind_so b realm address wanted request until beyond Counts p is at early before transport peer r q ample made
acted_asks b realm address wanted request until beyond Counts p q at early before is (Transmitted sent transmitted) = requested.generated_so b realm address wanted request until beyond Counts p is at sent q transmitted

-- ---- what is reported of other calls

module _ (p q : Protocol) (b : Beginning) (realm : List ℕ) (address : SocketAddr) (speaks : Speaks b realm address p) where
  abbrev After : Type 0
  After = Speaks b realm address q

  same_so : q ≡ p → After
  same_so same = speaking.unchanged b realm address p speaks q same

  delete_so : (ret : Answer) (at : ℕ) → IsDeleteReported ret p at q → After
  delete_so answer.Done at is = others.delete_speaks b realm address p speaks at (Ok tt) q (λ e. Prim.cc e) is
  delete_so (answer.Refused (DeleteRefused error)) at is = others.delete_speaks b realm address p speaks at (Err error) q (λ e. is.1 (Prim.cc e)) is.0
  delete_so _ at is = absurd is

  several_so : (ret : Answer) (transport : TransportType) (ips : List IpAddr) (at : ℕ) → ArePermissionsAnsweredAs ret transport ips p at q → After
  several_so answer.Done transport ips at is = speaking.permissions_speak b realm address p speaks transport ips at (Ok tt) q (λ e. Prim.cc e) is
  several_so (answer.Refused (PermissionsRefused error)) transport ips at is = speaking.permissions_speak b realm address p speaks transport ips at (Err error) q (λ e. is.1 (Prim.cc e)) is.0
  several_so _ transport ips at is = absurd is

  have_so : (ret : Answer) (transport : TransportType) (ip : IpAddr) → IsHaveReported ret transport ip p q → After
  have_so (answer.Have has) transport ip is = same_so is.1
  have_so _ transport ip is = absurd is

  permissions_so : (ret : Answer) (transport : TransportType) (relayed : SocketAddr) → ArePermissionsReported ret transport relayed p q → After
  permissions_so (answer.Permissions list) transport relayed is = same_so is.1
  permissions_so _ transport relayed is = absurd is

  channels_so : (ret : Answer) → AreChannelsReported ret p q → After
  channels_so (answer.Channels list) is = same_so is.1
  channels_so _ is = absurd is

  connections_so : (ret : Answer) → AreConnectionsReported ret p q → After
  connections_so (answer.Connections list) is = same_so is.1
  connections_so _ is = absurd is

  relayed_so : (ret : Answer) → IsRelayedReported ret p q → After
  relayed_so (answer.Relayed list) is = same_so is.1
  relayed_so _ is = absurd is

  send_so : (ret : Answer) (transport : TransportType) (to : SocketAddr) (bytes : List ℕ) (at : ℕ) → IsSendReported ret transport to bytes p at q → After
  send_so (answer.Transmit transmit) transport to bytes at is = others.send_speaks b realm address p speaks transport to bytes at (Ok (Some (sent_of transmit))) q is
  send_so (answer.Refused (SendRefused error)) transport to bytes at is = others.send_speaks b realm address p speaks transport to bytes at (Err error) q is.0
  send_so _ transport to bytes at is = absurd is

  end_so : (ret : Answer) → IsEndReported ret p q → After
  end_so answer.Done is = subst (λ (x : Protocol). Speaks b realm address x) (sym is) (others.end_speaks b realm address p speaks)
  end_so _ is = absurd is

  connect_so : (ret : Answer) (peer : SocketAddr) (at : ℕ) → IsConnectReported ret peer p at q → After
  connect_so answer.Done peer at is = others.connect_speaks b realm address p speaks peer at (Ok tt) q (λ e. Prim.cc e) is
  connect_so (answer.Refused (ConnectRefused error)) peer at is = others.connect_speaks b realm address p speaks peer at (Err error) q (λ e. is.1 (Prim.cc e)) is.0
  connect_so _ peer at is = absurd is

  closed_so : (ret : Answer) (here there : SocketAddr) → IsClosedReported ret here there p q → After
  closed_so answer.Done here there is = subst (λ (x : Protocol). Speaks b realm address x) (sym is) (others.close_speaks b realm address p speaks here there)
  closed_so _ here there is = absurd is

event_as : (p q : Protocol) (at : ℕ) (ret : Answer) → IsEventReported ret p q → IsActed p at q
event_as p q at (answer.Event event) is = Reported (Some event) (record { first = is.0; none = tt; others = is.1 })
event_as p q at answer.Nothing is = Nothing is.1
event_as p q at _ is = absurd is

-- How bytes come doesn't change when a socket is given.
abbrev pub SocketStays : Control → Protocol → ClientCall → Type 0
SocketStays c p (call.AllocatedTcpSocket connection peer here) = (r : Result (Unit {0}) TcpAllocateError) → (if takes_place p here r then replaced c else c) ≡ c
SocketStays c p _ = Unit {0}

socket_so : (c : Control) (ret : Answer) (connection : ℕ) (peer : SocketAddr) (here : Option SocketAddr) (p : Protocol) (at : ℕ) (q : ClientState) (b : Beginning) (realm : List ℕ) (address : SocketAddr) → Speaks b realm address p
    → ((r : Result (Unit {0}) TcpAllocateError) → (if takes_place p here r then replaced c else c) ≡ c) → IsSocketTaken ret connection peer here (over c p) at q → Speaks b realm address q.core × (q.control ≡ c)
socket_so c answer.Done connection peer here p at q b realm address speaks stays_so is =
    (others.socket_speaks b realm address p speaks connection (own_tuple p) peer here at (Ok tt) q.core (λ e. Prim.cc e) is.core, is.control ∙ stays_so (Ok tt))
socket_so c (answer.Refused (SocketRefused error)) connection peer here p at q b realm address speaks stays_so is =
    (others.socket_speaks b realm address p speaks connection (own_tuple p) peer here at (Err error) q.core (λ e. is.1 (Prim.cc e)) is.0.core, is.0.control ∙ stays_so (Err error))
socket_so c _ connection peer here p at q b realm address speaks stays_so is = absurd is

-- ---- any call, of a client that speaks

-- `poll_recv` is called, by its contract.
abbrev pub DoesWait : Control → Protocol → (Protocol → Type 0) → Type 0
DoesWait c p Is = (at : ℕ) (given : Option PeerPayload) (q : ClientState) → IsWaitingGiven (over c p) at given q → Is q.core × (q.control ≡ c)

pub waiting_so : (c : Control) (p : Protocol) (Is : Protocol → Type 0) → DoesWait c p Is → (ret : Answer) (at : ℕ) (q : ClientState) → IsWaitingReported ret (over c p) at q → Is q.core × (q.control ≡ c)
waiting_so c p Is waits (answer.Peer given) at q is = waits at (Some given) q is
waiting_so c p Is waits answer.Nothing at q is = waits at None q is
waiting_so c p Is waits _ at q is = absurd is

module _ (c : Control) (p : Protocol) (b : Beginning) (realm : List ℕ) (address : SocketAddr) (speaks : Speaks b realm address p) (waits : DoesWait c p (λ x. Speaks b realm address x)) where
  any_reported : (what : ClientCall) (q : ClientState) (at : ℕ) (ret : Answer) → SocketStays c p what → IsCallReported what ret (over c p) at q → Speaks b realm address q.core × (q.control ≡ c)
  unfolding IsCallReported IsCalled
  any_reported call.Poll q at ret socket is = (acted_speaks b realm address p q.core at speaks (polled_as p q.core at ret is.0), is.1)
  any_reported call.PollEvent q at ret socket is = (acted_speaks b realm address p q.core at speaks (event_as p q.core at ret is.0), is.1)
  any_reported call.Delete q at ret socket is = (delete_so p q.core b realm address speaks ret at is.0, is.1)
  any_reported (call.CreatePermission transport ip) q at ret socket is = (acted_speaks b realm address p q.core at speaks (permission_as transport ip p q.core at ret is.0), is.1)
  any_reported (call.CreatePermissions transport ips) q at ret socket is = (several_so p q.core b realm address speaks ret transport ips.items at is.0, is.1)
  any_reported (call.HavePermission transport ip) q at ret socket is = (have_so p q.core b realm address speaks ret transport ip is.0, is.1)
  any_reported (call.Permissions transport relayed) q at ret socket is = (permissions_so p q.core b realm address speaks ret transport relayed is.0, is.1)
  any_reported (call.BindChannel transport peer) q at ret socket is = (acted_speaks b realm address p q.core at speaks (bound_as transport peer p q.core at ret is.0), is.1)
  any_reported call.Channels q at ret socket is = (channels_so p q.core b realm address speaks ret is.0, is.1)
  any_reported (call.SendTo transport to bytes) q at ret socket is = (send_so p q.core b realm address speaks ret transport to bytes.items at is.0, is.1)
  any_reported call.PollRecv q at ret socket is = waiting_so c p (λ x. Speaks b realm address x) waits ret at q is
  any_reported call.ProtocolError q at ret socket is = (end_so p q.core b realm address speaks ret is.0, is.1)
  any_reported call.RelayedAddresses q at ret socket is = (relayed_so p q.core b realm address speaks ret is.0, is.1)
  any_reported (call.TcpConnect peer) q at ret socket is = (connect_so p q.core b realm address speaks ret peer at is.0, is.1)
  any_reported (call.AllocatedTcpSocket connection peer here) q at ret socket is = socket_so c ret connection peer here p at q b realm address speaks socket is
  any_reported (call.TcpClosed here there) q at ret socket is = (closed_so p q.core b realm address speaks ret here there is.0, is.1)
  any_reported call.Connections q at ret socket is = (connections_so p q.core b realm address speaks ret is.0, is.1)

-- The statement `Is` holds of the core of a client with this control.
pub record IsIn (c : Control) (Is : Protocol → Type 0) (w v : World) : Type 0 where
  pub core : Protocol
  pub there : v.client ≡ Some (over c core)
  pub is : Is core
  pub of : IsOfClient w v

pub any_call : (c : Control) (w v : World) (p : Protocol) (what : ClientCall) (at : ℕ) (ret : Answer) → w.client ≡ Some (over c p) → IsStep (Call what at) w ret v → (b : Beginning) (realm : List ℕ) (address : SocketAddr) → Speaks b realm address p
    → DoesWait c p (λ x. Speaks b realm address x) → SocketStays c p what → IsIn c (λ x. Speaks b realm address x) w v
any_call c w v p what at ret there step b realm address speaks waits socket =
    let d = done c at _ p w.client v.client ret there step.0 in
    elim d.outcome [
      | inl does ↦ (let is = any_reported c p b realm address speaks waits what d.after at ret socket does.1 in
          record { core = d.after.core; there = d.there ∙ ap Some (stays c d.after is.1); is = is.0; of = step.1 })
      | inr out ↦ record { core = p; there = d.there ∙ ap Some out.1; is = speaks; of = step.1 }
    ]

-- `poll_recv` is called.
received_reported : (ret : Answer) (k : ClientState) (at : ℕ) (q : ClientState) → IsCallReported call.PollRecv ret k at q → IsWaitingReported ret k at q
unfolding IsCallReported
received_reported ret k at q is = is

pub receives : (c : Control) (Is : Protocol → Type 0) (w v : World) (p : Protocol) (at : ℕ) (ret : Answer) → w.client ≡ Some (over c p) → Is p → DoesWait c p Is → IsStep (Call call.PollRecv at) w ret v → IsIn c Is w v
receives c Is w v p at ret there is waits step =
    let d = done c at _ p w.client v.client ret there step.0 in
    elim d.outcome [
      | inl does ↦ (let so = waiting_so c p Is waits ret at d.after (received_reported ret (over c p) at d.after does.1) in
          record { core = d.after.core; there = d.there ∙ ap Some (stays c d.after so.1); is = so.0; of = step.1 })
      | inr out ↦ record { core = p; there = d.there ∙ ap Some out.1; is = is; of = step.1 }
    ]
