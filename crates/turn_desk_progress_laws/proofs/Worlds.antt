-- What an event of a simulation is for a client that holds an allocation over TCP.
use Rattle.std.proofs.Common.{◌≡◌, ◌≢◌, ℕ, ◌≤◌, ◌^◌, ◌++◌, Bool, false, List, [], Option, Some, None, sym, ap, ◌∙◌, subst, ◌⊎◌, inl, inr}
use Rattle.std.specs.Prelude.{Vec}
use Rattle.std.specs.Borrow.{Bor}
use Rattle.std.specs.FinMap as map
use Rattle.std.specs.declared.alloc.Global.{Global}
use Rattle.std.specs.declared.net.ip_addr.IpAddr.{IpAddr}
use Rattle.std.specs.declared.net.socket_addr.SocketAddr.{SocketAddr}
use Rattle.turn_desk_core.specs.StunTypesWire.Attributes.{kind_at}
use Rattle.turn_desk_core.specs.StunTypesWire.Grammar.{refusal}
use Rattle.turn_desk_core.specs.StunTypesWire.Types.{class_of}
use Rattle.turn_desk_core.specs.StunTypesBase.declared.transmit.Transmit.{Transmit}
use Rattle.turn_desk_core.specs.StunTypesBase.declared.transport.TransportType.{TransportType}
use Rattle.turn_desk_core.specs.StunTypesBase.declared.transport.TransportType.TheVariants.{Tcp}
use Rattle.turn_client_proto_api.specs.declared.answer.TurnRecvRet.{TurnRecvRet}
use Rattle.turn_client_proto_api.specs.declared.answer.TurnRecvRet.TheVariants as recv
use Rattle.turn_client_proto_api.specs.declared.event.TurnEvent.{TurnEvent}
use Rattle.turn_client_proto_api.specs.TurnTypesFrame.Streams.{alive}
use Rattle.turn_client_proto_handshake_laws.specs.Coming.{HasCome, IsFromServer, IsProcessedAs, IsLost, IsPartOf}
use Rattle.turn_client_proto_progress_laws.specs.Holders.{Holder}
use Rattle.turn_client_proto_step_laws.specs.Recv.Receipts.{IsReceived}
use Rattle.turn_client_proto_handshake_laws.specs.Core.Receiving.{IsProcessed}
use Rattle.turn_client_proto_messages.specs.TurnRuns.Indications.{is_indication}
use Rattle.turn_client_proto_handshake_laws.specs.Sent.{Beginning}
use Rattle.turn_client_proto_handshake_laws.specs.Stages.{IsOf}
use Rattle.turn_desk_world_laws.specs.World.Calls.{IsCallReported, IsCalled, IsConnectReported, IsEventReported, IsFed, IsPermissionReported, IsPolledAs, IsSocketTaken, IsReported}
use Rattle.turn_client_proto_step_laws.specs.Recv.Control.{Control, Open}
use Rattle.turn_desk_world_laws.specs.World.Desks.{HasFourBytes, IsReplied, words_of}
use Rattle.turn_client_proto_step_laws.specs.Recv.ClientState.{ClientState, Protocol}
use Rattle.turn_desk_world_laws.specs.World.Model.{World}
use Rattle.turn_desk_world_laws.specs.World.Runs.{IsStep}
use Rattle.turn_desk_core.specs.State.{State}
use Rattle.turn_desk_event.specs.declared.answer.Answer.{Answer}
use Rattle.turn_desk_event.specs.declared.answer.Answer.TheVariants as answer
use Rattle.turn_desk_core.specs.declared.decision.Decision.{Decision}
use Rattle.turn_desk_event.specs.declared.event.ClientCall.{ClientCall}
use Rattle.turn_desk_event.specs.declared.event.ClientCall.TheVariants as call
use Rattle.turn_desk_event.specs.declared.event.Event.TheVariants.{Call, ToClient, ToDesk}
use Rattle.turn_desk_progress_laws.specs.Promises.{control_at, over}
use Rattle.turn_desk_progress_laws.specs.Scripts.{Plan}
use Rattle.turn_desk_progress_laws.proofs.Clients.{done, done_so, same_desk, stays}
use Rattle.turn_desk_progress_laws.specs.Joining.{IsHeldBy, IsSameDesk, holder_in}
use Rattle.turn_desk_progress_laws.specs.Links.{Link}

-- ---- the client was called

-- The client was called in this way, and keeps its control.
pub record IsCalledOn (c : Control) (Reported : Protocol → Type 0) (w v : World) : Type 0 where
  pub core : Protocol
  pub there : v.client ≡ Some (over c core)
  pub reported : Reported core
  pub desk : v.desk ≡ w.desk

module _ (c : Control) (w v : World) (p : Protocol) (now : ℕ) (ret : Answer) (at : w.client ≡ Some (over c p)) (early : now ≤ 2 ^ 62) where
  called_on : (what : ClientCall) (Reported : Protocol → Type 0) → ((q : ClientState) → IsCallReported what ret (over c p) now q → Reported q.core × (q.control ≡ c)) → IsStep (Call what now) w ret v → IsCalledOn c Reported w v
  called_on what Reported means step =
      let d = done c now _ p w.client v.client ret at step.0 in
      let is = means d.after (done_so c now _ p ret v.client early d) in
      record { core = d.after.core; there = d.there ∙ ap Some (stays c d.after is.1); reported = is.0; desk = same_desk w v step.1 }

  permission_means : (transport : TransportType) (ip : IpAddr) (q : ClientState) → IsCallReported (call.CreatePermission transport ip) ret (over c p) now q → IsPermissionReported ret transport ip p now q.core × (q.control ≡ c)
  unfolding IsCallReported IsCalled
  permission_means transport ip q is = is

  pub permission_called : (transport : TransportType) (ip : IpAddr) → IsStep (Call (call.CreatePermission transport ip) now) w ret v → IsCalledOn c (λ q. IsPermissionReported ret transport ip p now q) w v
  permission_called transport ip step = called_on (call.CreatePermission transport ip) (λ q. IsPermissionReported ret transport ip p now q) (permission_means transport ip) step

  connect_means : (peer : SocketAddr) (q : ClientState) → IsCallReported (call.TcpConnect peer) ret (over c p) now q → IsConnectReported ret peer p now q.core × (q.control ≡ c)
  unfolding IsCallReported IsCalled
  connect_means peer q is = is

  pub connect_called : (peer : SocketAddr) → IsStep (Call (call.TcpConnect peer) now) w ret v → IsCalledOn c (λ q. IsConnectReported ret peer p now q) w v
  connect_called peer step = called_on (call.TcpConnect peer) (λ q. IsConnectReported ret peer p now q) (connect_means peer) step

  poll_means : (q : ClientState) → IsCallReported call.Poll ret (over c p) now q → IsPolledAs ret p now q.core × (q.control ≡ c)
  unfolding IsCallReported IsCalled
  poll_means q is = is

  pub poll_called : IsStep (Call call.Poll now) w ret v → IsCalledOn c (λ q. IsPolledAs ret p now q) w v
  poll_called step = called_on call.Poll (λ q. IsPolledAs ret p now q) poll_means step

  event_means : (q : ClientState) → IsCallReported call.PollEvent ret (over c p) now q → IsEventReported ret p q.core × (q.control ≡ c)
  unfolding IsCallReported IsCalled
  event_means q is = is

  pub event_called : IsStep (Call call.PollEvent now) w ret v → IsCalledOn c (λ q. IsEventReported ret p q) w v
  event_called step = called_on call.PollEvent (λ q. IsEventReported ret p q) event_means step

  socket_means : (number : ℕ) (peer : SocketAddr) (here : Option SocketAddr) (q : ClientState) → IsCallReported (call.AllocatedTcpSocket number peer here) ret (over c p) now q → IsSocketTaken ret number peer here (over c p) now q
  unfolding IsCallReported
  socket_means number peer here q is = is

  -- It was given a socket.
  pub record IsSocketOn (number : ℕ) (peer : SocketAddr) (here : Option SocketAddr) : Type 0 where
    pub after : ClientState
    pub there : v.client ≡ Some after
    pub taken : IsSocketTaken ret number peer here (over c p) now after
    pub desk : v.desk ≡ w.desk

  pub socket_called : (number : ℕ) (peer : SocketAddr) (here : Option SocketAddr) → IsStep (Call (call.AllocatedTcpSocket number peer here) now) w ret v → IsSocketOn number peer here
  socket_called number peer here step =
      let d = done c now _ p w.client v.client ret at step.0 in
      record { after = d.after; there = d.there; taken = socket_means number peer here d.after (done_so c now _ p ret v.client early d); desk = same_desk w v step.1 }

  -- Bytes came to it.
  pub record IsFedOn (bytes : List ℕ) (from to : SocketAddr) : Type 0 where
    pub after : ClientState
    pub there : v.client ≡ Some after
    pub fed : IsFed ret (over c p) bytes from to now after
    pub desk : v.desk ≡ w.desk

  pub fed_on : (bytes : Vec ℕ Global) (from to : SocketAddr) → IsStep (ToClient bytes from to now) w ret v → IsFedOn bytes.items from to
  fed_on bytes from to step =
      let d = done c now _ p w.client v.client ret at step.0 in
      record { after = d.after; there = d.there; fed = done_so c now _ p ret v.client early d; desk = same_desk w v step.1 }

-- ---- the desk replied

pub record IsServedOn (w v : World) (bytes reply : List ℕ) (from : SocketAddr) (now : ℕ) (decision : Decision) (seed : List ℕ) : Type 0 where
  pub replied : IsReplied w.desk bytes from now decision (words_of seed) reply v.desk
  pub four_bytes : HasFourBytes decision
  pub client : v.client ≡ w.client

pub served_on : (w v : World) (bytes reply : Vec ℕ Global) (from : SocketAddr) (now : ℕ) (decision : Decision) (seed : List ℕ) (ret : Answer) → ret ≡ answer.Reply reply → IsStep (ToDesk bytes from now decision seed) w ret v
    → IsServedOn w v bytes.items reply.items from now decision seed
served_on w v bytes reply from now decision seed ret is step =
    let d = subst (λ (r : Answer). IsStep (ToDesk bytes from now decision seed) w r v) is step in
    record { replied = d.0.reply; four_bytes = d.0.four_bytes; client = ap (λ (x : World). x.client) d.1 }

-- ---- how a world stands

module _ (plan : Plan) (old w v : World) (address : SocketAddr) (lifetime : ℕ) (link : Link) where
  pub desk_on : v.desk ≡ w.desk → IsSameDesk link old w → IsSameDesk link old v
  desk_on same is = record {
    realm = ap (λ (d : State). d.auth.realm) same ∙ is.realm;
    users = ap (λ (d : State). d.auth.users) same ∙ is.users;
    algorithms = ap (λ (d : State). d.auth.algorithms) same ∙ is.algorithms;
    anonymous = ap (λ (d : State). d.auth.anonymous_username) same ∙ is.anonymous;
    decodes = λ own stored there. is.decodes own stored (ap (λ (d : State). map.get d.auth.clients link.local) (sym same) ∙ there);
  }

  -- If the client has changed, and the server core hasn't.
  pub moves : (before head : List ℕ) (Was Is : Holder → List TurnEvent → Protocol → Type 0) (s : IsHeldBy plan old address lifetime link before Was w) → v.desk ≡ w.desk
      → (core : Protocol) → v.client ≡ Some (over (control_at plan.client.transport head) core) → (events : List TurnEvent) → Is (holder_in plan address lifetime s.auth s.standing) events core
      → IsHeldBy plan old address lifetime link head Is v
  moves before head Was Is s same core there events is = record {
    auth = s.auth;
    standing = s.standing;
    of = s.of;
    desk = desk_on same s.desk;
    events = events;
    client = record { core = core; there = there; is = is };
  }

-- The control over TCP.
pub open_at : (transport : TransportType) (head : List ℕ) → transport ≡ Tcp → control_at transport head ≡ Open (alive head)
open_at transport head is = ap (λ (t : TransportType). control_at t head) is

-- ---- a reply comes to a client that holds an allocation

-- How a chunk comes, by the contract of the client's theorem.
pub record DoHold : Type 0 where
  pub chunk : (b : Beginning) (old new : ClientState) (came : Transmit (Bor (List ℕ))) (now : ℕ) (took : TurnRecvRet (Bor (List ℕ))) (before message : List ℕ) → IsOf b old.core → HasCome before old → IsFromServer b came
      → came.bytes.now ≢ [] → IsPartOf (before ++ came.bytes.now) message → IsReceived (λ (x : Bor (List ℕ)). x.now) old came now took new
      → ((took ≡ recv.Handled) × (new.core ≡ old.core) × HasCome (before ++ came.bytes.now) new) ⊎ IsLost old came took new
  pub whole : (b : Beginning) (old new : ClientState) (came : Transmit (Bor (List ℕ))) (now : ℕ) (took : TurnRecvRet (Bor (List ℕ))) (before : List ℕ) → IsOf b old.core → HasCome before old → IsFromServer b came
      → came.bytes.now ≢ [] → refusal (before ++ came.bytes.now) ≡ None → is_indication (class_of (kind_at (before ++ came.bytes.now))) ≡ false
      → IsReceived (λ (x : Bor (List ℕ)). x.now) old came now took new
      → IsProcessedAs old (before ++ came.bytes.now) came now (Open (alive [])) took new ⊎ IsLost old came took new

module _ (reach : DoHold) (b : Beginning) (tcp : b.transport ≡ Tcp) (w v : World) (p : Protocol) (of : IsOf b p) (head : List ℕ) (at : w.client ≡ Some (over (control_at b.transport head) p)) (bytes : Vec ℕ Global) (now : ℕ) (ret : Answer) (early : now ≤ 2 ^ 62) (some : bytes.items ≢ [])
    (step : IsStep (ToClient bytes b.server b.here now) w ret v) where
  abbrev c : Control
  c = control_at b.transport head

  f : IsFedOn c w v p now ret at early bytes.items b.server b.here
  f = fed_on c w v p now ret at early bytes b.server b.here step

  from : IsFromServer b f.fed.came
  from = record { transport = f.fed.transport_is ∙ of.transport; from = f.fed.from_is; to = f.fed.to_is }

  some_came : f.fed.came.bytes.now ≢ []
  some_came = λ none. some (sym f.fed.bytes_are ∙ none)

  never_lost : {A : Type 0} → IsLost (over c p) f.fed.came f.fed.took f.after → A
  never_lost lost = absurd (subst (λ (t : TurnRecvRet (Bor (List ℕ))). IsReported t ret) lost.0 f.fed.reported)

  -- A chunk is buffered.
  pub stored_on : (message : List ℕ) → IsPartOf (head ++ bytes.items) message → (v.client ≡ Some (over (control_at b.transport (head ++ bytes.items)) p)) × (v.desk ≡ w.desk)
  stored_on message part =
      let taken = reach.chunk b (over c p) f.after f.fed.came now f.fed.took head message of (open_at b.transport head tcp) from some_came
      (subst (λ (l : List ℕ). IsPartOf (head ++ l) message) (sym f.fed.bytes_are) part) f.fed.received in
      elim taken [
        | inl is ↦ (let control : f.after.control ≡ control_at b.transport (head ++ bytes.items) = is.2 ∙ (ap (λ (l : List ℕ). Open (alive (head ++ l))) f.fed.bytes_are ∙ sym (open_at b.transport (head ++ bytes.items) tcp)) in
            (f.there ∙ ap Some (stays (control_at b.transport (head ++ bytes.items)) f.after control ∙ ap (over (control_at b.transport (head ++ bytes.items))) is.1), f.desk))
        | inr lost ↦ never_lost lost
      ]

  -- All of a message is handled.
  pub record IsProcessedOn (message : List ℕ) : Type 0 where
    pub core : Protocol
    pub there : v.client ≡ Some (over (control_at b.transport []) core)
    pub handled : Bool
    pub processed : IsProcessed p message now handled core
    pub desk : v.desk ≡ w.desk

  pub processed_on : (message : List ℕ) → message ≡ head ++ bytes.items → refusal message ≡ None → is_indication (class_of (kind_at message)) ≡ false → IsProcessedOn message
  processed_on message all is other =
      let same : message ≡ head ++ f.fed.came.bytes.now = all ∙ ap (λ (l : List ℕ). head ++ l) (sym f.fed.bytes_are) in
      let taken = reach.whole b (over c p) f.after f.fed.came now f.fed.took head of (open_at b.transport head tcp) from some_came
      (subst (λ (l : List ℕ). refusal l ≡ None) same is) (subst (λ (l : List ℕ). is_indication (class_of (kind_at l)) ≡ false) same other) f.fed.received in
      elim taken [
        | inl h ↦ record {
          core = f.after.core;
          there = f.there ∙ ap Some (stays (control_at b.transport []) f.after (h.control_is ∙ sym (open_at b.transport [] tcp)));
          handled = h.handled;
          processed = subst (λ (l : List ℕ). IsProcessed p l now h.handled f.after.core) (sym same) h.processed;
          desk = f.desk;
        }
        | inr lost ↦ never_lost lost
      ]
