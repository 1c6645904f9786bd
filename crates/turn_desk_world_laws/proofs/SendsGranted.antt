-- What a client sends in a run is for its peer, by what the server core granted in that run.
use Rattle.std.proofs.Common.{Vec, Global, ◌≡◌, ℕ, Bool, true, false, List, [], ◌∷◌, ◌++◌, Option, Some, None, Ok, Err, refl, sym, ap, ◌∙◌, subst, ◌⊎◌, inl, inr}
use Rattle.std.specs.Bool.{MatchBool}
use Rattle.std.specs.Prelude.{MatchOption}
use Rattle.std.specs.Net.Socket.{IsSocketAddr, socket_ip}
use Rattle.std.specs.declared.net.ip_addr.IpAddr.{IpAddr}
use Rattle.std.specs.declared.net.socket_addr.SocketAddr.{SocketAddr}
use Rattle.turn_client_proto_messages.specs.StunTypesBase.declared.transport.TransportType.{TransportType}
use Rattle.turn_client_proto_messages.specs.StunTypesBase.declared.transport.TransportType.TheVariants.{Tcp, Udp}
use Rattle.turn_client_proto_messages.specs.TurnRuns.Members.{IsIn}
use Rattle.turn_client_proto_messages.specs.TurnRuns.Messages as grant
use Rattle.turn_client_proto_messages.specs.TurnRuns.Messages.{Held}
use Rattle.turn_client_proto_messages.specs.TurnRuns.Runs.{Step}
use Rattle.turn_client_proto_messages.specs.Allocation.declared.allocation.Allocation.{Allocation}
use Rattle.turn_client_proto_messages.specs.Allocation.declared.channel.Channel.{Channel}
use Rattle.turn_client_proto_messages.specs.Allocation.declared.connection.Connection.{Connection}
use Rattle.turn_client_proto_messages.specs.StunTypesBase.declared.data.Data.{Data}
use Rattle.turn_client_proto_messages.specs.StunTypesBase.declared.transmit.Transmit.{Transmit}
use Rattle.turn_client_proto_api.specs.Sent.{sent_of}
use Rattle.turn_client_proto_api.specs.declared.error.SendError.{SendError}
use Rattle.turn_client_proto_messages.specs.TurnTypesAttributes.StunTypesAttributes.Addresses.{on_the_wire}
use Rattle.turn_client_proto_api.specs.Config.{Config}
use Rattle.turn_client_proto_api.specs.Sent.{Sent}
use Rattle.turn_client_proto_core.specs.declared.protocol.Protocol.{Protocol}
use Rattle.turn_client_proto_step_laws.specs.Payload.Sending.{Answer, IsSendAnswered, IsSentBy, IsPassedOn, IsSentOver, channel_to, connection_to, send_refusal, standing}
use Rattle.turn_client_proto_step_laws.specs.Beginning.{first_client}
use Rattle.turn_client_proto_step_laws.specs.ClientWords.{Has, IsStored, HasChannel as OfChannel, HasConnection as OfConnection, HasPermission as OfPermission}
use Rattle.turn_client_proto_step_laws.specs.Recv.ClientState.{ClientState}
use Rattle.turn_client_proto_step_laws.specs.RunClient.{Client}
use Rattle.turn_client_proto_step_laws.proofs.Beginning.{new_unasked}
use Rattle.turn_desk_step_laws.specs.DeskRun.{DeskCall, desk_words}
use Rattle.turn_desk_step_laws.proofs.TurnRunsLaws.Lawful.{lawful}
use Rattle.turn_desk_event.specs.declared.answer.Answer.{Answer as Returned}
use Rattle.turn_desk_event.specs.declared.answer.Answer.TheVariants as answer
use Rattle.turn_desk_event.specs.declared.event.ClientCall.TheVariants as call
use Rattle.turn_desk_event.specs.declared.event.Event.{Event}
use Rattle.turn_desk_event.specs.declared.event.Event.TheVariants.{Call}
use Rattle.turn_desk_world.specs.Calls.{IsCallReported, IsCalled}
use Rattle.turn_desk_world.specs.Model.{World}
use Rattle.turn_desk_world.specs.Runs.{IsAtClient, IsInRange, is_in_range}
use Rattle.turn_desk_world_laws.specs.Reported.{IsAt}
use Rattle.turn_desk_world_laws.specs.Safety.{BeginsNew, IsAccount, WasGranted, words}
use Rattle.turn_desk_world_laws.proofs.Answered.{newest}
use Rattle.turn_desk_world_laws.specs.Sending.{AreNumbered, IsAlone, IsByChannel, IsByConnection, IsByGrantedChannel, IsMeantFor, IsMeantInRun, IsOnControl, IsSendOf}
use Rattle.turn_desk_world_laws.proofs.SendsMeant.{meant, permitted}
use Rattle.turn_desk_world_laws.proofs.SendsStored.{stored_traced}

-- ---- what a call of `send_to` leaves

-- Nothing that decides to whom something is sent is changed.
pub record IsKept (old new : Protocol) : Type 0 where
  pub here : new.agent.here ≡ old.agent.here
  pub transport : new.agent.transport ≡ old.agent.transport
  pub server : new.server ≡ old.server
  pub allocations : new.allocations ≡ old.allocations

kept_same : (old new : Protocol) → new ≡ old → IsKept old new
kept_same old new same = record {
  here = ap (λ (p : Protocol). p.agent.here) same;
  transport = ap (λ (p : Protocol). p.agent.transport) same;
  server = ap (λ (p : Protocol). p.server) same;
  allocations = ap (λ (p : Protocol). p.allocations) same;
}

module _ (old : Protocol) (to : SocketAddr) (bytes : List ℕ) (now : ℕ) (result : Answer) (new : Protocol) where
  kept_by : (x : Option Channel) → IsSentBy x old to bytes result new → IsKept old new
  kept_by None is = record {
    here = ap (λ (p : Protocol). p.agent.here) is.1;
    transport = ap (λ (p : Protocol). p.agent.transport) is.1;
    server = ap (λ (p : Protocol). p.server) is.1;
    allocations = ap (λ (p : Protocol). p.allocations) is.1;
  }
  kept_by (Some c) is = kept_same old new is.1

  kept_on : (x : Option Connection) → IsPassedOn x old bytes result new → IsKept old new
  kept_on None is = absurd is
  kept_on (Some c) is = kept_same old new is.1

  kept_over : (transport : TransportType) → IsSentOver transport old to bytes now result new → IsKept old new
  kept_over Tcp is = kept_on (connection_to Tcp to old.allocations) is
  kept_over Udp is = kept_by (standing now (channel_to Udp to old.allocations)) is

  kept_at : (transport : TransportType) (x : Option SendError) → MatchOption x (IsSentOver transport old to bytes now result new) (λ error. (result ≡ Err error) × (new ≡ old)) → IsKept old new
  kept_at transport None is = kept_over transport is
  kept_at transport (Some error) is = kept_same old new is.1

pub kept : (old new : Protocol) (transport : TransportType) (to : SocketAddr) (bytes : List ℕ) (now : ℕ) (result : Answer) → IsSendAnswered old transport to bytes now result new → IsKept old new
kept old new transport to bytes now result is = kept_at old to bytes now result new transport (send_refusal transport old to bytes) is

-- ---- the last event of a run

-- The last event called `send_to` of the client, which answered by what is sent.
record IsLastSent (over : TransportType) (to : SocketAddr) (bytes : List ℕ) (now : ℕ) (sent : Sent) (new : Option ClientState) : Type 0 where
  before : ClientState
  after : ClientState
  new_is : new ≡ Some after
  is : IsSendAnswered before.core over to bytes now (Ok (Some sent)) after.core

module _ (over : TransportType) (to : SocketAddr) (bytes : Vec ℕ Global) (now : ℕ) (transmit : Transmit Data) where
  abbrev LastSent : Option ClientState → Type 0
  LastSent new = IsLastSent over to bytes.items now (sent_of transmit) new

  by_range : (b : Bool) (p q : ClientState) → MatchBool b (IsCallReported (call.SendTo over to bytes) (answer.Transmit transmit) p now q) ((answer.Transmit transmit ≡ answer.OutOfRange) × (q ≡ p)) → LastSent (Some q)
  unfolding IsCallReported IsCalled
  by_range true p q is = record { before = p; after = q; new_is = refl; is = is.0 }
  by_range false p q is = absurd (Prim.cc is.0)

  last_sent : (old new : Option ClientState) → IsAtClient now (λ p q. IsCallReported (call.SendTo over to bytes) (answer.Transmit transmit) p now q) old (answer.Transmit transmit) new → LastSent new
  unfolding IsAtClient IsInRange
  last_sent None new is = absurd (Prim.cc is.0)
  last_sent (Some p) None is = absurd is
  last_sent (Some p) (Some q) is = by_range (is_in_range now) p q is

stored_core : (k : ClientState) (new : Option ClientState) (last : Client) → new ≡ Some k → IsAt new last → k.core ≡ last.core
stored_core k None last is at = absurd at
stored_core k (Some q) last is at = sym (ap (λ (c : ClientState). c.core) (the_same q k is)) ∙ at.core
  where
    the_same : (a b : ClientState) → Some a ≡ Some b → a ≡ b
    the_same a b h = Prim.cc h

-- ---- what was granted

module _ (first last : Client) (run : List (Step Client DeskCall)) (traced : (h : Held) → IsStored last.core.allocations h → WasGranted first run last h) (old : Protocol) (kept_is : IsKept old last.core) (to : SocketAddr) (bytes : List ℕ) (now : ℕ) (sent : Sent) where
  on_control : IsOnControl old sent → IsOnControl last.core sent
  on_control is = record {
    from = is.from ∙ sym kept_is.here;
    to = is.to ∙ sym kept_is.server;
    over = is.over ∙ sym kept_is.transport;
  }

  listed : (a : Allocation) → IsIn a old.allocations → IsIn a last.core.allocations
  listed a is = subst (λ (l : List Allocation). IsIn a l) (sym kept_is.allocations) is

  channel_stored : (is : IsByChannel old to bytes now sent) → IsStored last.core.allocations (grant.Channel is.number to)
  channel_stored is =
      let c = is.has.channel in
      record {
        allocation = is.has.allocation;
        listed = listed is.has.allocation is.has.of;
        has = subst (λ (n : ℕ). Has is.has.allocation (grant.Channel n to)) is.has.number_is (subst (λ (p : SocketAddr). Has is.has.allocation (grant.Channel c.number p)) is.has.to (OfChannel c is.has.bound));
      }

  connection_stored : (is : IsByConnection old to bytes sent) → IsStored last.core.allocations (grant.Connection sent.from to is.has.connection.connection)
  connection_stored is =
      let c = is.has.connection in
      record {
        allocation = is.has.allocation;
        listed = listed is.has.allocation is.has.of;
        has = subst (λ (h : SocketAddr). Has is.has.allocation (grant.Connection h to c.connection)) is.has.here_is (subst (λ (p : SocketAddr). Has is.has.allocation (grant.Connection c.here p c.connection)) is.has.to (OfConnection c is.has.stored is.has.bound));
      }

  by_carrier : IsSendOf (on_the_wire to) bytes sent.bytes ⊎ IsByChannel old to bytes now sent → IsSendOf (on_the_wire to) bytes sent.bytes ⊎ IsByGrantedChannel first run last to bytes sent
  by_carrier (inl is) = inl is
  by_carrier (inr is) = inr (record {
    number = is.number;
    granted = traced (grant.Channel is.number to) (channel_stored is);
    frame = is.frame;
    alone = subst (λ (t : TransportType). IsAlone t sent.bytes) (sym kept_is.transport) is.alone;
  })

  in_run : (over : TransportType) → IsMeantFor over old to bytes now sent → IsMeantInRun over first run last to bytes sent
  in_run Udp is = (on_control is.0, by_carrier is.1)
  in_run Tcp is = record {
    number = is.has.connection.connection;
    granted = traced (grant.Connection sent.from to is.has.connection.connection) (connection_stored is);
    to = is.to ∙ sym kept_is.server;
    over = is.over;
    bytes_are = is.bytes_are;
  }

module _ (transport : TransportType) (here server : SocketAddr) (config : Config) (seed : List ℕ) (core : Protocol) (old new : World) (before : List (Event × Returned)) (over : TransportType) (to : SocketAddr) (bytes : Vec ℕ Global) (now : ℕ) (transmit : Transmit Data)
    (run : List (Step Client DeskCall)) (last : Client) (begins : BeginsNew transport here server config seed core old)
    (account : IsAccount (first_client config.credentials seed core) old (before ++ (Call (call.SendTo over to bytes) now, answer.Transmit transmit) ∷ []) new run last) where
  abbrev first : Client
  first = first_client config.credentials seed core

  traced : (h : Held) → IsStored last.core.allocations h → WasGranted first run last h
  traced h is = λ authentic distinct. stored_traced words lawful first run last (new_unasked transport here server config seed core begins.new desk_words) account.leads account.lawful authentic distinct h is

  called : LastSent over to bytes now transmit new.client
  called =
      let n = newest before (Call (call.SendTo over to bytes) now, answer.Transmit transmit) old new run account.reported in
      last_sent over to bytes now transmit n.before.client new.client n.step.0

  pub in_run_permitted : WasGranted first run last (grant.Permission over (socket_ip to))
  in_run_permitted =
      let p = called.before.core in
      let same = stored_core called.after new.client last called.new_is account.left in
      let answered : IsSendAnswered p over to bytes.items now (Ok (Some (sent_of transmit))) last.core = subst (λ (c : Protocol). IsSendAnswered p over to bytes.items now (Ok (Some (sent_of transmit))) c) same called.is in
      let keeps = kept p last.core over to bytes.items now (Ok (Some (sent_of transmit))) answered in
      let has = permitted p last.core over to bytes.items now (sent_of transmit) answered in
      traced (grant.Permission over (socket_ip to)) (record {
        allocation = has.allocation;
        listed = subst (λ (l : List Allocation). IsIn has.allocation l) (sym keeps.allocations) has.of;
        has = subst (λ (t : TransportType). Has has.allocation (grant.Permission t (socket_ip to))) has.over (subst (λ (i : IpAddr). Has has.allocation (grant.Permission has.allocation.transport i)) has.ip_is (OfPermission has.permission has.active));
      })

  pub in_run_meant : AreNumbered last.core.allocations → IsSocketAddr to → IsMeantInRun over first run last to bytes.items (sent_of transmit)
  in_run_meant numbered own =
      let p = called.before.core in
      let q = called.after.core in
      let same : q ≡ last.core = stored_core called.after new.client last called.new_is account.left in
      let answered : IsSendAnswered p over to bytes.items now (Ok (Some (sent_of transmit))) last.core = subst (λ (c : Protocol). IsSendAnswered p over to bytes.items now (Ok (Some (sent_of transmit))) c) same called.is in
      let keeps = kept p last.core over to bytes.items now (Ok (Some (sent_of transmit))) answered in
      let numbers : AreNumbered p.allocations = subst AreNumbered keeps.allocations numbered in
      in_run first last run traced p keeps to bytes.items now (sent_of transmit) over (meant p last.core over to bytes.items now (sent_of transmit) numbers own answered)
