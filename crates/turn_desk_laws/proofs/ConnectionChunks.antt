-- A chunk of a reply comes to a client that requests a connection: over its own connection to the server, or over the
-- socket.
use Rattle.std.proofs.Common.{◌≡◌, ◌≢◌, ◌≤◌, ◌++◌, ◌⊎◌, ℕ, List, [], ◌∷◌, Some, refl, sym, ap, ◌∙◌, subst, inl, inr}
use Rattle.std.specs.Prelude.{Vec}
use Rattle.std.specs.Borrow.{Bor}
use Rattle.std.specs.declared.alloc.Global.{Global}
use Rattle.std.specs.declared.net.socket_addr.SocketAddr.{SocketAddr}
use Rattle.turn_desk_core.specs.StunTypesBase.declared.transmit.Transmit.{Transmit}
use Rattle.turn_client_proto_messages.specs.StunProtoClient.Client.{Client, Standing}
use Rattle.turn_client_proto_messages.specs.Allocation.declared.permission.Permission.{Permission as Permitting}
use Rattle.turn_client_proto_api.specs.Sent.{Sent}
use Rattle.turn_client_proto_api.specs.declared.answer.TurnRecvRet.{TurnRecvRet}
use Rattle.turn_client_proto_api.specs.declared.answer.TurnRecvRet.TheVariants as recv
use Rattle.turn_client_proto_api.specs.declared.event.TurnEvent.{TurnEvent}
use Rattle.turn_client_proto_step_laws.specs.Recv.ClientState.{ClientState, Protocol}
use Rattle.turn_client_proto_step_laws.specs.Recv.Control.{Control}
use Rattle.turn_client_proto_step_laws.specs.Recv.Receipts.{IsReceived}
use Rattle.turn_client_proto_handshake_laws.specs.Coming.{HasCome, IsPartOf}
use Rattle.turn_client_proto_handshake_laws.specs.Driving.{client_end}
use Rattle.turn_client_proto_handshake_laws.specs.Requested.{Requested}
use Rattle.turn_client_proto_progress_laws.specs.Holders.{Holder}
use Rattle.turn_client_proto_progress_laws.specs.Overs.{IsFromServerTo}
use Rattle.turn_client_proto_progress_laws.specs.TcpBinding.{HasSentBind}
use Rattle.turn_desk_event.specs.declared.answer.Answer.{Answer}
use Rattle.turn_desk_event.specs.declared.event.Event.TheVariants.{ToClient}
use Rattle.turn_desk_world_laws.specs.World.Calls.{IsReported}
use Rattle.turn_desk_world_laws.specs.World.Model.{World}
use Rattle.turn_desk_world_laws.specs.World.Runs.{IsStep}
use Rattle.turn_desk_progress_laws.specs.Linked.{IsOverTcp}
use Rattle.turn_desk_progress_laws.specs.Promises.{control_at, over}
use Rattle.turn_desk_progress_laws.specs.Scripts.{Plan}
use Rattle.turn_desk_progress_laws.proofs.Clients.{stays}
use Rattle.turn_desk_progress_laws.proofs.Worlds.{DoHold, IsFedOn, fed_on, open_at, stored_on}
use Rattle.turn_desk_laws.specs.ConnectionLoops.{Bind, Connect, Method, Permission, Target, Timing}
use Rattle.turn_desk_laws.specs.ConnectionStages.{IsRequestMade, IsTransmitted, earlier_of, holder_at, own_head, permitted_at}
use Rattle.turn_desk_laws.proofs.ConnectionTools.{asked_on}

-- The request is outstanding still, and these first bytes have come.
pub record IsBuffered (plan : Plan) (w v : World) (target : Target) (t : Timing) (method : Method) (head : List ℕ) (h : Holder) (events : List TurnEvent) (n : ℕ) : Type 0 where
  pub core : Protocol
  pub there : v.client ≡ Some (over (control_at plan.client.transport (own_head method head)) core)
  pub desk : v.desk ≡ w.desk
  pub request_made : IsRequestMade plan target method t [] head h events core n

-- How a chunk comes over the socket, by the contract of the client's theorem.
abbrev pub DoesBuffer : Type 0
DoesBuffer = (h : Holder) (older : List Requested) (permissions : List Permitting) (here peer : SocketAddr) (connection number made last : ℕ) (head : List ℕ) (events : List TurnEvent) (old new : ClientState) (came : Transmit (Bor (List ℕ))) (now : ℕ) (took : TurnRecvRet (Bor (List ℕ))) (message : List ℕ)
    → HasSentBind h older permissions here peer connection number made last head events old.core → here ≢ h.started.here → HasCome [] old → IsFromServerTo h.started here came → came.bytes.now ≢ [] → IsPartOf (head ++ came.bytes.now) message
    → IsReceived (λ (x : Bor (List ℕ)). x.now) old came now took new
    → (HasSentBind h older permissions here peer connection number made last (head ++ came.bytes.now) events new.core × HasCome [] new) ⊎ (took ≡ recv.NoMemory came)

-- ---- over the socket

module _ (plan : Plan) (w v : World) (target : Target) (address : SocketAddr) (lifetime since : ℕ) (t : Timing) (request : Sent) (head : List ℕ) (bytes : Vec ℕ Global) (now : ℕ) (ret : Answer)
    (tcp : IsOverTcp plan) (in_range : now ≤ client_end) (some : bytes.items ≢ []) (step : IsStep (ToClient bytes request.to request.from now) w ret v)
    (auth : Client) (standing : Standing) (events : List TurnEvent) (p : Protocol) (at : w.client ≡ Some (over (control_at plan.client.transport []) p))
    (is : IsTransmitted plan target Bind t request head (holder_at plan address lifetime since auth standing) events p) where
  abbrev h : Holder
  h = holder_at plan address lifetime since auth standing

  abbrev control : Control
  control = control_at plan.client.transport []

  own_step : IsStep (ToClient bytes plan.client.server target.local now) w ret v
  own_step = subst (λ (r : Sent). IsStep (ToClient bytes r.to r.from now) w ret v) is.request_is step

  pub fed : IsFedOn control w v p now ret at in_range bytes.items plan.client.server target.local
  fed = fed_on control w v p now ret at in_range bytes plan.client.server target.local own_step

  pub from_server : IsFromServerTo plan.client target.local fed.fed.came
  from_server = record { transport = fed.fed.transport_is ∙ is.request_made.is.settings.transport; from = fed.fed.from_is; to = fed.fed.to_is }

  pub some_came : fed.fed.came.bytes.now ≢ []
  some_came = λ none. some (sym fed.fed.bytes_are ∙ none)

  pub come : HasCome [] (over control p)
  come = open_at plan.client.transport [] tcp.over

  pub never_lost : {A : Type 0} → fed.fed.took ≡ recv.NoMemory fed.fed.came → A
  never_lost lost = absurd (subst (λ (x : TurnRecvRet (Bor (List ℕ))). IsReported x ret) lost fed.fed.reported)

  pub there_so : HasCome [] fed.after → v.client ≡ Some (over control fed.after.core)
  there_so occurs = fed.there ∙ ap Some (stays control fed.after (occurs ∙ sym come))

  bind_buffered : DoesBuffer → (reply : List ℕ) → IsPartOf (head ++ bytes.items) reply → IsBuffered plan w v target t Bind (head ++ bytes.items) h events is.transaction_id
  bind_buffered buffers reply part =
      let n = is.transaction_id in
      let taken = buffers h is.request_made.older (permitted_at target t.granted) target.local target.peer target.number n t.made t.sent head events (over control p) fed.after fed.fed.came now fed.fed.took reply
      is.request_made.is is.request_made.apart come from_server some_came (subst (λ (l : List ℕ). IsPartOf (head ++ l) reply) (sym fed.fed.bytes_are) part) fed.fed.received in
      elim taken [
        | inl k ↦ (let sent = subst (λ (l : List ℕ). HasSentBind h is.request_made.older (permitted_at target t.granted) target.local target.peer target.number n t.made t.sent (head ++ l) events fed.after.core) fed.fed.bytes_are k.0 in
            record {
              core = fed.after.core;
              there = there_so k.1;
              desk = fed.desk;
              request_made = record {
                fits = is.request_made.fits;
                ids = is.request_made.ids;
                among = is.request_made.among;
                older = is.request_made.older;
                since_oldest = is.request_made.since_oldest;
                made_later = is.request_made.made_later;
                lawful = is.request_made.lawful;
                apart = is.request_made.apart;
                is = sent;
                counts = tt;
                again = is.request_made.again;
              };
            })
        | inr lost ↦ never_lost lost
      ]

-- ---- over either

pub buffered : DoHold → DoesBuffer → (plan : Plan) (w v : World) (target : Target) (address : SocketAddr) (lifetime since : ℕ) (t : Timing) (method : Method) (request : Sent) (head : List ℕ) (bytes : Vec ℕ Global) (now : ℕ) (ret : Answer)
    → IsOverTcp plan → now ≤ client_end → bytes.items ≢ [] → IsStep (ToClient bytes request.to request.from now) w ret v
    → (auth : Client) (standing : Standing) (events : List TurnEvent) (p : Protocol) → w.client ≡ Some (over (control_at plan.client.transport (own_head method head)) p)
    → (is : IsTransmitted plan target method t request head (holder_at plan address lifetime since auth standing) events p) → (reply : List ℕ) → IsPartOf (head ++ bytes.items) reply
    → IsBuffered plan w v target t method (head ++ bytes.items) (holder_at plan address lifetime since auth standing) events is.transaction_id
buffered reach buffers plan w v target address lifetime since t Permission request head bytes now ret tcp in_range some step auth standing events p at is reply part =
    let k = stored_on reach plan.client tcp.over w v p is.request_made.is.settings head at bytes now ret in_range some (subst (λ (r : Sent). IsStep (ToClient bytes r.to r.from now) w ret v) is.request_is step) reply part in
    record { core = p; there = k.0; desk = k.1; request_made = asked_on plan target Permission t [] [] head (head ++ bytes.items) (holder_at plan address lifetime since auth standing) events events p p is.transaction_id is.request_made refl is.request_made.is }
buffered reach buffers plan w v target address lifetime since t Connect request head bytes now ret tcp in_range some step auth standing events p at is reply part =
    let k = stored_on reach plan.client tcp.over w v p is.request_made.is.settings head at bytes now ret in_range some (subst (λ (r : Sent). IsStep (ToClient bytes r.to r.from now) w ret v) is.request_is step) reply part in
    record { core = p; there = k.0; desk = k.1; request_made = asked_on plan target Connect t [] [] head (head ++ bytes.items) (holder_at plan address lifetime since auth standing) events events p p is.transaction_id is.request_made refl is.request_made.is }
buffered reach buffers plan w v target address lifetime since t Bind request head bytes now ret tcp in_range some step auth standing events p at is reply part =
    bind_buffered plan w v target address lifetime since t request head bytes now ret tcp in_range some step auth standing events p at is buffers reply part
