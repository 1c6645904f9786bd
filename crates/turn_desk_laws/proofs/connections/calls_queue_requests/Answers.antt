use Rattle.std.proofs.Common.{◌≡◌, ◌≢◌, ◌≤◌, ◌<◌, arith, ℕ, Bool, List, [], ◌∷◌, Some, ap, refl, sym, ◌∙◌, subst}
use Rattle.std.specs.Prelude.{Ok, Err, if◌then◌else◌}
use Rattle.std.specs.Net.Socket.{socket_ip}
use Rattle.std.specs.declared.net.socket_addr.SocketAddr.{SocketAddr}
use Rattle.turn_desk_core.specs.StunTypesBase.Family.{family_of_socket}
use Rattle.turn_desk_core.specs.StunTypesBase.declared.transport.TransportType.TheVariants.{Tcp}
use Rattle.turn_client_proto_messages.specs.Allocation.Same.{is_same_address}
use Rattle.turn_client_proto_api.specs.declared.answer.Socket5Tuple.{Socket5Tuple}
use Rattle.turn_client_proto_step_laws.specs.Recv.ClientState.{ClientState, Protocol}
use Rattle.turn_client_proto_step_laws.specs.Recv.Sockets.{IsSocketAnswered}
use Rattle.turn_client_proto_handshake_laws.specs.Driving.{client_end}
use Rattle.turn_client_proto_progress_laws.specs.Free.{CanConnect, CanPermit}
use Rattle.turn_client_proto_progress_laws.specs.Holders.{Holder}
use Rattle.turn_client_proto_progress_laws.specs.Resting.{refresh_due}
use Rattle.turn_client_proto_progress_laws.specs.TcpBinding.{own_tuple_of}
use Rattle.turn_client_proto_progress_laws.proofs.TcpBinding.Same.{apart_address, family_of_peer}
use Rattle.turn_desk_event.specs.declared.answer.Answer.{Answer}
use Rattle.turn_desk_event.specs.declared.answer.Answer.TheVariants as answer
use Rattle.turn_desk_event.specs.declared.answer.Refusal.TheVariants as refusal
use Rattle.turn_desk_event.specs.declared.event.ClientCall.TheVariants as call
use Rattle.turn_desk_event.specs.declared.event.Event.TheVariants.{Call}
use Rattle.turn_desk_world_laws.specs.TurnClientProto.SocketsReported.{replaced}
use Rattle.turn_desk_world_laws.specs.World.Calls.{IsConnectReported, IsPermissionReported, IsSocketTaken, own_tuple}
use Rattle.turn_desk_world_laws.specs.World.Model.{World}
use Rattle.turn_desk_world_laws.specs.World.Runs.{IsStep}
use Rattle.turn_desk_progress_laws.specs.Promises.{control_at, over}
use Rattle.turn_desk_progress_laws.specs.Scripts.{Plan}
use Rattle.turn_desk_progress_laws.proofs.Clients.{stays}
use Rattle.turn_desk_progress_laws.proofs.Worlds.{connect_called, permission_called, socket_called}
use Rattle.turn_desk_laws.specs.ConnectionLoops.{Bind, Connect, Held, IsQuiet, Off, Permission, Permitted, Queued, Reached, Target, Timing, Unpermitted, Waiting, called, requested}
use Rattle.turn_desk_laws.specs.ConnectionStages.{HasHeld, IsOfFamily, IsPermitted, IsQueued, IsStage, IsWaiting, holder_at, permitted_at}
use Rattle.turn_desk_laws.proofs.ConnectionTools.{alone_among, itself, moves}
use Rattle.turn_desk_laws.proofs.connections.calls_queue_requests.Goals as goal

module _ (c : goal.After-challenges_are_counted) (plan : Plan) (old w v : World) (target : Target) (address : SocketAddr) (lifetime since : ℕ) (t : Timing) (now : ℕ) (in_range : now ≤ client_end) where
  abbrev Stage : Reached → Timing → World → Type 0
  Stage reached u x = IsStage plan old target address lifetime since reached u x

  -- ---- a permission

  module _ (before : now < refresh_due lifetime since) (s : Stage Held t w) where
    abbrev h : Holder
    h = holder_at plan address lifetime since s.auth s.standing

    -- The one reason to refuse the call.
    can_permit : family_of_socket target.peer ≡ family_of_socket address → CanPermit h (socket_ip target.peer) now
    can_permit same = record { family = sym (family_of_peer target.peer) ∙ same; before = omega (arith, before) }

    permission_by : (ret : Answer) (core : Protocol) → v.client ≡ Some (over (control_at plan.client.transport []) core) → v.desk ≡ w.desk → IsPermissionReported ret Tcp (socket_ip target.peer) s.client.core now core
        → Stage (called ret (Queued Permission) Unpermitted) (requested now t) v × IsOfFamily target address (called ret (Queued Permission) Unpermitted)
    permission_by answer.Done core there same is =
        let both = c.permissions_are_requested_for.ensures.answered h t.sent s.events s.client.core core (socket_ip target.peer) now (Ok tt) s.client.is.is is (λ none. Prim.cc none) in
        let a = c.permissions_are_requested_for.ensures.requested h t.sent s.events s.client.core core (socket_ip target.peer) now s.client.is.is is in
        let counted = c.challenges_are_counted.ensures.permission h t.sent s.events s.client.core core (socket_ip target.peer) now s.client.is.is is in (
          moves plan old w v target address lifetime since [] [] (λ h events p. HasHeld t h events p) (λ h events p. IsQueued plan target Permission (requested now t) h events p) s same core there s.events
              (record {
                transaction_id = a.0;
                request_made = record {
                  fits = a.1;
                  ids = a.0 ∷ [];
                  among = alone_among a.0;
                  older = [];
                  since_oldest = λ x listed. absurd listed;
                  made_later = itself now;
                  lawful = a.2;
                  apart = tt;
                  is = a.3;
                  counts = counted ∙ s.client.is.counts;
                  again = tt;
                };
              }),
          family_of_peer target.peer ∙ (both.0 refl).family,
        )
    permission_by (answer.Refused (refusal.CreatePermission error)) core there same is =
        let both = c.permissions_are_requested_for.ensures.answered h t.sent s.events s.client.core core (socket_ip target.peer) now (Err error) s.client.is.is is.0 (λ none. is.1 (Prim.cc none)) in
        (λ own. Prim.cc (both.1 (can_permit own)), tt)
    permission_by _ core there same is = absurd is

    permission_asked : (ret : Answer) → IsStep (Call (call.CreatePermission Tcp (socket_ip target.peer)) now) w ret v
        → Stage (called ret (Queued Permission) Unpermitted) (requested now t) v × IsOfFamily target address (called ret (Queued Permission) Unpermitted)
    permission_asked ret step =
        let on = permission_called (control_at plan.client.transport []) w v s.client.core now ret s.client.there in_range Tcp (socket_ip target.peer) step in
        permission_by ret on.core on.there on.desk on.reported

  -- ---- a connection

  module _ (quiet : IsQuiet lifetime since t now) (family : family_of_socket target.peer ≡ family_of_socket address) (s : Stage Permitted t w) where
    abbrev k : Holder
    k = holder_at plan address lifetime since s.auth s.standing

    -- There is no reason to refuse the call.
    can_connect : CanConnect k (socket_ip target.peer) target.peer now
    can_connect = record { family = family; own = refl; before = (let d = quiet.before_refresh in omega (arith, d)) }

    connect_by : (ret : Answer) (core : Protocol) → v.client ≡ Some (over (control_at plan.client.transport []) core) → v.desk ≡ w.desk → IsConnectReported ret target.peer s.client.core now core → Stage (called ret (Queued Connect) Off) (requested now t) v
    connect_by answer.Done core there same is =
        let a = c.connections_are_requested_for.ensures.requested k (socket_ip target.peer) t.granted t.sent s.events s.client.core core target.peer now s.client.is.is is in
        let counted = c.challenges_are_counted.ensures.connection k (socket_ip target.peer) t.granted t.sent s.events s.client.core core target.peer now s.client.is.is is in
        moves plan old w v target address lifetime since [] [] (λ h events p. IsPermitted target t h events p) (λ h events p. IsQueued plan target Connect (requested now t) h events p) s same core there s.events
        (record {
          transaction_id = a.0;
          request_made = record {
            fits = a.1;
            ids = a.0 ∷ [];
            among = alone_among a.0;
            older = [];
            since_oldest = λ x listed. absurd listed;
            made_later = itself now;
            lawful = tt;
            apart = tt;
            is = a.2;
            counts = counted ∙ s.client.is.counts;
            again = tt;
          };
        })
    connect_by (answer.Refused (refusal.TcpConnect error)) core there same is =
        let both = c.connections_are_requested_for.ensures.answered k (socket_ip target.peer) t.granted t.sent s.events s.client.core core target.peer now (Err error) s.client.is.is is.0 (λ none. is.1 (Prim.cc none)) in
        Prim.cc (both.1 can_connect)
    connect_by _ core there same is = absurd is

    connect_asked : (ret : Answer) → IsStep (Call (call.TcpConnect target.peer) now) w ret v → Stage (called ret (Queued Connect) Off) (requested now t) v
    connect_asked ret step =
        let on = connect_called (control_at plan.client.transport []) w v s.client.core now ret s.client.there in_range target.peer step in
        connect_by ret on.core on.there on.desk on.reported

  -- ---- a socket

  module _ (apart : target.local ≢ plan.client.here) (connection : ℕ) (socket : Socket5Tuple) (peer : SocketAddr) (s : Stage (Waiting connection socket peer) t w) where
    abbrev m : Holder
    m = holder_at plan address lifetime since s.auth s.standing

    abbrev p : Protocol
    p = s.client.core

    own_so : own_tuple p ≡ own_tuple_of m
    own_so = Prim.cc (s.client.is.is.settings.transport, s.client.is.is.settings.here, s.client.is.is.settings.server)

    opened_by : (ret : Answer) (after : ClientState) → v.client ≡ Some after → v.desk ≡ w.desk → IsSocketTaken ret target.number target.peer (Some target.local) (over (control_at plan.client.transport []) p) now after
        → Stage (called ret (Queued Bind) Off) (requested now t) v
    opened_by answer.Done after there same is =
        let mine = subst (λ (x : Socket5Tuple). IsSocketAnswered p target.number x target.peer (Some target.local) now (Ok tt) after.core) own_so is.core in
        let a = c.connections_are_joined.ensures.requested m (permitted_at target t.granted) target.number target.peer target.local t.sent s.events p after.core now s.client.is.is mine in
        let stays_stored : after.control ≡ control_at plan.client.transport [] = is.control
        ∙ ap (λ (b : Bool). if b then replaced (control_at plan.client.transport []) else control_at plan.client.transport [])
        (ap (is_same_address target.local) s.client.is.is.settings.here ∙ apart_address target.local plan.client.here apart) in
        moves plan old w v target address lifetime since [] [] (λ h events q. IsWaiting plan target t connection socket peer h events q) (λ h events q. IsQueued plan target Bind (requested now t) h events q) s same after.core
        (there ∙ ap Some (stays (control_at plan.client.transport []) after stays_stored)) s.events
        (record {
          transaction_id = a.0;
          request_made = record {
            fits = a.1;
            ids = a.0 ∷ [];
            among = alone_among a.0;
            older = [];
            since_oldest = λ x listed. absurd listed;
            made_later = itself now;
            lawful = a.2;
            apart = apart;
            is = a.3;
            counts = tt;
            again = tt;
          };
        })
    opened_by (answer.Refused (refusal.TcpAllocate error)) after there same is =
        let mine = subst (λ (x : Socket5Tuple). IsSocketAnswered p target.number x target.peer (Some target.local) now (Err error) after.core) own_so is.0.core in
        let both = c.connections_are_joined.ensures.answered m (permitted_at target t.granted) target.number target.number target.peer target.peer target.local t.sent s.events p after.core now (Err error) s.client.is.is mine (λ none. is.1 (Prim.cc none)) in
        Prim.cc (both.1 (refl, refl))
    opened_by _ after there same is = absurd is

    opens : (ret : Answer) → IsStep (Call (call.AllocatedTcpSocket target.number target.peer (Some target.local)) now) w ret v → Stage (called ret (Queued Bind) Off) (requested now t) v
    opens ret step =
        let on = socket_called (control_at plan.client.transport []) w v p now ret s.client.there in_range target.number target.peer (Some target.local) step in
        opened_by ret on.after on.there on.desk on.taken

pub returns-clause-permission : goal.returns-clause-permission
returns-clause-permission c = λ plan old w v target address lifetime since t now ret in_range before s step. permission_asked c plan old w v target address lifetime since t now in_range before s ret step

pub returns-clause-connection : goal.returns-clause-connection
returns-clause-connection c = λ plan old w v target address lifetime since t now ret in_range quiet family s step. connect_asked c plan old w v target address lifetime since t now in_range quiet family s ret step

pub returns-clause-socket : goal.returns-clause-socket
returns-clause-socket c = λ plan old w v target address lifetime since t now ret connection socket peer in_range apart s step. opens c plan old w v target address lifetime since t now in_range apart connection socket peer s ret step
