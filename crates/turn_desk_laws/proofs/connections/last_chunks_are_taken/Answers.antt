use Rattle.std.proofs.Common.{◌≡◌, ◌≢◌, ◌≤◌, ◌++◌, ℕ, List, [], ◌∷◌, Some, refl, sym, ap, ◌∙◌, subst, inl, inr}
use Rattle.std.specs.Prelude.{Vec}
use Rattle.std.specs.Net.Socket.{socket_ip}
use Rattle.std.specs.declared.alloc.Global.{Global}
use Rattle.std.specs.declared.net.socket_addr.SocketAddr.{SocketAddr}
use Rattle.turn_desk_core.specs.StunTypesBase.declared.transport.TransportType.TheVariants.{Tcp}
use Rattle.turn_client_proto_messages.specs.TurnRuns.Indications.{is_indication}
use Rattle.turn_client_proto_api.specs.Sent.{Sent}
use Rattle.turn_client_proto_api.specs.declared.event.TurnEvent.TheVariants.{PermissionCreated, TcpConnected}
use Rattle.turn_client_proto_handshake_laws.specs.Driving.{client_end}
use Rattle.turn_client_proto_progress_laws.specs.Holders.{Holder}
use Rattle.turn_desk_event.specs.declared.answer.Answer.{Answer}
use Rattle.turn_desk_event.specs.declared.event.Event.TheVariants.{ToClient}
use Rattle.turn_desk_world_laws.specs.World.Model.{World}
use Rattle.turn_desk_world_laws.specs.World.Runs.{IsStep}
use Rattle.turn_desk_progress_laws.specs.Linked.{IsOverTcp}
use Rattle.turn_desk_progress_laws.specs.Promises.{control_at, over}
use Rattle.turn_desk_progress_laws.specs.Scripts.{Plan}
use Rattle.turn_desk_progress_laws.proofs.Worlds.{DoHold, processed_on}
use Rattle.turn_desk_laws.specs.ConnectionLoops.{Answered, Bind, Bound, Connect, Known, Permission, Permitted, Target, Timing, permitted}
use Rattle.turn_desk_laws.specs.ConnectionStages.{IsAnswered, IsJoined, IsKnown, IsPermitted, IsStage, holder_at, permitted_at}
use Rattle.turn_desk_laws.proofs.ConnectionChunks.{come, fed, from_server, never_lost, some_came, there_so}
use Rattle.turn_desk_laws.proofs.ConnectionTools.{moves}
use Rattle.turn_desk_laws.proofs.connections.last_chunks_are_taken.Goals as goal

module _ (c : goal.After-messages_reach_sockets) (plan : Plan) (old w v : World) (target : Target) (address : SocketAddr) (lifetime since : ℕ) (t : Timing) (request : Sent) (reply head : List ℕ) (bytes : Vec ℕ Global) (now : ℕ) (ret : Answer)
    (tcp : IsOverTcp plan) (in_range : now ≤ client_end) (some : bytes.items ≢ []) (step : IsStep (ToClient bytes request.to request.from now) w ret v) where
  reach : DoHold
  reach = record { chunk = c.messages_reach_holders.ensures.chunk; whole = c.messages_reach_holders.ensures.whole }

  permission_taken : reply ≡ head ++ bytes.items → IsStage plan old target address lifetime since (Answered Permission request reply head) t w → IsStage plan old target address lifetime since Permitted (permitted now t) v
  permission_taken all s =
      let h = holder_at plan address lifetime since s.auth s.standing in
      let is = s.client.is in
      let request_made = is.transmitted.request_made in
      let k = processed_on reach plan.client tcp.over w v s.client.core request_made.is.settings head s.client.there bytes now ret in_range some (subst (λ (r : Sent). IsStep (ToClient bytes r.to r.from now) w ret v) is.transmitted.request_is step) reply all is.message (ap is_indication is.success.success) in
      let ready = c.challenged_permissions_go_again.ensures.granted h (socket_ip target.peer) request_made.ids is.transmitted.transaction_id t.made t.sent s.events s.client.core k.core reply now k.handled request_made.among request_made.is is.success k.processed in
      moves plan old w v target address lifetime since head [] (λ h events p. IsAnswered plan target Permission t request reply head h events p) (λ h events p. IsPermitted target (permitted now t) h events p) s k.desk k.core k.there (s.events ++ PermissionCreated Tcp (socket_ip target.peer) ∷ [])
      (record { is = ready.0; counts = ready.1 })

  connect_taken : reply ≡ head ++ bytes.items → IsStage plan old target address lifetime since (Answered Connect request reply head) t w → IsStage plan old target address lifetime since Known t v
  connect_taken all s =
      let h = holder_at plan address lifetime since s.auth s.standing in
      let is = s.client.is in
      let request_made = is.transmitted.request_made in
      let k = processed_on reach plan.client tcp.over w v s.client.core request_made.is.settings head s.client.there bytes now ret in_range some (subst (λ (r : Sent). IsStep (ToClient bytes r.to r.from now) w ret v) is.transmitted.request_is step) reply all is.message (ap is_indication is.success.success) in
      let learned = c.connections_are_requested_for.ensures.learned h (permitted_at target t.granted) target.peer is.transmitted.transaction_id t.made t.sent target.number s.events s.client.core k.core reply now k.handled (refl, tt) request_made.is is.success is.decodes k.processed in
      moves plan old w v target address lifetime since head [] (λ h events p. IsAnswered plan target Connect t request reply head h events p) (λ h events p. IsKnown target t h events p) s k.desk k.core k.there s.events learned.1

  bind_taken : (more : List ℕ) → head ++ bytes.items ≡ reply ++ more → IsStage plan old target address lifetime since (Answered Bind request reply head) t w → IsStage plan old target address lifetime since (Bound more) t v
  bind_taken more parts s =
      let h = holder_at plan address lifetime since s.auth s.standing in
      let is = s.client.is in
      let request_made = is.transmitted.request_made in
      let f = fed plan w v target address lifetime since t request head bytes now ret tcp in_range some step s.auth s.standing s.events s.client.core s.client.there is.transmitted in
      let taken = c.messages_reach_sockets.ensures.bound h request_made.older (permitted_at target t.granted) target.local target.peer target.number is.transmitted.transaction_id t.made t.sent head s.events (over (control_at plan.client.transport []) s.client.core) f.after f.fed.came now f.fed.took reply more
      request_made.is request_made.apart (come plan w v target address lifetime since t request head bytes now ret tcp in_range some step s.auth s.standing s.events s.client.core s.client.there is.transmitted)
      (from_server plan w v target address lifetime since t request head bytes now ret tcp in_range some step s.auth s.standing s.events s.client.core s.client.there is.transmitted)
      (some_came plan w v target address lifetime since t request head bytes now ret tcp in_range some step s.auth s.standing s.events s.client.core s.client.there is.transmitted)
      is.message (ap (λ (l : List ℕ). head ++ l) f.fed.bytes_are ∙ parts) is.success f.fed.received in
      elim taken [
        | inl k ↦ moves plan old w v target address lifetime since [] [] (λ h events p. IsAnswered plan target Bind t request reply head h events p) (λ h events p. IsJoined target t more h events p) s f.desk f.after.core
            (there_so plan w v target address lifetime since t request head bytes now ret tcp in_range some step s.auth s.standing s.events s.client.core s.client.there is.transmitted k.1)
            (s.events ++ TcpConnected target.peer ∷ []) (record { older = request_made.older; since_oldest = request_made.since_oldest; is = k.0 })
        | inr lost ↦ never_lost plan w v target address lifetime since t request head bytes now ret tcp in_range some step s.auth s.standing s.events s.client.core s.client.there is.transmitted lost
      ]

pub returns-clause-permission : goal.returns-clause-permission
returns-clause-permission c = λ plan old w v target address lifetime since t request reply head bytes now ret tcp in_range some all s step.
    permission_taken c plan old w v target address lifetime since t request reply head bytes now ret tcp in_range some step all s

pub returns-clause-connection : goal.returns-clause-connection
returns-clause-connection c = λ plan old w v target address lifetime since t request reply head bytes now ret tcp in_range some all s step.
    connect_taken c plan old w v target address lifetime since t request reply head bytes now ret tcp in_range some step all s

pub returns-clause-bound : goal.returns-clause-bound
returns-clause-bound c = λ plan old w v target address lifetime since t request reply head more bytes now ret tcp in_range some parts s step.
    bind_taken c plan old w v target address lifetime since t request reply head bytes now ret tcp in_range some step more parts s
