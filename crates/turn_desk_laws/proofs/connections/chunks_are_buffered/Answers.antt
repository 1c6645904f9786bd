use Rattle.std.proofs.Common.{◌≡◌, ◌≢◌, ◌≤◌, ◌++◌, ℕ, List, [], ◌∷◌, Some, refl, sym, ap, ◌∙◌, subst, inl, inr}
use Rattle.std.specs.Prelude.{Vec}
use Rattle.std.specs.declared.alloc.Global.{Global}
use Rattle.std.specs.declared.net.socket_addr.SocketAddr.{SocketAddr}
use Rattle.turn_desk_core.specs.StunTypesWire.Grammar.{refusal}
use Rattle.turn_client_proto_api.specs.Sent.{Sent}
use Rattle.turn_client_proto_handshake_laws.specs.Coming.{IsPartOf}
use Rattle.turn_client_proto_handshake_laws.specs.Driving.{client_end}
use Rattle.turn_desk_event.specs.declared.answer.Answer.{Answer}
use Rattle.turn_desk_event.specs.declared.event.Event.TheVariants.{ToClient}
use Rattle.turn_desk_world_laws.specs.World.Model.{World}
use Rattle.turn_desk_world_laws.specs.World.Runs.{IsStep}
use Rattle.turn_desk_progress_laws.specs.Linked.{IsOverTcp}
use Rattle.turn_desk_progress_laws.specs.Scripts.{Plan}
use Rattle.turn_desk_laws.specs.ConnectionLoops.{Answered, Challenged, Method, Target, Timing}
use Rattle.turn_desk_laws.specs.ConnectionStages.{IsAnswered, IsChallenged, IsStage, holder_at, own_head}
use Rattle.turn_desk_laws.proofs.ConnectionChunks.{IsBuffered, buffered}
use Rattle.turn_desk_laws.proofs.ConnectionTools.{moves}
use Rattle.turn_desk_laws.proofs.connections.chunks_are_buffered.Goals as goal

module _ (c : goal.After-messages_reach_sockets) (plan : Plan) (old w v : World) (target : Target) (address : SocketAddr) (lifetime since : ℕ) (t : Timing) (method : Method) (request : Sent) (reply head rest : List ℕ) (bytes : Vec ℕ Global) (now : ℕ) (ret : Answer)
    (tcp : IsOverTcp plan) (in_range : now ≤ client_end) (some : bytes.items ≢ []) (parts : reply ≡ (head ++ bytes.items) ++ rest) (more : rest ≢ []) (step : IsStep (ToClient bytes request.to request.from now) w ret v) where
  answered_on : IsStage plan old target address lifetime since (Answered method request reply head) t w → IsStage plan old target address lifetime since (Answered method request reply (head ++ bytes.items)) t v
  answered_on s =
      let is = s.client.is in
      let part : IsPartOf (head ++ bytes.items) reply = record { is_message = is.message; rest = rest; parts = parts; more = more } in
      let b = buffered (record { chunk = c.messages_reach_holders.ensures.chunk; whole = c.messages_reach_holders.ensures.whole }) c.messages_reach_sockets.ensures.chunk plan w v target address lifetime since t method request head bytes now ret tcp in_range some step
      s.auth s.standing s.events s.client.core s.client.there is.transmitted reply part in
      moves plan old w v target address lifetime since (own_head method head) (own_head method (head ++ bytes.items))
      (λ h events p. IsAnswered plan target method t request reply head h events p) (λ h events p. IsAnswered plan target method t request reply (head ++ bytes.items) h events p) s b.desk b.core b.there s.events
      (record {
        transmitted = record { transaction_id = is.transmitted.transaction_id; request_made = b.request_made; request_is = is.transmitted.request_is };
        message = is.message;
        success = is.success;
        decodes = is.decodes;
        part = part;
      })

  challenged_on : IsStage plan old target address lifetime since (Challenged method request reply head) t w → IsStage plan old target address lifetime since (Challenged method request reply (head ++ bytes.items)) t v
  challenged_on s =
      let is = s.client.is in
      let part : IsPartOf (head ++ bytes.items) reply = record { is_message = is.message; rest = rest; parts = parts; more = more } in
      let b = buffered (record { chunk = c.messages_reach_holders.ensures.chunk; whole = c.messages_reach_holders.ensures.whole }) c.messages_reach_sockets.ensures.chunk plan w v target address lifetime since t method request head bytes now ret tcp in_range some step
      s.auth s.standing s.events s.client.core s.client.there is.transmitted reply part in
      moves plan old w v target address lifetime since (own_head method head) (own_head method (head ++ bytes.items))
      (λ h events p. IsChallenged plan old target method t request reply head h events p) (λ h events p. IsChallenged plan old target method t request reply (head ++ bytes.items) h events p) s b.desk b.core b.there s.events
      (record {
        transmitted = record { transaction_id = is.transmitted.transaction_id; request_made = b.request_made; request_is = is.transmitted.request_is };
        message = is.message;
        reported = is.reported;
        challenge = is.challenge;
        of = is.of;
        choice = is.choice;
        can = is.can;
        may = is.may;
        part = part;
      })

pub returns-clause-answered : goal.returns-clause-answered
returns-clause-answered c = λ plan old w v target address lifetime since t method request reply head rest bytes now ret tcp in_range some parts more s step.
    answered_on c plan old w v target address lifetime since t method request reply head rest bytes now ret tcp in_range some parts more step s

pub returns-clause-challenged : goal.returns-clause-challenged
returns-clause-challenged c = λ plan old w v target address lifetime since t method request reply head rest bytes now ret tcp in_range some parts more s step.
    challenged_on c plan old w v target address lifetime since t method request reply head rest bytes now ret tcp in_range some parts more step s
