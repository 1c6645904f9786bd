use Rattle.std.proofs.Common.{◌∷◌, ◌≡◌, ◌++◌, ◌+◌, ℕ, List, [], ap, sym, subst}
use Rattle.std.specs.declared.net.socket_addr.SocketAddr.{SocketAddr}
use Rattle.turn_client_proto_api.specs.declared.event.TurnEvent.{TurnEvent}
use Rattle.turn_client_proto_handshake_laws.specs.Stages.{IsSigning, created, signed_queued}
use Rattle.turn_desk_event.specs.declared.answer.Answer.{Answer}
use Rattle.turn_desk_core.specs.State.{State}
use Rattle.turn_desk_world_laws.specs.World.Model.{World}
use Rattle.turn_desk_progress_laws.specs.Loops.{Timing, arrived}
use Rattle.turn_desk_progress_laws.specs.LoopStages.{HasGranted, IsRepliedSo, IsStageOf, IsTransmittedBy, Left, Queues}
use Rattle.turn_desk_progress_laws.specs.Promises.{control_at, event_in}
use Rattle.turn_desk_progress_laws.specs.Scripts.{Done, Plan, brought_second}
use Rattle.turn_desk_progress_laws.proofs.Coming.{IsBroughtOn, IsProcessedOn, brings}
use Rattle.turn_client_proto_api.specs.Sent.{Sent}
use Rattle.turn_desk_event.specs.declared.event.Event.TheVariants.{ToClient}
use Rattle.turn_desk_world_laws.specs.World.Runs.{IsStep}
use Rattle.turn_client_proto_messages.specs.Waiting.{Queued}
use Rattle.turn_desk_progress_laws.proofs.Indexes.{untold}
use Rattle.turn_desk_progress_laws.proofs.Looping.{unserved_so}
use Rattle.turn_desk_progress_laws.proofs.loops.successes_in_time_are_taken.Goals as goal

module _ (c : goal.After-messages_reach_clients) (plan : Plan) (old w v : World) (reported : List TurnEvent) (t : Timing) (none : reported ≡ []) (request : Sent) (address : SocketAddr) (lifetime : ℕ) (reply head : List ℕ)
    (is : IsRepliedSo plan old t request address lifetime reply head w) (now : ℕ) (ret : Answer) where
  granted_so : v.desk ≡ w.desk → HasGranted plan old is.choice request address lifetime reply v.desk
  granted_so same = subst (λ (d : State). HasGranted plan old is.choice request address lifetime reply d) (sym same) is.is

  module _ (h : IsProcessedOn (control_at plan.client.transport []) is.client.core reply now ret w v) where
    holds : (used : ℕ) (queue : List Queued) → IsSigning plan.client is.choice used t.sent queue is.client.core → IsStageOf plan old (reported ++ event_in ret) (Done request address lifetime reply) (arrived now [] t) v
    holds used queue signing =
        let s = c.granted_clients_hold.ensures.holds plan.client is.choice used t.sent queue is.client.core h.core address lifetime reply now h.handled signing is.is.asks is.is.grant h.processed in
        record {
          choice = is.choice;
          is = granted_so h.desk;
          queue = queue;
          left = created plan.client address;
          decodes = ap (λ (l : List TurnEvent). l ++ created plan.client address) (untold reported (event_in ret) none h.silent_is);
          client = record { core = h.core; there = h.there; is = s.1 };
        }

    so : IsTransmittedBy plan is.choice t.many t.sent is.client.core → IsStageOf plan old (reported ++ event_in ret) (Done request address lifetime reply) (arrived now [] t) v
    so (Left signed) = holds t.many [] signed
    so (Queues due chosen) = holds (t.many + 1) (signed_queued plan.client is.choice ∷ []) chosen

  by_rest : (next rest : List ℕ) → IsBroughtOn plan.client.transport is.client.core reply next rest now ret w v → IsStageOf plan old (reported ++ event_in ret) (brought_second request address lifetime reply next rest) (arrived now rest t) v
  by_rest next [] h = so h is.client.is
  by_rest next (byte ∷ rest) h = (
    untold reported (event_in ret) none h.0.silent_is,
    record {
      choice = is.choice;
      made = is.made;
      is = granted_so h.0.desk;
      part = h.1;
      client = record { core = is.client.core; there = h.0.there; is = is.client.is };
    },
  )

pub returns : goal.returns
returns c = λ plan old w v reported ret t request address lifetime reply head rest bytes now is on early step.
    let own = subst (λ (r : Sent). IsStep (ToClient bytes r.to r.from now) w ret v) is.1.is.request_is step in
    let unserved = unserved_so plan is.1.choice t.many t.sent is.1.client.core is.1.client.is c.stages_are_unserved.ensures.signing in
    by_rest c plan old w v reported t is.0 request address lifetime reply head is.1 now ret (head ++ bytes.items) rest
    (brings (record { datagram = c.messages_reach_clients.ensures.datagram; chunk = c.messages_reach_clients.ensures.chunk; whole = c.messages_reach_clients.ensures.whole }) plan.client w v
    is.1.client.core reply head rest bytes now ret is.1.client.there unserved is.1.is.message on early own)
