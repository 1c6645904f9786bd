use Rattle.std.proofs.Common.{◌∷◌, inl, inr, ◌≡◌, ◌++◌, ℕ, List, [], ap, subst}
use Rattle.std.specs.declared.net.socket_addr.SocketAddr.{SocketAddr}
use Rattle.turn_client_proto_api.specs.declared.event.TurnEvent.{TurnEvent}
use Rattle.turn_client_proto_handshake_laws.specs.Stages.{IsSigning, created, signed_queued}
use Rattle.turn_desk_event.specs.declared.answer.Answer.{Answer}
use Rattle.turn_desk_world_laws.specs.World.Model.{World}
use Rattle.turn_desk_progress_laws.specs.Promises.{control_at, event_in}
use Rattle.turn_desk_progress_laws.specs.Scripts.{Done, Plan, brought_second}
use Rattle.turn_desk_progress_laws.specs.Standing.{IsReplied, IsAtStage}
use Rattle.turn_desk_progress_laws.proofs.Coming.{IsBroughtOn, IsProcessedOn, brings}
use Rattle.turn_client_proto_api.specs.Sent.{Sent}
use Rattle.turn_desk_event.specs.declared.event.Event.TheVariants.{ToClient}
use Rattle.turn_desk_world_laws.specs.World.Runs.{IsStep}
use Rattle.turn_client_proto_messages.specs.Waiting.{Queued}
use Rattle.turn_desk_progress_laws.proofs.Serving.{granting_on, unserved_of}
use Rattle.turn_desk_progress_laws.proofs.Indexes.{untold}
use Rattle.turn_desk_progress_laws.proofs.honest.second_replies_are_taken.Goals as goal

module _ (c : goal.After-messages_reach_clients) (plan : Plan) (old w v : World) (reported : List TurnEvent) (none : reported ≡ []) (request : Sent) (address : SocketAddr) (lifetime : ℕ) (reply head : List ℕ)
    (is : IsReplied plan old request address lifetime reply head w) (ret : Answer) (h : IsProcessedOn (control_at plan.client.transport []) is.client.core reply plan.second ret w v) where
  holds : (used : ℕ) (queue : List Queued) → IsSigning plan.client is.choice used plan.second queue is.client.core → IsAtStage plan old (reported ++ event_in ret) (Done request address lifetime reply) v
  holds used queue signing =
      let s = c.granted_clients_hold.ensures.holds plan.client is.choice used plan.second queue is.client.core h.core address lifetime reply plan.second h.handled signing is.is.asks is.is.grant h.processed in
      record {
        choice = is.choice;
        is = granting_on plan old w v is.choice request address lifetime reply h.desk is.is;
        queue = queue;
        left = created plan.client address;
        decodes = ap (λ (l : List TurnEvent). l ++ created plan.client address) (untold reported (event_in ret) none h.silent_is);
        client = record { core = h.core; there = h.there; is = s.1 };
      }

  so : IsAtStage plan old (reported ++ event_in ret) (Done request address lifetime reply) v
  so = elim is.client.is.is [
    | inl w ↦ holds is.client.is.used (signed_queued plan.client is.choice ∷ []) w
    | inr w ↦ holds is.client.is.used [] w
  ]

module _ (c : goal.After-messages_reach_clients) (plan : Plan) (old w v : World) (reported : List TurnEvent) (none : reported ≡ []) (request : Sent) (address : SocketAddr) (lifetime : ℕ) (reply head : List ℕ)
    (is : IsReplied plan old request address lifetime reply head w) (ret : Answer) where
  by_rest : (next rest : List ℕ) → IsBroughtOn plan.client.transport is.client.core reply next rest plan.second ret w v → IsAtStage plan old (reported ++ event_in ret) (brought_second request address lifetime reply next rest) v
  by_rest next [] h = so c plan old w v reported none request address lifetime reply head is ret h
  by_rest next (byte ∷ rest) h = (
    untold reported (event_in ret) none h.0.silent_is,
    record {
      choice = is.choice;
      is = granting_on plan old w v is.choice request address lifetime reply h.0.desk is.is;
      part = h.1;
      client = record { core = is.client.core; there = h.0.there; is = is.client.is };
    },
  )

pub returns : goal.returns
returns c = λ plan old w v reported ret request address lifetime reply head rest bytes fresh is on step.
    let own = subst (λ (r : Sent). IsStep (ToClient bytes r.to r.from plan.second) w ret v) is.1.is.request_is step in
    let unserved = unserved_of plan is.1.choice is.1.client.core is.1.client.is c.stages_are_unserved.ensures.signing in
    by_rest c plan old w v reported is.0 request address lifetime reply head is.1 ret (head ++ bytes.items) rest
    (brings (record { datagram = c.messages_reach_clients.ensures.datagram; chunk = c.messages_reach_clients.ensures.chunk; whole = c.messages_reach_clients.ensures.whole }) plan.client w v
    is.1.client.core reply head rest bytes plan.second ret is.1.client.there unserved is.1.is.message on fresh.timely.in_range own)
