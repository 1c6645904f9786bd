use Rattle.std.proofs.Common.{◌≡◌, ℕ, List, [], ap, refl, sym, ◌∙◌}
use Rattle.turn_client_proto_api.specs.declared.answer.TurnPollRet.{TurnPollRet}
use Rattle.turn_client_proto_api.specs.declared.answer.TurnPollRet.TheVariants as poll
use Rattle.turn_client_proto_api.specs.declared.event.TurnEvent.{TurnEvent}
use Rattle.turn_client_proto_step_laws.specs.Recv.ClientState.{Protocol}
use Rattle.turn_client_proto_step_laws.specs.Timers.Polling.{IsPolled}
use Rattle.turn_client_proto_handshake_laws.specs.Stages.{answer_at_end}
use Rattle.turn_desk_event.specs.declared.answer.Answer.{Answer}
use Rattle.turn_desk_event.specs.declared.answer.Answer.TheVariants as answer
use Rattle.turn_desk_world_laws.specs.World.Calls.{IsPolledAs}
use Rattle.turn_desk_world_laws.specs.World.Model.{World}
use Rattle.turn_desk_progress_laws.specs.Loops.{Timing}
use Rattle.turn_desk_progress_laws.specs.LoopStages.{IsOverSo}
use Rattle.turn_desk_progress_laws.specs.Promises.{control_at}
use Rattle.turn_desk_progress_laws.specs.Scripts.{Plan}
use Rattle.turn_desk_progress_laws.proofs.Clients.{draws, nothing_transmitted, polled_so}
use Rattle.turn_desk_progress_laws.proofs.Indexes.{nothing_left}
use Rattle.turn_desk_progress_laws.proofs.loops.ended_loops_rest.Goals as goal

pub returns-clause-quiet : goal.returns-clause-quiet
returns-clause-quiet c = λ plan old w v reported ret t now is early step.
    let d = draws (control_at plan.client.transport []) w v is.client.core now ret is.client.there early step in
    (nothing_transmitted is.client.core d.core now ret (λ sent q transmitted. c.ended_clients_rest.ensures.transmitted plan.client is.left is.client.core q now sent is.client.is transmitted) d.transmitted).0

closed_by : (c : goal.After-ended_clients_rest) (plan : Plan) (old w : World) (reported : List TurnEvent) (t : Timing) (now : ℕ) (is : IsOverSo plan old reported t w) → is.left ≡ [] → (ret : Answer) (q : Protocol) → IsPolledAs ret is.client.core now q → ret ≡ answer.Closed
closed_by c plan old w reported t now is none ret q polled = by ret polled
  where
    said : (r : TurnPollRet) → IsPolled is.client.core now r q → r ≡ poll.Closed
    said r p = (c.ended_clients_rest.ensures.polled plan.client is.left is.client.core q now r is.client.is p).0 ∙ ap (λ (l : List TurnEvent). answer_at_end l now) none

    by : (ret : Answer) → IsPolledAs ret is.client.core now q → ret ≡ answer.Closed
    by (answer.Wait time) p = absurd (Prim.cc (said (poll.WaitUntil time) p))
    by (answer.Socket id socket peer) p = absurd (Prim.cc (said (poll.AllocateTcpSocket id socket peer) p))
    by (answer.Close local remote) p = absurd (Prim.cc (said (poll.TcpClose local remote) p))
    by answer.Closed p = refl
    by _ p = absurd p

pub returns-clause-closed : goal.returns-clause-closed
returns-clause-closed c = λ plan old w v reported ret t now is early all step.
    let p = polled_so (control_at plan.client.transport []) w v is.client.core now ret is.client.there early step in
    closed_by c plan old w reported t now is (nothing_left reported is.left (is.decodes ∙ sym all)) ret p.0 p.1
