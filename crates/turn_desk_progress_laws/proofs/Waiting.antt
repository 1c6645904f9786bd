-- A call of `poll` of a client that keeps an allocation, in a simulation.
use Rattle.std.proofs.Common.{◌≡◌, ◌≤◌, ◌+◌, ◌^◌, ℕ, arith, Bool, true, false, List, [], ◌∷◌, Some, ap, refl, ◌∙◌}
use Rattle.std.specs.List.{list_any}
use Rattle.turn_client_proto_api.specs.declared.event.TurnEvent.{TurnEvent}
use Rattle.turn_client_proto_handshake_laws.specs.Choosing.{Choice}
use Rattle.turn_client_proto_api.specs.Sent.{Sent}
use Rattle.turn_client_proto_messages.specs.Api.Options.{cadence}
use Rattle.turn_client_proto_messages.specs.Waiting.{Queued, is_answer}
use Rattle.turn_client_proto_handshake_laws.specs.Stages.{signed_queued}
use Rattle.turn_client_proto_progress_laws.specs.Keeping.{IsTerm, Term, due_of, next_of}
use Rattle.turn_desk_world_laws.specs.World.Calls.{IsCallReported, IsCalled, IsPolledAs}
use Rattle.turn_client_proto_step_laws.specs.Recv.Control.{Control}
use Rattle.turn_client_proto_step_laws.specs.Recv.ClientState.{ClientState, Protocol}
use Rattle.turn_desk_event.specs.declared.answer.Answer.{Answer}
use Rattle.turn_desk_event.specs.declared.event.ClientCall.TheVariants as call
use Rattle.turn_desk_event.specs.declared.event.Event.TheVariants.{Call}
use Rattle.turn_desk_world_laws.specs.World.Model.{World}
use Rattle.turn_desk_world_laws.specs.World.Runs.{IsStep}
use Rattle.turn_desk_progress_laws.specs.Promises.{over}
use Rattle.turn_desk_progress_laws.specs.Scripts.{Plan}
use Rattle.turn_desk_progress_laws.proofs.Clients.{done, done_so, same_desk, stays}
use Rattle.turn_desk_progress_laws.specs.Watched.{IsLeftOf, IsReported, room_of}

-- ---- a poll in range

poll_reported : (c : Control) (p : Protocol) (q : ClientState) (now : ℕ) (ret : Answer) → IsCallReported call.Poll ret (over c p) now q → IsPolledAs ret p now q.core × (q.control ≡ c)
unfolding IsCallReported IsCalled
poll_reported c p q now ret is = is

pub record IsPolledOn (c : Control) (p : Protocol) (now : ℕ) (ret : Answer) (w v : World) : Type 0 where
  pub core : Protocol
  pub there : v.client ≡ Some (over c core)
  pub polled : IsPolledAs ret p now core
  pub desk : v.desk ≡ w.desk

pub polls : (c : Control) (w v : World) (p : Protocol) (now : ℕ) (ret : Answer) → w.client ≡ Some (over c p) → now ≤ 2 ^ 62 → IsStep (Call call.Poll now) w ret v → IsPolledOn c p now ret w v
polls c w v p now ret at early step =
    let d = done c now _ p w.client v.client ret at step.0 in
    let is = poll_reported c p d.after now ret (done_so c now _ p ret v.client early d) in
    record { core = d.after.core; there = d.there ∙ ap Some (stays c d.after is.1); polled = is.0; desk = same_desk w v step.1 }

-- ---- the client

-- The next message is due at the latest a minute before the end.
pub before_due : (plan : Plan) (choice : Choice) (t : Term) → IsTerm t → (last : ℕ) (queue : List Queued) (early : List Sent) → last + room_of queue ≤ due_of t → IsLeftOf plan choice queue early → next_of t last queue ≤ due_of t
before_due plan choice t lasts last [] early rested left = omega (arith, rested)
before_due plan choice t lasts last (one ∷ rest) early rested left = let room : room_of rest ≡ cadence = ap room_of left.1 in omega (arith, rested, room)

-- No reply to a request of the server's is queued.
pub no_answer : (plan : Plan) (choice : Choice) (queue : List Queued) (early : List Sent) → IsLeftOf plan choice queue early → list_any is_answer queue ≡ false
no_answer plan choice [] early left = refl
no_answer plan choice (one ∷ rest) early left = ap (λ (q : Queued). list_any is_answer (q ∷ rest)) left.0 ∙ ap (λ (l : List Queued). list_any is_answer (signed_queued plan.client choice ∷ l)) left.1

pub none_decoded : (reported : Bool) (events : List TurnEvent) → IsReported reported events → reported ≡ true → events ≡ []
none_decoded true events is so = is
none_decoded false events is so = absurd (Prim.cc so)
