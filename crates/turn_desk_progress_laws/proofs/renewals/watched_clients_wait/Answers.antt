use Rattle.std.proofs.Common.{◌≡◌, ◌≤◌, ℕ, arith, Bool, false, [], Some, sym, subst}
use Rattle.std.specs.Prelude.{max, if◌then◌else◌}
use Rattle.std.specs.declared.net.socket_addr.SocketAddr.{SocketAddr}
use Rattle.turn_client_proto_api.specs.declared.answer.TurnPollRet.{TurnPollRet}
use Rattle.turn_client_proto_api.specs.declared.answer.TurnPollRet.TheVariants as poll
use Rattle.turn_client_proto_handshake_laws.specs.Driving.{client_end}
use Rattle.turn_client_proto_step_laws.specs.Timers.Polling.{IsPolled}
use Rattle.turn_client_proto_progress_laws.specs.Keeping.{IsKeeping, Term, WaitsToSend, next_of}
use Rattle.turn_desk_world_laws.specs.World.Calls.{IsPolledAs}
use Rattle.turn_client_proto_step_laws.specs.Recv.ClientState.{Protocol}
use Rattle.turn_desk_event.specs.declared.answer.Answer.{Answer}
use Rattle.turn_desk_event.specs.declared.answer.Answer.TheVariants as answer
use Rattle.turn_desk_event.specs.declared.event.ClientCall.TheVariants as call
use Rattle.turn_desk_event.specs.declared.event.Event.TheVariants.{Call}
use Rattle.turn_desk_world_laws.specs.World.Model.{World}
use Rattle.turn_desk_world_laws.specs.World.Runs.{IsStep}
use Rattle.turn_desk_progress_laws.specs.Promises.{control_at, over}
use Rattle.turn_desk_progress_laws.specs.Scripts.{Plan}
use Rattle.turn_desk_progress_laws.specs.Turns.{Turn, Watch, Watching, Off, polled_at}
use Rattle.turn_desk_progress_laws.specs.Watched.{IsWatched, IsAtStep, term_of}
use Rattle.turn_desk_progress_laws.proofs.Times.{not_later, not_stuck}
use Rattle.turn_desk_progress_laws.proofs.RenewalServing.{same_serving}
use Rattle.turn_desk_progress_laws.proofs.renewals.watched_clients_wait.Goals as goal
use Rattle.turn_desk_progress_laws.proofs.Waiting.{before_due, no_answer, none_decoded, polls}

module _ (c : goal.After-keeping_clients_wait) (plan : Plan) (old : World) (address : SocketAddr) (s : Watch) (w v : World) (k : IsWatched plan old address s w) (now : ℕ) (reached : now ≤ s.until) (in_range : now ≤ client_end)
    (core : Protocol) (there : v.client ≡ Some (over (control_at plan.client.transport []) core)) (desk : v.desk ≡ w.desk) where
  abbrev t : Term
  t = term_of k.first s.from s.lifetime

  until_next : s.until ≤ next_of t k.last k.queue
  until_next = not_later s.transmitted s.until (next_of t k.last k.queue) k.until

  waits : (ret : TurnPollRet) → IsPolled k.client.core now ret core → WaitsToSend t k.last k.queue k.events now k.client.core ret core
  waits ret polled =
      let due = before_due plan k.choice t k.lasts k.last k.queue s.early k.rested k.left in
      let next = until_next in
      c.keeping_clients_wait.ensures plan.client k.choice address t k.last k.queue k.events k.client.core core now ret k.client.is (no_answer plan k.choice k.queue s.early k.left) k.lasts in_range
      (omega (arith, due, next, reached)) (omega (arith, next, reached)) polled

  abbrev At : Turn → Type 0
  At turn = IsAtStep plan old address turn v

  waits_so : (time : ℕ) → WaitsToSend t k.last k.queue k.events now k.client.core (poll.WaitUntil time) core → At (polled_at s now (answer.Wait time))
  waits_so time x =
      let same : time ≡ x.time = Prim.cc x.answer_is in
      let next = until_next in
      let bound = x.by_next in
      let stuck = not_stuck s.reported s.transmitted now s.until (next_of t k.last k.queue) time k.until reached
      (λ reported soon. (let later = x.later (none_decoded s.reported k.events k.reported reported) soon in omega (arith, later, same))) in
      subst (λ (y : Bool). At (if y then Off else Watching (record s { until = max s.until time; transmitted = false; reported = false }))) (sym stuck) (record {
        choice = k.choice;
        agreed = k.agreed;
        serving = same_serving plan old.desk w.desk v.desk desk k.serving;
        first = k.first;
        lasts = k.lasts;
        last = k.last;
        queue = k.queue;
        rested = k.rested;
        left = k.left;
        until = omega (arith, next, bound, same);
        events = k.events;
        reported = tt;
        client = record { core = core; there = there; is = subst (λ (q : Protocol). IsKeeping plan.client k.choice address t k.last k.queue k.events q) (sym x.unchanged) k.client.is };
      })

  by_answer : (ret : Answer) → IsPolledAs ret k.client.core now core → At (polled_at s now ret)
  by_answer (answer.Wait time) polled = waits_so time (waits (poll.WaitUntil time) polled)
  by_answer (answer.Socket id socket peer) polled = absurd (Prim.cc (waits (poll.AllocateTcpSocket id socket peer) polled).answer_is)
  by_answer (answer.Close local remote) polled = absurd (Prim.cc (waits (poll.TcpClose local remote) polled).answer_is)
  by_answer answer.Closed polled = absurd (Prim.cc (waits poll.Closed polled).answer_is)
  by_answer _ polled = absurd polled

pub polled_so : (c : goal.After-keeping_clients_wait) (plan : Plan) (old : World) (address : SocketAddr) (s : Watch) (w v : World) → IsWatched plan old address s w → (now : ℕ) → now ≤ s.until → now ≤ client_end → (ret : Answer)
    → IsStep (Call call.Poll now) w ret v → IsAtStep plan old address (polled_at s now ret) v
polled_so c plan old address s w v k now reached in_range ret step =
    let d = polls (control_at plan.client.transport []) w v k.client.core now ret k.client.there in_range step in
    by_answer c plan old address s w v k now reached in_range d.core d.there d.desk ret d.polled

pub returns : goal.returns
returns c = λ plan old w v address s now ret k reached in_range step. polled_so c plan old address s w v k now reached in_range ret step
