-- What `poll` returned, by the event's result.
use Rattle.std.proofs.Common.{◌≡◌, ◌≢◌, ◌⊎◌, ℕ, ◌≤◌, List, [], ap, refl, ◌∙◌, inl, inr}
use Rattle.turn_client_proto_api.specs.declared.answer.TurnPollRet.{TurnPollRet}
use Rattle.turn_client_proto_api.specs.declared.answer.TurnPollRet.TheVariants as poll
use Rattle.turn_client_proto_step_laws.specs.Recv.ClientState.{Protocol}
use Rattle.turn_client_proto_step_laws.specs.Timers.Polling.{IsPolled}
use Rattle.turn_desk_event.specs.declared.answer.Answer.{Answer}
use Rattle.turn_desk_event.specs.declared.answer.Answer.TheVariants as answer
use Rattle.turn_desk_world_laws.specs.World.Calls.{IsPolledAs}
use Rattle.turn_desk_progress_laws.specs.Promises.{event_in}

-- The result of the event, by that of the call. If memory runs out, there is none.
abbrev pub said : TurnPollRet → Answer
said (poll.WaitUntil time) = answer.Wait time
said (poll.AllocateTcpSocket id socket peer) = answer.Socket id socket peer
said (poll.TcpClose local remote) = answer.Close local remote
said poll.Closed = answer.Closed
said poll.NoMemory = answer.OutOfRange

pub record IsSaid (p : Protocol) (now : ℕ) (ret : Answer) (q : Protocol) : Type 0 where
  pub returned : TurnPollRet
  pub polled : IsPolled p now returned q
  pub ret_is : ret ≡ said returned
  pub in_memory : returned ≢ poll.NoMemory
  pub silent : event_in ret ≡ []

pub said_as : (p q : Protocol) (now : ℕ) (ret : Answer) → IsPolledAs ret p now q → IsSaid p now ret q
said_as p q now (answer.Wait time) is = record { returned = poll.WaitUntil time; polled = is; ret_is = refl; in_memory = λ none. Prim.cc none; silent = refl }
said_as p q now (answer.Socket id socket peer) is = record { returned = poll.AllocateTcpSocket id socket peer; polled = is; ret_is = refl; in_memory = λ none. Prim.cc none; silent = refl }
said_as p q now (answer.Close local remote) is = record { returned = poll.TcpClose local remote; polled = is; ret_is = refl; in_memory = λ none. Prim.cc none; silent = refl }
said_as p q now answer.Closed is = record { returned = poll.Closed; polled = is; ret_is = refl; in_memory = λ none. Prim.cc none; silent = refl }
said_as p q now _ is = absurd is
