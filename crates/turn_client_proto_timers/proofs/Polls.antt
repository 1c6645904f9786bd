-- The result of `poll`.
use Rattle.std.proofs.Common.{◌≡◌, ◌≢◌, ℕ, ◌≤◌, true, false, List, [], ◌∷◌, length, Option, Some, None, IfNone, refl, subst, arith}
use Rattle.std.specs.List.{list_any}
use Rattle.std.specs.declared.net.socket_addr.SocketAddr.{SocketAddr}
use Rattle.stun_proto_agent.specs.declared.agent.StunAgentPollRet.{StunAgentPollRet}
use Rattle.stun_proto_agent.specs.State as agents
use Rattle.turn_client_proto_api.specs.declared.answer.TurnPollRet.{TurnPollRet}
use Rattle.turn_client_proto_api.specs.declared.answer.TurnPollRet.TheVariants as answer
use Rattle.turn_client_proto_api.specs.declared.event.TurnEvent.{TurnEvent}
use Rattle.turn_client_proto_timers.specs.Polling.{Answers, IsClosing, HasToReport, HasToReportIn, IsPolled, IsPolledBy, IsPolledIn, IsAgentPolled, ended_of, longest_pause, pace_of, wait_of, wait_to_send}
use Rattle.stun_types_base.specs.Times.{time_after}
use Rattle.turn_client_proto_messages.specs.Waiting.{is_answer}
use Rattle.turn_client_proto_core.specs.declared.protocol.Protocol.{Protocol}

-- A result other than `NoMemory`.
pub named : (old : Protocol) (now : ℕ) (ret : TurnPollRet) (new : Protocol) → ret ≢ answer.NoMemory → IsPolledBy old.events old now ret new → IsPolled old now ret new
named old now (answer.WaitUntil time) new other is = is
named old now (answer.AllocateTcpSocket id socket peer) new other is = is
named old now (answer.TcpClose here there) new other is = is
named old now answer.Closed new other is = is
named old now answer.NoMemory new other is = absurd (other refl)

-- The result if no event and no reply is queued.
pub no_events : (events : List TurnEvent) (count : ℕ) (old : Protocol) (now : ℕ) (ret : TurnPollRet) (new : Protocol) → count ≡ length events → count ≤ 0 → list_any is_answer old.queue ≡ false → IsAgentPolled old now ret new → IsPolledBy events old now ret new
no_events [] count old now ret new is none no_answer ticked = rw no_answer ticked
no_events (e ∷ events) count old now ret new is none no_answer ticked = absurd (omega (arith, is, none))

-- The result if a reply is queued, and no event.
pub answer_waits : (events : List TurnEvent) (count : ℕ) (old : Protocol) (now : ℕ) → count ≡ length events → count ≤ 0 → list_any is_answer old.queue ≡ true → IsPolledBy events old now (answer.WaitUntil now) old
answer_waits [] count old now is none waits = rw waits (refl, refl)
answer_waits (e ∷ events) count old now is none waits = absurd (omega (arith, is, none))

-- A list of at most no events is empty.
pub none_waits : (events : List TurnEvent) (count : ℕ) → count ≡ length events → count ≤ 0 → events ≡ []
none_waits [] count is none = refl
none_waits (e ∷ events) count is none = absurd (omega (arith, is, none))

-- If there is something to report by what the agent returned, there is something to report.
pub decoded_by : (old : Protocol) (now : ℕ) (ticked : StunAgentPollRet) (agent : agents.Agent) (over : Option ℕ) → agents.IsPolled old.agent now ticked agent → over ≡ ended_of ticked
    → HasToReportIn old.phase over (record old { agent = agent }) now → HasToReport old now
decoded_by old now ticked agent over polled over_is decodes = record {
  ticked = ticked;
  agent = agent;
  is_ticked = polled;
  decodes = subst (λ (o : Option ℕ). HasToReportIn old.phase o (record old { agent = agent }) now) over_is decodes;
}

pub ticked_by : (old : Protocol) (now : ℕ) (ticked : StunAgentPollRet) (agent : agents.Agent) (over : Option ℕ) (wait : ℕ) (ret : TurnPollRet) (new : Protocol)
    → agents.IsPolled old.agent now ticked agent
    → over ≡ ended_of ticked
    → wait ≡ wait_of (wait_to_send (pace_of old) old.last_send old.queue now (time_after now longest_pause)) ticked
    → IsPolledIn old.phase over wait (record old { agent = agent }) now ret new → IsAgentPolled old now ret new
ticked_by old now ticked agent over wait ret new polled over_is wait_is is =
    let by_over = subst (λ (o : Option ℕ). IsPolledIn old.phase o wait (record old { agent = agent }) now ret new) over_is is in
    record {
      ticked = ticked;
      agent = agent;
      is_ticked = polled;
      outcome = subst (λ (w : ℕ). IsPolledIn old.phase (ended_of ticked) w (record old { agent = agent }) now ret new) wait_is by_over;
    }

-- What holds anyway holds if the result is `None`.
pub always_none : {X A : Type 0} (o : Option X) → A → IfNone o A
always_none None holds = holds
always_none (Some x) holds = tt

-- If the result is a wait, no socket is to be closed.
pub not_closing : (all : List SocketAddr) (wanted : TurnPollRet) (until : ℕ) (p new : Protocol) → IsClosing all wanted p (answer.WaitUntil until) new → Answers wanted p (answer.WaitUntil until) new
not_closing [] wanted until p new is = is
not_closing (here ∷ rest) wanted until p new is = absurd (Prim.cc is.0)

-- A list of at most no sockets is empty.
pub nothing_closes : (closing : List SocketAddr) (count : ℕ) → count ≡ length closing → count ≤ 0 → closing ≡ []
nothing_closes [] count is none = refl
nothing_closes (here ∷ rest) count is none = absurd (omega (arith, is, none))
