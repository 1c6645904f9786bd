-- The result of `poll` and the client afterwards are determined, unless memory runs out.
use Rattle.std.proofs.Common.{◌≡◌, ◌≢◌, ℕ, List, [], ◌∷◌, ◌++◌, Option, Some, None, MatchOption, refl, subst}
use Rattle.std.specs.List.{list_any}
use Rattle.std.specs.declared.net.socket_addr.SocketAddr.{SocketAddr}
use Rattle.turn_client_proto_timers.specs.StunProtoAgent.declared.agent.StunAgentPollRet.{StunAgentPollRet}
use Rattle.turn_client_proto_timers.specs.StunProtoTransaction.Least.{IsLeastOf}
use Rattle.turn_client_proto_timers.specs.StunTypesBase.Times.{time_after}
use Rattle.turn_client_proto_timers.specs.StunProtoAgent.State as agents
use Rattle.turn_client_proto_timers.specs.Allocation.Awaited.{is_among}
use Rattle.turn_client_proto_timers.specs.Allocation.Polling.{stored, nexts}
use Rattle.turn_client_proto_timers.specs.Api.declared.answer.TurnPollRet.{TurnPollRet}
use Rattle.turn_client_proto_timers.specs.Api.declared.answer.TurnPollRet.TheVariants as answer
use Rattle.turn_client_proto_timers.specs.Api.declared.event.TurnEvent.{TurnEvent}
use Rattle.turn_client_proto_timers.specs.Peers.Channel.Expiring as channels
use Rattle.turn_client_proto_timers.specs.Peers.Permission.Reporting as permissions
use Rattle.turn_client_proto_timers.specs.Connection.Expiring as joined
use Rattle.turn_client_proto_timers.specs.Connection.Waiting.{unasked}
use Rattle.turn_client_proto_timers.specs.Core.Ending.{ended}
use Rattle.turn_client_proto_timers.specs.Messages.Waiting.{is_answer}
use Rattle.turn_client_proto_step_laws.specs.Held.{Waiting}
use Rattle.turn_client_proto_timers.specs.Polling.{IsClosing, IsPolled, IsPolledBy, IsPolledIn, IsPolledSent, IsPolledStanding, IsAgentPolled, AreAllocationsPolled, after_asking, after_time, answer_of, ended_of, left, longest_pause, pace_of, ready_after, socket_for, wait_of, wait_to_send, waits_until}
use Rattle.turn_client_proto_timers.specs.Core.declared.protocol.Phase.{Phase}
use Rattle.turn_client_proto_timers.specs.Core.declared.protocol.Phase.TheVariants.{Initial, InitialSent, Authenticating, Authenticated, Ended}
use Rattle.turn_client_proto_timers.specs.Core.declared.protocol.Protocol.{Protocol}
use Rattle.turn_client_proto_step_laws.proofs.Once.Agents.{polled_same}
use Rattle.turn_client_proto_step_laws.proofs.Once.Outcomes.{IsDefinite, only, tested}
use Rattle.turn_client_proto_step_laws.proofs.Once.Least.{least_of_same}

module _ (over : Option ℕ) (wait : ℕ) (p : Protocol) (now : ℕ) where
  sent_definite : (numbers : List ℕ) → IsDefinite (IsPolledSent numbers over wait p now)
  sent_definite numbers = tested (is_among over numbers) (only answer.Closed (ended p)) (only (waits_until over now wait) p)

  -- The sockets that are to be closed.
  abbrev sockets : List SocketAddr
  sockets = p.closing ++ joined.all_gone over now (left over now p)

  closing_definite : (all : List SocketAddr) (wanted : TurnPollRet) (q : Protocol) → IsDefinite (IsClosing all wanted q)
  closing_definite [] wanted q = record { same = (only wanted q).same }
  closing_definite (here ∷ rest) wanted q = record { same = (only (answer.TcpClose here q.server) (record q { closing = rest })).same }

  walked_definite : IsDefinite (AreAllocationsPolled over wait p now)
  walked_definite = record {
    same = λ ret again one other a b.
        let next : a.next ≡ b.next = least_of_same wait (nexts over (ready_after (pace_of p) p.last_send now) now (stored over now p.allocations)) a.next b.next a.least b.least in
        let all : List ℕ = permissions.all_nexts over (ready_after (pace_of p) p.last_send now) now (left over now p) in
        let moved = subst (λ (n : ℕ). IsLeastOf n all a.sooner) next a.least_of_permissions in
        let sooner : a.sooner ≡ b.sooner = least_of_same b.next all a.sooner b.sooner moved b.least_of_permissions in
        let each : List ℕ = channels.all_nexts over (ready_after (pace_of p) p.last_send now) now (left over now p) in
        let again_moved = subst (λ (n : ℕ). IsLeastOf n each a.earliest) sooner a.least_of_channels in
        let earliest : a.earliest ≡ b.earliest = least_of_same b.sooner each a.earliest b.earliest again_moved b.least_of_channels in
        let ends : List ℕ = joined.all_nexts (left over now p) in
        let last_moved = subst (λ (n : ℕ). IsLeastOf n ends a.first) earliest a.least_of_connections in
        let first : a.first ≡ b.first = least_of_same b.earliest ends a.first b.first last_moved b.least_of_connections in
        let outcome = subst (λ (n : ℕ). IsClosing sockets (answer_of (left over now p) over now n) (after_time over now p) ret one) first a.outcome in
        (closing_definite sockets (answer_of (left over now p) over now b.first) (after_time over now p)).same ret again one other outcome b.outcome;
  }

  -- A socket is requested, or the poll goes on.
  requested_definite : (found : Option Waiting) → IsDefinite (λ (ret : TurnPollRet) (new : Protocol). MatchOption found (AreAllocationsPolled over wait p now ret new) (λ w. (ret ≡ socket_for p w) × (new ≡ after_asking p)))
  requested_definite None = record { same = walked_definite.same }
  requested_definite (Some w) = record { same = (only (socket_for p w) (after_asking p)).same }

  standing_definite : IsDefinite (IsPolledStanding over wait p now)
  standing_definite = record { same = (requested_definite (unasked p.allocations)).same }

  in_definite : (phase : Phase) → IsDefinite (IsPolledIn phase over wait p now)
  in_definite Initial = only (answer.WaitUntil now) p
  in_definite (InitialSent numbers) = sent_definite numbers
  in_definite (Authenticating numbers) = sent_definite numbers
  in_definite Authenticated = standing_definite
  in_definite Ended = only answer.Closed p

module _ (old : Protocol) (now : ℕ) where
  -- The wait before the agent is polled.
  abbrev pause : ℕ
  pause = wait_to_send (pace_of old) old.last_send old.queue now (time_after now longest_pause)

  abbrev InAfter : StunAgentPollRet → agents.Agent → TurnPollRet → Protocol → Type 0
  InAfter ticked agent ret new = IsPolledIn old.phase (ended_of ticked) (wait_of pause ticked) (record old { agent = agent }) now ret new

  ticked_definite : IsDefinite (IsAgentPolled old now)
  ticked_definite = record {
    same = λ ret again one other a b.
        let same = polled_same old.agent now a.ticked b.ticked a.agent b.agent a.is_ticked b.is_ticked in
        let by_ret = subst (λ (t : StunAgentPollRet). InAfter t a.agent ret one) same.0 a.outcome in
        let by_both = subst (λ (g : agents.Agent). InAfter b.ticked g ret one) same.1 by_ret in
        (in_definite (ended_of b.ticked) (wait_of pause b.ticked) (record old { agent = b.agent }) now old.phase).same ret again one other by_both b.outcome;
  }

  by_definite : (events : List TurnEvent) → IsDefinite (IsPolledBy events old now)
  by_definite [] = tested (list_any is_answer old.queue) (only (answer.WaitUntil now) old) ticked_definite
  by_definite (e ∷ events) = only (answer.WaitUntil now) old

  -- A poll in which memory did not run out.
  polled_by : (ret : TurnPollRet) (new : Protocol) → ret ≢ answer.NoMemory → IsPolled old now ret new → IsPolledBy old.events old now ret new
  polled_by (answer.WaitUntil time) new ample is = is
  polled_by (answer.AllocateTcpSocket id socket peer) new ample is = is
  polled_by (answer.TcpClose local remote) new ample is = is
  polled_by answer.Closed new ample is = is
  polled_by answer.NoMemory new ample is = absurd (ample refl)

  pub poll_same : (ret again : TurnPollRet) (one other : Protocol) → ret ≢ answer.NoMemory → again ≢ answer.NoMemory → IsPolled old now ret one → IsPolled old now again other → (ret ≡ again) × (one ≡ other)
  poll_same ret again one other enough ample a b =
      (by_definite old.events).same ret again one other (polled_by ret one enough a) (polled_by again other ample b)
