-- The timed work of a client (RFC 8489, section 6.2.1; RFC 8656, section 8).
use Rattle.std.specs.Prelude.{◌≡◌, ◌≢◌, ℕ, min, max, true, false, List, [], ◌∷◌, ◌++◌, map, Option, Some, None, MatchOption}
use Rattle.std.specs.Bool.{MatchBool}
use Rattle.std.specs.Duration.{as_nanos}
use Rattle.std.specs.List.{list_any}
use Rattle.std.specs.declared.net.socket_addr.SocketAddr.{SocketAddr}
use Rattle.stun_proto_agent.specs.declared.agent.StunAgentPollRet.{StunAgentPollRet}
use Rattle.stun_proto_agent.specs.declared.agent.StunAgentPollRet.TheVariants.{TransactionTimedOut, TransactionCancelled, WaitUntil}
use Rattle.turn_client_proto_allocation.specs.StunProtoTransaction.Least.{IsLeastOf}
use Rattle.stun_types_base.specs.Times.{time_after}
use Rattle.stun_proto_agent.specs.State as agents
use Rattle.turn_client_proto_allocation.specs.Awaited.{is_among}
use Rattle.turn_client_proto_allocation.specs.Polling.{stored, nexts, polled}
use Rattle.turn_client_proto_allocation.specs.declared.allocation.Allocation.{Allocation}
use Rattle.turn_client_proto_allocation.specs.declared.connection.Waiting.{Waiting}
use Rattle.turn_client_proto_api.specs.declared.answer.TurnPollRet.{TurnPollRet}
use Rattle.turn_client_proto_api.specs.declared.answer.TurnPollRet.TheVariants as answer
use Rattle.turn_client_proto_api.specs.declared.event.TurnEvent.{TurnEvent}
use Rattle.turn_client_proto_peers.specs.Channel.Expiring as channels
use Rattle.turn_client_proto_connection.specs.Expiring as joined
use Rattle.turn_client_proto_connection.specs.Waiting.{all_requested, unasked}
use Rattle.turn_client_proto_peers.specs.Permission.Reporting as permissions
use Rattle.turn_client_proto_core.specs.Ending.{HasFailed, ended}
use Rattle.turn_client_proto_messages.specs.Waiting.{Queued, is_answer}
use Rattle.turn_client_proto_core.specs.declared.protocol.Phase.{Phase}
use Rattle.turn_client_proto_core.specs.declared.protocol.Phase.TheVariants.{Initial, InitialSent, Authenticating, Authenticated, Ended}
use Rattle.turn_client_proto_core.specs.declared.protocol.Protocol.{Protocol}
use Rattle.turn_client_proto_timers.specs.Reporting as reporting

-- The longest wait that a client returns, in nanoseconds.
abbrev pub longest_pause : ℕ
longest_pause = 9_999_000_000_000

-- ---- when a message may be sent

-- The least time between two sent messages, in nanoseconds.
abbrev pub pace_of : Protocol → ℕ
pace_of p = as_nanos p.pace

-- The earliest time at which another message may be sent, by the least time between two and the time of the
-- last one.
abbrev pub ready_after : (pace : ℕ) → Option ℕ → ℕ → ℕ
ready_after pace None now = now
ready_after pace (Some last) now = max (time_after last pace) now

-- The earlier of `wait` and the time at which the first message of the queue may be sent, which is `now` if
-- none was sent before.
abbrev pub wait_to_send : (pace : ℕ) → Option ℕ → List Queued → (now wait : ℕ) → ℕ
wait_to_send pace last [] now wait = wait
wait_to_send pace None (q ∷ rest) now wait = now
wait_to_send pace (Some last) (q ∷ rest) now wait = min wait (time_after last pace)

-- ---- the agent

-- The transaction ID of the transaction that ended.
abbrev pub ended_of : StunAgentPollRet → Option ℕ
ended_of (TransactionTimedOut transaction_id) = Some transaction_id
ended_of (TransactionCancelled transaction_id) = Some transaction_id
ended_of (WaitUntil time) = None

-- The earlier of `wait` and the time until which the agent waits.
abbrev pub wait_of : ℕ → StunAgentPollRet → ℕ
wait_of wait (TransactionTimedOut transaction_id) = wait
wait_of wait (TransactionCancelled transaction_id) = wait
wait_of wait (WaitUntil time) = min wait time

-- ---- the result

-- A wait until `wait`, or until `now` if a transaction has ended.
abbrev pub waits_until : Option ℕ → ℕ → ℕ → TurnPollRet
waits_until None now wait = answer.WaitUntil wait
waits_until (Some transaction_id) now wait = answer.WaitUntil now

-- The result is `wanted`, and `after` is the client's state afterwards.
abbrev pub Answers : TurnPollRet → Protocol → TurnPollRet → Protocol → Type 0
Answers wanted after answer new = (answer ≡ wanted) × (new ≡ after)

-- The result while the client is allocating. An ALLOCATE that ended without a response ends the client.
abbrev pub IsPolledSent : List ℕ → Option ℕ → ℕ → Protocol → ℕ → TurnPollRet → Protocol → Type 0
IsPolledSent numbers over wait p now ret new = MatchBool (is_among over numbers)
    (Answers answer.Closed (ended p) ret new)
    (Answers (waits_until over now wait) p ret new)

-- The result for a client with these allocations.
abbrev pub answer_of : List Allocation → Option ℕ → ℕ → ℕ → TurnPollRet
answer_of [] over now wait = answer.Closed
answer_of (a ∷ rest) over now wait = waits_until over now (max wait now)

-- The allocations that are left.
abbrev pub left : Option ℕ → ℕ → Protocol → List Allocation
left over now p = map (polled over) (stored over now p.allocations)

-- The request to the caller to open the socket for a connection that waits for one (RFC 6062, section 4.3).
abbrev pub socket_for : Protocol → Waiting → TurnPollRet
socket_for p w = answer.AllocateTcpSocket w.connection
    (record { transport = p.agent.transport; from = p.agent.here; to = p.server }) w.peer

-- The client after it requested the socket for the first such connection.
unfoldable pub after_asking : Protocol → Protocol
after_asking p = record p { allocations = all_requested p.allocations }

-- The client after the timed work: with the allocations that are left, and what is left in them. The events
-- for what is removed are queued. The sockets of removed connections are to be closed, after those that
-- already were.
unfoldable pub after_time : Option ℕ → ℕ → Protocol → Protocol
after_time over now p = record p {
  allocations = map (reporting.polled over now) (left over now p);
  events = p.events ++ reporting.all_failures over now (left over now p);
  closing = p.closing ++ joined.all_gone over now (left over now p);
}

-- The result of `poll` for a client with these sockets to close. If there is one, the caller is asked to
-- close the first, which is then no longer listed (RFC 6062, section 4.6). Otherwise the result is `wanted`.
abbrev pub IsClosing : List SocketAddr → TurnPollRet → Protocol → TurnPollRet → Protocol → Type 0
IsClosing [] wanted p ret new = Answers wanted p ret new
IsClosing (here ∷ rest) wanted p ret new = Answers (answer.TcpClose here p.server) (record p { closing = rest }) ret new

-- The timed work in all allocations. The wait is the least of the times at which something is to be done: for
-- an allocation that is left or for the client (`next`), for a permission (`sooner`), for a channel
-- (`earliest`), and the deadlines for the binding of connections (`first`).
pub record AreAllocationsPolled (over : Option ℕ) (wait : ℕ) (p : Protocol) (now : ℕ) (ret : TurnPollRet) (new : Protocol)
    : Type 0 where
  pub next : ℕ
  pub least : IsLeastOf wait (nexts over (ready_after (pace_of p) p.last_send now) now (stored over now p.allocations)) next
  pub sooner : ℕ
  pub least_of_permissions : IsLeastOf next
      (permissions.all_nexts over (ready_after (pace_of p) p.last_send now) now (left over now p)) sooner
  pub earliest : ℕ
  pub least_of_channels : IsLeastOf sooner
      (channels.all_nexts over (ready_after (pace_of p) p.last_send now) now (left over now p)) earliest
  pub first : ℕ
  pub least_of_connections : IsLeastOf earliest (joined.all_nexts (left over now p)) first
  pub outcome : IsClosing (p.closing ++ joined.all_gone over now (left over now p))
      (answer_of (left over now p) over now first) (after_time over now p) ret new

-- The result once the server has allocated. A socket that has not been requested yet comes first.
abbrev pub IsPolledStanding : Option ℕ → ℕ → Protocol → ℕ → TurnPollRet → Protocol → Type 0
IsPolledStanding over wait p now ret new = MatchOption (unasked p.allocations)
    (AreAllocationsPolled over wait p now ret new)
    (λ w. Answers (socket_for p w) (after_asking p) ret new)

-- The result, by the client's phase.
abbrev pub IsPolledIn : Phase → Option ℕ → ℕ → Protocol → ℕ → TurnPollRet → Protocol → Type 0
IsPolledIn Initial over wait p now ret new = Answers (answer.WaitUntil now) p ret new
IsPolledIn (InitialSent numbers) over wait p now ret new = IsPolledSent numbers over wait p now ret new
IsPolledIn (Authenticating numbers) over wait p now ret new = IsPolledSent numbers over wait p now ret new
IsPolledIn Authenticated over wait p now ret new = IsPolledStanding over wait p now ret new
IsPolledIn Ended over wait p now ret new = Answers answer.Closed p ret new

-- The result if no event is queued. The agent is polled first.
pub record IsAgentPolled (old : Protocol) (now : ℕ) (ret : TurnPollRet) (new : Protocol)
    : Type 0 where
  pub ticked : StunAgentPollRet
  pub agent : agents.Agent
  pub is_ticked : agents.IsPolled old.agent now ticked agent
  pub outcome : IsPolledIn old.phase (ended_of ticked)
      (wait_of (wait_to_send (pace_of old) old.last_send old.queue now (time_after now longest_pause)) ticked)
      (record old { agent = agent }) now ret new

-- The result, by the queued events. Queued events come first, and then queued replies to the server, which
-- may be sent at once.
abbrev pub IsPolledBy : List TurnEvent → Protocol → ℕ → TurnPollRet → Protocol → Type 0
IsPolledBy [] old now ret new = MatchBool (list_any is_answer old.queue)
    (Answers (answer.WaitUntil now) old ret new)
    (IsAgentPolled old now ret new)
IsPolledBy (e ∷ events) old now ret new = Answers (answer.WaitUntil now) old ret new

-- ---- when an allocation of memory may fail

-- There is something to report after a transaction may have ended, by the client's phase. While the client is
-- allocating: the transaction was an ALLOCATE. Once the server has allocated: no socket is to be requested,
-- and a permission, a channel or a connection of an allocation that is left is removed.
abbrev pub HasToReportIn : Phase → Option ℕ → Protocol → ℕ → Type 0
HasToReportIn Initial over p now = ⊥
HasToReportIn (InitialSent numbers) over p now = (is_among over numbers ≡ true) × (p.families ≢ [])
HasToReportIn (Authenticating numbers) over p now = (is_among over numbers ≡ true) × (p.families ≢ [])
HasToReportIn Authenticated over p now =
    (unasked p.allocations ≡ None) × (reporting.all_failures over now (left over now p) ≢ [])
HasToReportIn Ended over p now = ⊥

-- The agent is polled, and then there is something to report.
pub record HasToReport (old : Protocol) (now : ℕ) : Type 0 where
  pub ticked : StunAgentPollRet
  pub agent : agents.Agent
  pub is_ticked : agents.IsPolled old.agent now ticked agent
  pub decodes : HasToReportIn old.phase (ended_of ticked) (record old { agent = agent }) now

-- The client was polled, and a memory allocation failed. No event and no reply was queued, and there was
-- something to report.
pub record IsRefused (old : Protocol) (now : ℕ) (new : Protocol) : Type 0 where
  pub failed : HasFailed old new
  pub no_event : old.events ≡ []
  pub no_answer : list_any is_answer old.queue ≡ false
  pub has_to_report : HasToReport old now

-- The result of `poll`.
abbrev pub IsPolled : Protocol → ℕ → TurnPollRet → Protocol → Type 0
IsPolled old now answer.NoMemory new = IsRefused old now new
IsPolled old now ret new = IsPolledBy old.events old now ret new
