-- What contracts see of an agent, and how `poll` changes it (RFC 8489, sections 6.2 and 6.3).
use Rattle.std.specs.Prelude.{◌≡◌, ◌⊎◌, ⊤, ℕ, ◌≤◌, max, Bool, true, false, Option, None, Some}
use Rattle.std.specs.FinMap as map
use Rattle.std.specs.Ordering.{nat_cmp}
use Rattle.std.specs.declared.net.socket_addr.SocketAddr.{SocketAddr}
use Rattle.stun_proto_transaction.specs.Base.SocketAddrs.{socket_addr_cmp}
use Rattle.stun_proto_transaction.specs.Base.declared.transport.TransportType.{TransportType}
use Rattle.stun_proto_transaction.specs.Base.declared.transport.TransportType.TheVariants.{Tcp, Udp}
use Rattle.stun_proto_transaction.specs.Agents.{Transaction, is_ended, is_over, next_time}
use Rattle.stun_proto_transaction.specs.Least.{IsLeast}
use Rattle.stun_proto_transaction.specs.Base.Times.{time_after}
use Rattle.stun_proto_transaction.specs.Schedule.{Waits}
use Rattle.stun_proto_agent.specs.declared.agent.StunAgentPollRet.{StunAgentPollRet}
use Rattle.stun_proto_agent.specs.declared.agent.StunAgentPollRet.TheVariants.{TransactionTimedOut, TransactionCancelled, WaitUntil}

-- An agent: its transport and addresses, the waits of a new request, the outstanding requests by transaction
-- ID, and the validated addresses.
pub record Agent : Type 0 where
  pub transport : TransportType
  pub here : SocketAddr
  pub remote : Option SocketAddr
  pub waits : Waits
  pub outstanding : map.FinMap nat_cmp Transaction
  pub validated : map.FinMap socket_addr_cmp ⊤

-- The waits of a new agent: 500 ms after the first transmission, doubled each time without an upper limit,
-- seven transmissions, and eight seconds after the last one.
abbrev pub default_waits : Waits
default_waits = record { initial = 500_000_000; most = None; retransmits = 7; final = 8_000_000_000 }

-- Whether a transport is TCP.
abbrev pub is_tcp : TransportType → Bool
is_tcp Tcp = true
is_tcp Udp = false

-- The longest wait that an agent reports: an hour, in nanoseconds.
abbrev pub longest_wait : ℕ
longest_wait = 3_600_000_000_000

-- Of the transactions that have ended by `now`, the one with the least ID is removed. `over` is whether it
-- was cancelled as a whole.
pub record IsEnd (old : Agent) (now transaction_id : ℕ) (over : Bool) (new : Agent) : Type 0 where
  pub transaction : Transaction
  pub least : IsLeast (is_ended now) old.outstanding transaction_id transaction
  pub cause : is_over transaction.cancelled ≡ over
  pub gone : new ≡ record old { outstanding = map.remove old.outstanding transaction_id }

-- No transaction has ended by `now`.
abbrev pub NoneEnded : Agent → ℕ → Type 0
NoneEnded agent now = (transaction_id : ℕ) (t : Transaction)
    → map.get agent.outstanding transaction_id ≡ Some t → is_ended now t ≡ false

-- `until` is the earliest time at which something is to be done for a transaction, but no earlier than `now`
-- and no later than `now` plus the longest wait.
pub record IsNext (agent : Agent) (now until : ℕ) : Type 0 where
  pub from_now : now ≤ until
  pub within : until ≤ time_after now longest_wait
  pub no_later : (transaction_id : ℕ) (t : Transaction) → map.get agent.outstanding transaction_id ≡ Some t
      → until ≤ max now (next_time (is_tcp agent.transport) t)
  pub reached : (until ≡ time_after now longest_wait)
      ⊎ ((transaction_id : ℕ) × (t : Transaction) × (map.get agent.outstanding transaction_id ≡ Some t)
      × (until ≡ max now (next_time (is_tcp agent.transport) t)))

-- What `poll` returns, and the agent that it leaves.
abbrev pub IsPolled : Agent → ℕ → StunAgentPollRet → Agent → Type 0
IsPolled old now (TransactionTimedOut transaction_id) new = IsEnd old now transaction_id false new
IsPolled old now (TransactionCancelled transaction_id) new = IsEnd old now transaction_id true new
IsPolled old now (WaitUntil until) new = NoneEnded old now × IsNext old now until × (new ≡ old)
