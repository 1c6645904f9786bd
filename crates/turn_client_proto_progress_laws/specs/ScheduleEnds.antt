-- What becomes of what a request asked for, once the request was given up (RFC 8489, section 6.2.1; RFC 8656,
-- sections 7.4, 8.2, 10.3 and 12.3; RFC 6062, section 4.3).
use Rattle.std.specs.Prelude.{◌≡◌, ◌≢◌, ◌≤◌, ℕ, true, false, List, [], ◌++◌, map, None}
use Rattle.turn_client_proto_messages.specs.Api.declared.answer.TurnPollRet.{TurnPollRet}
use Rattle.turn_client_proto_messages.specs.Api.declared.answer.TurnPollRet.TheVariants as poll
use Rattle.turn_client_proto_messages.specs.Api.declared.event.TurnEvent.TheVariants.{AllocationCreateFailed}
use Rattle.turn_client_proto_core.specs.declared.protocol.Phase.TheVariants.{Authenticated, Ended}
use Rattle.turn_client_proto_core.specs.declared.protocol.Protocol.{Protocol}
use Rattle.turn_client_proto_messages.specs.Allocation.Refreshing.{renewal, wants_refresh}
use Rattle.turn_client_proto_messages.specs.Allocation.declared.allocation.Allocation.{Allocation}
use Rattle.turn_client_proto_step_laws.specs.Connection.Waiting.{unasked}
use Rattle.turn_client_proto_step_laws.specs.Timers.Polling.{IsPolled}
use Rattle.turn_client_proto_progress_laws.specs.Schedules.{IsGone, IsOutstanding, Request}

-- The request was outstanding, and this poll gave it up.
pub record EndsAt (r : Request) (many now : ℕ) (old : Protocol) (ret : TurnPollRet) (new : Protocol) : Type 0 where
  pub there : IsOutstanding r many old
  pub memory : ret ≢ poll.NoMemory
  pub polled : IsPolled old now ret new
  pub gone : IsGone r new

-- The server has allocated, and `poll` has no socket of a connection to request from the caller. Where it has
-- one, it does that, and what the request asked for stays as it was.
pub record IsAttended (p : Protocol) : Type 0 where
  pub phase : p.phase ≡ Authenticated
  pub no_request_made : unasked p.allocations ≡ None

-- The client has ended, and has closed. It reports for each family in order that no address was allocated.
pub record HasClosed (old : Protocol) (ret : TurnPollRet) (new : Protocol) : Type 0 where
  pub closed : ret ≡ poll.Closed
  pub phase : new.phase ≡ Ended
  pub events : new.events ≡ map AllocationCreateFailed old.families

-- The allocation is kept as it was, but no REFRESH of it is outstanding. So another one is to be sent from the
-- time on at which the first one was.
pub record IsRefreshedAnew (old new : Allocation) : Type 0 where
  pub address : new.address ≡ old.address
  pub expiry : new.expiry ≡ old.expiry
  pub settled : new.pending_refreshes ≡ []
  pub again : (time : ℕ) → old.is_expired ≡ false → renewal old ≤ time → time ≤ old.expiry
      → wants_refresh time new ≡ true
