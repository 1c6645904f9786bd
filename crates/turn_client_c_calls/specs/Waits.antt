-- What `poll`, `poll_event` and `poll_expired` report to C.
use Rattle.std.specs.Prelude.{◌≡◌, ◌++◌, ℕ, ℤ, [], Option, Some, None, IfNone, option_to_list}
use Rattle.turn_client_proto.specs.Clients.{noted_of, stored_of}
use Rattle.turn_client_proto.specs.Notes.{after_report, expired_after, held_of}
use Rattle.turn_client_proto.specs.Recv.Notes.{after_event}
use Rattle.turn_client_proto.specs.Timers.Polling.{IsPolled}
use Rattle.turn_client_proto_api.specs.declared.answer.TurnPollRet.{TurnPollRet}
use Rattle.turn_client_proto_api.specs.declared.answer.TurnPollRet.TheVariants.{AllocateTcpSocket, Closed, NoMemory, TcpClose, WaitUntil}
use Rattle.turn_client_proto_api.specs.Expired.{first_of}
use Rattle.turn_client_proto_api.specs.declared.event.TurnEvent.{TurnEvent}
use Rattle.turn_client_proto_api.specs.declared.expired.AllocationExpired.{AllocationExpired}
use Rattle.turn_client_c_calls.specs.Calls.{OnCore, OnStored}
use Rattle.turn_client_c_calls.specs.Codes as code
use Rattle.turn_client_c_calls.specs.Visible.{reported_relayed}
use Rattle.turn_client_c_types.specs.Reported.{reported_close, reported_event, reported_open, reported_wait}
use Rattle.turn_client_c_types.specs.declared.event.TurnClientEvent.{TurnClientEvent}
use Rattle.turn_client_c_types.specs.declared.reported.TurnWait.{TurnWait}
use Rattle.turn_client_c_calls.specs.declared.getters.TurnRelayed.{TurnRelayed}
use Rattle.turn_client_c_calls.specs.declared.whole.HandleState.{HandleState}

abbrev pub poll_status : TurnPollRet → ℤ
poll_status (WaitUntil time) = code.ok
poll_status (AllocateTcpSocket connection socket peer) = code.open_socket
poll_status (TcpClose here server) = code.close_socket
poll_status Closed = code.closed
poll_status NoMemory = code.no_memory

-- What is written with the status; nothing if the client has ended or failed.
abbrev pub poll_reported : TurnWait → TurnPollRet → TurnWait
poll_reported before (WaitUntil time) = reported_wait time
poll_reported before (AllocateTcpSocket connection socket peer) = reported_open connection socket peer
poll_reported before (TcpClose here server) = reported_close here server
poll_reported before Closed = before
poll_reported before NoMemory = before

-- `poll`, reported by a status and what is written. It notes the allocations that it removed because their time
-- was over.
pub record IsPollReported (now : ℕ) (status : ℤ) (before reported : TurnWait) (old new : HandleState) : Type 0 where
  pub answer : TurnPollRet
  pub polled : OnCore (λ old new. IsPolled old now answer new) old new
  pub expired : (noted_of new.client).expired
      ≡ expired_after (held_of (stored_of old.client).core (noted_of old.client)) (stored_of new.client).core
      (noted_of old.client).expired
  pub status_is : status ≡ poll_status answer
  pub reported_is : reported ≡ poll_reported before answer

abbrev pub event_status : Option TurnEvent → ℤ
event_status (Some event) = code.ok
event_status None = code.nothing

abbrev pub event_reported : TurnClientEvent → Option TurnEvent → TurnClientEvent
event_reported before (Some event) = reported_event event
event_reported before None = before

-- `poll_event`, reported by a status and what is written. What is noted of the client goes on to the cause of the
-- event.
pub record IsEventReported (status : ℤ) (before reported : TurnClientEvent) (old new : HandleState) : Type 0 where
  pub answer : Option TurnEvent
  pub first : (stored_of old.client).core.events ≡ option_to_list answer ++ (stored_of new.client).core.events
  pub none : IfNone answer ((stored_of old.client).core.events ≡ [])
  pub others : OnCore (λ old new. new ≡ record old { events = new.events }) old new
  pub noted : noted_of new.client ≡ after_event answer (noted_of old.client)
  pub status_is : status ≡ event_status answer
  pub reported_is : reported ≡ event_reported before answer

abbrev pub expired_status : Option AllocationExpired → ℤ
expired_status (Some gone) = code.ok
expired_status None = code.nothing

abbrev pub expired_reported : TurnRelayed → Option AllocationExpired → TurnRelayed
expired_reported before (Some gone) = reported_relayed (gone.transport, gone.relayed)
expired_reported before None = before

-- `poll_expired`, reported by a status and what is written: the oldest that was noted, which no longer is. Nothing
-- else of the client changes.
pub record IsExpiredReported (status : ℤ) (before reported : TurnRelayed) (old new : HandleState) : Type 0 where
  pub status_is : status ≡ expired_status (first_of (noted_of old.client).expired)
  pub reported_is : reported ≡ expired_reported before (first_of (noted_of old.client).expired)
  pub left : noted_of new.client ≡ after_report (noted_of old.client)
  pub client : OnStored (λ old new. new ≡ old) old new
