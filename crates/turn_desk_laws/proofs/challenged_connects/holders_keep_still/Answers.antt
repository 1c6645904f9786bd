use Rattle.std.proofs.Common.{[], ◌∷◌, List, ℕ, ◌≡◌, ◌<◌, Option, false}
use Rattle.std.specs.List.{list_any}
use Rattle.turn_client_proto_messages.specs.Allocation.declared.connection.Connecting.{Connecting}
use Rattle.turn_client_proto_messages.specs.Allocation.declared.connection.Connection.{Connection}
use Rattle.turn_client_proto_messages.specs.Allocation.declared.connection.Waiting.{Waiting}
use Rattle.turn_client_proto_messages.specs.Allocation.declared.permission.PendingPermission.{PendingPermission}
use Rattle.turn_client_proto_messages.specs.Allocation.declared.permission.Permission.{Permission}
use Rattle.turn_client_proto_messages.specs.Api.declared.answer.TurnPollRet.{TurnPollRet}
use Rattle.turn_client_proto_messages.specs.Api.declared.answer.TurnPollRet.TheVariants.{WaitUntil}
use Rattle.turn_client_proto_messages.specs.Api.declared.event.TurnEvent.{TurnEvent}
use Rattle.turn_client_proto_messages.specs.Waiting.{Queued, is_answer}
use Rattle.turn_client_proto_handshake_laws.specs.Core.declared.protocol.Protocol.{Protocol}
use Rattle.turn_client_proto_step_laws.specs.Timers.Polling.{IsPolled}
use Rattle.turn_client_proto_handshake_laws.specs.Requested.{Requested, end_of}
use Rattle.turn_client_proto_progress_laws.proofs.TcpBinding.Tools.{holding_polled}
use Rattle.turn_client_proto_progress_laws.specs.Holders.{Holder, IsListed, all_requested}
use Rattle.turn_client_proto_progress_laws.specs.TcpBinding.{IsTcpBinding, allocation_with}
use Rattle.turn_client_proto_progress_laws.specs.Resting.{IsResting}
use Rattle.turn_client_proto_progress_laws.proofs.TcpBinding.Keeping.{tcp_binding_still}
use Rattle.turn_client_proto_progress_laws.proofs.TcpBinding.Polled.{calm_waits}
use Rattle.turn_desk_laws.specs.ConnectionRequests.{AreRequestsMade, AreInTime}
use Rattle.turn_desk_laws.proofs.ConnectionCalm.{calm, none_wanted}
use Rattle.turn_desk_laws.proofs.challenged_connects.holders_keep_still.Goals as goal

-- `poll`, by whether an event is queued.
waits : (h : Holder) (awaited : Option Requested) (older : List Requested) (permissions : List Permission) (pending : List PendingPermission) (connecting : List Connecting) (waiting : List Waiting) (connections : List Connection) (queue : List Queued) (last : ℕ) (events : List TurnEvent) (old new : Protocol) (now : ℕ) (ret : TurnPollRet)
    → IsTcpBinding h awaited older (allocation_with h permissions pending connecting waiting connections) queue last events old → list_any is_answer queue ≡ false → IsResting h permissions now → AreRequestsMade waiting → AreInTime now connections
    → ((x : Requested) → IsListed x (all_requested awaited older) → now < end_of h.started x) → IsPolled old now ret new → (time : ℕ) × (ret ≡ WaitUntil time) × (new ≡ old)
waits h awaited older permissions pending connecting waiting connections queue last [] old new now ret is none resting request_made early lasts polled =
    let w = calm_waits h awaited older (allocation_with h permissions pending connecting waiting connections) queue last old is now lasts none ret new (calm h permissions now resting pending connecting waiting connections request_made early) polled in
    (w.time, w.answer_is, w.unchanged)
waits h awaited older permissions pending connecting waiting connections queue last (event ∷ others) old new now ret is none resting request_made early lasts polled =
    let w = holding_polled old event others is.events_are now ret new polled in
    (now, w.0, w.1)

pub returns-clause-still : goal.returns-clause-still
returns-clause-still c = λ h awaited older permissions pending connecting waiting connections last events old new now sent is resting transmitted.
    tcp_binding_still h awaited older (allocation_with h permissions pending connecting waiting connections) last events old is now sent new (none_wanted h permissions now resting pending connecting waiting connections) transmitted

pub returns-clause-polled : goal.returns-clause-polled
returns-clause-polled c = λ h awaited older permissions pending connecting waiting connections queue last events old new now ret is none resting request_made early lasts polled.
    waits h awaited older permissions pending connecting waiting connections queue last events old new now ret is none resting request_made early lasts polled
