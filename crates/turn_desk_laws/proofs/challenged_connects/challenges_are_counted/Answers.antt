use Rattle.std.proofs.Common.{◌≡◌, ℕ, ◌≤◌, false, List, ◌∷◌, Option, Some, refl, ap, ◌∙◌, subst}
use Rattle.std.specs.Prelude.{Ok, find}
use Rattle.std.specs.Bool.{MatchBool}
use Rattle.std.specs.FinMap as map
use Rattle.std.proofs.lemmas.Bool.{le-ltb}
use Rattle.std.specs.declared.net.ip_addr.IpAddr.{IpAddr}
use Rattle.std.specs.declared.net.socket_addr.SocketAddr.{SocketAddr}
use Rattle.turn_client_proto_messages.specs.StunTypesBase.Times.{time_after}
use Rattle.turn_client_proto_messages.specs.StunTypesBase.declared.transport.TransportType.{TransportType}
use Rattle.turn_client_proto_messages.specs.StunTypesBase.declared.transport.TransportType.TheVariants.{Tcp}
use Rattle.turn_client_proto_messages.specs.StunProtoTransaction.Agents.{Transaction, is_due}
use Rattle.turn_client_proto_messages.specs.StunProtoAgent.Sending.{is_due_of}
use Rattle.turn_client_proto_messages.specs.StunProtoAgent.State as agents
use Rattle.turn_client_proto_messages.specs.Allocation.declared.allocation.Allocation.{Allocation}
use Rattle.turn_client_proto_messages.specs.Api.declared.event.TurnEvent.{TurnEvent}
use Rattle.turn_client_proto_messages.specs.Api.Sent.{Sent}
use Rattle.turn_client_proto_messages.specs.Waiting.{Queued, is_answer}
use Rattle.turn_client_proto_handshake_laws.specs.Core.Asking.{requested}
use Rattle.turn_client_proto_handshake_laws.specs.Core.Permitting.{IsPermissionAnswered, after_asking}
use Rattle.turn_client_proto_handshake_laws.specs.Core.declared.protocol.Protocol.{Protocol}
use Rattle.turn_client_proto_handshake_laws.specs.Requested.{Requested, transaction_of}
use Rattle.turn_client_proto_step_laws.specs.Recv.Connecting.{IsConnectAnswered, after_connecting}
use Rattle.turn_client_proto_step_laws.specs.Timers.Drawing.{Again, Fresh, IsAnswerSent, IsFreshSent, IsNextSent, IsQueuedSent, IsTransmitted, is_resting}
use Rattle.turn_client_proto_messages.specs.Api.Options.{cadence}
use Rattle.turn_client_proto_step_laws.specs.Timers.Polling.{pace_of}
use Rattle.turn_client_proto_progress_laws.specs.Holders.{Holder}
use Rattle.turn_client_proto_progress_laws.specs.TcpBinding.{IsHolding, IsReady, IsTcpBinding}
use Rattle.turn_client_proto_progress_laws.proofs.TcpBinding.Connects.{connect_refused, connect_taken}
use Rattle.turn_client_proto_progress_laws.proofs.TcpBinding.Permissions.{permission_refused, permission_taken}
use Rattle.turn_client_proto_progress_laws.proofs.TcpBinding.Tools.{clash, sends_one, where_false}
use Rattle.turn_desk_laws.proofs.challenged_connects.challenges_are_counted.Goals as goal

module _ (h : Holder) (awaited : Option Requested) (older : List Requested) (a : Allocation) (one : Queued) (rest : List Queued) (last : ℕ) (events : List TurnEvent) (p : Protocol) (w : IsTcpBinding h awaited older a (one ∷ rest) last events p) where
  -- Over TCP nothing is transmitted again.
  not_due : (now number : ℕ) (t : Transaction) → map.get p.agent.outstanding number ≡ Some t → is_due_of p.agent now t ≡ false
  not_due now number t there =
      let request_made = w.outstanding.only number t there in
      ap (λ (x : Transaction). is_due (agents.is_tcp p.agent.transport) now x) request_made.transaction_is
      ∙ ap (λ (x : TransportType). is_due (agents.is_tcp x) now (transaction_of h.started request_made.requested 1)) (w.settings.transport ∙ w.signs.over)

  transmitted_fresh : (now : ℕ) (sent : Option Sent) (q : Protocol) → IsTransmitted p now sent q → IsFreshSent p now sent q
  transmitted_fresh now sent q (Again first is r) = clash (is_due_of p.agent now r.transaction) r.least.passes (not_due now r.number r.transaction r.least.present)
  transmitted_fresh now sent q (Fresh none is) = is

  pub sent_counts : (now : ℕ) (sent : Option Sent) (q : Protocol) → time_after last cadence ≤ now → IsTransmitted p now sent q → q.resends ≡ p.resends
  sent_counts now sent q late is =
      let both = subst (λ (l : List Queued). MatchBool (is_resting (pace_of p) p.last_send now) (IsAnswerSent (find is_answer l) p sent q) (IsNextSent l p now sent q)) w.queue_is (transmitted_fresh now sent q is) in
      let free : is_resting (pace_of p) p.last_send now ≡ false = ap (λ (l : Option ℕ). is_resting (pace_of p) l now) w.last_send ∙ (ap (λ (n : ℕ). is_resting n (Some last) now) (w.settings.pace ∙ w.settings.usual.pace) ∙ le-ltb now (time_after last cadence) late) in
      let next = where_false (IsAnswerSent (find is_answer (one ∷ rest)) p sent q) (IsNextSent (one ∷ rest) p now sent q) (is_resting (pace_of p) p.last_send now) free both in
      let x = sends_one sent (λ (y : Sent). IsQueuedSent p now one rest y q) next in
      ap (λ (y : Protocol). y.resends) x.2.after

permission_counts : (h : Holder) (last : ℕ) (events : List TurnEvent) (old new : Protocol) (ip : IpAddr) (now : ℕ) → IsHolding h last events old → IsPermissionAnswered old Tcp ip now (Ok tt) new → new.resends ≡ old.resends
unfolding after_asking requested
permission_counts h last events old new ip now is answered =
    let none = permission_refused h last events old is ip now (Ok tt) new answered refl in
    let k = permission_taken h last events old is ip now (Ok tt) new answered none in
    ap (λ (x : Protocol). x.resends) k.after

connection_counts : (h : Holder) (ip : IpAddr) (granted last : ℕ) (events : List TurnEvent) (old new : Protocol) (peer : SocketAddr) (now : ℕ) → IsReady h ip granted last events old → IsConnectAnswered old peer now (Ok tt) new → new.resends ≡ old.resends
unfolding after_connecting requested
connection_counts h ip granted last events old new peer now is answered =
    let none = connect_refused h ip granted last events old is peer now (Ok tt) new answered refl in
    let k = connect_taken h ip granted last events old is peer now (Ok tt) new answered none in
    ap (λ (x : Protocol). x.resends) k.after

pub returns-clause-transmitted : goal.returns-clause-transmitted
returns-clause-transmitted c = λ h awaited older a one rest last events old new now sent is late transmitted. sent_counts h awaited older a one rest last events old is now sent new late transmitted

pub returns-clause-permission : goal.returns-clause-permission
returns-clause-permission c = λ h last events old new ip now is answered. permission_counts h last events old new ip now is answered

pub returns-clause-connection : goal.returns-clause-connection
returns-clause-connection c = λ h ip granted last events old new peer now is answered. connection_counts h ip granted last events old new peer now is answered
