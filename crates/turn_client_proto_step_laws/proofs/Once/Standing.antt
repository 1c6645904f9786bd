-- What a client that has allocated does with a message is determined.
use Rattle.std.proofs.Common.{ℕ, ◌==◌, ◌&&◌, List, Option, Some, None, Ok, Err}
use Rattle.turn_client_proto_timers.specs.StunTypesWire.Attributes.{kind_at}
use Rattle.turn_client_proto_timers.specs.StunTypesWire.Grammar.{number_at}
use Rattle.turn_client_proto_timers.specs.StunTypesWire.Types.{method_of}
use Rattle.turn_client_proto_recv.specs.StunProtoClient.declared.error.LongTermClientAuthError.TheVariants.{Unauthorized, IntegrityFailed, UnsupportedFeature, NoMemory}
use Rattle.turn_client_proto_recv.specs.StunProtoClient.declared.validation.LongTermClientValidation.TheVariants.{ResendRequest, Validated}
use Rattle.turn_client_proto_timers.specs.StunProtoAgent.Handling.{is_awaited, is_response}
use Rattle.turn_client_proto_recv.specs.TurnTypesAttributes.TurnRegistry.{channel_bind_method, connect_method, create_permission_method, refresh_method}
use Rattle.turn_client_proto_timers.specs.Allocation.PendingRequests.{pending_request}
use Rattle.turn_client_proto_timers.specs.Allocation.declared.pending.PendingRequest.{PendingRequest}
use Rattle.turn_client_proto_timers.specs.Connection.Reported.{is_connect}
use Rattle.turn_client_proto_timers.specs.Core.Attempting.{after_attempt, is_attempt}
use Rattle.turn_client_proto_timers.specs.Core.Ending.{ended}
use Rattle.turn_client_proto_timers.specs.Core.Responding.{accepted, challenged, is_tired}
use Rattle.turn_client_proto_timers.specs.Core.Standing.{IsRequestedAgain, IsJudgedStanding, IsRechallenged, IsRequestAnswered, IsSentAgain, IsTakenUp, after_connect, after_refresh, asks_again}
use Rattle.turn_client_proto_timers.specs.Core.declared.protocol.Protocol.{Protocol}
use Rattle.turn_client_proto_step_laws.proofs.Once.Outcomes.{IsDefinite, handled, ignored, never, only, tested}
use Rattle.turn_client_proto_step_laws.proofs.Once.Judging.{Verdict}
use Rattle.turn_client_proto_step_laws.proofs.Once.Numbering.{numbered}
use Rattle.turn_client_proto_step_laws.proofs.Once.Binding as binding
use Rattle.turn_client_proto_step_laws.proofs.Once.Permitting as permitting

module _ (bytes : List ℕ) (now : ℕ) where
  sent_definite : (what : PendingRequest) (p : Protocol) → IsDefinite (IsSentAgain what p bytes now)
  sent_definite what p = record {
    same = λ answer again one other a b.
        numbered p (λ n. challenged bytes (asks_again what (number_at bytes) n now p)) a.number b.number answer again one other a.is_next b.is_next a.outcome b.outcome;
  }

  requested_definite : (what : Option PendingRequest) (p : Protocol) → IsDefinite (IsRequestedAgain what p bytes now)
  requested_definite None p = ignored p
  requested_definite (Some what) p = sent_definite what p

  rechallenged_definite : (p : Protocol) → IsDefinite (IsRechallenged p bytes now)
  rechallenged_definite p = tested (is_tired p) (handled (ended p))
      (tested (is_awaited p.agent bytes) (requested_definite (pending_request (number_at bytes) p.allocations) p) (ignored p))

  request_definite : (p : Protocol) → IsDefinite (IsRequestAnswered p bytes now)
  request_definite p = tested (method_of (kind_at bytes) == refresh_method) (handled (after_refresh bytes now p))
      (tested (method_of (kind_at bytes) == create_permission_method) (permitting.responded_definite p bytes now)
      (tested (method_of (kind_at bytes) == channel_bind_method) (binding.responded_definite p bytes now)
      (tested (method_of (kind_at bytes) == connect_method) (only (is_connect (pending_request (number_at bytes) p.allocations)) (after_connect bytes p)) (ignored p))))

  taken_definite : (p : Protocol) → IsDefinite (IsTakenUp p bytes now)
  taken_definite p = tested (is_response bytes && is_awaited p.agent bytes) (request_definite (accepted bytes p))
      (tested (is_attempt bytes) (handled (after_attempt bytes p)) (ignored p))

  -- The outcome by the verdict.
  pub standing_definite : (verdict : Verdict) (p : Protocol) → IsDefinite (IsJudgedStanding verdict p bytes now)
  standing_definite (Ok (ResendRequest choice)) p = rechallenged_definite p
  standing_definite (Ok (Validated algorithm)) p = taken_definite p
  standing_definite (Err NoMemory) p = never
  standing_definite (Err Unauthorized) p = ignored p
  standing_definite (Err (IntegrityFailed algorithm)) p = ignored p
  standing_definite (Err UnsupportedFeature) p = ignored p
