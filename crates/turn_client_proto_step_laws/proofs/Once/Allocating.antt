-- What a client that has not allocated does with a message is determined.
use Rattle.std.proofs.Common.{ℕ, ◌&&◌, List, Option, Some, None, Ok, Err}
use Rattle.turn_client_proto_timers.specs.StunTypesWire.Attributes.{kind_at}
use Rattle.turn_client_proto_timers.specs.StunTypesWire.declared.class.MessageClass.{MessageClass}
use Rattle.turn_client_proto_timers.specs.StunTypesWire.declared.class.MessageClass.TheVariants.{Request, Indication, Success, Error}
use Rattle.turn_client_proto_timers.specs.StunTypesWire.Types.{class_of}
use Rattle.turn_client_proto_timers.specs.StunTypesBase.declared.family.AddressFamily.{AddressFamily}
use Rattle.turn_client_proto_recv.specs.StunProtoClient.declared.error.LongTermClientAuthError.TheVariants.{Unauthorized, IntegrityFailed, UnsupportedFeature, NoMemory}
use Rattle.turn_client_proto_recv.specs.StunProtoClient.declared.validation.LongTermClientValidation.TheVariants.{ResendRequest, Validated}
use Rattle.turn_client_proto_timers.specs.StunProtoAgent.Handling.{is_awaited}
use Rattle.turn_client_proto_timers.specs.Messages.Reported.{lifetime_reported}
use Rattle.turn_client_proto_timers.specs.Core.Allocating.{IsAllocatedFor, allocated, brought}
use Rattle.turn_client_proto_timers.specs.Core.Authenticating.{IsAccepted, IsAllocateAnswered, IsAllocatingAgain, IsAskingForOther, IsChallenged, IsErrorAnswered, IsFirstJudged, IsSignedJudged, IsUnauthenticated, allocates_again, allocates_other, ends_unsigned, family_left}
use Rattle.turn_client_proto_timers.specs.Core.Ending.{ended}
use Rattle.turn_client_proto_timers.specs.Core.Responding.{accepted, answered, challenged, is_tired}
use Rattle.turn_client_proto_timers.specs.Core.declared.protocol.Protocol.{Protocol}
use Rattle.turn_client_proto_step_laws.proofs.Once.Outcomes.{IsDefinite, handled, ignored, never, tested}
use Rattle.turn_client_proto_step_laws.proofs.Once.Judging.{Verdict}
use Rattle.turn_client_proto_step_laws.proofs.Once.Numbering.{numbered}

module _ (bytes : List ℕ) (now : ℕ) where
  again_definite : (p : Protocol) → IsDefinite (IsAllocatingAgain p bytes now)
  again_definite p = record {
    same = λ answer again one other a b.
        numbered p (λ n. challenged bytes (allocates_again n now p)) a.number b.number answer again one other a.is_next b.is_next a.outcome b.outcome;
  }

  challenged_definite : (p : Protocol) → IsDefinite (IsChallenged p bytes now)
  challenged_definite p = tested (is_awaited p.agent bytes) (tested (is_tired p) (handled (ended p)) (again_definite p)) (ignored p)

  turned_definite : (p : Protocol) → IsDefinite (IsUnauthenticated p bytes)
  turned_definite p = tested (is_awaited p.agent bytes && ends_unsigned p bytes) (handled (ended (answered bytes p))) (ignored p)

  other_definite : (p : Protocol) (family : AddressFamily) → IsDefinite (IsAskingForOther p family now)
  other_definite p family = record {
    same = λ answer again one other a b.
        numbered p (λ n. allocates_other family n now p) a.number b.number answer again one other a.is_next b.is_next a.outcome b.outcome;
  }

  error_definite : (left : Option AddressFamily) (p : Protocol) → IsDefinite (IsErrorAnswered left p now)
  error_definite None p = handled (ended p)
  error_definite (Some family) p = other_definite p family

  allocated_definite : (reported : Option ℕ) (p : Protocol) → IsDefinite (IsAllocatedFor reported p bytes now)
  allocated_definite None p = handled (ended p)
  allocated_definite (Some lifetime) p = handled (allocated (brought p bytes lifetime now) p)

  class_definite : (class : MessageClass) (p : Protocol) → IsDefinite (IsAllocateAnswered class p bytes now)
  class_definite Error p = error_definite (family_left p bytes) p
  class_definite Success p = allocated_definite (lifetime_reported bytes) p
  class_definite Request p = handled p
  class_definite Indication p = handled p

  accepted_definite : (p : Protocol) → IsDefinite (IsAccepted p bytes now)
  accepted_definite p = tested (is_awaited p.agent bytes) (class_definite (class_of (kind_at bytes)) (accepted bytes p)) (handled p)

  -- The outcome by the verdict, if no ALLOCATE was signed.
  pub first_definite : (verdict : Verdict) (p : Protocol) → IsDefinite (IsFirstJudged verdict p bytes now)
  first_definite (Ok (ResendRequest choice)) p = challenged_definite p
  first_definite (Ok (Validated algorithm)) p = ignored (ended p)
  first_definite (Err NoMemory) p = never
  first_definite (Err Unauthorized) p = turned_definite p
  first_definite (Err (IntegrityFailed algorithm)) p = turned_definite p
  first_definite (Err UnsupportedFeature) p = turned_definite p

  -- The outcome by the verdict, if an ALLOCATE was signed.
  pub signed_definite : (verdict : Verdict) (p : Protocol) → IsDefinite (IsSignedJudged verdict p bytes now)
  signed_definite (Ok (ResendRequest choice)) p = challenged_definite p
  signed_definite (Ok (Validated algorithm)) p = accepted_definite p
  signed_definite (Err (IntegrityFailed algorithm)) p = tested p.auth.hardened (ignored p) (handled (ended p))
  signed_definite (Err NoMemory) p = never
  signed_definite (Err Unauthorized) p = ignored p
  signed_definite (Err UnsupportedFeature) p = ignored p
