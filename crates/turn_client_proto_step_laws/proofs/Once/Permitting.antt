-- What follows from the response to a CREATE_PERMISSION is determined.
use Rattle.std.proofs.Common.{ℕ, List, [], ◌∷◌, Option, Some, None}
use Rattle.turn_client_proto_timers.specs.StunTypesWire.Attributes.{kind_at}
use Rattle.turn_client_proto_timers.specs.StunTypesWire.Grammar.{number_at}
use Rattle.turn_client_proto_timers.specs.StunTypesWire.Types.{class_of}
use Rattle.turn_client_proto_timers.specs.Allocation.PendingRequests.{addresses_for, pending_request}
use Rattle.turn_client_proto_timers.specs.Allocation.declared.pending.PendingRequest.{PendingRequest}
use Rattle.turn_client_proto_timers.specs.Allocation.declared.pending.PendingRequest.TheVariants.{ChannelRenewal, Lifetime, NewChannel, NewConnection, NewPermission, Renewal}
use Rattle.turn_client_proto_timers.specs.Core.Permitting.{IsGrantedFor, IsPermissionResponded, IsRefusedFor, granted, refused, renews}
use Rattle.turn_client_proto_timers.specs.Core.Responding.{is_error_class}
use Rattle.turn_client_proto_timers.specs.Core.declared.protocol.Protocol.{Protocol}
use Rattle.turn_client_proto_step_laws.proofs.Once.Outcomes.{IsDefinite, handled, ignored, tested}

module _ (p : Protocol) (now number : ℕ) where
  granted_definite : (what : Option PendingRequest) → IsDefinite (IsGrantedFor what p number now)
  granted_definite None = ignored p
  granted_definite (Some (Lifetime lifetime)) = ignored p
  granted_definite (Some (NewConnection to)) = ignored p
  granted_definite (Some (NewChannel transport channel peer)) = ignored p
  granted_definite (Some (ChannelRenewal transport channel peer)) = ignored p
  granted_definite (Some (NewPermission transport ip)) = handled (granted transport (addresses_for number p.allocations) number now p)
  granted_definite (Some (Renewal transport ip)) = handled (renews number now p)

  refused_definite : (what : Option PendingRequest) → IsDefinite (IsRefusedFor what p number)
  refused_definite None = ignored p
  refused_definite (Some (Lifetime lifetime)) = ignored p
  refused_definite (Some (NewConnection to)) = ignored p
  refused_definite (Some (NewChannel transport channel peer)) = ignored p
  refused_definite (Some (ChannelRenewal transport channel peer)) = ignored p
  refused_definite (Some (NewPermission transport ip)) = handled (refused transport (addresses_for number p.allocations) number p)
  refused_definite (Some (Renewal transport ip)) = handled (refused transport (ip ∷ []) number p)

pub responded_definite : (p : Protocol) (bytes : List ℕ) (now : ℕ) → IsDefinite (IsPermissionResponded p bytes now)
responded_definite p bytes now = tested (is_error_class (class_of (kind_at bytes)))
    (refused_definite p now (number_at bytes) (pending_request (number_at bytes) p.allocations))
    (granted_definite p now (number_at bytes) (pending_request (number_at bytes) p.allocations))
