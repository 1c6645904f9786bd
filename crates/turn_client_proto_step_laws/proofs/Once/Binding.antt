-- What follows from the response to a CHANNEL_BIND is determined.
use Rattle.std.proofs.Common.{ℕ, List, Option, Some, None}
use Rattle.turn_client_proto_timers.specs.StunTypesWire.Attributes.{kind_at}
use Rattle.turn_client_proto_timers.specs.StunTypesWire.Grammar.{number_at}
use Rattle.turn_client_proto_timers.specs.StunTypesWire.Types.{class_of}
use Rattle.turn_client_proto_timers.specs.Allocation.PendingRequests.{pending_request}
use Rattle.turn_client_proto_timers.specs.Allocation.declared.pending.PendingRequest.{PendingRequest}
use Rattle.turn_client_proto_timers.specs.Allocation.declared.pending.PendingRequest.TheVariants.{ChannelRenewal, Lifetime, NewChannel, NewConnection, NewPermission, Renewal}
use Rattle.turn_client_proto_timers.specs.Core.Binding.{IsBindResponded, IsBoundFor, IsUnboundFor, bound, expires_due, permission_with, renews_channels, unbound}
use Rattle.turn_client_proto_timers.specs.Core.Responding.{is_error_class}
use Rattle.turn_client_proto_timers.specs.Core.declared.protocol.Protocol.{Protocol}
use Rattle.turn_client_proto_step_laws.proofs.Once.Outcomes.{IsDefinite, handled, ignored, tested}

module _ (p : Protocol) (now number : ℕ) where
  bound_definite : (what : Option PendingRequest) → IsDefinite (IsBoundFor what p number now)
  bound_definite None = ignored p
  bound_definite (Some (Lifetime lifetime)) = ignored p
  bound_definite (Some (NewConnection to)) = ignored p
  bound_definite (Some (NewChannel transport channel peer)) = handled (bound transport channel peer (permission_with number p.allocations) number now p)
  bound_definite (Some (ChannelRenewal transport channel peer)) = handled (renews_channels number now p)
  bound_definite (Some (NewPermission transport ip)) = ignored p
  bound_definite (Some (Renewal transport ip)) = ignored p

  unbound_definite : (what : Option PendingRequest) → IsDefinite (IsUnboundFor what p number)
  unbound_definite None = ignored p
  unbound_definite (Some (Lifetime lifetime)) = ignored p
  unbound_definite (Some (NewConnection to)) = ignored p
  unbound_definite (Some (NewChannel transport channel peer)) = handled (unbound transport peer (permission_with number p.allocations) number p)
  unbound_definite (Some (ChannelRenewal transport channel peer)) = handled (expires_due transport peer number p)
  unbound_definite (Some (NewPermission transport ip)) = ignored p
  unbound_definite (Some (Renewal transport ip)) = ignored p

pub responded_definite : (p : Protocol) (bytes : List ℕ) (now : ℕ) → IsDefinite (IsBindResponded p bytes now)
responded_definite p bytes now = tested (is_error_class (class_of (kind_at bytes)))
    (unbound_definite p now (number_at bytes) (pending_request (number_at bytes) p.allocations))
    (bound_definite p now (number_at bytes) (pending_request (number_at bytes) p.allocations))
