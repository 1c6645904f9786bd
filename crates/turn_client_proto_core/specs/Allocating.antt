-- The success response to an ALLOCATE (RFC 8656, section 7.3).
use Rattle.std.specs.Prelude.{ℕ, Bool, List, [], ◌∷◌, ◌++◌, map, Option, Some, None}
use Rattle.turn_client_proto_allocation.specs.declared.allocation.Allocation.{Allocation}
use Rattle.turn_client_proto_api.specs.declared.event.TurnEvent.TheVariants.{AllocationCreateFailed}
use Rattle.turn_client_proto_messages.specs.Granting.{allocations_of, families_without}
use Rattle.turn_client_proto_messages.specs.Reporting.{created}
use Rattle.turn_client_proto_messages.specs.Reported.{lifetime_reported, relayed_reported}
use Rattle.turn_client_proto_core.specs.Ending.{ended}
use Rattle.turn_client_proto_core.specs.Outcomes.{IsHandled}
use Rattle.turn_client_proto_core.specs.declared.protocol.Phase.{Phase}
use Rattle.turn_client_proto_core.specs.declared.protocol.Phase.TheVariants.{Authenticated, Ended}
use Rattle.turn_client_proto_core.specs.declared.protocol.Protocol.{Protocol}

-- The phase of a client with these allocations.
abbrev pub phase_by : List Allocation → Phase
phase_by [] = Ended
phase_by (a ∷ rest) = Authenticated

-- The client after these allocations were granted. An event is queued for each allocation, and then for each
-- requested family that got none.
unfoldable pub allocated : List Allocation → Protocol → Protocol
allocated allocations p = record p {
  phase = phase_by allocations;
  allocations = allocations;
  events = (p.events ++ map created allocations)
      ++ map AllocationCreateFailed (families_without p.families allocations);
}

-- The allocations that a success response grants.
abbrev pub brought : Protocol → List ℕ → ℕ → ℕ → List Allocation
brought p bytes lifetime now = allocations_of p.families p.allocates lifetime now (relayed_reported bytes)

-- The outcome of a success response, by its LIFETIME. A response without one ends the client.
abbrev pub IsAllocatedFor : Option ℕ → Protocol → List ℕ → ℕ → Bool → Protocol → Type 0
IsAllocatedFor None p bytes now handled new = IsHandled (ended p) handled new
IsAllocatedFor (Some lifetime) p bytes now handled new =
    IsHandled (allocated (brought p bytes lifetime now) p) handled new

abbrev pub IsAllocated : Protocol → List ℕ → ℕ → Bool → Protocol → Type 0
IsAllocated p bytes now handled new = IsAllocatedFor (lifetime_reported bytes) p bytes now handled new
