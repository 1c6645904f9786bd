-- The event for an allocation.
use Rattle.turn_client_proto_allocation.specs.declared.allocation.Allocation.{Allocation}
use Rattle.turn_client_proto_api.specs.declared.event.TurnEvent.{TurnEvent}
use Rattle.turn_client_proto_api.specs.declared.event.TurnEvent.TheVariants.{AllocationCreated}

-- The event for an allocation that the server has granted.
abbrev pub created : Allocation → TurnEvent
created a = AllocationCreated a.transport a.address
