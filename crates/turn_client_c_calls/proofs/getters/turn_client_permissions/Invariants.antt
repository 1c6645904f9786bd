use Rattle.turn_client_c_types.specs.Addresses.{reported_ip}
use Rattle.turn_client_c_calls.proofs.Showing.{IsUnderWay}
use Rattle.turn_client_c_calls.proofs.getters.turn_client_permissions.Given as goal

abbrev pub invariant-loop-slot : goal.invariant-loop-slot
invariant-loop-slot l = IsUnderWay reported_ip l.initial.visible l.initial.out l.visible l.out l.slot-index
