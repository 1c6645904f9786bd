use Rattle.turn_client_c_calls.specs.Visible.{reported_channel}
use Rattle.turn_client_c_calls.proofs.Showing.{IsUnderWay}
use Rattle.turn_client_c_calls.proofs.getters.turn_client_channels.Given as goal

abbrev pub invariant-loop-slot : goal.invariant-loop-slot
invariant-loop-slot l = IsUnderWay reported_channel l.initial.visible l.initial.out l.visible l.out l.slot-index
