use Rattle.turn_client_c_types.proofs.Listing.{AreWritten}
use Rattle.turn_client_c_types.proofs.address.write_ips.Given as goal

abbrev pub invariant-loop-i : goal.invariant-loop-i
invariant-loop-i l = AreWritten l.addresses l.room l.i
