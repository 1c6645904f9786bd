use Rattle.std.proofs.Common.{length}
use Rattle.turn_client_proto_messages.proofs.laws.+proof_ips_are_lawful.Given as goal

abbrev pub decreases-proof_ips_are_lawful : goal.decreases-proof_ips_are_lawful
decreases-proof_ips_are_lawful l = length l.ips.now
