use Rattle.std.proofs.Common.{rules}
use Rattle.turn_client_proto_payload.proofs.indication.reported_in.Goals as goal
use Rattle.turn_client_proto_payload.proofs.indication.reported_in.Goals.{then-eq, else-eq+then-eq-2, else-eq+else-eq-2+then-eq-3, else-eq+else-eq-2+else-eq-3+else-comprehension_required}

pub loop-offset-preserved : goal.loop-offset-preserved
loop-offset-preserved c = elim c.if-eq.branch [
  | then-eq w ↦ search rules
  | else-eq+then-eq-2 w ↦ search rules
  | else-eq+else-eq-2+then-eq-3 w ↦ search rules
  | else-eq+else-eq-2+else-eq-3+else-comprehension_required w ↦ search rules
]

pub loop-offset-preserved-after-eq : goal.loop-offset-preserved-after-eq
loop-offset-preserved-after-eq c = elim c.if-eq.branch [
  | then-eq w ↦ search rules
  | else-eq+then-eq-2 w ↦ search rules
  | else-eq+else-eq-2+then-eq-3 w ↦ search rules
  | else-eq+else-eq-2+else-eq-3+else-comprehension_required w ↦ search rules
]
