use Rattle.turn_runs_laws.proofs.Lawful.{lawful}
use Rattle.turn_runs_laws.proofs.stun.stun_wire_is_lawful.Goals as goal

pub returns : goal.returns
returns c = lawful
