use Rattle.turn_desk_world_laws.proofs.AtClient.{received}
use Rattle.turn_desk_world_laws.proofs.laws.receipts_are_steps.Goals as goal

pub returns : goal.returns
returns g c = λ client came now answer new sound are_bytes is. received _ client sound came now answer new.core are_bytes is.0
