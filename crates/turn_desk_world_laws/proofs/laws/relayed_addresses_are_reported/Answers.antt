use Rattle.turn_desk_world_laws.proofs.Addresses.{are_reported, proof_is_read_back}
use Rattle.turn_desk_world_laws.proofs.laws.relayed_addresses_are_reported.Goals as goal

pub returns-clause-relayed : goal.returns-clause-relayed
returns-clause-relayed c = λ number relayed whole. are_reported number relayed whole

pub returns-clause-peers : goal.returns-clause-peers
returns-clause-peers c = λ number peer whole. proof_is_read_back number peer whole
