use Rattle.turn_desk_step_laws.proofs.Served.{user_answered}
use Rattle.turn_desk_step_laws.proofs.users.users_are_answered.Goals as goal

pub returns : goal.returns
returns c = λ old new from bytes reply nonce now stream decision user served occurs stored one is answer. user_answered old new from bytes reply nonce now stream user served occurs stored one is decision answer
