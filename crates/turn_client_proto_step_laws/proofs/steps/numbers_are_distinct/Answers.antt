use Rattle.turn_client_proto_step_laws.proofs.steps.numbers_are_distinct.Goals as goal

pub returns : goal.returns
returns c = λ client sound. sound.orderly.distinct
