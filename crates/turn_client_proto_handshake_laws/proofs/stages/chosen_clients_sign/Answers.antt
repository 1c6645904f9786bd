use Rattle.std.proofs.Common.{[], ◌∷◌}
use Rattle.turn_client_proto_handshake_laws.specs.Stages.{signed_queued}
use Rattle.turn_client_proto_handshake_laws.proofs.Signing.{chosen_late, chosen_rests, chosen_signs, chosen_waits, signing_again}
use Rattle.turn_client_proto_handshake_laws.proofs.stages.chosen_clients_sign.Goals as goal

pub returns-clause-again : goal.returns-clause-again
returns-clause-again c = λ b choice many last old new now sent is due generated. signing_again b choice many last (signed_queued b choice ∷ []) old is now sent new due generated

pub returns-clause-rests : goal.returns-clause-rests
returns-clause-rests c = λ b choice many last old new now sent is quiet early generated. chosen_rests b choice many last old is now sent new quiet early generated

pub returns-clause-signs : goal.returns-clause-signs
returns-clause-signs c = λ b choice many last old new now sent is quiet late generated. chosen_signs b choice many last old is now sent new quiet late generated

pub returns-clause-polled : goal.returns-clause-polled
returns-clause-polled c = λ b choice many last old new now ret is before polled. chosen_waits b choice many last old is now ret new before polled

pub returns-clause-late : goal.returns-clause-late
returns-clause-late c = λ b choice many last old new now sent is late generated. chosen_late b choice many last old is now sent new late generated
