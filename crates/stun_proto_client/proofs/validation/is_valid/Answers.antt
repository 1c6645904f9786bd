use Rattle.stun_proto_client.proofs.validation.is_valid.Goals as goal

pub returns-in-Err : goal.returns-in-Err
returns-in-Err c = record { wrong = λ text v. absurd (Prim.cc (c.in-Err.ensures.accepted text v.signed)) }
