use Rattle.std.proofs.Common.{refl}
use Rattle.turn_desk_world_laws.proofs.ended.ended_connections_exclude_these_clients.Goals as goal

pub returns-clause-keeps : goal.returns-clause-keeps
returns-clause-keeps c = λ w k a d k_is listed there none. none k k_is a listed d there refl

pub returns-clause-delivers : goal.returns-clause-delivers
returns-clause-delivers c = λ here peer bytes call later listed unbound each. let bound = each.0.given peer bytes listed in unbound bound.0 bound.1

pub returns-clause-lists : goal.returns-clause-lists
returns-clause-lists c = λ here peer transaction_id call later listed unbound each. unbound (each.0.visible peer transaction_id listed)
