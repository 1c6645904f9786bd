-- What contracts see of a simulation.
use Rattle.std.specs.Coded.{Coded, code_by, coded×, coded_bool, coded_option}
use Rattle.std.specs.Prelude.{Bool, Option, refl}
use Rattle.turn_client_proto.specs.Codes.{stored_code}
use Rattle.turn_client_proto.specs.Recv.ClientState.{ClientState}
use Rattle.turn_desk_core.specs.State.{State, state_code}

-- The server core, the client's state if there is a client, and whether an allocation failed.
pub record World : Type 0 where
  pub desk : State
  pub client : Option ClientState
  pub is_failed : Bool

-- The encodings of a client's state, if there is a client, and of a simulation, by which proofs distinguish
-- their values.
abbrev pub driven_code : Coded (Option ClientState)
driven_code = coded_option stored_code

abbrev pub world_code : Coded World
world_code = code_by (State × (Option ClientState × Bool)) (coded× state_code (coded× driven_code coded_bool))
    (λ w. (w.desk, (w.client, w.is_failed))) (λ p. record { desk = p.0; client = p.1.0; is_failed = p.1.1 }) (λ _. refl)
