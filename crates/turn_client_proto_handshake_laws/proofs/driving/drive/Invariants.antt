use Rattle.turn_client_proto_handshake_laws.specs.Driving.{IsDrivenBy}
use Rattle.turn_client_proto_handshake_laws.specs.declared.driving.Stage.TheVariants.{Drawing}
use Rattle.turn_client_proto_handshake_laws.proofs.driving.drive.Given as goal

-- `counter` calls were made.
abbrev pub invariant-loop : goal.invariant-loop
invariant-loop l = IsDrivenBy l.counter (Drawing l.fn.made) l.fn.client l.stage l.client
