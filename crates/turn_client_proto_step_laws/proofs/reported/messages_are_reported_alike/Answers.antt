use Rattle.turn_client_proto_step_laws.proofs.Alike.{connection_alike, lifetime_alike, relayed_alike}
use Rattle.turn_client_proto_step_laws.proofs.reported.messages_are_reported_alike.Goals as goal

pub returns-clause-relayed : goal.returns-clause-relayed
returns-clause-relayed c = λ bytes each. relayed_alike bytes each

pub returns-clause-lifetime : goal.returns-clause-lifetime
returns-clause-lifetime c = λ bytes. lifetime_alike bytes

pub returns-clause-connection : goal.returns-clause-connection
returns-clause-connection c = λ bytes. connection_alike bytes
