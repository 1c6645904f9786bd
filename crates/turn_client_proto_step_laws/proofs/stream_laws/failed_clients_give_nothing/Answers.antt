use Rattle.std.proofs.Common.{ap}
use Rattle.turn_client_proto_timers.specs.Connection.Streams.{first_raw}
use Rattle.turn_client_proto_step_laws.proofs.Failed.{gives_none}
use Rattle.turn_client_proto_step_laws.proofs.stream_laws.failed_clients_give_nothing.Goals as goal

pub returns-clause-frames : goal.returns-clause-frames
returns-clause-frames c = λ now before old stream left given new failed pull. gives_none now stream old given left new pull failed.phase failed.none_allocated

pub returns-clause-bytes : goal.returns-clause-bytes
returns-clause-bytes c = λ before old failed. ap first_raw failed.none_allocated
