use Rattle.std.proofs.Common.{ap}
use Rattle.turn_client_proto_step_laws.specs.Connection.Visible.{connections_listed}
use Rattle.turn_client_proto_step_laws.specs.Connection.Streams.{first_raw}
use Rattle.turn_client_proto_progress_laws.proofs.connections.connections_are_listed.Goals as goal

pub returns-clause-none_waits : goal.returns-clause-none_waits
returns-clause-none_waits c = λ h awaited older permissions pending connecting waiting queue last events p is. ap first_raw is.allocations

pub returns-clause-joining_none : goal.returns-clause-joining_none
returns-clause-joining_none c = λ h awaited older permissions here peer connection number made last head queue events p is. ap first_raw is.allocations

pub returns-clause-visible : goal.returns-clause-visible
returns-clause-visible c = λ h older permissions here peer connection last stream events p is. ap connections_listed is.allocations
