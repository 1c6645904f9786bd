use Rattle.std.proofs.Common.{◌++◌}
use Rattle.turn_client_proto_progress_laws.proofs.TcpBinding.Arriving.{gives_none, chunk_ends, chunk_waits}
use Rattle.turn_desk_laws.proofs.RefreshArriving.{response_processed}
use Rattle.turn_desk_laws.proofs.challenged_refreshes.responses_reach_clients.Goals as goal

pub returns-clause-datagram : goal.returns-clause-datagram
returns-clause-datagram g c = λ b old new came now answer is over from message no received.
    response_processed b old is g.T.AsSlice.items came from now answer new over message no received

pub returns-clause-chunk : goal.returns-clause-chunk
returns-clause-chunk g c = λ b old new came now answer before message is come from some part received.
    chunk_waits b old is g.T.AsSlice.items came from now answer new before some message part come received

pub returns-clause-whole : goal.returns-clause-whole
returns-clause-whole g c = λ b old new came now answer before is come from some message no received.
    chunk_ends b old is g.T.AsSlice.items came from now answer new before some message (gives_none old.core (before ++ g.T.AsSlice.items came.bytes) message no) come received
