use Rattle.turn_client_proto_handshake_laws.proofs.Coming.{datagram_processed, none_requested, part_requested, chunk_ends, chunk_waits}
use Rattle.turn_client_proto_handshake_laws.proofs.stages.messages_reach_clients.Goals as goal

pub returns-clause-datagram : goal.returns-clause-datagram
returns-clause-datagram g c = λ b old new came now answer is over from message received.
    datagram_processed b old is g.T.AsSlice.items came from now answer new over message received

pub returns-clause-chunk : goal.returns-clause-chunk
returns-clause-chunk g c = λ b old new came now answer before message is come from some part received.
    chunk_waits b old is g.T.AsSlice.items came from now answer new before some message part come received

pub returns-clause-whole : goal.returns-clause-whole
returns-clause-whole g c = λ b old new came now answer before is come from some message received.
    chunk_ends b old is g.T.AsSlice.items came from now answer new before some message come received

pub returns-clause-waiting : goal.returns-clause-waiting
returns-clause-waiting g c = λ old new now given before message none come part requested. part_requested old now given new none before message part come requested

pub returns-clause-none_waits : goal.returns-clause-none_waits
returns-clause-none_waits g c = λ old new now given over requested. none_requested old now given new over requested
