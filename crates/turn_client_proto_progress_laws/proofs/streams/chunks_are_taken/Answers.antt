use Rattle.turn_client_proto_progress_laws.proofs.Asking.Chunks.{chunk_ends, chunk_waits}
use Rattle.turn_client_proto_progress_laws.proofs.streams.chunks_are_taken.Goals as goal

pub returns-clause-chunk : goal.returns-clause-chunk
returns-clause-chunk g c = λ b old new came now answer before message of come from some part received.
    chunk_waits b old of g.T.AsSlice.items came from now answer new before some message part come received

pub returns-clause-whole : goal.returns-clause-whole
returns-clause-whole g c = λ b old new came now answer before of come from some message answers received.
    chunk_ends b old of g.T.AsSlice.items came from now answer new before some message answers come received
