use Rattle.std.proofs.Common.{Some, refl, subst, sym}
use Rattle.turn_client_proto_recv.specs.Receipts.{IsOfStream, IsReceivedBy, Chunk, control_of, over_tcp}
use Rattle.turn_client_proto_recv.proofs.Streamed.{found_so, not_empty}
use Rattle.turn_client_proto_recv.specs.Notes.{Start}
use Rattle.turn_client_proto_recv.proofs.stream.receive.Goals as goal

pub returns-clause-received : goal.returns-clause-received
returns-clause-received g c =
    subst (λ k. IsReceivedBy g.T.AsSlice.items c.args.now (control_of k) c.args.protocol.now c.args.transmit c.take_chunk.result (over_tcp c.take_chunk.new.protocol (Some c.take_chunk.new.stream))) (sym c.in-Some.is)
    (Chunk (found_so c.is_of_stream.result (IsOfStream c.args.protocol.now c.args.transmit) _ c.if-not-is_of_stream.false c.is_of_stream.ensures)
    (not_empty c.as_slice.result.now (g.T.AsSlice.items c.args.transmit.bytes) c.is_empty.result c.is_empty.ensures c.if-is_empty.false c.as_slice.ensures)
    c.take_chunk.new.stream refl c.take_chunk.ensures.taken)

pub returns-then-is_empty-clause-noted : goal.returns-then-is_empty-clause-noted
returns-then-is_empty-clause-noted g c =
    Start
