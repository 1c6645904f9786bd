use Rattle.std.proofs.Common.{arith}
use Rattle.turn_desk_trace.proofs.AlgorithmLemmas.{cut_chunks, cut_shorter}
use Rattle.turn_desk_trace.proofs.algorithms.cut.Goals as goal

pub returns-clause-chunks : goal.returns-clause-chunks
returns-clause-chunks c = cut_chunks c.args.word.now c.split_once.result (c.split_once.ensures.byte (omega arith) (λ w o h. h))

pub returns-clause-shorter : goal.returns-clause-shorter
returns-clause-shorter c = cut_shorter c.args.word.now c.split_once.result (c.split_once.ensures.byte (omega arith) (λ w o h. h))
