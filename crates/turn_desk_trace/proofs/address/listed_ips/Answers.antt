use Rattle.std.proofs.Common.{arith}
use Rattle.turn_desk_trace.proofs.AddressLemmas.{all_read, one_is_none}
use Rattle.turn_desk_trace.proofs.address.listed_ips.Goals as goal

pub returns-in_default-clause-bad : goal.returns-in_default-clause-bad
returns-in_default-clause-bad c = λ bad. one_is_none c.args.words.now c.loop-word.word-index _ (omega arith) c.in_default.ensures

pub returns-clause-ok : goal.returns-clause-ok
returns-clause-ok c = all_read c.args.words.now c.loop-word.ips.items c.loop-word.word-index (omega arith) c.loop-word.invariant
