use Rattle.turn_desk_trace.proofs.AddressLemmas.{End}
use Rattle.turn_desk_trace.proofs.address.listed_ips.Given as goal

-- The addresses so far, and those of the words that are left, are those of all words.
abbrev pub invariant-loop-word : goal.invariant-loop-word
invariant-loop-word l = End l.words l.word-index l.ips.items
