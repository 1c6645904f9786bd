use Rattle.std.proofs.Common.{◌≡◌, ◌++◌, length, map}
use Rattle.std.specs.Prelude.{◌==◌}
use Rattle.std.specs.List.{IsDistinct, slice_split}
use denote.Shadow.{shadow}
use denote.Text.{Utf8}
use Rattle.stun_proto_auth.specs.SupportedAlgorithms.{is_same_algorithm}
use Rattle.turn_desk_trace.specs.Algorithms.{algorithm_word, listed}
use Rattle.turn_desk_trace.proofs.algorithms.read_algorithms.Given as goal

-- The words are the names of the algorithms read so far, which are distinct, followed by the words that are
-- left.
abbrev pub invariant-loop-name : goal.invariant-loop-name
invariant-loop-name l =
    shadow (Utf8 l.left)
    × (map algorithm_word (listed l.algorithms) ++ slice_split (λ b. b == 44) l.left ≡ slice_split (λ b. b == 44) l.fn.word)
    × IsDistinct is_same_algorithm (listed l.algorithms)

abbrev pub decreases-loop-name : goal.decreases-loop-name
decreases-loop-name l = length l.left
