use Rattle.std.proofs.Common.{◌≡◌, length}
use Rattle.stun_proto_auth.specs.Lists.{is_list}
use Rattle.stun_proto_auth.proofs.list.is_list.Given as goal

-- The remaining bytes consist of complete entries exactly if all do.
abbrev pub invariant-loop-rest : goal.invariant-loop-rest
invariant-loop-rest l = is_list l.left ≡ is_list l.fn.value

abbrev pub decreases-loop-rest : goal.decreases-loop-rest
decreases-loop-rest l = length l.left
