use Rattle.std.proofs.Common.{sym, ◌∙◌}
use Rattle.test_honest_network.proofs.Joined.{linked}
use Rattle.test_honest_network.proofs.tcp_binding.link_in.Goals as goal

pub returns-in-Allocated : goal.returns-in-Allocated
returns-in-Allocated c = λ plan fresh stream keeps apart made second asks whole.
    linked c.challenged_bindings_go_again.ensures plan c.args.address c.args.peer c.args.local c.args.world.now fresh stream keeps apart second c.shake.new.world c.go.new.world
    (rw c.in-Allocated.is at (c.in_ok-shake.ensures plan fresh made (second ∙ sym c.from_nanos-second.ensures) asks whole)) c.go.result c.go.ensures
