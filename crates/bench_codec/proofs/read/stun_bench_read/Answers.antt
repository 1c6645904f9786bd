use Rattle.std.proofs.Common.{ℕ, List, sym, subst}
use Rattle.bench_codec.specs.Allocated.{Reports}
use Rattle.bench_codec.proofs.read.stun_bench_read.Goals as goal

pub returns-in_default-allocation_of-clause-refused :
    goal.returns-in_default-allocation_of-clause-refused
returns-in_default-allocation_of-clause-refused c same is other decodes =
    c.in_default-allocation_of.ensures other (subst (λ (m : List ℕ). Reports m other) (sym c.in-Ok.ensures.0) decodes)
