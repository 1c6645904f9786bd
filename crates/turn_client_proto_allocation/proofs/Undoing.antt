-- Taking back what was appended last.
use Rattle.std.proofs.Common.{◌≡◌, List, [], ◌∷◌, ap, ◌∙◌}
use Rattle.std.specs.Prelude.{map}
use Rattle.turn_client_proto_allocation.specs.Refreshing.{refreshing}
use Rattle.turn_client_proto_allocation.specs.declared.allocation.Allocation.{Allocation}
use Rattle.turn_client_proto_allocation.specs.declared.refresh.PendingRefresh.{PendingRefresh}

joined : (a b : Allocation) (one two : List Allocation) → a ≡ b → one ≡ two → a ∷ one ≡ b ∷ two
joined a b one two same rest = ap (λ (x : Allocation). x ∷ one) same ∙ ap (λ (l : List Allocation). b ∷ l) rest

-- The first allocation forgets what was appended, and so do the others.
pub forgotten : (first first' : Allocation) (others others' before : List Allocation) (refresh : PendingRefresh)
    → ((a : Allocation) (r : PendingRefresh) → first ≡ refreshing r a → first' ≡ a)
    → ((l : List Allocation) (r : PendingRefresh) → others ≡ map (refreshing r) l → others' ≡ l)
    → first ∷ others ≡ map (refreshing refresh) before → first' ∷ others' ≡ before
forgotten first first' others others' [] refresh one rest is = absurd (Prim.cc is)
forgotten first first' others others' (b ∷ before) refresh one rest is =
    joined first' b others' before (one b refresh (Prim.cc is)) (rest before refresh (Prim.cc is))
