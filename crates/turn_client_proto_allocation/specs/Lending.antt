-- The allocations of a client after a `&mut` borrow of them has ended.
use Rattle.std.specs.Prelude.{List, take, drop, ◌++◌, length}
use Rattle.std.specs.Borrow.{Lends, Fml, MutBor, Array}
use Rattle.turn_client_proto_allocation.specs.contracts.allocation.Allocation as allocation
use Rattle.turn_client_proto_allocation.specs.contracts.listed.Allocations.{the_row}
use Rattle.turn_client_proto_allocation.specs.declared.allocation.Allocation.{Allocation}

-- The allocations are those that the borrow held last, and their count is the same as before.
abbrev pub LendsAllocations : MutBor (List Allocation) → MutBor (List Allocation) → Fml
LendsAllocations lent borrow = Lends the_row (Array allocation.the_row 0) lent borrow
    (λ visible. take (length lent.now) (visible ++ drop (length visible) lent.now))
