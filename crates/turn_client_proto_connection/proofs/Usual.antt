-- Rule sets by which several functions of this crate are proved.
use Rattle.turn_client_proto_allocation.proofs.Changes.{change_first_at, change_first_none, find_is}
use Rattle.turn_client_proto_allocation.proofs.Prefixes.{head_stored, whole_stored}
use Rattle.turn_client_proto_allocation.proofs.Heads.{head_of}

-- The first elements of a list that grows.
pub ruleset heads = (head_stored, whole_stored, head_of)

-- The first element that passes, by its index.
pub ruleset by_index = (change_first_at, change_first_none, find_is)
