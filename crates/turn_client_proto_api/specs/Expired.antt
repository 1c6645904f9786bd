-- Lists of expired allocations, which have at most two.
use Rattle.std.specs.Prelude.{List, [], ◌∷◌, ◌++◌, drop, take, Option, Some, None}
use Rattle.turn_client_proto_api.specs.declared.expired.AllocationExpired.{AllocationExpired}

-- The list with an allocation added at its end: the first two of that. So a list of two stays as it is.
abbrev pub pushed : AllocationExpired → List AllocationExpired → List AllocationExpired
pushed allocation allocations = take 2 (allocations ++ allocation ∷ [])

-- The oldest, if there is one.
abbrev pub first_of : List AllocationExpired → Option AllocationExpired
first_of [] = None
first_of (first ∷ rest) = Some first

-- The list without its oldest.
abbrev pub rest_of : List AllocationExpired → List AllocationExpired
rest_of allocations = drop 1 allocations
