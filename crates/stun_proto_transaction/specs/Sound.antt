-- The invariant of the table of outstanding requests, and its value as contracts see it.
use Rattle.std.specs.Prelude.{◌≡◌, ℕ, Bool, List, map}
use Rattle.std.specs.FinMap as finite
use Rattle.stun_proto_transaction.specs.Agents.{Transaction, ends_from, sends_from}
use Rattle.stun_proto_transaction.specs.StoredRequests.{Requests}
use Rattle.stun_proto_transaction.specs.Sorted.{IsStrictlySorted}
use Rattle.stun_proto_transaction.specs.declared.outstanding.Outstanding.TheInside.{Inside}

-- The entries are sorted by transaction ID. The stored times are, index by index, those that the schedules of
-- the requests give.
pub record IsSound (is_tcp : Bool) (entries : List (ℕ × Transaction)) (sends ends : List ℕ) : Type 0 where
  pub sorted : IsStrictlySorted entries
  pub sends_stored : sends ≡ map (λ e. sends_from is_tcp e.1) entries
  pub ends_stored : ends ≡ map (λ e. ends_from e.1) entries

-- The invariant, for the fields of the table.
abbrev pub IsOutstanding : Inside → Type 0
IsOutstanding o = IsSound o.is_tcp o.entries.items o.sends o.ends

-- The requests by transaction ID, as contracts see them.
abbrev pub requests_of : Inside → Requests
requests_of o = record { is_tcp = o.is_tcp; by_number = finite.from_entries o.entries.items }
