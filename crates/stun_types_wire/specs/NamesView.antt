-- The names in the fields of a `Names`.
use Rattle.std.specs.Prelude.{ℕ, List, map}
use Rattle.std.specs.BTreeMap.{BTreeMap}
use Rattle.std.specs.Borrow.{Bor}
use Rattle.std.specs.FinMap as finite
use Rattle.stun_types_wire.specs.Names.{Named, NamesByNumber}
use Rattle.stun_types_wire.specs.declared.names.Names.TheInside.{Inside}

-- The names in one field.
abbrev pub names_in : BTreeMap ℕ (Bor (List ℕ)) → NamesByNumber
names_in stored = finite.from_entries (map (λ e. (e.0, e.1.now)) stored.entries)

-- The names in both fields.
abbrev pub named_by : Inside → Named
named_by n = record { methods = names_in n.methods; attributes = names_in n.attributes }
