-- What C's handle of a client owns.
use base.Fml.{Fml, ftrue}
use denote.RawPtr.{Ptr}
use Rattle.std.specs.Coded.{Coded, coded_option}
use Rattle.std.specs.declared.option.Option.{Option}
use Rattle.std.specs.declared.option.Option.TheVariants.{None, Some}
use Rattle.std.specs.declared.alloc.Global.{Global}
use Rattle.std.specs.contracts.impls.GlobalAllocator.TheImpl.{ghosts}
use Rattle.std_alloc.specs.Box.Ownership.{box_owns}
use Rattle.turn_client_c_calls.specs.contracts.whole.HandleState.{the_row}
use Rattle.turn_client_c_calls.specs.declared.whole.HandleState.{HandleState}

-- A client as contracts see it, or `None`.
abbrev pub Held : Type 0
Held = Option HandleState

-- An injective code of such a value, by which proofs distinguish values.
abbrev pub held_code : Coded Held
held_code = coded_option the_row.coded

-- The allocator of the heap, a type of one value.
abbrev pub heap : Global
heap = record { memory = record { seal = tt } }

-- The box of the client behind the pointer is owned; nothing is, if there is no client.
abbrev pub held : Ptr → Held → Fml
held p None = ftrue
held p (Some x) = box_owns (ghosts.dealloc_token heap) the_row p x
