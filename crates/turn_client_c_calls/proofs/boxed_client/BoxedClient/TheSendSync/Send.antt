-- A `BoxedClient` may cross threads, because what it holds may.
use mir.Raw.{raw}
use base.Fraction.{full_share}
use base.Shift.{Keyless}
use denote.Memory.{lone}
use denote.RawPtr.{Ptr, block_ptr, null_ptr}
use denote.Param.Send.{IsSend, part_keyless}
use Rattle.std.specs.declared.option.Option.TheVariants.{None, Some}
use Rattle.std.proofs.Crossing.{frees}
use Rattle.turn_client_c_calls.specs.contracts.whole.HandleState as inner
use Rattle.turn_client_c_calls.proofs.whole.HandleState.TheSendSync as sent
use Rattle.turn_client_c_calls.specs.Held.{Held, heap, held}
use Rattle.turn_client_c_calls.specs.contracts.boxed_client.BoxedClient.{the_row}

held_keyless : (p : Ptr) (y : Held) → Keyless (held p y)
held_keyless p None = tt
held_keyless (block_ptr b o) (Some x) = (part_keyless inner.the_row sent.the_send full_share x b o, frees.frees heap (raw (lone (inner.the_row).mir)) (block_ptr b o))
held_keyless null_ptr (Some x) = (tt, frees.frees heap (raw (lone (inner.the_row).mir)) null_ptr)

pub send : IsSend the_row
send = record { owned = λ h vs. ((λ vss. (tt, (tt, tt))), held_keyless h.at h.value); leaving = λ k d w. tt }
