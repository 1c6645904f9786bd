-- The times of a request's transmissions.
use Rattle.std.proofs.Common.{◌≡◌, suc, ◌+◌, ◌-◌, ◌≤◌, arith, Bool, true, false, subst}
use Rattle.std.specs.Prelude.{nat_lt, ◌&&◌}
use Rattle.std.specs.List.{sum}
use Rattle.std.proofs.lemmas.Bool.{leb-true}
use Rattle.stun_proto_transaction.specs.Schedule.{Waits, end_at, transmissions, waits_after}
use Rattle.stun_proto_transaction.proofs.Summing.{sum_grows}
use Rattle.stun_proto_transaction.specs.Agents.{Transaction, continues, has_left, next_slot}

-- A request is transmitted no more often over TCP than over UDP.
tcp_once : (tcp : Bool) (waits : Waits) → transmissions tcp waits ≤ transmissions false waits
tcp_once true waits = omega arith
tcp_once false waits = omega arith

both : (a b : Bool) → (a && b) ≡ true → b ≡ true
both true b is = is
both false b is = absurd (Prim.cc is)

-- If a transmission is left, its time is not after the end.
pub slot_before_end : (tcp : Bool) (t : Transaction) → has_left tcp t ≡ true → next_slot t ≤ end_at t.sent t.waits
slot_before_end tcp t left =
    let used = leb-true (suc t.used) (transmissions tcp t.waits) (both (continues t.cancelled) (nat_lt t.used (transmissions tcp t.waits)) left) in
    let most = tcp_once tcp t.waits in
    let grows = sum_grows t.waits t.used (transmissions false t.waits - 1 - t.used) in
    let same : t.used + (transmissions false t.waits - 1 - t.used) ≡ transmissions false t.waits - 1 = omega (arith, used, most) in
    let last : sum (waits_after t.waits t.used) ≤ sum (waits_after t.waits (transmissions false t.waits - 1)) = subst (λ n. sum (waits_after t.waits t.used) ≤ sum (waits_after t.waits n)) same grows in
    omega (arith, last)
