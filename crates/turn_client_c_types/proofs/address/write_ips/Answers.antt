use Rattle.std.proofs.Common.{◌≡◌, ◌≤◌, ◌∙◌, length, sym, arith}
use Rattle.turn_client_c_types.proofs.Listing.{continues, ends, starts, stops}
use Rattle.turn_client_c_types.proofs.address.write_ips.Goals as goal

pub returns-in_default : goal.returns-in_default
returns-in_default c = stops c.args.addresses.now c.loop-i.room _ c.loop-i.i c.loop-i-test.true (sym c.to_socket.ensures ∙ c.in_default.is) c.loop-i.invariant

pub loop-i-preserved : goal.loop-i-preserved
loop-i-preserved c =
    let fits : length c.args.addresses.now ≤ length c.loop-i.room = omega (arith, c.requires, c.loop-i.auto.room) in
    rw (c.ip.ensures) (continues c.args.addresses.now c.loop-i.room _ c.in-Some.address c.loop-i.i c.loop-i-test.true fits
    (sym c.to_socket.ensures ∙ c.in-Some.is) c.loop-i.invariant)

pub returns : goal.returns
returns c = ends c.args.addresses.now c.loop-i.room c.loop-i.i (omega (arith, c.loop-i.auto.i-end, c.loop-i-test.false)) c.loop-i.invariant
