use Rattle.std.proofs.Common.{arith, bit_xor, length, get_or, ◌<◌, ◌≡◌, ap, length-append, length-drop, ℕ}
use Rattle.std.proofs.lemmas.List.{get_or_default, length-map, length-take}
use Rattle.std.proofs.lemmas.List.Edits.{map_over_more}
use Rattle.stun_types_digest.proofs.hmac.padded.Goals as goal

pub loop-byte-preserved : goal.loop-byte-preserved
loop-byte-preserved g c =
    let within : c.loop-byte.byte-index < length c.args.block.now = omega arith in
    let lengths = simp (length-append, length-map) at (ap length c.loop-byte.invariant) in
    let same : length c.loop-byte.byte-items ≡ length c.args.block.now =
    omega (arith, length-drop {A = ℕ}, length-take {A = ℕ}) in
    map_over_more (λ b. bit_xor b c.args.pad) c.args.block.now c.loop-byte.byte-items c.loop-byte.byte-index
    (get_or c.loop-byte.byte-items c.loop-byte.byte-index 0) within c.loop-byte.invariant (grind (arith, get_or_default))
