use Rattle.std.proofs.Common.{◌≤◌, length, arith, refl}
use Rattle.test_driver.proofs.Deliveries.{cut_in_two, some}
use Rattle.test_driver.proofs.carrying.give_chunks.Goals as goal

pub returns : goal.returns
returns c = λ came.
    let positive : 1 ≤ c.min.result = omega (arith, c.min.ensures, c.max.ensures, c.if-reply-lt2.false) in
    let more : 1 ≤ length c.split_at.result.1.now = omega (arith, c.min.ensures, c.if-reply-lt2.false, c.split_at.ensures.back_len) in
    cut_in_two c.args.reply.now c.split_at.result.0.now c.split_at.result.1.now c.args.sent.now c.args.network.now c.cut_later.new.self c.args.world.now c.give_chunk.new.world c.wait.new.world c.give_chunk-2.new.world c.wait.new.network _ c.in_ok-wait.field-0
    c.split_at.ensures.by_index.0 (some c.split_at.result.0.now c.min.result c.split_at.ensures.front_len positive) (some c.split_at.result.1.now _ refl more)
    c.cut_later.ensures c.in_ok-give_chunk.ensures c.after-later.ensures c.in_ok-wait.ensures c.if-not-branch.false c.in_ok-give_chunk-2.ensures
