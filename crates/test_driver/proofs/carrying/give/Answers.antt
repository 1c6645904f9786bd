use Rattle.test_driver.proofs.Deliveries.{came_at_once, came_in_two, not_forged}
use Rattle.test_driver.proofs.carrying.give.Goals as goal

pub returns-in_ok-give_chunk-in-Udp : goal.returns-in_ok-give_chunk-in-Udp
returns-in_ok-give_chunk-in-Udp c = λ none.
    came_at_once c.args.reply.now c.args.sent.now c.args.network.now c.args.world.now _ c.after-arrival.ensures c.wait.new.network c.wait.new.world c.in_ok-wait.field-0 c.if-not-branch.false c.in_ok-wait.ensures
    c.forge.new.world (c.forge.ensures (not_forged c.args.network.now c.wait.new.network none c.in_ok-wait.ensures.drives.alike)) c.in-Udp.is c.give_chunk.new.world c.in_ok-give_chunk-in-Udp.ensures c.answered_by.result

pub returns-then-branch : goal.returns-then-branch
returns-then-branch c = λ none.
    came_in_two c.args.reply.now c.args.sent.now c.args.network.now c.args.world.now _ c.after-arrival.ensures c.wait.new.network c.wait.new.world c.in_ok-wait.field-0 c.if-not-branch.false c.in_ok-wait.ensures
    c.forge.new.world (c.forge.ensures (not_forged c.args.network.now c.wait.new.network none c.in_ok-wait.ensures.drives.alike)) c.in-Tcp.is c.give_chunks.new.network c.give_chunks.new.world (c.in_ok-give_chunks-in-Tcp.ensures c.if-branch.true) c.answered_by-then-branch.result
