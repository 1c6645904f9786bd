use Rattle.std.proofs.Common.{List, ◌∷◌, ◌+◌, take, ◌∙◌, sym}
use Rattle.std.specs.declared.net.ip_addr.IpAddr.{IpAddr}
use Rattle.turn_client_proto_allocation.specs.Permissions.{each_once}
use Rattle.turn_client_proto_allocation.proofs.Firsts.{appended_new, once_again, once_new}
use Rattle.turn_client_proto_allocation.proofs.addresses.each_once.Goals as goal
use Rattle.turn_client_proto_allocation.proofs.addresses.each_once.Goals.{then-not-is_repeated+in_ok-push-2, else-not-is_repeated}

pub loop-index-preserved : goal.loop-index-preserved
loop-index-preserved c =
    let told : List IpAddr = each_once (c.args.ip ∷ take c.loop-index.index c.args.others.now) in
    let more : List IpAddr = each_once (c.args.ip ∷ take (c.loop-index.index + 1) c.args.others.now) in
    elim c.if-not-is_repeated.branch [
      | then-not-is_repeated+in_ok-push-2 w ↦
          let new = once_new c.args.ip c.args.others.now c.loop-index.index _ c.loop-index-test.true (sym c.is_repeated.ensures ∙ w.if-not-is_repeated.true) in
          w.ips-is ∙ w.in_ok-push-2.ensures.ok ∙ appended_new c.loop-index.ips told more _ c.loop-index.invariant new
      | else-not-is_repeated w ↦
          w.ips-is ∙ c.loop-index.invariant
          ∙ sym (once_again c.args.ip c.args.others.now c.loop-index.index _ c.loop-index-test.true (sym c.is_repeated.ensures ∙ w.if-not-is_repeated.false))
    ]
