use Rattle.std.proofs.Common.{List, ◌∷◌, ◌+◌, take, ◌∙◌, sym}
use Rattle.std.specs.declared.net.ip_addr.IpAddr.{IpAddr}
use Rattle.turn_client_proto_allocation.proofs.Firsts.{once_again, once_new}
use Rattle.turn_client_proto_allocation.specs.Permissions.{each_once}
use Rattle.turn_client_proto_api.specs.declared.event.TurnEvent.TheVariants.{PermissionCreateFailed}
use Rattle.turn_client_proto_peers.proofs.Several.{told_again, told_more}
use Rattle.turn_client_proto_peers.proofs.permission.reporting.report_one.Goals as goal
use Rattle.turn_client_proto_peers.proofs.permission.reporting.report_one.Goals.{then-not-is_repeated+in_ok-push_back-2, else-not-is_repeated}

pub loop-index-preserved : goal.loop-index-preserved
loop-index-preserved c =
    let told : List IpAddr = each_once (c.args.pending.now.ip ∷ take c.loop-index.index c.as_slice-others.result.now) in
    let more : List IpAddr = each_once (c.args.pending.now.ip ∷ take (c.loop-index.index + 1) c.as_slice-others.result.now) in
    elim c.if-not-is_repeated.branch [
      | then-not-is_repeated+in_ok-push_back-2 w ↦
          let new = once_new c.args.pending.now.ip c.as_slice-others.result.now c.loop-index.index _ c.loop-index-test.true (sym c.is_repeated.ensures ∙ w.if-not-is_repeated.true) in
          w.events-is ∙ w.in_ok-push_back-2.ensures.ok
          ∙ told_more (PermissionCreateFailed c.args.transport) c.args.events.now c.loop-index.events told more _ c.loop-index.invariant new
      | else-not-is_repeated w ↦
          let again = once_again c.args.pending.now.ip c.as_slice-others.result.now c.loop-index.index _ c.loop-index-test.true (sym c.is_repeated.ensures ∙ w.if-not-is_repeated.false) in
          w.events-is ∙ told_again (PermissionCreateFailed c.args.transport) c.args.events.now c.loop-index.events told more c.loop-index.invariant again
    ]
