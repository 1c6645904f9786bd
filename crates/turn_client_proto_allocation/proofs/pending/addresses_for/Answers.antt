use Rattle.std.proofs.Common.{◌≡◌, List, sym, ap, subst, ◌∙◌}
use Rattle.std.specs.Prelude.{IfOk}
use Rattle.std.specs.declared.net.ip_addr.IpAddr.{IpAddr}
use Rattle.turn_client_proto_allocation.proofs.Changes.{found_at}
use Rattle.turn_client_proto_allocation.specs.PendingRequests.{addresses_wanted, awaits_reply}
use Rattle.turn_client_proto_allocation.proofs.pending.addresses_for.Goals as goal

pub returns : goal.returns
returns c =
    let found = found_at (awaits_reply c.args.transaction_id) c.args.allocations.now c.in-Some.index c.index-allocations-index.result (sym c.index_awaiting.ensures ∙ c.in-Some.is) c.index-allocations-index.is in
    subst (λ (l : List IpAddr). IfOk c.addresses_requested.result (λ ips. ips ≡ l)) (sym (ap (addresses_wanted c.args.transaction_id) found)) c.addresses_requested.ensures
