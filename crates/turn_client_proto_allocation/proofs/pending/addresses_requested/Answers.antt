use Rattle.std.proofs.Common.{◌≡◌, List, sym, ap, subst, ◌∙◌}
use Rattle.std.specs.Prelude.{IfOk, find}
use Rattle.std.specs.declared.net.ip_addr.IpAddr.{IpAddr}
use Rattle.turn_client_proto_allocation.proofs.Changes.{found_at}
use Rattle.turn_client_proto_allocation.specs.Awaited.{asks_for_permission}
use Rattle.turn_client_proto_allocation.specs.PendingRequests.{addresses_in}
use Rattle.turn_client_proto_allocation.specs.declared.permission.PendingPermission.{PendingPermission}
use Rattle.turn_client_proto_allocation.proofs.pending.addresses_requested.Goals as goal

pub returns : goal.returns
returns c =
    let found = found_at (asks_for_permission c.args.transaction_id) c.as_slice-pending.result.now c.in-Some.index c.index-pending-index.result (sym c.index_requested.ensures ∙ c.in-Some.is) c.index-pending-index.is in
    let asked = ap (λ (l : List PendingPermission). addresses_in (find (asks_for_permission c.args.transaction_id) l)) c.as_slice-pending.ensures in
    subst (λ (l : List IpAddr). IfOk c.addresses.result (λ ips. ips ≡ l)) (sym (ap addresses_in found) ∙ asked) c.addresses.ensures
