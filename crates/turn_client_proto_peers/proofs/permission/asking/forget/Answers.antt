use Rattle.std.proofs.Common.{◌≡◌, ◌<◌, List, ap, get_or, length, slice_set, subst, ◌∙◌}
use Rattle.std.proofs.lemmas.List.{get_or-set_same, length-set}
use Rattle.turn_client_proto_allocation.specs.declared.allocation.Allocation.{Allocation}
use Rattle.turn_client_proto_peers.specs.Permission.Asking.{asking}
use Rattle.turn_client_proto_allocation.proofs.Lent.{lent_back}
use Rattle.turn_client_proto_allocation.proofs.SetAgain.{set_back}
use Rattle.turn_client_proto_peers.proofs.permission.asking.forget.Goals as goal

pub returns : goal.returns
returns c = λ before a pending there is.
    let index = c.args.index in
    let lent : List Allocation = c.as_mut_slice-items.result.now in
    let found : Allocation = c.index-items-index.result in
    let x : Allocation = get_or lent index found in
    let after : Allocation = record x { pending_permissions = c.pop.new.self } in
    let left : List Allocation = slice_set lent index after in
    let was = c.as_mut_slice-items.ensures.value ∙ is in
    let long : index < length before = subst (λ n. index < n) (ap length is ∙ length-set before index (asking pending a)) c.requires in
    let here : x ≡ asking pending a =
    ap (λ l. get_or l index found) was ∙ get_or-set_same before index (asking pending a) found long in
    let popped : c.pop.new.self ≡ a.pending_permissions = c.pop.ensures.undone a.pending_permissions pending (ap (λ (y : Allocation). y.pending_permissions) here) in
    lent_back c.args.allocations.now left (length-set lent index after ∙ ap (λ (l : List Allocation). length l) c.as_mut_slice-items.ensures.value)
    ∙ ap (λ l. slice_set l index after) was
    ∙ ap (λ y. slice_set (slice_set before index (asking pending a)) index y) (ap (λ (y : Allocation). record y { pending_permissions = c.pop.new.self }) here ∙ ap (λ l. record a { pending_permissions = l }) popped)
    ∙ set_back before index a (asking pending a) there
