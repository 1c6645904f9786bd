use Rattle.std.proofs.Common.{◌≡◌, ◌<◌, List, ap, get_or, length, slice_set, subst, ◌∙◌}
use Rattle.std.proofs.lemmas.List.{get_or-set_same, length-set}
use Rattle.turn_client_proto_allocation.specs.declared.allocation.Allocation.{Allocation}
use Rattle.turn_client_proto_connection.specs.Asking.{connecting}
use Rattle.turn_client_proto_allocation.proofs.Lent.{lent_back}
use Rattle.turn_client_proto_allocation.proofs.SetAgain.{set_back}
use Rattle.turn_client_proto_connection.proofs.asking.forget.Goals as goal

pub returns : goal.returns
returns c = λ before a pending there is.
    let index = c.args.index in
    let lent : List Allocation = c.as_mut_slice-items.result.now in
    let found : Allocation = c.index-items-index.result in
    let x : Allocation = get_or lent index found in
    let after : Allocation = record x { connecting = c.pop.new.self } in
    let left : List Allocation = slice_set lent index after in
    let was = c.as_mut_slice-items.ensures.value ∙ is in
    let long : index < length before = subst (λ n. index < n) (ap length is ∙ length-set before index (connecting pending a)) c.requires in
    let here : x ≡ connecting pending a =
    ap (λ l. get_or l index found) was ∙ get_or-set_same before index (connecting pending a) found long in
    let popped : c.pop.new.self ≡ a.connecting = c.pop.ensures.undone a.connecting pending (ap (λ (y : Allocation). y.connecting) here) in
    lent_back c.args.allocations.now left (length-set lent index after ∙ ap (λ (l : List Allocation). length l) c.as_mut_slice-items.ensures.value)
    ∙ ap (λ l. slice_set l index after) was
    ∙ ap (λ y. slice_set (slice_set before index (connecting pending a)) index y) (ap (λ (y : Allocation). record y { connecting = c.pop.new.self }) here ∙ ap (λ l. record a { connecting = l }) popped)
    ∙ set_back before index a (connecting pending a) there
