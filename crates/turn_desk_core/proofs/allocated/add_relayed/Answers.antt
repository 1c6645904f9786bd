use Rattle.std.proofs.Common.{◌≡◌, ◌∷◌, [], ◌++◌, List, ℕ, refl, sym, ap, subst}
use Rattle.std.specs.Prelude.{option_to_list}
use Rattle.std.specs.Option.{option_copied}
use Rattle.stun_types_wire.specs.Attributes.{Attr}
use Rattle.stun_types_write.specs.Adding.{attr_of}
use Rattle.stun_types_write.specs.Lent.{own_draft}
use Rattle.stun_types_add.specs.Calls.{IsComposed}
use Rattle.stun_types_add.proofs.Taken.{composed_more}
use Rattle.turn_desk_core.specs.Replies.{relayed_attribute, relayed_attributes}
use Rattle.turn_desk_core.proofs.allocated.add_relayed.Goals as goal
use Rattle.turn_types_attributes.specs.TurnRegistry.{xor_relayed_address_kind}

pub returns-in_ok-add_as-clause-composed : goal.returns-in_ok-add_as-clause-composed
returns-in_ok-add_as-clause-composed c = λ kind attributes old h.
    let number = c.args.transaction_id in
    let new = own_draft c.add_as.new.writer in
    let made = composed_more kind number attributes _ old _ _ h c.in_ok-add_as.ensures.ok refl c.in_ok-add_as.ensures.cause in
    let value : attr_of xor_relayed_address_kind c.new-relayed.result ≡ relayed_attribute number c.in-Some.addr.now = ap (λ (v : List ℕ). attr_of xor_relayed_address_kind v) c.new-relayed.ensures in
    let own : IsComposed kind number (attributes ++ relayed_attribute number c.in-Some.addr.now ∷ []) old new = subst (λ (a : Attr). IsComposed kind number (attributes ++ a ∷ []) old new) value made in
    subst (λ r. IsComposed kind number (attributes ++ relayed_attributes number (option_to_list (option_copied r))) old new) (sym c.in-Some.is) own
