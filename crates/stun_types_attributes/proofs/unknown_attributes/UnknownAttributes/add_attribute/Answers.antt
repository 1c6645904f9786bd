use Rattle.std.proofs.Common.{rules, ◌≡◌, ℕ, List, length, ◌*◌, sym, ap, ◌∙◌}
use Rattle.stun_types_attributes.proofs.TypeLists.{decoded_length, more_fits, more_is_refused}
use Rattle.stun_types_attributes.proofs.unknown_attributes.UnknownAttributes.add_attribute.Goals as goal

pub returns-then-len-gt-MAX_LEN-clause-cause : goal.returns-then-len-gt-MAX_LEN-clause-cause
returns-then-len-gt-MAX_LEN-clause-cause c =
    let decoded = decoded_length c.self.inside.bytes.items (search rules) in
    let counted : 2 * length c.args.self.now ≡ length c.self.inside.bytes.items = ap (λ (l : List ℕ). 2 * length l) (sym (c.self.view_is ∙ c.index_types.ensures)) ∙ decoded in
    let refused = more_is_refused c.args.atype.0 c.len-len.result c.args.self.now (search rules) (search (rules, counted)) (search rules) in
    record { named = λ _. refused; last = λ is. absurd (let p = is in cc) }

pub returns-in_err-push_type-clause-cause : goal.returns-in_err-push_type-clause-cause
returns-in_err-push_type-clause-cause c =
    let decoded = decoded_length c.self.inside.bytes.items (search rules) in
    let counted : 2 * length c.args.self.now ≡ length c.self.inside.bytes.items = ap (λ (l : List ℕ). 2 * length l) (sym (c.self.view_is ∙ c.index_types.ensures)) ∙ decoded in
    let fits = more_fits c.args.atype.0 (length c.self.inside.bytes.items) c.args.self.now (search rules) (search (rules, counted)) (search rules) in
    search (rules, fits)
