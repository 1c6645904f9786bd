use Rattle.std.proofs.Common.{◌≡◌, ℕ, List, bytes_eq, refl, sym, ap, ◌∙◌}
use Rattle.stun_types_attributes.specs.Wire.Attributes.{attr_at, length_at}
use Rattle.stun_types_attributes.specs.Wire.Fingerprints.{fingerprint_value}
use Rattle.stun_types_add.specs.FingerprintValues.{turned_bytes}
use Rattle.stun_types_message.proofs.Fingerprints.{covered_by_four, value_of_four}
use Rattle.stun_types_message.proofs.fingerprint.has_value.Goals as goal

pub returns : goal.returns
returns c =
    let four : length_at c.args.rest.now ≡ 4 = sym c.requires.len ∙ c.if-len.false in
    let text = covered_by_four c.args.bytes.now c.args.rest.now _ _ four c.requires.occurs c.split_at.ensures.front c.requires.within refl in
    let own = c.of_message-own.ensures ∙ ap fingerprint_value text in
    let value = value_of_four c.args.rest.now _ _ four c.split_at-2.ensures.front c.split_at-3.ensures.back in
    c.has_value.ensures ∙ ap (λ (l : List ℕ). bytes_eq l (turned_bytes c.of_message-own.result)) value ∙ ap (λ (l : List ℕ). bytes_eq (attr_at c.args.rest.now).value l) own
