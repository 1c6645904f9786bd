-- The encoding of an indication, part by part.
use Rattle.std.proofs.Common.{◌≡◌, ℕ, ◌+◌, ◌-◌, ◌≤◌, List, [], ◌∷◌, ◌++◌, length, drop, refl, ap, ◌∙◌, arith}
use Rattle.std.proofs.lemmas.List.{length-append, append-nil, drop_all}
use Rattle.turn_types_peer.specs.Wire.Attributes.{Attr, attr_size}
use Rattle.turn_types_peer.specs.Wire.Text.{attribute_text, body_text, header_text, message_text}
use Rattle.stun_types_add.proofs.Adds.{length-attribute_text}

header_length : (kind len number : ℕ) (body : List ℕ) → length (header_text kind len number ++ body) ≡ 20 + length body
unfolding header_text
header_length kind len number body = omega arith

-- The length of a message with two attributes.
pub whole_length : (kind number : ℕ) (a b : Attr) → length (message_text kind number (a ∷ b ∷ [])) ≡ 20 + attr_size a + attr_size b
unfolding message_text body_text
whole_length kind number a b =
    let body : List ℕ = attribute_text a ++ (attribute_text b ++ []) in
    omega (arith, header_length kind (length body) number body, length-append (attribute_text a) (attribute_text b ++ []), length-append (attribute_text b) [], length-attribute_text a, length-attribute_text b)

-- The header and two attributes, each written over as many bytes as it has, are the encoded message.
pub put_together : (kind number n : ℕ) (a b : Attr) (head first second one other : List ℕ) → head ≡ header_text kind (n - 20) number → first ≡ attribute_text a ++ drop (attr_size a) one → second ≡ attribute_text b ++ drop (attr_size b) other
    → length one ≤ attr_size a → length other ≤ attr_size b → n ≡ length (message_text kind number (a ∷ b ∷ [])) → head ++ (first ++ second) ≡ message_text kind number (a ∷ b ∷ [])
unfolding message_text body_text
put_together kind number n a b head first second one other f g h p q is =
    let body : List ℕ = attribute_text a ++ (attribute_text b ++ []) in
    let len : n - 20 ≡ length body = omega (arith, header_length kind (length body) number body) in
    let g' : first ≡ attribute_text a = g ∙ ap (λ (l : List ℕ). attribute_text a ++ l) (drop_all (attr_size a) one p) ∙ append-nil (attribute_text a) in
    let h' : second ≡ attribute_text b ++ [] = h ∙ ap (λ (l : List ℕ). attribute_text b ++ l) (drop_all (attr_size b) other q) in
    rw (f, g', h', len) refl
