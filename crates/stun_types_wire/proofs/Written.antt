-- A message that a writer writes is decoded as that message.
use Rattle.std.proofs.Common.{◌≡◌, ℕ, ◌^◌, ◌<◌, List, [], ◌∷◌, ◌++◌, length, replicate, map, refl, sym, ap, ◌∙◌, inl}
use Rattle.std.specs.List.{AllByRecursion}
use Rattle.std.proofs.lemmas.List.{append-nil, length-replicate}
use Rattle.stun_types_wire.specs.Attributes.{Attr, padding_len}
use Rattle.stun_types_wire.specs.Shape.{IsShape, kinds_of}
use Rattle.stun_types_wire.specs.Text.{header_text, attribute_text, body_text, message_text, Part, part_text, parts_text, attributes_of, FitsAttribute, FitsPart, IsTextOf}
use Rattle.stun_types_wire.specs.Fingerprinted.{HasOwnFingerprint}
use Rattle.stun_types_wire.specs.MessageReading.{IsReadAs}
use Rattle.stun_types_wire.proofs.Fingerprints.{written_right}
use Rattle.stun_types_wire.proofs.Texts.{text_read}

-- An attribute padded with zeros.
abbrev zero_padded : Attr → Part
zero_padded a = record { attribute = a; padding = replicate (padding_len (length a.value)) 0 }

parts_of-text : (all : List Attr) → parts_text (map zero_padded all) ≡ body_text all
unfolding parts_text body_text attribute_text
parts_of-text [] = refl
parts_of-text (a ∷ all) = ap (λ (l : List ℕ). part_text (zero_padded a) ++ l) (parts_of-text all)

parts_of-attributes : (all : List Attr) → attributes_of (map zero_padded all) ≡ all
parts_of-attributes [] = refl
parts_of-attributes (a ∷ all) = ap (λ (l : List Attr). a ∷ l) (parts_of-attributes all)

parts_of-fit : (all : List Attr) → AllByRecursion FitsAttribute all → AllByRecursion FitsPart (map zero_padded all)
parts_of-fit [] h = tt
parts_of-fit (a ∷ all) h = (record { attribute = h.0; padding = length-replicate {A = ℕ} (padding_len (length a.value)) 0 }, parts_of-fit all h.1)

pub written_text : (kind number : ℕ) (all : List Attr) → kind < 2 ^ 14 → number < 2 ^ 96 → AllByRecursion FitsAttribute all → IsShape (kinds_of all) → length (body_text all) < 2 ^ 16
    → IsTextOf kind number all (message_text kind number all)
unfolding message_text
written_text kind number all k n fits shape short =
    let body : parts_text (map zero_padded all) ++ [] ≡ body_text all = append-nil (parts_text (map zero_padded all)) ∙ parts_of-text all in
    record {
      parts = map zero_padded all;
      following = [];
      text = ap (λ (l : List ℕ). header_text kind (length l) number ++ l) (sym body);
      kind_fits = k;
      number_fits = n;
      length_fits = rw body short;
      shows = parts_of-attributes all;
      each = parts_of-fit all fits;
      shape = shape;
      ended = inl refl;
    }

pub written_read : (kind number : ℕ) (all : List Attr) → kind < 2 ^ 14 → number < 2 ^ 96 → AllByRecursion FitsAttribute all → IsShape (kinds_of all) → length (body_text all) < 2 ^ 16 → HasOwnFingerprint kind number all
    → IsReadAs kind number all (message_text kind number all)
written_read kind number all k n fits shape short own = text_read kind number all (message_text kind number all) (written_text kind number all k n fits shape short) (written_right kind number all own)
