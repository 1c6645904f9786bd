-- The check of password algorithms passes exactly if they are consistent.
use Rattle.std.proofs.Common.{◌≡◌, ℕ, Bool, true, false, ◌&&◌, ◌==◌, List, Option, Some, None, refl, sym, ap, ◌∙◌, nat_eq, arith, inl, inr}
use Rattle.std.specs.Cmp.Lexicographic.{pointwise, same_text, nat_list_eq_equiv}
use Rattle.std.specs.List.{list_any}
use Rattle.stun_proto_auth.specs.Wire.declared.algorithm.IntegrityAlgorithm.{IntegrityAlgorithm}
use Rattle.stun_proto_auth.specs.Wire.declared.algorithm.IntegrityAlgorithm.TheVariants.{Sha1, Sha256, Sha512}
use Rattle.stun_proto_auth.specs.SupportedAlgorithms.{is_same_algorithm, list_of, number_by}
use Rattle.stun_proto_auth.specs.Claims.{Claimed}
use Rattle.stun_proto_verify.specs.Consistency.{AreConsistent, fits_visible, is_consistent}

pub both : (a b : Bool) → (a && b) ≡ true → (a ≡ true) × (b ≡ true)
both true b h = (refl, h)
both false b h = absurd (Prim.cc h)

same_number : (a b : ℕ) → (a == b) ≡ true → a ≡ b
same_number a b h = grind (arith, h)

same_sha1 : (a : IntegrityAlgorithm) → is_same_algorithm Sha1 a ≡ true → a ≡ Sha1
same_sha1 Sha1 h = refl
same_sha1 Sha256 h = absurd (Prim.cc h)
same_sha1 Sha512 h = absurd (Prim.cc h)

shows : (supported : List IntegrityAlgorithm) (claim : Claimed) (algorithm : IntegrityAlgorithm) (list : Option (List ℕ)) (choice : Option ℕ)
    → claim.algorithms ≡ list → claim.algorithm ≡ choice → fits_visible supported list choice algorithm ≡ true → AreConsistent supported claim algorithm
shows supported claim algorithm None None l c h =
    let two = both (is_same_algorithm Sha1 algorithm) (list_any (is_same_algorithm algorithm) supported) h in
    inl (record { list = l; choice = c; own = same_sha1 algorithm two.0; among = two.1 })
shows supported claim algorithm None (Some number) l c h = absurd (Prim.cc h)
shows supported claim algorithm (Some value) None l c h = absurd (Prim.cc h)
shows supported claim algorithm (Some value) (Some number) l c h =
    let one = both (pointwise nat_eq value (list_of supported)) _ h in
    let two = both (number == number_by algorithm) (list_any (is_same_algorithm algorithm) supported) one.1 in
    inr (record {
      list = l ∙ ap (λ t. Some t) (same_text value (list_of supported) (sym one.0));
      choice = c ∙ ap (λ n. Some n) (same_number number (number_by algorithm) two.0);
      among = two.1;
    })

pub consistent_by : (supported : List IntegrityAlgorithm) (claim : Claimed) (algorithm : IntegrityAlgorithm)
    → is_consistent supported claim (Some algorithm) ≡ true → AreConsistent supported claim algorithm
consistent_by supported claim algorithm h = shows supported claim algorithm claim.algorithms claim.algorithm refl refl h

own_number : (a : IntegrityAlgorithm) → (number_by a == number_by a) ≡ true
own_number Sha1 = refl
own_number Sha256 = refl
own_number Sha512 = refl

pub visible_consistent : (supported : List IntegrityAlgorithm) (claim : Claimed) (algorithm : IntegrityAlgorithm)
    → AreConsistent supported claim algorithm → is_consistent supported claim (Some algorithm) ≡ true
visible_consistent supported claim algorithm (inl s) =
    let own : is_same_algorithm Sha1 algorithm ≡ true = ap (is_same_algorithm Sha1) s.own in
    rw (s.list, s.choice, own, s.among) refl
visible_consistent supported claim algorithm (inr s) =
    let list : pointwise nat_eq (list_of supported) (list_of supported) ≡ true = nat_list_eq_equiv.refl (list_of supported) in
    rw (s.list, s.choice, list, own_number algorithm, s.among) refl
