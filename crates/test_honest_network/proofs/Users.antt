-- A server that knows one user.
use Rattle.std.proofs.Common.{◌≡◌, ℕ, Bool, true, false, cond, List, Option, Some, None, refl, sym, ap, ◌∙◌, subst}
use Rattle.std.specs.Prelude.{IsSome}
use Rattle.std.specs.Cmp.{eq_by_cmp_equiv}
use Rattle.std.specs.Cmp.Lexicographic.{nat_list_cmp_total, slice_cmp}
use Rattle.std.specs.FinMap as map
use Rattle.std.specs.FinMap.{nat_cmp-IsAntisymmetric, slice_cmp-IsAntisymmetric}
use Rattle.std.specs.Ordering.{is_eq, nat_cmp}
use Rattle.std.specs.declared.cmp.Ordering.{Ordering}
use Rattle.std.specs.declared.cmp.Ordering.TheVariants.{Less, Equal, Greater}
use Rattle.stun_proto_server.specs.Server.{Server}
use Rattle.stun_proto_server.specs.Users.{HashesDiffer}

-- ---- one user alone

abbrev alone : (name password : List ℕ) → map.FinMap (slice_cmp nat_cmp) (List ℕ)
alone name password = map.insert map.empty name password

pub put_user : (name password : List ℕ) → map.get {R = slice_cmp nat_cmp} (map.insert map.empty name password) name ≡ Some password
put_user name password =
    let same : is_eq (slice_cmp nat_cmp name name) ≡ true = (eq_by_cmp_equiv nat_list_cmp_total).refl name in
    map.get-insert nat_list_cmp_total map.empty name password name ∙ ap (λ b. cond b (Some password) (map.get {R = slice_cmp nat_cmp} map.empty name)) same

tie : (answer : Ordering) → is_eq answer ≡ true → answer ≡ Equal
tie Less is = absurd (Prim.cc is)
tie Equal is = refl
tie Greater is = absurd (Prim.cc is)

-- The server knows no other user.
none_else : (name password other : List ℕ) → IsSome (map.get (alone name password) other) → other ≡ name
none_else name password other there =
    elim (is_eq (slice_cmp nat_cmp other name)) as (λ (b : Bool). is_eq (slice_cmp nat_cmp other name) ≡ b → cond b (Some password) (map.get {R = slice_cmp nat_cmp} map.empty other) ≡ map.get (alone name password) other → other ≡ name) [
      | true ↦ λ same found. slice_cmp-IsAntisymmetric nat_cmp-IsAntisymmetric other name (tie (slice_cmp nat_cmp other name) same)
      | false ↦ λ apart found. absurd (never (map.get (alone name password) other) (sym found ∙ map.get-empty (slice_cmp nat_cmp) other) there)
    ] refl (sym (map.get-insert nat_list_cmp_total map.empty name password other))
  where
    never : (found : Option (List ℕ)) → found ≡ None → IsSome found → ⊥
    never None is there = Prim.cc there
    never (Some x) is there = Prim.cc is

-- So no two users have the same hash.
pub differ : (server : Server) (name password : List ℕ) → server.users ≡ map.insert map.empty name password → HashesDiffer server
differ server name password is = λ a b one two same.
    none_else name password a (subst (λ (m : map.FinMap (slice_cmp nat_cmp) (List ℕ)). IsSome (map.get m a)) is one)
    ∙ sym (none_else name password b (subst (λ (m : map.FinMap (slice_cmp nat_cmp) (List ℕ)). IsSome (map.get m b)) is two))
