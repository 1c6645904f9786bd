-- The users after a change, by name.
use Rattle.std.proofs.Common.{◌≡◌, ℕ, true, List, Option, refl, sym, ap, ◌∙◌, cond}
use Rattle.std.specs.declared.cmp.Ordering.{Ordering}
use Rattle.std.specs.declared.cmp.Ordering.TheVariants.{Less, Equal, Greater}
use Rattle.std.specs.BTreeMap as tree
use Rattle.std.specs.Cmp.Lexicographic.{slice_cmp}
use Rattle.std.specs.FinMap.{slice_cmp-IsAntisymmetric, nat_cmp-IsAntisymmetric}
use Rattle.std.specs.Ordering.{is_eq, nat_cmp}
use Rattle.std.proofs.lemmas.Map.Text.{btree_map_updates_text, is_eq-slice_cmp}
use Rattle.stun_proto_server.specs.StoredKeys.{UpdatesUser, UserMap}
use Rattle.stun_proto_server.specs.declared.users.KeyedUser.{KeyedUser}

-- A comparison that tests as equal is `Equal`.
tie : (answer : Ordering) → is_eq answer ≡ true → answer ≡ Equal
tie Less is = absurd (Prim.cc is)
tie Equal is = refl
tie Greater is = absurd (Prim.cc is)

-- Texts that compare as equal are equal.
pub same_name : (a b : List ℕ) → is_eq (slice_cmp nat_cmp a b) ≡ true → a ≡ b
same_name a b is = slice_cmp-IsAntisymmetric nat_cmp-IsAntisymmetric a b (tie (slice_cmp nat_cmp a b) is)

-- The credentials found for each name after the users were updated.
pub users_updates : (old new : UserMap) (name : List ℕ) (user : Option KeyedUser) → UpdatesUser name old new user
    → (q : List ℕ) → tree.get_by_text new q ≡ cond (is_eq (slice_cmp nat_cmp name q)) user (tree.get_by_text old q)
users_updates old new name user updates q =
    btree_map_updates_text name old new user updates q ∙ ap (λ b. cond b user (tree.get_by_text old q)) (sym (is_eq-slice_cmp name q))
