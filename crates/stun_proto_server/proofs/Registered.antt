-- The users that the registered hashes lead to.
use Rattle.std.proofs.Common.{◌≡◌, ◌≢◌, ℕ, suc, arith, Bool, true, false, cond, not, List, [], ◌∷◌, Option, Some, None, MatchOption, refl, sym, ap, ◌∙◌, subst}
use Rattle.std.specs.Prelude.{nat_eq, All, IfSome, ◌||◌}
use Rattle.std.specs.Prelude as list
use Rattle.std.specs.BTreeMap as tree
use Rattle.std.specs.Map.{lookup}
use Rattle.std.specs.Cmp.{eq_by_cmp_equiv}
use Rattle.std.specs.Cmp.Lexicographic.{pointwise, same_text, slice_cmp, nat_list_cmp_total, nat_list_eq_equiv}
use Rattle.std.specs.List.{find}
use Rattle.std.specs.Option.{option_map}
use Rattle.std.specs.Ordering.{is_eq, nat_cmp}
use Rattle.std.specs.String.{string_bytes, string_cmp}
use Rattle.std.specs.declared.alloc.Global.{Global}
use Rattle.std.specs.declared.string.String.{String}
use Rattle.stun_proto_verify.specs.Wire.Registry.{userhash_length}
use Rattle.stun_proto_server.specs.StoredKeys.{AllRegistered, IsHashed, IsRegistered, NoneHashed, UpdatesUser, UserMap, name_under}
use Rattle.stun_proto_server.specs.View.{pair_of}
use Rattle.stun_proto_server.specs.declared.users.KeyedUser.{KeyedUser}
use Rattle.stun_proto_server.proofs.Texts.{same_name, users_updates}

-- The names that are registered under hashes.
abbrev Names : Type 0
Names = tree.BTreeMap (List ℕ) (String Global)

-- The order of hashes and of names.
abbrev order : List ℕ → List ℕ → Bool
order a b = is_eq (slice_cmp nat_cmp a b)

inside : {A : Type 0} {a b : A} → Some a ≡ Some b → a ≡ b
inside p = Prim.cc p

-- ---- searching through all users

-- An entry of the map of users.
abbrev Entry : Type 0
Entry = String Global × KeyedUser

abbrev Entries : Type 0
Entries = List Entry

-- An entry that is found passes the test.
found_passes : (test : Entry → Bool) (es : Entries) (e : Entry) → find test es ≡ Some e → test e ≡ true
found_passes test [] e is = absurd (Prim.cc is)
found_passes test (x ∷ es) e is =
    elim (test x) as (λ b. test x ≡ b → cond b (Some x) (find test es) ≡ Some e → test e ≡ true) [
      | true ↦ λ passes same. subst (λ y. test y ≡ true) (inside same) passes
      | false ↦ λ fails later. found_passes test es e later
    ] refl is

-- What holds of all entries holds of the one that is found.
found_stored : (P : Entry → Type 0) (test : Entry → Bool) (es : Entries) (e : Entry) → All P es → find test es ≡ Some e → P e
found_stored P test [] e all is = absurd (Prim.cc is)
found_stored P test (x ∷ es) e all is =
    elim (test x) as (λ b. cond b (Some x) (find test es) ≡ Some e → P e) [
      | true ↦ λ same. subst P (inside same) (all 0 x (omega arith))
      | false ↦ λ later. found_stored P test es e (λ k d less. all (suc k) d (omega arith)) later
    ] is

-- If no entry's user passes a test, the user found by a name does not.
looked_up : (same : String Global → Bool) (test : KeyedUser → Bool) (es : Entries) (user : KeyedUser) → lookup same es ≡ Some user → find (λ e. test e.1) es ≡ None → test user ≡ false
looked_up same test [] user is none = absurd (Prim.cc is)
looked_up same test (x ∷ es) user is none =
    elim (test x.1) as (λ b. test x.1 ≡ b → cond b (Some x) (find (λ e. test e.1) es) ≡ None → test user ≡ false) [
      | true ↦ λ here gone. absurd (Prim.cc gone)
      | false ↦ λ fails later.
          elim (same x.0) as (λ b. cond b (Some x.1) (lookup same es) ≡ Some user → test user ≡ false) [
            | true ↦ λ found. subst (λ u. test u ≡ false) (inside found) fails
            | false ↦ λ found. looked_up same test es user found later
          ] is
    ] refl none

-- Whether a user has a hash.
abbrev has : List ℕ → KeyedUser → Bool
has hash user = pointwise nat_eq hash user.hash

-- A user that fails the test does not have the hash.
fails_test : (hash : List ℕ) (user : KeyedUser) → has hash user ≡ false → user.hash ≢ hash
fails_test hash user fails same = Prim.cc (sym fails ∙ ap (pointwise nat_eq hash) same ∙ nat_list_eq_equiv.refl hash)

-- The result of a search through all users.
pub first_is : (users : UserMap) (hash : List ℕ) (result : Option (List ℕ × KeyedUser)) → All (λ user. tree.get string_cmp users user.0 ≡ Some user.1) users.entries
    → result ≡ option_map pair_of (find (λ e. has hash e.1) users.entries) → IsHashed users hash result
first_is users hash result stored is = subst (IsHashed users hash) (sym is) (by (find (λ e. has hash e.1) users.entries) refl)
  where
    none : (name : List ℕ) (found : Option KeyedUser) → tree.get_by_text users name ≡ found → find (λ e. has hash e.1) users.entries ≡ None → IfSome found (λ user. user.hash ≢ hash)
    none name None same gone = tt
    none name (Some user) same gone = fails_test hash user (looked_up (λ k. order name (string_bytes k)) (has hash) users.entries user same gone)

    by : (found : Option Entry) → find (λ e. has hash e.1) users.entries ≡ found → IsHashed users hash (option_map pair_of found)
    by None gone = λ name. none name (tree.get_by_text users name) refl gone
    by (Some e) same = (
      found_stored (λ user. tree.get string_cmp users user.0 ≡ Some user.1) (λ d. has hash d.1) users.entries e stored same,
      sym (same_text hash e.1.hash (sym (found_passes (λ d. has hash d.1) users.entries e same))),
    )

-- ---- searching for the hash

-- If the user registered under a hash does not have it, no user has it.
pub none_under : (by_hash : Names) (users : UserMap) (hash : List ℕ) (found : Option (String Global)) → AllRegistered by_hash users → found ≡ tree.get (slice_cmp nat_cmp) by_hash hash
    → IfSome found (λ name. IfSome (tree.get_by_text users (string_bytes name)) (λ user. user.hash ≢ hash)) → NoneHashed users hash
none_under by_hash users hash found all is lacks q = by (tree.get_by_text users q) refl (all q)
  where
    named : (name : Option (String Global)) → IfSome name (λ n. IfSome (tree.get_by_text users (string_bytes n)) (λ user. user.hash ≢ hash))
        → option_map string_bytes name ≡ Some q → IfSome (tree.get_by_text users q) (λ user. user.hash ≢ hash)
    named None fails same = absurd (Prim.cc same)
    named (Some name) fails same = subst (λ n. IfSome (tree.get_by_text users n) (λ user. user.hash ≢ hash)) (inside same) fails

    by : (own : Option KeyedUser) → tree.get_by_text users q ≡ own → IfSome own (IsRegistered by_hash q) → IfSome own (λ user. user.hash ≢ hash)
    by None own_is registered = tt
    by (Some user) own_is registered = λ same.
        let under : option_map string_bytes found ≡ Some q = ap (option_map string_bytes) (is ∙ ap (tree.get (slice_cmp nat_cmp) by_hash) (sym same)) ∙ registered.under in
        subst (λ (o : Option KeyedUser). IfSome o (λ own. own.hash ≢ hash)) own_is (named found lacks under) same

-- A user that fails the test, found by the registered name.
pub lacks_hash : (users : UserMap) (hash name : List ℕ) (user : KeyedUser) → Some user ≡ tree.get_by_text users name → has hash user ≡ false
    → IfSome (tree.get_by_text users name) (λ own. own.hash ≢ hash)
lacks_hash users hash name user is fails = subst (λ (o : Option KeyedUser). IfSome o (λ own. own.hash ≢ hash)) is (fails_test hash user fails)

-- ---- changes

-- A name stays registered under its hash if, at that hash, the change registers it again.
still : (old new : Names) (hash : List ℕ) (to : Option (String Global)) → ((q : List ℕ) → tree.get (slice_cmp nat_cmp) new q ≡ cond (order hash q) to (tree.get (slice_cmp nat_cmp) old q))
    → (own name : List ℕ) → (hash ≡ own → option_map string_bytes to ≡ Some name) → name_under old own ≡ Some name → name_under new own ≡ Some name
still old new hash to updates own name again under =
    ap (option_map string_bytes) (updates own)
    ∙ elim (order hash own) as (λ b. order hash own ≡ b → option_map string_bytes (cond b to (tree.get (slice_cmp nat_cmp) old own)) ≡ Some name) [
      | true ↦ λ ties. again (same_name hash own ties)
      | false ↦ λ apart. under
    ] refl

-- Texts that are equal compare as equal.
ties_with : (a b : List ℕ) → a ≡ b → order a b ≡ false → ⊥
ties_with a b same apart = apart_from_itself b (subst (λ x. order x b ≡ false) same apart)
  where
    apart_from_itself : (x : List ℕ) → order x x ≡ false → ⊥
    apart_from_itself x is = Prim.cc (sym is ∙ (eq_by_cmp_equiv nat_list_cmp_total).refl x)

-- After a user and the name under its hash are removed, each other user's name is registered.
pub removed : (by_hash by_hash' : Names) (users users' : UserMap) (name : List ℕ) (user : KeyedUser) → AllRegistered by_hash users → Some user ≡ tree.get_by_text users name
    → UpdatesUser name users users' None → tree.UpdatesBy (slice_cmp nat_cmp) (slice_cmp nat_cmp user.hash) by_hash by_hash' None → AllRegistered by_hash' users'
removed by_hash by_hash' users users' name user all is updates unregisters q =
    subst (λ (o : Option KeyedUser). IfSome o (IsRegistered by_hash' q)) (sym (users_updates users users' name None updates q))
    (by (order name q) refl (tree.get_by_text users q) (all q))
  where
    mine : IsRegistered by_hash name user
    mine = subst (λ (o : Option KeyedUser). IfSome o (IsRegistered by_hash name)) (sym is) (all name)

    by : (b : Bool) → order name q ≡ b → (own : Option KeyedUser) → IfSome own (IsRegistered by_hash q) → IfSome (cond b None own) (IsRegistered by_hash' q)
    by true ties own registered = tt
    by false apart None registered = tt
    by false apart (Some own) registered = record {
      length = registered.length;
      under = still by_hash by_hash' user.hash None unregisters.0 own.hash q
          (λ same. absurd (ties_with name q (inside (sym mine.under ∙ ap (name_under by_hash) same ∙ registered.under)) apart)) registered.under;
    }

-- A name registered before under a hash is this one.
abbrev pub IsSameName : Names → List ℕ → List ℕ → Type 0
IsSameName by_hash hash name = IfSome (tree.get (slice_cmp nat_cmp) by_hash hash) (λ other. string_bytes other ≡ name)

-- If a user has a hash under which only one name was registered, the user has that name.
is_same : (by_hash : Names) (hash name own q : List ℕ) → IsSameName by_hash hash name → name_under by_hash own ≡ Some q → hash ≡ own → name ≡ q
is_same by_hash hash name own q same under hash_is = by (tree.get (slice_cmp nat_cmp) by_hash hash) same (ap (name_under by_hash) hash_is ∙ under)
  where
    by : (found : Option (String Global)) → IfSome found (λ other. string_bytes other ≡ name) → option_map string_bytes found ≡ Some q → name ≡ q
    by None named is = absurd (Prim.cc is)
    by (Some other) named is = sym named ∙ inside is

-- After a user and the name under its hash are stored, each user's name is registered.
pub inserted : (by_hash by_hash' : Names) (users users' : UserMap) (name : List ℕ) (copy : String Global) (user : KeyedUser) → AllRegistered by_hash users → list.length user.hash ≡ userhash_length → string_bytes copy ≡ name
    → IsSameName by_hash user.hash name → UpdatesUser name users users' (Some user)
    → tree.UpdatesBy (slice_cmp nat_cmp) (slice_cmp nat_cmp user.hash) by_hash by_hash' (Some copy) → AllRegistered by_hash' users'
inserted by_hash by_hash' users users' name copy user all long copied same updates registers q =
    subst (λ (o : Option KeyedUser). IfSome o (IsRegistered by_hash' q)) (sym (users_updates users users' name (Some user) updates q))
    (by (order name q) refl (tree.get_by_text users q) (all q))
  where
    by : (b : Bool) → order name q ≡ b → (own : Option KeyedUser) → IfSome own (IsRegistered by_hash q) → IfSome (cond b (Some user) own) (IsRegistered by_hash' q)
    by true ties own registered = record {
      length = long;
      under = ap (option_map string_bytes) registers.1 ∙ ap Some (copied ∙ same_name name q ties);
    }
    by false apart None registered = tt
    by false apart (Some own) registered = record {
      length = registered.length;
      under = still by_hash by_hash' user.hash (Some copy) registers.0 own.hash q
          (λ hash_is. ap Some (copied ∙ is_same by_hash user.hash name own.hash q same registered.under hash_is)) registered.under;
    }

-- If a name was registered for a user that was not stored, and removed again, each user's name is registered.
pub undone : (by_hash between by_hash' : Names) (users users' : UserMap) (hash name : List ℕ) (copy : String Global) → AllRegistered by_hash users
    → IsSameName by_hash hash name → tree.get_by_text users name ≡ None → tree.IsUnchanged users users'
    → tree.UpdatesBy (slice_cmp nat_cmp) (slice_cmp nat_cmp hash) by_hash between (Some copy) → tree.UpdatesBy (slice_cmp nat_cmp) (slice_cmp nat_cmp hash) between by_hash' None
    → AllRegistered by_hash' users'
undone by_hash between by_hash' users users' hash name copy all same absent unchanged registers unregisters q =
    subst (λ es. IfSome (lookup (λ k. order q (string_bytes k)) es) (IsRegistered by_hash' q)) (sym unchanged)
    (by (tree.get_by_text users q) refl (all q))
  where
    updates : (p : List ℕ) → tree.get (slice_cmp nat_cmp) by_hash' p ≡ cond (order hash p) None (tree.get (slice_cmp nat_cmp) by_hash p)
    updates p =
        unregisters.0 p ∙ ap (cond (order hash p) None) (registers.0 p)
        ∙ elim (order hash p) as (λ b. cond b None (cond b (Some copy) (tree.get (slice_cmp nat_cmp) by_hash p)) ≡ cond b None (tree.get (slice_cmp nat_cmp) by_hash p)) [
          | true ↦ refl
          | false ↦ refl
        ]

    by : (own : Option KeyedUser) → tree.get_by_text users q ≡ own → IfSome own (IsRegistered by_hash q) → IfSome own (IsRegistered by_hash' q)
    by None own_is registered = tt
    by (Some own) own_is registered = record {
      length = registered.length;
      under = still by_hash by_hash' hash None updates own.hash q
          (λ hash_is. absurd (Prim.cc (sym absent ∙ ap (tree.get_by_text users) (is_same by_hash hash name own.hash q same registered.under hash_is) ∙ own_is))) registered.under;
    }

-- If no two users had the same hash, none had before, and a name registered before is this one.
pub none_shared : (former : Option (String Global)) (name : List ℕ) (before after : Bool)
    → MatchOption former (after ≡ before) (λ other. after ≡ (before || not (pointwise nat_eq (string_bytes other) name))) → after ≡ false
    → (before ≡ false) × IfSome former (λ other. string_bytes other ≡ name)
none_shared None name before after decides is = (sym decides ∙ is, tt)
none_shared (Some other) name before after decides is =
    let both = neither before (pointwise nat_eq (string_bytes other) name) (sym decides ∙ is) in
    (both.0, same_text (string_bytes other) name both.1)
  where
    neither : (a b : Bool) → (a || not b) ≡ false → (a ≡ false) × (true ≡ b)
    neither true b is = absurd (Prim.cc is)
    neither false true is = (refl, refl)
    neither false false is = absurd (Prim.cc is)
