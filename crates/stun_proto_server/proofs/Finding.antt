-- Whom a claim names can be decided, for any claim and any server.
use Rattle.std.proofs.Common.{◌≡◌, ℕ, Bool, true, false, List, [], ◌∷◌, Option, Some, None, refl, sym, ap, ◌∙◌, nat_eq}
use Rattle.std.specs.Prelude.{◌||◌, MatchOption, is_some}
use Rattle.std.specs.Cmp.Lexicographic.{nat_list_eq_equiv, pointwise, same_text, slice_cmp}
use Rattle.std.specs.FinMap as map
use Rattle.std.specs.List.{list_any}
use Rattle.std.specs.Ordering.{eq_by_cmp, nat_cmp}
use Rattle.stun_proto_verify.specs.AuthAttributes.Userhashes.{userhash_of}
use Rattle.stun_proto_verify.specs.Auth.Claims.{Claimed}
use Rattle.stun_proto_verify.specs.Knowledge.{Named}
use Rattle.stun_proto_server.specs.Server.{Server}
use Rattle.stun_proto_server.specs.Users.{IsClaimedName, IsFound, IsFoundBy, IsUser}
use Rattle.stun_proto_server.proofs.Naming.{by_name, none_by_name, none_claimed}
use Rattle.stun_proto_server.proofs.Texts.{same_name}

inside : {A : Type 0} {a b : A} → Some a ≡ Some b → a ≡ b
inside p = Prim.cc p

-- A user whose name satisfies the condition, or that there is none.
record HasFound (server : Server) (IsName : List ℕ → Type 0) : Type 0 where
  found : Option Named
  is : IsFoundBy server IsName found

-- ---- by name

by_visible : (server : Server) (visible : List ℕ) → HasFound server (λ name. name ≡ visible)
by_visible server visible = by (map.get server.users visible) refl
  where
    by : (stored : Option (List ℕ)) → map.get server.users visible ≡ stored → HasFound server (λ name. name ≡ visible)
    by (Some password) is = record { found = Some (record { name = visible; password = password }); is = by_name server visible password is }
    by None is = record { found = None; is = none_by_name server visible is }

-- ---- by hash

module _ (server : Server) (hash : List ℕ) where
  -- The user's name has the hash.
  abbrev IsHashed : Named → Type 0
  IsHashed = IsUser server (λ name. Some hash ≡ Some (userhash_of name server.realm))

  abbrev is_among : Named → List (List ℕ) → Bool
  is_among user names = list_any (eq_by_cmp (slice_cmp nat_cmp) user.name) names

  -- A user whose name has the hash, or that none of these names is that of one.
  record Among (names : List (List ℕ)) : Type 0 where
    found : Option Named
    is : MatchOption found ((user : Named) → is_among user names ≡ true → ¬ IsHashed user) (IsHashed)

  -- One more name, which is not that of a user with the hash.
  passing : (name : List ℕ) (names : List (List ℕ)) (found : Option Named) → ((user : Named) → user.name ≡ name → ¬ IsHashed user)
      → MatchOption found ((user : Named) → is_among user names ≡ true → ¬ IsHashed user) (IsHashed) → Among (name ∷ names)
  passing name names (Some user) other is = record { found = Some user; is = is }
  passing name names None other none =
      record { found = None; is = λ user among. case user (eq_by_cmp (slice_cmp nat_cmp) user.name name) refl among }
    where
      case : (user : Named) (tied : Bool) → eq_by_cmp (slice_cmp nat_cmp) user.name name ≡ tied → is_among user (name ∷ names) ≡ true → ¬ IsHashed user
      case user true is among = other user (same_name user.name name is)
      case user false is among = none user (ap (λ b. b || is_among user names) (sym is) ∙ among)

  one_more : (name : List ℕ) (names : List (List ℕ)) → Among names → (stored : Option (List ℕ)) → map.get server.users name ≡ stored
      → (has : Bool) → pointwise nat_eq hash (userhash_of name server.realm) ≡ has → Among (name ∷ names)
  one_more name names rest (Some password) is true has = record {
    found = Some (record { name = name; password = password });
    is = record { present = is; named = ap (λ h. Some h) (same_text hash (userhash_of name server.realm) (sym has)) };
  }
  one_more name names rest (Some password) is false lacks =
      passing name names rest.found (λ user same own.
      let hashes : hash ≡ userhash_of name server.realm = inside own.named ∙ ap (λ n. userhash_of n server.realm) same in
      let has : pointwise nat_eq hash (userhash_of name server.realm) ≡ true = ap (pointwise nat_eq hash) (sym hashes) ∙ nat_list_eq_equiv.refl hash in
      Prim.cc (sym has ∙ lacks)) rest.is
  one_more name names rest None none has is =
      passing name names rest.found (λ user same own.
      let stored : map.get server.users name ≡ Some user.password = ap (map.get server.users) (sym same) ∙ own.present in
      Prim.cc (sym none ∙ stored)) rest.is

  among : (names : List (List ℕ)) → Among names
  among [] = record { found = None; is = λ user none. absurd (Prim.cc none) }
  among (name ∷ names) = one_more name names (among names) (map.get server.users name) refl (pointwise nat_eq hash (userhash_of name server.realm)) refl

  -- Each user's name is among those of the map.
  by_users : (found : Option Named) → MatchOption found ((user : Named) → is_among user (map.keys server.users) ≡ true → ¬ IsHashed user) (IsHashed)
      → HasFound server (λ name. Some hash ≡ Some (userhash_of name server.realm))
  by_users (Some user) is = record { found = Some user; is = is }
  by_users None none = record {
    found = None;
    is = λ user own. none user (sym (map.contains_key-keys server.users user.name) ∙ ap is_some own.present) own;
  }

  by_hash : HasFound server (λ name. Some hash ≡ Some (userhash_of name server.realm))
  by_hash = let all = among (map.keys server.users) in by_users all.found all.is

-- ---- by either

by_claim : (server : Server) (username hash : Option (List ℕ)) → HasFound server (IsClaimedName server.realm username hash)
by_claim server (Some visible) hash = by_visible server visible
by_claim server None (Some hash) = by_hash server hash
by_claim server None None = record { found = None; is = none_claimed server server.realm }

-- The user whom a claim names, or that it names none.
pub record IsDecided (server : Server) (claim : Claimed) : Type 0 where
  pub found : Option Named
  pub is : IsFound server claim found

pub decided : (server : Server) (claim : Claimed) → IsDecided server claim
decided server claim =
    let one = by_claim server claim.username claim.user_hash in
    record { found = one.found; is = one.is }
