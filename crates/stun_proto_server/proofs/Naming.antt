-- The users that a name, or the hash of one, names.
use Rattle.std.proofs.Common.{◌≡◌, ◌≢◌, ℕ, List, Option, Some, None, refl, sym, ap, ◌∙◌, subst, Bor}
use Rattle.std.specs.Prelude.{IfSome}
use Rattle.std.specs.BTreeMap as tree
use Rattle.std.specs.FinMap as map
use Rattle.std.specs.Option.{option_map}
use Rattle.std.specs.String.{string_bytes}
use Rattle.stun_proto_verify.specs.AuthAttributes.Userhashes.{userhash_of}
use Rattle.stun_proto_verify.specs.Knowledge.{Named}
use Rattle.stun_proto_server.specs.StoredKeys.{AllHaveKeys, HasKeys, IsHashed, IsKeyed, NoneHashed}
use Rattle.stun_proto_server.specs.Server.{Server}
use Rattle.stun_proto_server.specs.Users.{IsClaimedName, IsFoundBy, IsUser}
use Rattle.stun_proto_server.specs.View.{server_of}
use Rattle.stun_proto_server.specs.declared.long_term.LongTermServerAuth.TheInside.{Inside}
use Rattle.stun_proto_server.specs.declared.users.KeyedUser.{KeyedUser}
use Rattle.stun_proto_server.proofs.Maps.{get-users, keys_found, password_of}

inside : {A : Type 0} {a b : A} → Some a ≡ Some b → a ≡ b
inside p = Prim.cc p

-- ---- by name

-- A name with a password is that of a user.
pub by_name : (server : Server) (name password : List ℕ) → map.get server.users name ≡ Some password → IsUser server (λ other. other ≡ name) (record { name = name; password = password })
by_name server name password is = record { present = is; named = refl }

-- If nothing is stored for a name, no user has it.
pub none_by_name : (server : Server) (name : List ℕ) → map.get server.users name ≡ None → (user : Named) → ¬ IsUser server (λ other. other ≡ name) user
none_by_name server name none user is =
    let same : map.get server.users name ≡ Some user.password = ap (map.get server.users) (sym is.named) ∙ is.present in
    Prim.cc (sym none ∙ same)

-- ---- by hash

-- If no stored user has a hash, it is that of no user's name.
none_hashed : (s : Inside) (server : Server) (hash : List ℕ) → server_of s ≡ server → AllHaveKeys server.realm s.users.by_name → NoneHashed s.users.by_name hash
    → (user : Named) → ¬ IsUser server (λ other. Some hash ≡ Some (userhash_of other server.realm)) user
none_hashed s server hash view_is have none user is =
    by (tree.get_by_text s.users.by_name user.name) (sym (get-users s server user.name _ view_is refl) ∙ is.present) (have user.name) (none user.name)
  where
    by : (found : Option KeyedUser) → option_map password_of found ≡ Some user.password → IfSome found (IsKeyed server.realm user.name) → IfSome found (λ own. own.hash ≢ hash) → ⊥
    by None stored keyed lacks = Prim.cc stored
    by (Some own) stored keyed lacks = lacks (keyed.hash ∙ sym (inside is.named))

-- A stored user that has a hash is one whose name has it.
one_hashed : (s : Inside) (server : Server) (hash name : List ℕ) (user : KeyedUser) → server_of s ≡ server → AllHaveKeys server.realm s.users.by_name → tree.get_by_text s.users.by_name name ≡ Some user → user.hash ≡ hash
    → IsUser server (λ other. Some hash ≡ Some (userhash_of other server.realm)) (record { name = name; password = user.credentials.password })
one_hashed s server hash name user view_is have is same =
    let keyed = subst (λ (o : Option KeyedUser). IfSome o (IsKeyed server.realm name)) is (have name) in
    record {
      present = get-users s server name (Some user) view_is (sym is);
      named = ap Some (sym same ∙ keyed.hash);
    }

-- The name and the user that references point to.
abbrev pub decodes : Option (Bor (List ℕ) × Bor KeyedUser) → Option (List ℕ × KeyedUser)
decodes = option_map {U = List ℕ × KeyedUser} (λ user. (user.0.now, user.1.now))

-- The user of a pair.
abbrev pub named_by : List ℕ × KeyedUser → Named
named_by pair = record { name = pair.0; password = pair.1.credentials.password }

-- Each user's keys are those in the server's realm.
pub in_realm : (s : Inside) (server : Server) → server_of s ≡ server → AllHaveKeys (string_bytes s.realm) s.users.by_name → AllHaveKeys server.realm s.users.by_name
in_realm s server view_is have = subst (λ (realm : List ℕ). AllHaveKeys realm s.users.by_name) (ap (λ v. v.realm) view_is) have

-- The result of the search for a hash.
pub by_hash : (s : Inside) (server : Server) (hash : List ℕ) (result : Option (List ℕ × KeyedUser)) → server_of s ≡ server → AllHaveKeys (string_bytes s.realm) s.users.by_name
    → IsHashed s.users.by_name hash result → IsFoundBy server (λ other. Some hash ≡ Some (userhash_of other server.realm)) (option_map named_by result)
by_hash s server hash None view_is have none = none_hashed s server hash view_is (in_realm s server view_is have) none
by_hash s server hash (Some pair) view_is have one = one_hashed s server hash pair.0 pair.1 view_is (in_realm s server view_is have) one.0 one.1

-- The user found for a hash has its own keys.
pub keys_by_hash : (s : Inside) (server : Server) (pair : List ℕ × KeyedUser) → server_of s ≡ server → AllHaveKeys (string_bytes s.realm) s.users.by_name → tree.get_by_text s.users.by_name pair.0 ≡ Some pair.1 → HasKeys server.realm pair.0 pair.1
keys_by_hash s server pair view_is have is = (keys_found s server pair.0 (Some pair.1) view_is have (sym is)).keys

-- ---- by either

-- A claim with neither a name nor a hash names no user.
pub none_claimed : (server : Server) (realm : List ℕ) (user : Named) → ¬ IsUser server (IsClaimedName realm None None) user
none_claimed server realm user is = Prim.cc is.named
