-- What a server stores for its users: their keys, and the hashes by which they are found.
use Rattle.std.specs.Prelude.{◌≡◌, ◌≢◌, ℕ, List, Option, Some, IfSome, MatchOption}
use Rattle.std.specs.Prelude as list
use Rattle.std.specs.BTreeMap as tree
use Rattle.std.specs.Cmp.Lexicographic.{slice_cmp}
use Rattle.std.specs.Option.{option_map}
use Rattle.std.specs.Ordering.{nat_cmp}
use Rattle.std.specs.String.{string_bytes, string_cmp}
use Rattle.std.specs.declared.alloc.Global.{Global}
use Rattle.std.specs.declared.string.String.{String}
use Rattle.stun_proto_verify.specs.AuthAttributes.Userhashes.{userhash_of}
use Rattle.stun_proto_verify.specs.Wire.Registry.{userhash_length}
use Rattle.stun_proto_verify.specs.UserKeys.{AreKeysOf}
use Rattle.stun_proto_server.specs.declared.users.KeyedUser.{KeyedUser}

-- The users of a server, by name.
abbrev pub UserMap : Type 0
UserMap = tree.BTreeMap (String Global) KeyedUser

-- The stored keys are those of the user with this name in a realm.
abbrev pub HasKeys : List ℕ → List ℕ → KeyedUser → Type 0
HasKeys realm name user = AreKeysOf
    (record { username = name; password = user.credentials.password; realm = realm }) user.keys.value

-- The stored keys and the stored hash are those of the user with this name in a realm.
pub record IsKeyed (realm name : List ℕ) (user : KeyedUser) : Type 0 where
  pub keys : HasKeys realm name user
  pub hash : user.hash ≡ userhash_of name realm

-- Each user is stored with its own keys and its own hash in a realm.
abbrev pub AllHaveKeys : List ℕ → UserMap → Type 0
AllHaveKeys realm users = (name : List ℕ) → IfSome (tree.get_by_text users name) (IsKeyed realm name)

-- The name that is registered under a hash.
abbrev pub name_under : tree.BTreeMap (List ℕ) (String Global) → List ℕ → Option (List ℕ)
name_under by_hash hash = option_map string_bytes (tree.get (slice_cmp nat_cmp) by_hash hash)

-- A user's name is registered under its hash, which has 32 bytes.
pub record IsRegistered (by_hash : tree.BTreeMap (List ℕ) (String Global)) (name : List ℕ) (user : KeyedUser) : Type 0 where
  pub length : list.length user.hash ≡ userhash_length
  pub under : name_under by_hash user.hash ≡ Some name

-- Each user's name is registered under its hash.
abbrev pub AllRegistered : tree.BTreeMap (List ℕ) (String Global) → UserMap → Type 0
AllRegistered by_hash users = (name : List ℕ) → IfSome (tree.get_by_text users name) (IsRegistered by_hash name)

-- No user has a hash.
abbrev pub NoneHashed : UserMap → List ℕ → Type 0
NoneHashed users hash = (name : List ℕ) → IfSome (tree.get_by_text users name) (λ user. user.hash ≢ hash)

-- The result of a search for a hash: a user that has it, with its name, or `None` if no user has it.
abbrev pub IsHashed : UserMap → List ℕ → Option (List ℕ × KeyedUser) → Type 0
IsHashed users hash result = MatchOption result (NoneHashed users hash)
    (λ user. (tree.get_by_text users user.0 ≡ Some user.1) × (user.1.hash ≡ hash))

-- The users after one was stored under a name, or removed from it.
abbrev pub UpdatesUser : List ℕ → UserMap → UserMap → Option KeyedUser → Type 0
UpdatesUser name = tree.UpdatesBy string_cmp (λ key. slice_cmp nat_cmp name (string_bytes key))
