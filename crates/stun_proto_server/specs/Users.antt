-- How a message names a user of a server (RFC 8489, sections 9.2.4 and 14.4).
use Rattle.std.specs.Prelude.{◌≡◌, ℕ, List, Option, Some, None, IsSome, MatchOption}
use Rattle.std.specs.FinMap as map
use Rattle.stun_proto_verify.specs.AuthAttributes.Userhashes.{userhash_of}
use Rattle.stun_proto_verify.specs.Auth.Claims.{Claimed}
use Rattle.stun_proto_verify.specs.Knowledge.{Named}
use Rattle.stun_proto_server.specs.Server.{Server}

-- A name is the claimed one: the name in the message or, if it has none, a name whose hash in the realm is in
-- the message.
abbrev pub IsClaimedName : List ℕ → Option (List ℕ) → Option (List ℕ) → List ℕ → Type 0
IsClaimedName realm (Some visible) hash name = name ≡ visible
IsClaimedName realm None hash name = hash ≡ Some (userhash_of name realm)

-- A user that exists, and whose name satisfies `IsName`.
pub record IsUser (server : Server) (IsName : List ℕ → Type 0) (user : Named) : Type 0 where
  pub present : map.get server.users user.name ≡ Some user.password
  pub named : IsName user.name

-- The result of a search: a user whose name satisfies the condition, or `None` if there is no such user.
abbrev pub IsFoundBy : Server → (List ℕ → Type 0) → Option Named → Type 0
IsFoundBy server IsName found = MatchOption found ((user : Named) → ¬ IsUser server IsName user) (IsUser server IsName)

-- A claim names a user that exists.
abbrev pub Names : Server → Claimed → Named → Type 0
Names server claim = IsUser server (IsClaimedName server.realm claim.username claim.user_hash)

-- The result of the search for a claim: a user that it names, or `None` if it names none.
abbrev pub IsFound : Server → Claimed → Option Named → Type 0
IsFound server claim = IsFoundBy server (IsClaimedName server.realm claim.username claim.user_hash)

-- No two users of a server have the same hash.
abbrev pub HashesDiffer : Server → Type 0
HashesDiffer server = (a b : List ℕ) → IsSome (map.get server.users a) → IsSome (map.get server.users b)
    → userhash_of a server.realm ≡ userhash_of b server.realm → a ≡ b

-- A claim does not name two users. A name never does; a hash does not if no two users have the same hash.
abbrev pub NamesOne : Server → Claimed → Type 0
NamesOne server claim = claim.username ≡ None → HashesDiffer server
