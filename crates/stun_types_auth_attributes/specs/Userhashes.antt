-- The hash of a user's name in a realm (RFC 8489, section 14.4).
use Rattle.std.specs.Prelude.{ℕ, List, ◌++◌, codes}
use Rattle.sha2.specs.Sha256.{sha256}

-- The SHA-256 of username ":" realm.
abbrev pub userhash_of : List ℕ → List ℕ → List ℕ
userhash_of username realm = sha256 (username ++ codes ":" ++ realm)
