-- What a server knows when it checks a message, and the outcome of the check (RFC 8489, section 9.2.4).
use Rattle.std.specs.Prelude.{ℕ, List, Option}
use Rattle.stun_proto_auth.specs.Wire.declared.algorithm.IntegrityAlgorithm.{IntegrityAlgorithm}
use Rattle.stun_proto_auth.specs.declared.feature.Feature.{Feature}

-- A user of a server.
pub record Named : Type 0 where
  pub name : List ℕ
  pub password : List ℕ

-- What a server knows: its realm, the algorithms that it supports, its setting for hashed names, the nonce
-- that is valid for the address, and the user that the message names, if that user exists.
pub record Knowledge : Type 0 where
  pub realm : List ℕ
  pub algorithms : List IntegrityAlgorithm
  pub anonymous_username : Feature
  pub nonce : Option (List ℕ)
  pub user : Option Named

-- The user for whom a message was validated, and the algorithm used.
pub record Outcome : Type 0 where
  pub name : List ℕ
  pub algorithm : IntegrityAlgorithm
