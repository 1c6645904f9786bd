-- A user under whose key a server signs.
use Rattle.std.specs.Prelude.{◌≡◌, ℕ, List}
use Rattle.stun_proto_server.specs.ServerSigning.{Signer, key_in}
use Rattle.stun_proto_server.specs.declared.party.SigningUser.{SigningUser}

-- The user's name, password and algorithm.
abbrev pub signer_of : SigningUser → Signer
signer_of user = record { name = user.name.now; password = user.password.now; algorithm = user.algorithm }

-- The user is stored with its key in a realm.
abbrev pub HasKeyIn : List ℕ → SigningUser → Type 0
HasKeyIn realm user = user.key.now ≡ key_in realm (signer_of user)
