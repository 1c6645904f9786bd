-- The bytes of a key.
use Rattle.std.specs.Prelude.{ℕ, List}
use Rattle.stun_types_integrity.specs.declared.key.KeyBytes.{KeyBytes}
use Rattle.stun_types_integrity.specs.declared.key.KeyBytes.TheVariants.{Md5, Sha256, Sha512, Password}

abbrev pub bytes_of : KeyBytes → List ℕ
bytes_of (Md5 digest) = digest
bytes_of (Sha256 digest) = digest
bytes_of (Sha512 digest) = digest
bytes_of (Password password) = password.now
