-- Each byte is below 256.
use Rattle.std.specs.Prelude.{ℕ, suc, ◌<◌, slice_index, List, [], ◌∷◌}
use Rattle.std.proofs.Common.{refl, ltb}
use Rattle.std.proofs.lemmas.Bool.{lt-ltb, and_from}
use Rattle.std.specs.List.{list_all}
use Rattle.stun_types_wire.specs.Headers.{AreBytes}

pub are_below : (bytes : List ℕ) → ((i : ℕ) → slice_index bytes i < 256) → AreBytes bytes
are_below [] h = refl
are_below (b ∷ bytes) h = and_from (ltb b 256) (list_all (λ n. ltb n 256) bytes) (lt-ltb b 256 (h 0)) (are_below bytes (λ i. h (suc i)))
