-- Whether there is a client.
use Rattle.std.proofs.Common.{◌≡◌, false, refl}
use Rattle.std.specs.Option.{option_map}
use Rattle.std.specs.Prelude.{Option, Some, None, is_some}

-- If there is no client, it has no state.
pub no_client : {A B : Type 0} (stored : A → B) (client : Option A) → is_some client ≡ false → option_map stored client ≡ None
no_client stored None e = refl
no_client stored (Some client) e = absurd cc
