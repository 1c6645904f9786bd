-- The last attributes of a list, searched one attribute after another.
use Rattle.std.proofs.Common.{◌≡◌, refl}
use Rattle.std.specs.Prelude.{Option, Some, None}
use Rattle.std.specs.Option.{option_or}
use Rattle.stun_types_message.specs.Wire.Attributes.{Attr}
use Rattle.stun_types_message.specs.Wire.declared.algorithm.IntegrityAlgorithm.{IntegrityAlgorithm}
use Rattle.stun_types_message.proofs.Wire.Left.{map_numbered}
use Rattle.stun_types_message.specs.MessageValidation.{last_algorithm}
use Rattle.stun_proto_auth.specs.Claims.{last_of_kind}
use Rattle.stun_proto_auth.specs.declared.last.Lasts.{Lasts}

pub last_step : (later own last : Option Attr) → option_or (option_or later own) last ≡ option_or later (option_or own last)
last_step None own last = refl
last_step (Some a) own last = refl

-- One step of the search.
pub ruleset steps = (map_numbered, last_step)

-- The later ones or, of a type that has none there, the earlier ones.
abbrev pub joined : Lasts → Lasts → Lasts
joined later l = record {
  integrity = option_or later.integrity l.integrity;
  username = option_or later.username l.username;
  user_hash = option_or later.user_hash l.user_hash;
  realm = option_or later.realm l.realm;
  nonce = option_or later.nonce l.nonce;
  algorithms = option_or later.algorithms l.algorithms;
  algorithm = option_or later.algorithm l.algorithm;
}

pub signature_step : (later own last : Option IntegrityAlgorithm)
    → option_or (option_or later own) last ≡ option_or later (option_or own last)
signature_step None own last = refl
signature_step (Some a) own last = refl

-- One step of the search for all of them.
pub ruleset all_steps = (map_numbered, last_step, signature_step)

-- For proofs: unfolding it unfolds the definitions of the last ones.
unfoldable pub last : Type 0
unfolding last_algorithm last_of_kind
last = Unit {0}
