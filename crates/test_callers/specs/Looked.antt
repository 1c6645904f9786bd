-- What is decoded from a message.
use Rattle.std.specs.Prelude.{◌≡◌, ℕ, ◌==◌, List, find, is_some, Option, option_map}
use Rattle.byteorder.specs.Endian.{big_bytes}
use Rattle.stun_types.specs.Adding.{attr_of}
use Rattle.stun_types.specs.Attributes.{Attr, kind_at}
use Rattle.stun_types.specs.Grammar.{IsMessage, number_at, visible}
use Rattle.stun_types.specs.Registry.{integrity_kind, username_kind}
use Rattle.stun_types.specs.Types.{class_of, method_of}
use Rattle.turn_types.specs.TurnRegistry.{lifetime_kind}
use Rattle.test_callers.specs.declared.message.Looked.{Looked}

-- The first visible attribute of a type in a message.
abbrev pub first_visible : ℕ → List ℕ → Option Attr
first_visible kind bytes = find (λ a. a.kind == kind) (visible bytes)

-- The seconds in a LIFETIME, if there is one: the number that its four bytes are.
abbrev pub IsLifetime : Option Attr → Option ℕ → Type 0
IsLifetime there reported = there ≡ option_map (λ seconds. attr_of lifetime_kind (big_bytes 4 seconds)) reported

-- The bytes are a message, and `reported` is what is decoded from it.
pub record Reports (bytes : List ℕ) (reported : Looked) : Type 0 where
  pub message : IsMessage bytes
  pub class : reported.class ≡ class_of (kind_at bytes)
  pub method : reported.method.0 ≡ method_of (kind_at bytes)
  pub number : reported.number ≡ number_at bytes
  pub signed : reported.is_signed ≡ is_some (first_visible integrity_kind bytes)
  pub user : reported.user ≡ first_visible username_kind bytes
