-- The requests that the server core serves (RFC 8656, section 17; RFC 6062, section 6.1).
use Rattle.std.specs.Prelude.{◌≡◌, ◌⊎◌, ℕ, List, None}
use Rattle.stun_types_wire.specs.declared.class.MessageClass.TheVariants.{Request}
use Rattle.stun_types_wire.specs.Attributes.{kind_at}
use Rattle.stun_types_wire.specs.Types.{class_of, method_of}
use Rattle.stun_types_wire.specs.Grammar.{refusal}
use Rattle.turn_types_attributes.specs.TurnRegistry.{allocate_method, channel_bind_method, connect_method, connection_bind_method, create_permission_method, refresh_method}

-- The method is ALLOCATE or REFRESH.
abbrev pub IsOfAllocation : ℕ → Type 0
IsOfAllocation method = (method ≡ allocate_method) ⊎ (method ≡ refresh_method)

-- The method is CREATE_PERMISSION or CHANNEL_BIND.
abbrev pub IsOfPeer : ℕ → Type 0
IsOfPeer method = (method ≡ create_permission_method) ⊎ (method ≡ channel_bind_method)

-- The method is CONNECT or CONNECTION_BIND.
abbrev pub IsOfConnection : ℕ → Type 0
IsOfConnection method = (method ≡ connect_method) ⊎ (method ≡ connection_bind_method)

-- The method is one that the server core serves.
abbrev pub IsServedMethod : ℕ → Type 0
IsServedMethod method = IsOfAllocation method ⊎ (IsOfPeer method ⊎ IsOfConnection method)

-- The bytes are a request that the server core serves.
pub record IsServed (bytes : List ℕ) : Type 0 where
  pub message : refusal bytes ≡ None
  pub request : class_of (kind_at bytes) ≡ Request
  pub method : IsServedMethod (method_of (kind_at bytes))
