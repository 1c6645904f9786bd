-- The attributes of the success responses to the methods other than ALLOCATE, before they are signed (RFC
-- 8656, sections 8.2, 10.2 and 12.2; RFC 6062, sections 5.2 and 5.4).
use Rattle.std.specs.Prelude.{ℕ, List, [], ◌∷◌}
use Rattle.byteorder.specs.Endian.{big_bytes}
use Rattle.stun_types_wire.specs.Attributes.{Attr}
use Rattle.turn_types_attributes.specs.TurnRegistry.{connection_id_kind, lifetime_kind}

-- The attributes of the success response to a REFRESH: LIFETIME.
abbrev pub refreshed_attributes : ℕ → List Attr
refreshed_attributes lifetime = record { kind = lifetime_kind; value = big_bytes 4 lifetime } ∷ []

-- The attributes of the success response to a CONNECT: CONNECTION-ID.
abbrev pub connected_attributes : ℕ → List Attr
connected_attributes connection = record { kind = connection_id_kind; value = big_bytes 4 connection } ∷ []

-- The attributes of the success response to a CREATE_PERMISSION, a CHANNEL_BIND or a CONNECTION_BIND: none.
abbrev pub granted_attributes : List Attr
granted_attributes = []
