-- When nothing that a client holds has expired, or is to be renewed (RFC 8656, sections 8, 9 and 10.1).
use Rattle.std.specs.Prelude.{◌≡◌, ◌<◌, ◌*◌, ◌-◌, ℕ, List, [], ◌∷◌}
use Rattle.turn_client_proto_messages.specs.StunTypesBase.Times.{time_after}
use Rattle.turn_client_proto_messages.specs.Allocation.Permissions.{permission_renewal}
use Rattle.turn_client_proto_messages.specs.Allocation.Refreshing.{ahead, second}
use Rattle.turn_client_proto_messages.specs.Allocation.declared.permission.Permission.{Permission}
use Rattle.turn_client_proto_progress_laws.specs.Holders.{Holder}

-- The time at which a REFRESH is due of an allocation that was granted at `since`, for `lifetime` seconds.
abbrev pub refresh_due : (lifetime since : ℕ) → ℕ
refresh_due lifetime since = time_after since (lifetime * second) - ahead lifetime

-- Each of these permissions is active at this time, and none is to be renewed yet or is being renewed.
abbrev pub AreStanding : (now : ℕ) → List Permission → Type 0
AreStanding now [] = Unit {0}
AreStanding now (x ∷ rest) = (x.renewals ≡ []) × (now < permission_renewal x) × AreStanding now rest

-- None of these permissions is being renewed.
abbrev pub AreUnrenewed : List Permission → Type 0
AreUnrenewed [] = Unit {0}
AreUnrenewed (x ∷ rest) = (x.renewals ≡ []) × AreUnrenewed rest

-- The permissions are active, none is to be renewed, and no REFRESH is due.
pub record IsResting (h : Holder) (permissions : List Permission) (now : ℕ) : Type 0 where
  pub before : now < refresh_due h.lifetime h.since
  pub standing : AreStanding now permissions
