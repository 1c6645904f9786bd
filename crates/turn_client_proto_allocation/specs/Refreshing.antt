-- When allocations are refreshed, and the effect of a response to a REFRESH on them (RFC 8656, section 8).
use Rattle.std.specs.Prelude.{ℕ, zero, suc, ◌*◌, ◌/◌, ◌-◌, nat_le, Bool, true, false, not, ◌&&◌, List, [], ◌∷◌, ◌++◌, find, Option, Some, None, if◌then◌else◌}
use Rattle.std.specs.Option.{option_map}
use Rattle.std.specs.declared.net.socket_addr.SocketAddr.{SocketAddr}
use Rattle.stun_types_base.specs.Times.{time_after}
use Rattle.stun_types_base.specs.declared.transport.TransportType.{TransportType}
use Rattle.turn_client_proto_allocation.specs.Awaited.{is_refresh}
use Rattle.turn_client_proto_allocation.specs.declared.allocation.Allocation.{Allocation}
use Rattle.turn_client_proto_allocation.specs.declared.refresh.PendingRefresh.{PendingRefresh}

-- A second, in nanoseconds.
abbrev pub second : ℕ
second = 1_000_000_000

-- How long before its expiry an allocation is refreshed.
abbrev pub renewed_before : ℕ
renewed_before = 60 * second

-- The longest lifetime, in seconds, of an allocation that is refreshed when half of it is left.
abbrev pub short_lifetime : ℕ
short_lifetime = 120

-- The least LIFETIME in a REFRESH response, in seconds, that any client believes.
abbrev pub least_lifetime : ℕ
least_lifetime = 600

-- The least LIFETIME in a REFRESH response that is believed, by whether shorter ones than `least_lifetime` are.
abbrev pub least_of : (short_lifetimes : Bool) → ℕ
least_of true = 0
least_of false = least_lifetime

-- An allocation that was granted at `now` for `lifetime` seconds.
abbrev pub granted : TransportType → SocketAddr → ℕ → ℕ → Allocation
granted transport address lifetime now = record {
  transport = transport;
  address = address;
  renewal_lifetime = lifetime;
  expiry = time_after now (lifetime * second);
  is_expired = false;
  permissions = [];
  channels = [];
  pending_permissions = [];
  pending_channels = [];
  pending_refreshes = [];
  expired_channels = [];
  connecting = [];
  waiting = [];
  connections = [];
}

-- How long before its expiry an allocation is refreshed, by the lifetime that decides it: a minute, or half of a
-- short lifetime.
abbrev pub ahead : ℕ → ℕ
ahead lifetime = if nat_le lifetime short_lifetime then lifetime * second / 2 else renewed_before

-- The time from which an allocation is to be refreshed.
unfoldable pub renewal : Allocation → ℕ
renewal a = a.expiry - ahead a.renewal_lifetime

-- The lifetime that the first request with this transaction ID requests.
abbrev pub lifetime_requested : ℕ → List PendingRefresh → Option ℕ
lifetime_requested transaction_id refreshes = option_map (λ r. r.lifetime) (find (is_refresh transaction_id) refreshes)

-- ---- a response

-- The requested lifetime is 0. `ends_by`: the request with this transaction ID requests the deletion of the
-- allocation.
abbrev pub is_end : Option ℕ → Bool
is_end None = false
is_end (Some zero) = true
is_end (Some (suc _)) = false

unfoldable pub ends_by : ℕ → Allocation → Bool
ends_by transaction_id a = is_end (lifetime_requested transaction_id a.pending_refreshes)

-- The lifetime that decides how long before its expiry an allocation is refreshed, after a REFRESH gave it
-- `lifetime` seconds: that lifetime if it is less than `least_lifetime`, else the one that decided before.
abbrev pub margin_of : (before lifetime : ℕ) → ℕ
margin_of before lifetime = if nat_le least_lifetime lifetime then before else lifetime

-- The allocation after it was given `lifetime` seconds from `now`. It is unchanged if the lifetime is missing or
-- less than `least`.
abbrev pub is_active_for : (least now : ℕ) → Option ℕ → Allocation → Allocation
is_active_for least now None a = a
is_active_for least now (Some lifetime) a = if nat_le least lifetime
    then record a {
      renewal_lifetime = margin_of a.renewal_lifetime lifetime;
      expiry = time_after now (lifetime * second);
      pending_refreshes = [];
    }
    else a

-- The allocation after a success response with the lifetime `reported` to a REFRESH that requested the lifetime
-- `requested`. Lifetimes of `least` seconds and more are believed.
abbrev pub renewed_by : (least now : ℕ) → (reported requested : Option ℕ) → Allocation → Allocation
renewed_by least now reported None a = a
renewed_by least now reported (Some zero) a = record a { pending_refreshes = [] }
renewed_by least now reported (Some (suc _)) a = is_active_for least now reported a

-- The allocation after a success response with the lifetime `reported` to the REFRESH with this transaction ID.
unfoldable pub renewed : (least transaction_id now : ℕ) → Option ℕ → Allocation → Allocation
renewed least transaction_id now reported a =
    renewed_by least now reported (lifetime_requested transaction_id a.pending_refreshes) a

-- ---- requests

-- No REFRESH is outstanding.
abbrev pub is_settled : List PendingRefresh → Bool
is_settled [] = true
is_settled (r ∷ rs) = false

-- The allocation is to be refreshed at this time.
unfoldable pub wants_refresh : ℕ → Allocation → Bool
wants_refresh now a =
    not a.is_expired && (nat_le now a.expiry && (is_settled a.pending_refreshes && nat_le (renewal a) now))

-- The allocation after this REFRESH was sent.
abbrev pub refreshing : PendingRefresh → Allocation → Allocation
refreshing refresh a = record a { pending_refreshes = a.pending_refreshes ++ refresh ∷ [] }

-- The allocation after it ended at `now`: it is marked as expired and has no permissions and channels.
abbrev pub ended : ℕ → Allocation → Allocation
ended now a = record a { permissions = []; channels = []; expiry = now; is_expired = true }

-- The allocation after its deletion was requested at `now` by the REFRESH with this transaction ID.
abbrev pub deleted : ℕ → ℕ → Allocation → Allocation
deleted transaction_id now a = ended now (refreshing (record { number = transaction_id; lifetime = 0 }) a)
