-- Channels, and lists of them (RFC 8656, section 12).
use Rattle.std.specs.Prelude.{ℕ, ◌*◌, ◌-◌, nat_le, nat_lt, max, Bool, not, ◌&&◌, List, [], ◌∷◌, ◌++◌, filter, Option, if◌then◌else◌}
use Rattle.stun_types_base.specs.Times.{time_after}
use Rattle.turn_client_proto_allocation.specs.Awaited.{asks_for_channel, is_among, renews_channel}
use Rattle.turn_client_proto_allocation.specs.Changes.{change_first}
use Rattle.turn_client_proto_allocation.specs.Permissions.{are_none}
use Rattle.turn_client_proto_allocation.specs.Refreshing.{renewed_before, second}
use Rattle.turn_client_proto_allocation.specs.declared.channel.Channel.{Channel}
use Rattle.turn_client_proto_allocation.specs.declared.channel.ExpiredChannel.{ExpiredChannel}
use Rattle.turn_client_proto_allocation.specs.declared.channel.PendingChannel.{PendingChannel}

-- How long a channel is valid unless it is renewed.
abbrev pub channel_lifetime : ℕ
channel_lifetime = 600 * second

-- How long an expired channel is protected: neither its number nor its peer is bound anew.
abbrev pub protection : ℕ
protection = 300 * second

-- ---- one that is valid

-- The time from which a channel is to be renewed.
abbrev pub channel_renewal : Channel → ℕ
channel_renewal c = c.expiry - renewed_before

-- The channel is to be renewed at this time.
abbrev pub wants_renewal : ℕ → Channel → Bool
wants_renewal now c = nat_le now c.expiry && (are_none c.renewals && nat_le (channel_renewal c) now)

abbrev pub has_expired : ℕ → Channel → Bool
has_expired now c = nat_le c.expiry now

-- The next time at which a channel has to be polled: when it expires, or when it is to be renewed, but not
-- before a request can be sent (`ready`).
unfoldable pub next_of_channel : Option ℕ → (ready now : ℕ) → Channel → ℕ
next_of_channel ended ready now c =
    if has_expired now c then now
    else (if is_among ended c.renewals then ready
    else (if are_none c.renewals then max (channel_renewal c) ready else c.expiry))

-- The channel after the transaction `ended` timed out: if it was to renew the channel, the channel may be
-- renewed again.
unfoldable pub polled_channel : Option ℕ → Channel → Channel
polled_channel ended c = if is_among ended c.renewals then record c { renewals = [] } else c

-- The channel after a success response to this request: if the request was to renew it, it now expires at
-- `expiry`.
unfoldable pub renewed_channel : (transaction_id expiry : ℕ) → Channel → Channel
renewed_channel transaction_id expiry c =
    if renews_channel transaction_id c then record c { expiry = expiry; renewals = [] } else c

-- The channel when the request with this transaction ID is to renew it, too.
abbrev pub awaiting : ℕ → Channel → Channel
awaiting transaction_id c = record c { renewals = c.renewals ++ transaction_id ∷ [] }

-- ---- those that are valid

-- The channels that the request with this transaction ID is not to renew.
abbrev pub not_renewed_by : ℕ → List Channel → List Channel
not_renewed_by transaction_id channels = filter (λ c. not (renews_channel transaction_id c)) channels

-- The channels when the request `transaction_id` is to renew the first one that the request `old` is to renew.
abbrev pub renewed_again : (old transaction_id : ℕ) → List Channel → List Channel
renewed_again old transaction_id channels = change_first (renews_channel old) (awaiting transaction_id) channels

-- The channels when the request `transaction_id` is to renew the first one that is to be renewed at `now`.
abbrev pub renewed_first : (now transaction_id : ℕ) → List Channel → List Channel
renewed_first now transaction_id channels = change_first (wants_renewal now) (awaiting transaction_id) channels

-- ---- those that were requested

-- The transaction that timed out is that of a request for the pending channel.
abbrev pub is_over : Option ℕ → PendingChannel → Bool
is_over ended c = is_among ended c.numbers

-- The pending channel when the request with this transaction ID requests it, too.
abbrev pub with_number : ℕ → PendingChannel → PendingChannel
with_number transaction_id c = record c { numbers = c.numbers ++ transaction_id ∷ [] }

-- The pending channels of which no request timed out.
abbrev pub not_over : Option ℕ → List PendingChannel → List PendingChannel
not_over ended pending = filter (λ c. not (is_over ended c)) pending

-- The pending channels that the request with this transaction ID does not request.
abbrev pub not_pending_request : ℕ → List PendingChannel → List PendingChannel
not_pending_request transaction_id pending = filter (λ c. not (asks_for_channel transaction_id c)) pending

-- The pending channels when the request `transaction_id` requests the first one that the request `old` requests.
abbrev pub requested_again : (old transaction_id : ℕ) → List PendingChannel → List PendingChannel
requested_again old transaction_id pending = change_first (asks_for_channel old) (with_number transaction_id) pending

-- ---- those that have expired

-- What is remembered of a channel that expires or whose renewal is rejected.
abbrev pub expired_of : Channel → ExpiredChannel
expired_of c = record { number = c.number; peer = c.peer; expiry = c.expiry }

-- The time until which an expired channel is protected.
abbrev pub protected_until : ExpiredChannel → ℕ
protected_until c = time_after c.expiry protection

-- The protection of the expired channel is over.
abbrev pub is_forgotten : ℕ → ExpiredChannel → Bool
is_forgotten now c = nat_lt (protected_until c) now

-- The expired channels that are still protected.
abbrev pub not_forgotten : ℕ → List ExpiredChannel → List ExpiredChannel
not_forgotten now expired = filter (λ c. not (is_forgotten now c)) expired
