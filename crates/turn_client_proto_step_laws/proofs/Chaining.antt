-- Two changes of permissions and channels, one after another, are one.
use Rattle.std.proofs.Common.{◌≡◌, ◌⊎◌, ℕ, List, sym, ◌∙◌, subst, inl, inr}
use Rattle.std.specs.declared.net.ip_addr.IpAddr.{IpAddr}
use Rattle.std.specs.declared.net.socket_addr.SocketAddr.{SocketAddr}
use Rattle.turn_client_proto_timers.specs.StunTypesBase.declared.transport.TransportType.{TransportType}
use Rattle.turn_client_proto_timers.specs.TurnRuns.Members.{IsIn}
use Rattle.turn_client_proto_timers.specs.TurnRuns.Messages as run
use Rattle.turn_client_proto_timers.specs.Allocation.Permissions.{addresses_of}
use Rattle.turn_client_proto_step_laws.specs.Held.{Allocation, Channel, ExpiredChannel, PendingChannel, PendingPermission, Permission}
use Rattle.turn_client_proto_step_laws.proofs.Permitting.{ArePermitting, Asking, Gaining, IsNow, IsPermitting, Stood, StoodBound, WasAsking, WasBinding, WasRenewing, WasWanted, WasWanting}

module _ (New : Gaining) (Now : Asking) where
  -- ---- one allocation

  module _ (old mid new : Allocation) (first : IsPermitting New Now old mid) (second : IsPermitting New Now mid new) where
    permissions : (p : Permission) → IsIn p new.permissions → Stood old.permissions p ⊎ New (run.Permission new.transport p.ip)
    permissions p listed = elim (second.permissions p listed) [
      | inr gained ↦ inr gained
      | inl was ↦ elim (first.permissions was.before was.listed) [
        | inl before ↦ inl (record { before = before.before; listed = before.listed; ip = was.ip ∙ before.ip })
        | inr gained ↦
            inr (subst (λ (t : TransportType). New (run.Permission t p.ip)) (sym second.transport)
            (subst (λ (ip : IpAddr). New (run.Permission mid.transport ip)) (sym was.ip) gained))
      ]
    ]

    renewals : (p : Permission) (n : ℕ) → IsIn p new.permissions → IsIn n p.renewals → WasRenewing old.permissions n ⊎ IsNow Now n
    renewals p n listed has = elim (second.renewals p n listed has) [
      | inr now ↦ inr now
      | inl was ↦ first.renewals was.before n was.listed was.has
    ]

    numbers : (p : PendingPermission) (n : ℕ) → IsIn p new.pending_permissions → IsIn n p.numbers → (ip : IpAddr) → IsIn ip (addresses_of p)
        → WasAsking old.pending_permissions ip n ⊎ Now (run.Permission new.transport ip) n
    numbers p n listed has ip named = elim (second.numbers p n listed has ip named) [
      | inr now ↦ inr now
      | inl was ↦ elim (first.numbers was.before n was.listed was.has ip was.named) [
        | inl before ↦ inl before
        | inr now ↦ inr (subst (λ (t : TransportType). Now (run.Permission t ip) n) (sym second.transport) now)
      ]
    ]

    -- What holds of a channel holds of one with an equal number and peer.
    alike : (P : ℕ → SocketAddr → Type 0) (number other : ℕ) (peer to : SocketAddr) → number ≡ other → peer ≡ to → P other to → P number peer
    alike P number other peer to same like is = subst (λ (n : ℕ). P n peer) (sym same) (subst (λ (x : SocketAddr). P other x) (sym like) is)

    channels : (c : Channel) → IsIn c new.channels → StoodBound old.channels c ⊎ New (run.Channel c.number c.peer)
    channels c listed = elim (second.channels c listed) [
      | inr gained ↦ inr gained
      | inl was ↦ elim (first.channels was.before was.listed) [
        | inl before ↦ inl (record { before = before.before; listed = before.listed; number = was.number ∙ before.number; peer = was.peer ∙ before.peer })
        | inr gained ↦ inr (alike (λ n x. New (run.Channel n x)) c.number was.before.number c.peer was.before.peer was.number was.peer gained)
      ]
    ]

    channel_renewals : (c : Channel) (n : ℕ) → IsIn c new.channels → IsIn n c.renewals → WasBinding old.channels c.number c.peer n ⊎ Now (run.Channel c.number c.peer) n
    channel_renewals c n listed has = elim (second.channel_renewals c n listed has) [
      | inr now ↦ inr now
      | inl was ↦ elim (first.channel_renewals was.before n was.listed was.has) [
        | inl before ↦ inl (record { before = before.before; listed = before.listed; number_is = was.number_is ∙ before.number_is; peer = was.peer ∙ before.peer; has = before.has })
        | inr now ↦ inr (alike (λ k x. Now (run.Channel k x) n) c.number was.before.number c.peer was.before.peer was.number_is was.peer now)
      ]
    ]

    new_channels : (c : PendingChannel) → IsIn c new.pending_channels → WasWanted old.pending_channels c ⊎ ((n : ℕ) × Now (run.Channel c.channel c.peer) n)
    new_channels c listed = elim (second.new_channels c listed) [
      | inr now ↦ inr now
      | inl was ↦ elim (first.new_channels was.before was.listed) [
        | inl before ↦ inl (record { before = before.before; listed = before.listed; channel = was.channel ∙ before.channel; peer = was.peer ∙ before.peer })
        | inr now ↦ inr (now.0, alike (λ k x. Now (run.Channel k x) now.0) c.channel was.before.channel c.peer was.before.peer was.channel was.peer now.1)
      ]
    ]

    channel_numbers : (c : PendingChannel) (n : ℕ) → IsIn c new.pending_channels → IsIn n c.numbers → WasWanting old.pending_channels c.channel c.peer n ⊎ Now (run.Channel c.channel c.peer) n
    channel_numbers c n listed has = elim (second.channel_numbers c n listed has) [
      | inr now ↦ inr now
      | inl was ↦ elim (first.channel_numbers was.before n was.listed was.has) [
        | inl before ↦ inl (record { before = before.before; listed = before.listed; channel_is = was.channel_is ∙ before.channel_is; peer = was.peer ∙ before.peer; has = before.has })
        | inr now ↦ inr (alike (λ k x. Now (run.Channel k x) n) c.channel was.before.channel c.peer was.before.peer was.channel_is was.peer now)
      ]
    ]

    pub both_permitting : IsPermitting New Now old new
    both_permitting = record {
      transport = second.transport ∙ first.transport;
      address = second.address ∙ first.address;
      permissions = permissions;
      renewals = renewals;
      numbers = numbers;
      channels = channels;
      channel_renewals = channel_renewals;
      new_channels = new_channels;
      channel_numbers = channel_numbers;
      refreshes = λ r listed. first.refreshes r (second.refreshes r listed);
      connecting = λ c listed. first.connecting c (second.connecting c listed);
      waiting = λ w listed. first.waiting w (second.waiting w listed);
      connections = λ c listed. first.connections c (second.connections c listed);
    }

  -- Expired channels do not matter.
  pub expired_permitting : (old new : Allocation) (expired : List ExpiredChannel) → IsPermitting New Now old new → IsPermitting New Now old (record new { expired_channels = expired })
  expired_permitting old new expired is = record {
    transport = is.transport;
    address = is.address;
    permissions = is.permissions;
    renewals = is.renewals;
    numbers = is.numbers;
    channels = is.channels;
    channel_renewals = is.channel_renewals;
    new_channels = is.new_channels;
    channel_numbers = is.channel_numbers;
    refreshes = is.refreshes;
    connecting = is.connecting;
    waiting = is.waiting;
    connections = is.connections;
  }

  -- ---- all of them

  pub chained : (old mid new : List Allocation) → ArePermitting New Now old mid → ArePermitting New Now mid new → ArePermitting New Now old new
  chained old mid new first second a listed =
      let was = second a listed in
      let before = first was.before was.listed in
      record { before = before.before; listed = before.listed; is = both_permitting before.before was.before a before.is was.is }
