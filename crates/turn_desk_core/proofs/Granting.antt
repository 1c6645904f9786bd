-- The grants that a verdict stores are those that are granted.
use Rattle.std.specs.Prelude.{◌≡◌, ℕ, Bool, true, false, List, [], ◌∷◌, Option, Some, None, if◌then◌else◌}
use Rattle.std.proofs.Common.{refl, sym, ap, ◌∙◌}
use Rattle.std.specs.Option.{option_map}
use Rattle.std.specs.declared.net.socket_addr.SocketAddr.{SocketAddr}
use Rattle.stun_types_base.specs.declared.transport.TransportType.{TransportType}
use Rattle.stun_types_wire.specs.Attributes.{Attr, kind_at}
use Rattle.stun_types_wire.specs.Types.{method_of}
use Rattle.turn_types_attributes.specs.TurnRegistry.{allocate_method, channel_bind_method, connect_method, connection_bind_method, create_permission_method, refresh_method}
use Rattle.turn_desk_core.specs.Replies.{success_type}
use Rattle.turn_desk_core.specs.declared.requested.Requested.{Requested}
use Rattle.turn_desk_core.specs.declared.requested.Requested.TheVariants.{Allocation, Refreshment, Permissions, Channel, Connection, Binding}
use Rattle.turn_desk_core.specs.declared.decision.Decision.{Decision}
use Rattle.turn_desk_core.specs.declared.decision.Decision.TheVariants.{Refuse, Allocate, Refresh, Connect, Grant}
use Rattle.turn_desk_core.specs.declared.grant.Grant as granted
use Rattle.turn_desk_core.specs.declared.verdict.Verdict.{Verdict}
use Rattle.turn_desk_core.specs.declared.verdict.Verdict.TheVariants.{Allocates, Refreshes, Permits, Binds, Connects, Joins}
use Rattle.turn_desk_core.specs.RequestedFor.{requested, requested_by, channel_requested, channel_to, connection_requested, peer_requested, peers_requested, transport_requested}
use Rattle.turn_desk_core.specs.Grants.{IsGrant, Allocated, Refreshed, Permitted, Bound, Connected, Joined}
use Rattle.turn_desk_core.specs.Requests.{IsServed, IsServedMethod}
use Rattle.turn_desk_core.specs.Verdicts.{are_relayable, decided, grants_of, misfit, reply_attributes, reply_type, verdict, verdict_on}
use Rattle.turn_desk_core.proofs.Methods.{by_method}

-- The reply for a stored grant is a success response, and the grant is granted.
pub record IsStored (bytes : List ℕ) (from : SocketAddr) (decision : Decision) (what : Verdict) (g : granted.Grant) : Type 0 where
  pub success : reply_type bytes what ≡ success_type bytes
  pub grant : IsGrant bytes from decision (reply_attributes bytes from what) g

-- If two lists of one grant are equal, the grants are equal.
only : (g h : granted.Grant) → g ∷ [] ≡ h ∷ [] → h ≡ g
only g h same = Prim.cc same

abbrev Keeps : List ℕ → SocketAddr → Decision → Requested → granted.Grant → Type 0
Keeps bytes from decision reported g = grants_of bytes from (decided reported decision) ≡ g ∷ []

-- ---- what a verdict stores

relayed_stored : (bytes : List ℕ) (from : SocketAddr) (addresses : List SocketAddr) (lifetime : ℕ) (t : TransportType) (fits : Bool) (g : granted.Grant) → method_of (kind_at bytes) ≡ allocate_method → transport_requested bytes ≡ Some t → are_relayable addresses ≡ fits
    → grants_of bytes from (if fits then Allocates t addresses lifetime else misfit) ≡ g ∷ [] → IsStored bytes from (Allocate addresses lifetime) (if fits then Allocates t addresses lifetime else misfit) g
relayed_stored bytes from addresses lifetime t false g method requested fits h = absurd (Prim.cc h)
relayed_stored bytes from addresses lifetime t true g method requested fits h = record {
  success = refl;
  grant = Allocated (record { method = method; transport = t; requested = requested; relayed = addresses; lifetime = lifetime; decided = refl; fits = fits; visible = refl; stored = only _ g h });
}

allocation_stored : (bytes : List ℕ) (from : SocketAddr) (decision : Decision) (t : TransportType) (g : granted.Grant) → method_of (kind_at bytes) ≡ allocate_method → transport_requested bytes ≡ Some t
    → Keeps bytes from decision (Allocation t) g → IsStored bytes from decision (decided (Allocation t) decision) g
allocation_stored bytes from (Refuse code) t g method requested h = absurd (Prim.cc h)
allocation_stored bytes from (Allocate addresses lifetime) t g method requested h = relayed_stored bytes from addresses lifetime t (are_relayable addresses) g method requested refl h
allocation_stored bytes from (Refresh lifetime) t g method requested h = absurd (Prim.cc h)
allocation_stored bytes from (Connect number) t g method requested h = absurd (Prim.cc h)
allocation_stored bytes from Grant t g method requested h = absurd (Prim.cc h)

refreshment_stored : (bytes : List ℕ) (from : SocketAddr) (decision : Decision) (g : granted.Grant) → method_of (kind_at bytes) ≡ refresh_method
    → Keeps bytes from decision Refreshment g → IsStored bytes from decision (decided Refreshment decision) g
refreshment_stored bytes from (Refuse code) g method h = absurd (Prim.cc h)
refreshment_stored bytes from (Allocate addresses lifetime) g method h = absurd (Prim.cc h)
refreshment_stored bytes from (Refresh lifetime) g method h = record {
  success = refl;
  grant = Refreshed (record { method = method; lifetime = lifetime; decided = refl; visible = refl; stored = only _ g h });
}
refreshment_stored bytes from (Connect number) g method h = absurd (Prim.cc h)
refreshment_stored bytes from Grant g method h = absurd (Prim.cc h)

permissions_stored : (bytes : List ℕ) (from : SocketAddr) (decision : Decision) (ps : List SocketAddr) (g : granted.Grant) → method_of (kind_at bytes) ≡ create_permission_method → peers_requested bytes ≡ Some ps
    → Keeps bytes from decision (Permissions ps) g → IsStored bytes from decision (decided (Permissions ps) decision) g
permissions_stored bytes from (Refuse code) ps g method requested h = absurd (Prim.cc h)
permissions_stored bytes from (Allocate addresses lifetime) ps g method requested h = absurd (Prim.cc h)
permissions_stored bytes from (Refresh lifetime) ps g method requested h = absurd (Prim.cc h)
permissions_stored bytes from (Connect number) ps g method requested h = absurd (Prim.cc h)
permissions_stored bytes from Grant ps g method requested h = record {
  success = refl;
  grant = Permitted (record { method = method; peers = ps; requested = requested; decided = refl; visible = refl; stored = only _ g h });
}

channel_stored : (bytes : List ℕ) (from : SocketAddr) (decision : Decision) (ch : ℕ) (p : SocketAddr) (g : granted.Grant) → method_of (kind_at bytes) ≡ channel_bind_method → channel_requested bytes ≡ Some ch → peer_requested bytes ≡ Some p
    → Keeps bytes from decision (Channel ch p) g → IsStored bytes from decision (decided (Channel ch p) decision) g
channel_stored bytes from (Refuse code) ch p g method requested peer_is h = absurd (Prim.cc h)
channel_stored bytes from (Allocate addresses lifetime) ch p g method requested peer_is h = absurd (Prim.cc h)
channel_stored bytes from (Refresh lifetime) ch p g method requested peer_is h = absurd (Prim.cc h)
channel_stored bytes from (Connect number) ch p g method requested peer_is h = absurd (Prim.cc h)
channel_stored bytes from Grant ch p g method requested peer_is h = record {
  success = refl;
  grant = Bound (record { method = method; channel = ch; requested = requested; peer = p; peer_is = peer_is; decided = refl; visible = refl; stored = only _ g h });
}

connection_stored : (bytes : List ℕ) (from : SocketAddr) (decision : Decision) (p : SocketAddr) (g : granted.Grant) → method_of (kind_at bytes) ≡ connect_method → peer_requested bytes ≡ Some p
    → Keeps bytes from decision (Connection p) g → IsStored bytes from decision (decided (Connection p) decision) g
connection_stored bytes from (Refuse code) p g method requested h = absurd (Prim.cc h)
connection_stored bytes from (Allocate addresses lifetime) p g method requested h = absurd (Prim.cc h)
connection_stored bytes from (Refresh lifetime) p g method requested h = absurd (Prim.cc h)
connection_stored bytes from (Connect number) p g method requested h = record {
  success = refl;
  grant = Connected (record { method = method; peer = p; requested = requested; connection = number; decided = refl; visible = refl; stored = only _ g h });
}
connection_stored bytes from Grant p g method requested h = absurd (Prim.cc h)

binding_stored : (bytes : List ℕ) (from : SocketAddr) (decision : Decision) (cn : ℕ) (g : granted.Grant) → method_of (kind_at bytes) ≡ connection_bind_method → connection_requested bytes ≡ Some cn
    → Keeps bytes from decision (Binding cn) g → IsStored bytes from decision (decided (Binding cn) decision) g
binding_stored bytes from (Refuse code) cn g method requested h = absurd (Prim.cc h)
binding_stored bytes from (Allocate addresses lifetime) cn g method requested h = absurd (Prim.cc h)
binding_stored bytes from (Refresh lifetime) cn g method requested h = absurd (Prim.cc h)
binding_stored bytes from (Connect number) cn g method requested h = absurd (Prim.cc h)
binding_stored bytes from Grant cn g method requested h = record {
  success = refl;
  grant = Joined (record { method = method; connection = cn; requested = requested; decided = refl; visible = refl; stored = only _ g h });
}

-- ---- by what was requested

abbrev KeepsBy : List ℕ → SocketAddr → Decision → Option Requested → granted.Grant → Type 0
KeepsBy bytes from decision found g = grants_of bytes from (verdict found decision) ≡ g ∷ []

abbrev IsStoredBy : List ℕ → SocketAddr → Decision → granted.Grant → Option Requested → Type 0
IsStoredBy bytes from decision g found = KeepsBy bytes from decision found g → IsStored bytes from decision (verdict found decision) g

allocation_found : (bytes : List ℕ) (from : SocketAddr) (decision : Decision) (g : granted.Grant) (found : Option (TransportType)) → method_of (kind_at bytes) ≡ allocate_method → transport_requested bytes ≡ found → IsStoredBy bytes from decision g (option_map Allocation found)
allocation_found bytes from decision g None method is h = absurd (Prim.cc h)
allocation_found bytes from decision g (Some x) method is h = allocation_stored bytes from decision x g method is h

permissions_found : (bytes : List ℕ) (from : SocketAddr) (decision : Decision) (g : granted.Grant) (found : Option (List SocketAddr)) → method_of (kind_at bytes) ≡ create_permission_method → peers_requested bytes ≡ found → IsStoredBy bytes from decision g (option_map Permissions found)
permissions_found bytes from decision g None method is h = absurd (Prim.cc h)
permissions_found bytes from decision g (Some x) method is h = permissions_stored bytes from decision x g method is h

connection_found : (bytes : List ℕ) (from : SocketAddr) (decision : Decision) (g : granted.Grant) (found : Option (SocketAddr)) → method_of (kind_at bytes) ≡ connect_method → peer_requested bytes ≡ found → IsStoredBy bytes from decision g (option_map Connection found)
connection_found bytes from decision g None method is h = absurd (Prim.cc h)
connection_found bytes from decision g (Some x) method is h = connection_stored bytes from decision x g method is h

binding_found : (bytes : List ℕ) (from : SocketAddr) (decision : Decision) (g : granted.Grant) (found : Option (ℕ)) → method_of (kind_at bytes) ≡ connection_bind_method → connection_requested bytes ≡ found → IsStoredBy bytes from decision g (option_map Binding found)
binding_found bytes from decision g None method is h = absurd (Prim.cc h)
binding_found bytes from decision g (Some x) method is h = binding_stored bytes from decision x g method is h

channel_found : (bytes : List ℕ) (from : SocketAddr) (decision : Decision) (g : granted.Grant) (channel : Option ℕ) (peer : Option SocketAddr) → method_of (kind_at bytes) ≡ channel_bind_method → channel_requested bytes ≡ channel → peer_requested bytes ≡ peer
    → IsStoredBy bytes from decision g (channel_to channel peer)
channel_found bytes from decision g None peer method c p h = absurd (Prim.cc h)
channel_found bytes from decision g (Some channel) None method c p h = absurd (Prim.cc h)
channel_found bytes from decision g (Some channel) (Some peer) method c p h = channel_stored bytes from decision channel peer g method c p h

by_case : (bytes : List ℕ) (from : SocketAddr) (decision : Decision) (g : granted.Grant) (m : ℕ) → method_of (kind_at bytes) ≡ m → IsServedMethod m → IsStoredBy bytes from decision g (requested_by m bytes)
by_case bytes from decision g m is served =
    by_method (λ (n : ℕ). method_of (kind_at bytes) ≡ n → IsStoredBy bytes from decision g (requested_by n bytes)) (record {
      allocate = λ method. allocation_found bytes from decision g (transport_requested bytes) method refl;
      refresh = λ method. refreshment_stored bytes from decision g method;
      create_permission = λ method. permissions_found bytes from decision g (peers_requested bytes) method refl;
      channel_bind = λ method. channel_found bytes from decision g (channel_requested bytes) (peer_requested bytes) method refl refl;
      connect = λ method. connection_found bytes from decision g (peer_requested bytes) method refl;
      connection_bind = λ method. binding_found bytes from decision g (connection_requested bytes) method refl;
    }) m served is

-- What the verdict on a request stores is granted.
pub verdict_stored : (bytes : List ℕ) (from : SocketAddr) (decision : Decision) (g : granted.Grant) → IsServed bytes → grants_of bytes from (verdict_on bytes decision) ≡ g ∷ [] → IsStored bytes from decision (verdict_on bytes decision) g
verdict_stored bytes from decision g served = by_case bytes from decision g (method_of (kind_at bytes)) refl served.method

-- ---- what is granted

-- A verdict with one grant stores it.
keeps_it : (bytes : List ℕ) (from : SocketAddr) (what made : Verdict) (h g : granted.Grant) → what ≡ made → grants_of bytes from made ≡ h ∷ [] → g ≡ h → grants_of bytes from what ≡ g ∷ []
keeps_it bytes from what made h g is one same = ap (grants_of bytes from) is ∙ one ∙ ap (λ (x : granted.Grant). x ∷ []) (sym same)

-- What is granted is stored by the verdict on the request.
pub granted_stored : (bytes : List ℕ) (from : SocketAddr) (decision : Decision) (shows : List Attr) (g : granted.Grant) → IsGrant bytes from decision shows g → grants_of bytes from (verdict_on bytes decision) ≡ g ∷ []
granted_stored bytes from decision shows g (Allocated is) =
    let reported : requested bytes ≡ Some (Allocation is.transport) = ap (λ (m : ℕ). requested_by m bytes) is.method ∙ ap (option_map Allocation) is.requested in
    let what : verdict_on bytes decision ≡ Allocates is.transport is.relayed is.lifetime =
    ap (λ (found : Option Requested). verdict found decision) reported ∙ ap (decided (Allocation is.transport)) is.decided
    ∙ ap (λ (b : Bool). if b then Allocates is.transport is.relayed is.lifetime else misfit) is.fits in
    keeps_it bytes from (verdict_on bytes decision) _ _ g what refl is.stored
granted_stored bytes from decision shows g (Refreshed is) =
    let reported : requested bytes ≡ Some Refreshment = ap (λ (m : ℕ). requested_by m bytes) is.method in
    let what : verdict_on bytes decision ≡ Refreshes is.lifetime = ap (λ (found : Option Requested). verdict found decision) reported ∙ ap (decided Refreshment) is.decided in
    keeps_it bytes from (verdict_on bytes decision) _ _ g what refl is.stored
granted_stored bytes from decision shows g (Permitted is) =
    let reported : requested bytes ≡ Some (Permissions is.peers) = ap (λ (m : ℕ). requested_by m bytes) is.method ∙ ap (option_map Permissions) is.requested in
    let what : verdict_on bytes decision ≡ Permits is.peers = ap (λ (found : Option Requested). verdict found decision) reported ∙ ap (decided (Permissions is.peers)) is.decided in
    keeps_it bytes from (verdict_on bytes decision) _ _ g what refl is.stored
granted_stored bytes from decision shows g (Bound is) =
    let reported : requested bytes ≡ Some (Channel is.channel is.peer) =
    ap (λ (m : ℕ). requested_by m bytes) is.method ∙ ap (λ (c : Option ℕ). channel_to c (peer_requested bytes)) is.requested ∙ ap (channel_to (Some is.channel)) is.peer_is in
    let what : verdict_on bytes decision ≡ Binds is.channel is.peer = ap (λ (found : Option Requested). verdict found decision) reported ∙ ap (decided (Channel is.channel is.peer)) is.decided in
    keeps_it bytes from (verdict_on bytes decision) _ _ g what refl is.stored
granted_stored bytes from decision shows g (Connected is) =
    let reported : requested bytes ≡ Some (Connection is.peer) = ap (λ (m : ℕ). requested_by m bytes) is.method ∙ ap (option_map Connection) is.requested in
    let what : verdict_on bytes decision ≡ Connects is.peer is.connection = ap (λ (found : Option Requested). verdict found decision) reported ∙ ap (decided (Connection is.peer)) is.decided in
    keeps_it bytes from (verdict_on bytes decision) _ _ g what refl is.stored
granted_stored bytes from decision shows g (Joined is) =
    let reported : requested bytes ≡ Some (Binding is.connection) = ap (λ (m : ℕ). requested_by m bytes) is.method ∙ ap (option_map Binding) is.requested in
    let what : verdict_on bytes decision ≡ Joins is.connection = ap (λ (found : Option Requested). verdict found decision) reported ∙ ap (decided (Binding is.connection)) is.decided in
    keeps_it bytes from (verdict_on bytes decision) _ _ g what refl is.stored
