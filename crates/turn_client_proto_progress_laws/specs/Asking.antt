-- A request for a permission or a channel that a call made, and that is not answered (RFC 8656, sections 10.1
-- and 12.1).
use Rattle.std.specs.Prelude.{◌≡◌, ◌≢◌, ◌<◌, ◌≤◌, ◌^◌, ℕ, Bool, true, false, List, [], ◌∷◌, find, Some, None}
use Rattle.std.specs.FinMap as map
use Rattle.std.specs.declared.net.ip_addr.IpAddr.{IpAddr}
use Rattle.std.specs.declared.net.socket_addr.SocketAddr.{SocketAddr}
use Rattle.turn_client_proto_messages.specs.StunTypesBase.Family.{family_of_ip, family_of_socket}
use Rattle.turn_client_proto_messages.specs.StunTypesBase.declared.transport.TransportType.{TransportType}
use Rattle.turn_client_proto_messages.specs.StunProtoTransaction.Agents.{Transaction, is_ended}
use Rattle.turn_client_proto_messages.specs.TurnTypesAttributes.TurnRegistry.{greatest_channel, least_channel}
use Rattle.turn_client_proto_messages.specs.Allocation.Awaited.{asks_for_channel, asks_for_permission, has_number, is_refresh}
use Rattle.turn_client_proto_messages.specs.Allocation.Awaited.{renews_channel}
use Rattle.turn_client_proto_messages.specs.Allocation.declared.allocation.Allocation.{Allocation}
use Rattle.turn_client_proto_step_laws.specs.Peers.Channel.Binding.{barring}
use Rattle.turn_client_proto_step_laws.specs.Peers.Channel.Numbers.{is_numbered, is_taken}
use Rattle.turn_client_proto_messages.specs.Requests.{request_text}
use Rattle.turn_client_proto_messages.specs.ReportedRequests.{IsLawfulRequest}
use Rattle.turn_client_proto_messages.specs.declared.request.TurnRequest.{TurnRequest}
use Rattle.turn_client_proto_messages.specs.declared.request.TurnRequest.TheVariants.{ChannelBind}
use Rattle.turn_client_proto_messages.specs.declared.request.TurnRequest.TheVariants.{CreatePermission}
use Rattle.turn_client_proto_handshake_laws.specs.Core.declared.protocol.Phase.TheVariants.{Authenticated}
use Rattle.turn_client_proto_handshake_laws.specs.Core.declared.protocol.Protocol.{Protocol}
use Rattle.turn_client_proto_messages.specs.TurnRuns.Members.{IsIn}
use Rattle.turn_client_proto_step_laws.specs.Peers.Permission.Asking.{knows}
use Rattle.turn_client_proto_progress_laws.specs.Speaking.{Speaks}
use Rattle.turn_client_proto_handshake_laws.specs.Sent.{Beginning}

-- What is requested: a permission for an address, or the channel with this number to a peer.
pub data Wanted : Type 0 where
  APermission : (ip : IpAddr) → Wanted
  AChannel : (channel : ℕ) (peer : SocketAddr) → Wanted

-- The request for it.
abbrev pub request_for : Wanted → TurnRequest
request_for (APermission ip) = CreatePermission (ip ∷ [])
request_for (AChannel channel peer) = ChannelBind channel peer

-- ---- when a call is returned Ok

-- A permission for an address may be requested: the client has not ended; its allocation has this transport
-- and the address's family, and has not expired; and no permission for the address is active or requested.
pub record MayPermit (b : Beginning) (address : SocketAddr) (transport : TransportType) (ip : IpAddr) (now : ℕ)
    (p : Protocol) : Type 0 where
  pub phase : p.phase ≡ Authenticated
  pub allocation : Allocation
  pub only : p.allocations ≡ allocation ∷ []
  pub same : transport ≡ b.config.transport
  pub family : family_of_socket address ≡ family_of_ip ip
  pub later : now < allocation.expiry
  pub unknown : knows ip allocation ≡ false

-- A channel number that no channel of the client has at this time: none that is active, requested, or expired
-- and still protected.
pub record IsFreeNumber (transaction_id now : ℕ) (allocations : List Allocation) : Type 0 where
  pub least : least_channel ≤ transaction_id
  pub most : transaction_id ≤ greatest_channel
  pub untaken : is_taken transaction_id now allocations ≡ false

-- A channel to a peer may be requested: the client has not ended; its allocation has this transport and the
-- peer's family, and has not expired; no channel to the peer is active, or expired and still protected; and a
-- channel number is free.
pub record MayBind (b : Beginning) (address : SocketAddr) (transport : TransportType) (peer : SocketAddr) (now : ℕ)
    (p : Protocol) : Type 0 where
  pub phase : p.phase ≡ Authenticated
  pub allocation : Allocation
  pub only : p.allocations ≡ allocation ∷ []
  pub same : transport ≡ b.config.transport
  pub family : family_of_socket address ≡ family_of_socket peer
  pub later : now < allocation.expiry
  pub unbarred : barring peer now allocation ≡ None
  pub channel : ℕ
  pub free : IsFreeNumber channel now p.allocations

-- ---- what is awaited then

-- No element passes the test.
abbrev pub NonePasses : {X : Type 0} → (X → Bool) → List X → Type 0
NonePasses {X = X} test xs = (x : X) → IsIn x xs → test x ≡ false

-- The request with this transaction ID asks the allocation for a permission for this address, and for nothing
-- else. These are the transaction IDs of all requests that asked for it: several, if some were challenged.
pub record AwaitsPermission (numbers : List ℕ) (number : ℕ) (ip : IpAddr) (a : Allocation) : Type 0 where
  pub no_refresh : NonePasses (is_refresh number) a.pending_refreshes
  pub no_channel : NonePasses (asks_for_channel number) a.pending_channels
  pub no_renewal : NonePasses (renews_channel number) a.channels
  pub requested : find (asks_for_permission number) a.pending_permissions
      ≡ Some (record { ip = ip; others = []; numbers = numbers })

-- The request with this transaction ID asks the allocation for a channel to this peer, with a number that no
-- other channel has.
pub record AwaitsChannel (numbers : List ℕ) (number channel : ℕ) (peer : SocketAddr) (a : Allocation) : Type 0 where
  pub no_refresh : NonePasses (is_refresh number) a.pending_refreshes
  pub requested : find (asks_for_channel number) a.pending_channels
      ≡ Some (record { channel = channel; peer = peer; numbers = numbers })
  pub free : NonePasses (is_numbered channel) a.channels

abbrev pub Awaits : (numbers : List ℕ) (number : ℕ) → Wanted → Allocation → Type 0
Awaits numbers number (APermission ip) a = AwaitsPermission numbers number ip a
Awaits numbers number (AChannel channel peer) a = AwaitsChannel numbers number channel peer a

-- Of these requests only the one with this transaction ID is outstanding, if it is.
abbrev pub HasNoneBut : (numbers : List ℕ) (number : ℕ) → Protocol → Type 0
HasNoneBut numbers number p =
    (n : ℕ) → has_number n numbers ≡ true → n ≢ number → map.get p.agent.outstanding n ≡ None

-- An established client has made this request, signed under its stored challenge, possibly after others that were
-- challenged. The request is outstanding, and is not given up by the time `until`; and its allocation has not ended by
-- `beyond`. `Counts` holds of the number of challenges that the client answered in a row.
pub record HasMadeRequest (b : Beginning) (realm : List ℕ) (address : SocketAddr) (wanted : Wanted) (request : List ℕ)
    (until beyond : ℕ) (Counts : ℕ → Type 0) (p : Protocol) : Type 0 where
  pub speaks : Speaks b realm address p
  pub phase : p.phase ≡ Authenticated
  pub allocation : Allocation
  pub only : p.allocations ≡ allocation ∷ []
  pub occurs : allocation.is_expired ≡ false
  pub later : beyond < allocation.expiry
  pub number : ℕ
  pub fits : number < 2 ^ 96
  pub lawful : IsLawfulRequest (request_for wanted)
  pub text : request ≡ request_text p.auth (request_for wanted) number
  pub numbers : List ℕ
  pub awaits : Awaits numbers number wanted allocation
  pub others : HasNoneBut numbers number p
  pub transaction : Transaction
  pub outstanding : map.get p.agent.outstanding number ≡ Some transaction
  pub continues : is_ended until transaction ≡ false
  pub counts : Counts p.resends

-- Any number.
abbrev pub AnyCount : ℕ → Type 0
AnyCount n = Unit {0}

-- The same, if the allocation has not ended by that time either, and of any number of challenges.
abbrev pub HasRequested : Beginning → (realm : List ℕ) → SocketAddr → Wanted → (request : List ℕ) → (now : ℕ) → Protocol
    → Type 0
HasRequested b realm address wanted request now p = HasMadeRequest b realm address wanted request now now AnyCount p

-- A request is outstanding that wasn't before.
pub record IsMade (old new : Protocol) (request : List ℕ) : Type 0 where
  pub number : ℕ
  pub transaction : Transaction
  pub there : map.get new.agent.outstanding number ≡ Some transaction
  pub none : map.get old.agent.outstanding number ≡ None
  pub bytes : transaction.bytes ≡ request
