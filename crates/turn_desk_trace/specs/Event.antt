-- The event lines of a trace.
use Rattle.std.specs.Prelude.{ℕ, ◌≡◌, ◌==◌, List, [], ◌∷◌, ◌⊎◌, Option, Some, None, codes}
use Rattle.std.specs.List.{slice_split}
use Rattle.std.specs.Net.Grammar.{IsIpText, IsSocketText}
use Rattle.std.specs.declared.net.ip_addr.IpAddr.{IpAddr}
use Rattle.std.specs.declared.net.socket_addr.SocketAddr.{SocketAddr}
use Rattle.stun_types_base.specs.declared.transport.TransportType.{TransportType}
use Rattle.turn_desk_event.specs.declared.event.ClientCall.{ClientCall}
use Rattle.turn_desk_event.specs.declared.event.ClientCall.TheVariants.{Poll, PollEvent, Delete, CreatePermission, CreatePermissions, HavePermission, Permissions, BindChannel, Channels, SendTo, PollRecv, ProtocolError, RelayedAddresses, TcpConnect, AllocatedTcpSocket, TcpClosed, Connections}
use Rattle.turn_desk_event.specs.declared.event.Event.{Event}
use Rattle.turn_desk_event.specs.declared.event.Event.TheVariants.{Call, Draw, ToClient, ToDesk}
use Rattle.turn_desk_event.specs.Printed.{transport_word}
use Rattle.turn_desk_trace.specs.Address.{AreIps}
use Rattle.turn_desk_trace.specs.Bytes.{named_bytes}
use Rattle.turn_desk_trace.specs.Decision.{IsDecision, IsU32}
use Rattle.turn_desk_trace.specs.TraceNumbers.{number, seed_of}

-- There is one word, and it spells this time.
abbrev pub IsTime : List (List ℕ) → ℕ → Type 0
IsTime [] time = ⊥
IsTime (now ∷ []) time = number now ≡ Some time
IsTime (now ∷ more ∷ rest) time = ⊥

-- There is no word, and the time is 0.
abbrev pub IsNoTime : List (List ℕ) → ℕ → Type 0
IsNoTime [] time = time ≡ 0
IsNoTime (word ∷ rest) time = ⊥

-- There are two words, and they spell this transport and this IP address.
abbrev pub IsPlacedIp : List (List ℕ) → TransportType → IpAddr → Type 0
IsPlacedIp [] transport ip = ⊥
IsPlacedIp (a ∷ []) transport ip = ⊥
IsPlacedIp (name ∷ address ∷ []) transport ip =
    (name ≡ transport_word transport) × IsIpText address ip
IsPlacedIp (a ∷ b ∷ more ∷ rest) transport ip = ⊥

-- There are two words, and they spell this transport and this transport address.
abbrev pub IsPlacedSocket : List (List ℕ) → TransportType → SocketAddr → Type 0
IsPlacedSocket [] transport socket = ⊥
IsPlacedSocket (a ∷ []) transport socket = ⊥
IsPlacedSocket (name ∷ address ∷ []) transport socket =
    (name ≡ transport_word transport) × IsSocketText address socket
IsPlacedSocket (a ∷ b ∷ more ∷ rest) transport socket = ⊥

-- The words after `permission` spell this time, this transport and this IP address.
abbrev pub IsPermission : List (List ℕ) → TransportType → IpAddr → ℕ → Type 0
IsPermission [] transport ip time = ⊥
IsPermission (now ∷ rest) transport ip time = (number now ≡ Some time) × IsPlacedIp rest transport ip

-- The words after `bind` spell this time, this transport and this transport address.
abbrev pub IsBind : List (List ℕ) → TransportType → SocketAddr → ℕ → Type 0
IsBind [] transport peer time = ⊥
IsBind (now ∷ rest) transport peer time = (number now ≡ Some time) × IsPlacedSocket rest transport peer

-- The words after `connect` spell this time and this transport address.
abbrev pub IsConnect : List (List ℕ) → SocketAddr → ℕ → Type 0
IsConnect [] peer time = ⊥
IsConnect (now ∷ []) peer time = ⊥
IsConnect (now ∷ address ∷ []) peer time = (number now ≡ Some time) × IsSocketText address peer
IsConnect (now ∷ address ∷ more ∷ rest) peer time = ⊥

-- The word spells the local address of a socket, or is `none`.
abbrev pub IsSocket : List ℕ → Option SocketAddr → Type 0
IsSocket word None = word ≡ codes "none"
IsSocket word (Some here) = IsSocketText word here

-- The words after `socket` spell this time, this connection ID, this peer and this socket.
abbrev pub IsAllocated : List (List ℕ) → ℕ → SocketAddr → Option SocketAddr → ℕ → Type 0
IsAllocated (now ∷ id ∷ address ∷ local ∷ []) connection peer here time =
    (number now ≡ Some time) × IsU32 id connection × IsSocketText address peer × IsSocket local here
IsAllocated words connection peer here time = ⊥

-- The words after `closed` spell this time, this local address and this remote address.
abbrev pub IsClosed : List (List ℕ) → (here there : SocketAddr) → ℕ → Type 0
IsClosed (now ∷ local ∷ remote ∷ []) here there time =
    (number now ≡ Some time) × IsSocketText local here × IsSocketText remote there
IsClosed words here there time = ⊥

-- The name and the words after it spell a call of the client at this time. `IsSend` and `IsPermit` define this for
-- the calls that send bytes, and that name several addresses.
abbrev pub IsCall : List ℕ → List (List ℕ) → ClientCall → ℕ → Type 0
IsCall name rest Poll time = (name ≡ codes "poll") × IsTime rest time
IsCall name rest PollEvent time = (name ≡ codes "event") × IsNoTime rest time
IsCall name rest Delete time = (name ≡ codes "delete") × IsTime rest time
IsCall name rest (CreatePermission transport ip) time =
    (name ≡ codes "permission") × IsPermission rest transport ip time
IsCall name rest (CreatePermissions transport ips) time = ⊥
IsCall name rest (HavePermission transport ip) time =
    (name ≡ codes "have") × IsPlacedIp rest transport ip × (time ≡ 0)
IsCall name rest (Permissions transport socket) time =
    (name ≡ codes "permissions") × IsPlacedSocket rest transport socket × (time ≡ 0)
IsCall name rest (BindChannel transport peer) time =
    (name ≡ codes "bind") × IsBind rest transport peer time
IsCall name rest (TcpConnect peer) time = (name ≡ codes "connect") × IsConnect rest peer time
IsCall name rest (AllocatedTcpSocket connection peer here) time =
    (name ≡ codes "socket") × IsAllocated rest connection peer here time
IsCall name rest (TcpClosed here there) time = (name ≡ codes "closed") × IsClosed rest here there time
IsCall name rest Connections time = (name ≡ codes "connections") × IsNoTime rest time
IsCall name rest Channels time = (name ≡ codes "channels") × IsNoTime rest time
IsCall name rest (SendTo transport to bytes) time = ⊥
IsCall name rest PollRecv time = (name ≡ codes "recv") × IsTime rest time
IsCall name rest ProtocolError time = (name ≡ codes "error") × IsNoTime rest time
IsCall name rest RelayedAddresses time = (name ≡ codes "relayed") × IsNoTime rest time

-- The words, of which the last ones are a decision, spell the event that bytes reach the server core.
abbrev pub IsToDeskOf : List (List ℕ) → List ℕ → List ℕ → List ℕ → List ℕ → List (List ℕ) → Event → Type 0
IsToDeskOf answers now from bytes seed decision (ToDesk b f n d s) =
    (number now ≡ Some n) × IsSocketText from f × (named_bytes answers bytes ≡ Some b.items)
    × (seed_of seed ≡ Some s) × IsDecision decision d
IsToDeskOf answers now from bytes seed decision (ToClient b f t n) = ⊥
IsToDeskOf answers now from bytes seed decision (Draw n) = ⊥
IsToDeskOf answers now from bytes seed decision (Call call n) = ⊥

-- A time, a source and the words after them spell the event that bytes reach the server core.
abbrev pub IsToDeskFrom : List (List ℕ) → List ℕ → List ℕ → List (List ℕ) → Event → Type 0
IsToDeskFrom answers now from [] event = ⊥
IsToDeskFrom answers now from (a ∷ []) event = ⊥
IsToDeskFrom answers now from (bytes ∷ seed ∷ decision) event = IsToDeskOf answers now from bytes seed decision event

-- The words after `todesk` spell the event, given these earlier results.
abbrev pub IsToDesk : List (List ℕ) → List (List ℕ) → Event → Type 0
IsToDesk answers [] event = ⊥
IsToDesk answers (a ∷ []) event = ⊥
IsToDesk answers (now ∷ from ∷ rest) event = IsToDeskFrom answers now from rest event

-- The words spell the event that bytes reach the client.
abbrev pub IsToClientOf : List (List ℕ) → List ℕ → List ℕ → List ℕ → List ℕ → Event → Type 0
IsToClientOf answers now from to bytes (ToClient b f t n) =
    (number now ≡ Some n) × IsSocketText from f × IsSocketText to t
    × (named_bytes answers bytes ≡ Some b.items)
IsToClientOf answers now from to bytes (ToDesk b f n d s) = ⊥
IsToClientOf answers now from to bytes (Draw n) = ⊥
IsToClientOf answers now from to bytes (Call call n) = ⊥

-- A time, a source and the words after them spell the event that bytes reach the client.
abbrev pub IsToClientFrom : List (List ℕ) → List ℕ → List ℕ → List (List ℕ) → Event → Type 0
IsToClientFrom answers now from [] event = ⊥
IsToClientFrom answers now from (a ∷ []) event = ⊥
IsToClientFrom answers now from (to ∷ bytes ∷ []) event = IsToClientOf answers now from to bytes event
IsToClientFrom answers now from (a ∷ b ∷ more ∷ rest) event = ⊥

-- The words after `toclient` spell the event, given these earlier results.
abbrev pub IsToClient : List (List ℕ) → List (List ℕ) → Event → Type 0
IsToClient answers [] event = ⊥
IsToClient answers (a ∷ []) event = ⊥
IsToClient answers (now ∷ from ∷ rest) event = IsToClientFrom answers now from rest event

-- The words after `send` spell the call that sends bytes to a peer at this time, given these earlier results.
abbrev pub IsSend : List (List ℕ) → List (List ℕ) → ClientCall → ℕ → Type 0
IsSend answers (now ∷ name ∷ to ∷ bytes ∷ []) (SendTo transport peer sent) time =
    (number now ≡ Some time) × (name ≡ transport_word transport) × IsSocketText to peer
    × (named_bytes answers bytes ≡ Some sent.items)
IsSend answers words call time = ⊥

-- The words after `permit` spell the call that requests permissions for these IP addresses at this time. Commas
-- separate the addresses.
abbrev pub IsPermit : List (List ℕ) → ClientCall → ℕ → Type 0
IsPermit (now ∷ name ∷ addresses ∷ []) (CreatePermissions transport ips) time =
    (number now ≡ Some time) × (name ≡ transport_word transport)
    × AreIps (slice_split (λ b. b == 44) addresses) ips.items
IsPermit words call time = ⊥

-- The name and the words after it spell the event, given these earlier results.
abbrev pub IsEventOf : List (List ℕ) → List ℕ → List (List ℕ) → Event → Type 0
IsEventOf answers name rest (Call call time) =
    IsCall name rest call time ⊎ ((name ≡ codes "send") × IsSend answers rest call time)
    ⊎ ((name ≡ codes "permit") × IsPermit rest call time)
IsEventOf answers name rest (Draw time) = (name ≡ codes "draw") × IsTime rest time
IsEventOf answers name rest (ToClient b f t n) = (name ≡ codes "toclient") × IsToClient answers rest (ToClient b f t n)
IsEventOf answers name rest (ToDesk b f n d s) = (name ≡ codes "todesk") × IsToDesk answers rest (ToDesk b f n d s)

-- The words spell the event, given these earlier results.
abbrev pub IsEvent : List (List ℕ) → List (List ℕ) → Event → Type 0
IsEvent answers [] event = ⊥
IsEvent answers (name ∷ rest) event = IsEventOf answers name rest event
