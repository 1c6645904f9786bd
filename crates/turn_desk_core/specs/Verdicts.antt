-- The outcome of a user's request under the application's decision (RFC 8656, sections 7.2, 8.2, 10.2 and
-- 12.2; RFC 6062, sections 5.2 and 5.4).
use Rattle.std.specs.Prelude.{◌≤◌, ℕ, Bool, true, false, not, nat_lt, ◌||◌, List, [], ◌∷◌, length, Option, Some, None, if◌then◌else◌}
use Rattle.std.specs.Net.Addr.{is_ipv4}
use Rattle.std.specs.Net.Socket.{socket_ip}
use Rattle.std.specs.declared.net.socket_addr.SocketAddr.{SocketAddr}
use Rattle.stun_types_base.specs.declared.transport.TransportType.{TransportType}
use Rattle.stun_types_wire.specs.Attributes.{Attr, kind_at}
use Rattle.stun_types_wire.specs.Types.{method_of}
use Rattle.stun_types_wire.specs.Grammar.{number_at}
use Rattle.stun_types_message.specs.Objections.{error_type}
use Rattle.stun_types_wire.specs.Registry.{bad_request_code, greatest_code, least_code, server_error_code}
use Rattle.turn_desk_core.specs.Replies.{allocated_attributes, failure_attributes, success_type}
use Rattle.turn_desk_core.specs.Granted.{connected_attributes, granted_attributes, refreshed_attributes}
use Rattle.turn_desk_core.specs.declared.requested.Requested.{Requested}
use Rattle.turn_desk_core.specs.declared.requested.Requested.TheVariants.{Allocation, Refreshment, Permissions, Channel, Connection, Binding}
use Rattle.turn_desk_core.specs.declared.decision.Decision.{Decision}
use Rattle.turn_desk_core.specs.declared.decision.Decision.TheVariants.{Refuse, Allocate, Refresh, Connect, Grant}
use Rattle.turn_desk_core.specs.declared.grant.Grant as granted
use Rattle.turn_desk_core.specs.declared.verdict.Verdict.{Verdict}
use Rattle.turn_desk_core.specs.declared.verdict.Verdict.TheVariants.{Fails, Allocates, Refreshes, Permits, Binds, Connects, Joins}
use Rattle.turn_desk_core.specs.RequestedFor.{requested}

-- Whether two addresses are of different families.
abbrev pub are_distinct : Bool → Bool → Bool
are_distinct true b = not b
are_distinct false b = b

-- Whether there is one address, or two of different families.
abbrev pub are_relayable : List SocketAddr → Bool
are_relayable [] = false
are_relayable (a ∷ []) = true
are_relayable (a ∷ b ∷ []) = are_distinct (is_ipv4 (socket_ip a)) (is_ipv4 (socket_ip b))
are_relayable (a ∷ b ∷ c ∷ rest) = false

-- The code of a refusal if it is from 300 to 699, and 500 otherwise.
abbrev pub refused_code : ℕ → ℕ
refused_code code = if nat_lt code least_code || nat_lt greatest_code code then server_error_code else code

-- The outcome for a decision that does not fit: error code 500.
abbrev pub misfit : Verdict
misfit = Fails server_error_code

-- The outcome of an ALLOCATE for a transport.
abbrev pub on_allocation : TransportType → Decision → Verdict
on_allocation transport (Allocate addresses lifetime) = if are_relayable addresses
    then Allocates transport addresses lifetime else misfit
on_allocation transport _ = misfit

-- The outcome of a REFRESH: the decided lifetime.
abbrev pub on_refreshment : Decision → Verdict
on_refreshment (Refresh lifetime) = Refreshes lifetime
on_refreshment _ = misfit

-- The outcome of a CONNECT to a peer: a connection with the decided ID.
abbrev pub on_connection : SocketAddr → Decision → Verdict
on_connection peer (Connect connection) = Connects peer connection
on_connection peer _ = misfit

-- The outcome of a request for which `Grant` is the decision that fits.
abbrev pub on_grant : Verdict → Decision → Verdict
on_grant what Grant = what
on_grant what _ = misfit

-- The outcome for what was requested, under a decision that is not a refusal.
abbrev pub fitted : Requested → Decision → Verdict
fitted (Allocation transport) decision = on_allocation transport decision
fitted Refreshment decision = on_refreshment decision
fitted (Permissions peers) decision = on_grant (Permits peers) decision
fitted (Channel channel peer) decision = on_grant (Binds channel peer) decision
fitted (Connection peer) decision = on_connection peer decision
fitted (Binding connection) decision = on_grant (Joins connection) decision

-- The outcome for what was requested, under any decision.
abbrev pub decided : Requested → Decision → Verdict
decided reported (Refuse code) = Fails (refused_code code)
decided reported (Allocate addresses lifetime) = fitted reported (Allocate addresses lifetime)
decided reported (Refresh lifetime) = fitted reported (Refresh lifetime)
decided reported (Connect number) = fitted reported (Connect number)
decided reported Grant = fitted reported Grant

-- The outcome of a request. It fails with 400 if an attribute that its method needs is missing or malformed.
abbrev pub verdict : Option Requested → Decision → Verdict
verdict None decision = Fails bad_request_code
verdict (Some reported) decision = decided reported decision

abbrev pub verdict_on : List ℕ → Decision → Verdict
verdict_on request decision = verdict (requested request) decision

-- An error response can carry the code, and a success response can carry the addresses.
pub record IsLawfulCode (code : ℕ) : Type 0 where
  pub least : least_code ≤ code
  pub most : code ≤ greatest_code

abbrev pub IsLawful : Verdict → Type 0
IsLawful (Fails code) = IsLawfulCode code
IsLawful (Allocates transport relayed lifetime) = length relayed ≤ 2
IsLawful _ = Unit {0}

-- ---- the result and granted

-- The message type of the reply to a request.
abbrev pub reply_type : List ℕ → Verdict → ℕ
reply_type request (Fails code) = error_type request
reply_type request _ = success_type request

-- The attributes of the reply to a request from an address, before it is signed.
abbrev pub reply_attributes : List ℕ → SocketAddr → Verdict → List Attr
reply_attributes request from (Fails code) = failure_attributes code
reply_attributes request from (Allocates transport relayed lifetime) = allocated_attributes
    (number_at request) relayed lifetime from
reply_attributes request from (Refreshes lifetime) = refreshed_attributes lifetime
reply_attributes request from (Permits peers) = granted_attributes
reply_attributes request from (Binds channel peer) = granted_attributes
reply_attributes request from (Connects peer connection) = connected_attributes connection
reply_attributes request from (Joins connection) = granted_attributes

-- A grant with the request's method, transaction ID and source, and all other fields empty.
abbrev pub bare_grant : List ℕ → SocketAddr → granted.Grant
bare_grant request from = record {
  method = record { 0 = method_of (kind_at request) };
  number = number_at request;
  from = from;
  transport = None;
  relayed = [];
  lifetime = None;
  peers = [];
  channel = None;
  connection = None;
}

-- The grants that are stored for a verdict: none or one.
abbrev pub grants_of : List ℕ → SocketAddr → Verdict → List granted.Grant
grants_of request from (Fails code) = []
grants_of request from (Allocates transport relayed lifetime) =
    record (bare_grant request from) { transport = Some transport; relayed = relayed; lifetime = Some lifetime } ∷ []
grants_of request from (Refreshes lifetime) = record (bare_grant request from) { lifetime = Some lifetime } ∷ []
grants_of request from (Permits peers) = record (bare_grant request from) { peers = peers } ∷ []
grants_of request from (Binds channel peer) =
    record (bare_grant request from) { peers = peer ∷ []; channel = Some channel } ∷ []
grants_of request from (Connects peer connection) =
    record (bare_grant request from) { peers = peer ∷ []; connection = Some connection } ∷ []
grants_of request from (Joins connection) = record (bare_grant request from) { connection = Some connection } ∷ []
