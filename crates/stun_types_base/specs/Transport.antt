-- The names of the transports.
use Rattle.std.specs.Prelude.{◌≡◌, ◌≢◌, ℕ, List, Result, MatchResult, codes}
use Rattle.stun_types_base.specs.declared.transport.TransportType.{TransportType}
use Rattle.stun_types_base.specs.declared.transport.TransportType.TheVariants.{Udp, Tcp}
use Rattle.stun_types_base.specs.declared.transport.ParseTransportTypeError.{ParseTransportTypeError}

-- The name of a transport.
abbrev pub name_of_transport : TransportType → List ℕ
name_of_transport Udp = codes "UDP"
name_of_transport Tcp = codes "TCP"

-- A text is parsed as the transport that it names. Parsing fails if it names none.
abbrev pub ReadsTransport : List ℕ → Result TransportType ParseTransportTypeError → Type 0
ReadsTransport text result = MatchResult result (λ transport. text ≡ name_of_transport transport)
    (λ _. (text ≢ codes "UDP") × (text ≢ codes "TCP"))
