-- An injective code of a client's state, by which proofs distinguish its values.
use Rattle.std.specs.Coded.{Coded, code_by, coded×, coded_bool, coded_list, coded_option, coded_ℕ}
use Rattle.std.specs.Prelude.{◌≡◌, ℕ, Bool, List, Option, None, Some, refl}
use Rattle.turn_types_frame.specs.Streams.{Stream}
use Rattle.turn_client_proto_core.specs.contracts.protocol.Protocol as protocol
use Rattle.turn_client_proto_core.specs.declared.protocol.Protocol.{Protocol}
use Rattle.turn_client_proto_recv.specs.Control.{Control, Datagrams, Open, Closed}
use Rattle.turn_client_proto_recv.specs.ClientState.{ClientState}
use Rattle.turn_client_proto_recv.specs.contracts.notes.Notes as notes
use Rattle.turn_client_proto_recv.specs.declared.notes.Notes.{Notes}

abbrev pub protocol_code : Coded Protocol
protocol_code = protocol.the_row.coded

abbrev pub notes_code : Coded Notes
notes_code = notes.the_row.coded

abbrev pub stream_code : Coded Stream
stream_code = code_by (List ℕ × Bool) (coded× (coded_list coded_ℕ) coded_bool)
    (λ s. (s.stored, s.dead)) (λ c. record { stored = c.0; dead = c.1 }) (λ s. refl)

-- How bytes arrive, as nested options: `None` over UDP; over TCP the stream's buffered bytes, or `None` once
-- the stream has ended.
abbrev pub in_options : Control → Option (Option Stream)
in_options Datagrams = None
in_options (Open stream) = Some (Some stream)
in_options Closed = Some None

abbrev pub of_options : Option (Option Stream) → Control
of_options None = Datagrams
of_options (Some None) = Closed
of_options (Some (Some stream)) = Open stream

pub same_control : (c : Control) → of_options (in_options c) ≡ c
same_control Datagrams = refl
same_control (Open stream) = refl
same_control Closed = refl

abbrev pub control_code : Coded Control
control_code = code_by (Option (Option Stream)) (coded_option (coded_option stream_code)) in_options of_options same_control

abbrev pub stored_code : Coded ClientState
stored_code = code_by (Protocol × Control) (coded× protocol_code control_code)
    (λ k. (k.core, k.control)) (λ c. record { core = c.0; control = c.1 }) (λ k. refl)
