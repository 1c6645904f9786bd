-- What a DATA indication or a channel frame carries from a peer (RFC 8656, sections 11.3, 12.4, 18.3, 18.4
-- and 18.13).
use Rattle.std.specs.Prelude.{◌≡◌, ℕ, ◌==◌, ◌+◌, ◌&&◌, nat_lt, not, Bool, true, false, ◌||◌, List, find, reverse, length, Option, Some, None, option_and_then, option_map, MatchOption}
use Rattle.std.specs.List.{list_any}
use Rattle.std.specs.declared.net.socket_addr.SocketAddr.{SocketAddr}
use Rattle.turn_types_frame.specs.StunTypesWire.Attributes.{Attr, kind_at, numbered}
use Rattle.turn_types_frame.specs.StunTypesWire.Grammar.{number_at, refusal, visible}
use Rattle.turn_types_frame.specs.StunTypesWire.declared.class.MessageClass.{MessageClass}
use Rattle.turn_types_frame.specs.StunTypesWire.declared.class.MessageClass.TheVariants.{Indication}
use Rattle.turn_types_frame.specs.StunTypesWire.Registry.{first_optional_kind, header_size}
use Rattle.turn_types_frame.specs.StunTypesWire.Types.{class_of, method_of}
use Rattle.turn_types_frame.specs.StunTypesWrite.ValueReading.{value_refusal}
use Rattle.turn_types_frame.specs.ChannelFrames.{channel_refusal, frame_at}
use Rattle.turn_types_frame.specs.Peer.PeerValues.{IcmpReport, icmp_decoded}
use Rattle.turn_types_frame.specs.Attributes.TurnRegistry.{data_kind, data_method, icmp_kind, xor_peer_address_kind}
use Rattle.turn_types_frame.specs.Peer.TurnShows.{address_in, unless_refused}
use Rattle.turn_runs.specs.Messages.{Payload, FromPeer, Reported, FromChannel, FromConnection}

-- ---- what an indication shows

-- The visible attributes of a message, each with its offset.
abbrev pub entries : List ℕ → List (ℕ × Attr)
entries bytes = numbered header_size (visible bytes)

-- The attribute is of this type.
abbrev pub is_kind : ℕ → ℕ × Attr → Bool
is_kind kind e = e.1.kind == kind

-- The last visible attribute of a type, well formed or not.
abbrev pub last_listed : ℕ → List ℕ → Option (ℕ × Attr)
last_listed kind bytes = find (is_kind kind) (reverse (entries bytes))

-- The offsets at which the value of an attribute begins and ends. It begins after the attribute's header of 4
-- bytes.
abbrev pub index_of : ℕ × Attr → ℕ × ℕ
index_of e = (e.0 + 4, e.0 + 4 + length e.1.value)

-- The offsets of the value of the last DATA.
abbrev pub data_index : List ℕ → Option (ℕ × ℕ)
data_index bytes = option_map index_of (last_listed data_kind bytes)

-- The peer in the last XOR-PEER-ADDRESS, if that is well formed.
abbrev pub peer_reported : List ℕ → Option SocketAddr
peer_reported bytes =
    option_and_then (λ e. address_in (number_at bytes) e.1) (last_listed xor_peer_address_kind bytes)

-- The report in an ICMP attribute, if that is well formed.
abbrev pub report_in : Attr → Option IcmpReport
report_in a = unless_refused (value_refusal icmp_kind 8 8 a) (Some (icmp_decoded a.value))

-- The report in the last ICMP attribute, if that is well formed.
abbrev pub report_decoded : List ℕ → Option IcmpReport
report_decoded bytes = option_and_then (λ e. report_in e.1) (last_listed icmp_kind bytes)

-- The type is comprehension-required and is none of XOR-PEER-ADDRESS, DATA and ICMP.
abbrev pub is_unexpected : ℕ → Bool
is_unexpected kind = nat_lt kind first_optional_kind
    && not (kind == xor_peer_address_kind || (kind == data_kind || kind == icmp_kind))

-- The message has a visible attribute of such a type.
abbrev pub shows_unexpected : List ℕ → Bool
shows_unexpected bytes = list_any (λ e. is_unexpected e.1.kind) (entries bytes)

abbrev pub is_indication : MessageClass → Bool
is_indication Indication = true
is_indication _ = false

-- The message is a DATA indication without visible attributes of such a type.
abbrev pub is_data : List ℕ → Bool
is_data bytes = is_indication (class_of (kind_at bytes))
    && (method_of (kind_at bytes) == data_method && not (shows_unexpected bytes))

-- ---- what bytes carry

-- The bytes are such an indication, and its last XOR-PEER-ADDRESS names this peer.
pub record IsOfPeer (bytes : List ℕ) (peer : SocketAddr) : Type 0 where
  pub message : refusal bytes ≡ None
  pub is_data : is_data bytes ≡ true
  pub named : peer_reported bytes ≡ Some peer

-- The last visible DATA of the message has this value.
abbrev pub HasData : List ℕ → List ℕ → Type 0
HasData bytes value = MatchOption (last_listed data_kind bytes) ⊥ (λ e. e.1.value ≡ value)

-- What bytes carry. An indication carries the value of its last DATA, or, if it has none, the report of its
-- last ICMP attribute. A channel frame carries its data. Neither carries raw data of a data connection.
abbrev pub Carries : List ℕ → Payload → Type 0
Carries bytes (FromPeer transport peer value) = IsOfPeer bytes peer × HasData bytes value
Carries bytes (Reported transport peer report) =
    IsOfPeer bytes peer × (last_listed data_kind bytes ≡ None) × (report_decoded bytes ≡ Some report)
Carries bytes (FromChannel number peer value) =
    (channel_refusal bytes ≡ None) × (frame_at bytes ≡ record { id = number; payload = value })
Carries bytes (FromConnection local peer value) = ⊥
