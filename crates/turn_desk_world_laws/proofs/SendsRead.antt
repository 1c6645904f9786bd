-- What a client sends to a peer is read back.
use Rattle.std.proofs.Common.{◌≡◌, ℕ, ◌+◌, ◌<◌, ◌≤◌, ◌^◌, List, [], ◌∷◌, ◌++◌, length, replicate, None, refl, sym, ap, ◌∙◌, arith, inl}
use Rattle.std.specs.List.{AllByRecursion, filter, list_any}
use Rattle.std.specs.Prelude.{◌==◌, ◌/◌, ◌%◌}
use Rattle.stun_types_wire.specs.Attributes.{numbered}
use Rattle.std.specs.declared.net.socket_addr.SocketAddr.{SocketAddr}
use Rattle.std.proofs.lemmas.Bool.{le-leb, le-ltb, lt-ltb}
use Rattle.std.proofs.lemmas.List.{append-nil, length-append, length-replicate, take_at}
use Rattle.byteorder.specs.Endian.{big_bytes}
use Rattle.byteorder.specs.Numbers.{big_number-reads_back}
use Rattle.stun_types_wire.specs.Attributes.{Attr, kind_at, length_at, padding_len}
use Rattle.stun_types_wire.specs.MessageReading.{IsReadAs}
use Rattle.stun_types_wire.specs.Shape.{IsShape, kinds_of}
use Rattle.stun_types_wire.specs.Text.{FitsAttribute, body_text, header_text, message_text}
use Rattle.stun_types_wire.proofs.Written.{written_read}
use Rattle.stun_types_wire.specs.Types.{class_of, method_of}
use Rattle.turn_client_proto_messages.specs.ReportedRequests.{IsReadBack}
use Rattle.turn_client_proto_messages.specs.TurnTypesAttributes.StunTypesAttributes.Addresses.{address_value}
use Rattle.turn_client_proto_messages.specs.TurnTypesAttributes.TurnRegistry.{data_kind, data_method, greatest_channel, least_channel, most_payload, send_method, xor_peer_address_kind}
use Rattle.turn_client_proto_messages.specs.TurnTypesFrame.Indications.{data_attribute, indication_text, peer_attribute}
use Rattle.turn_client_proto_messages.specs.TurnTypesPeer.TurnShows.{address_in}
use Rattle.turn_client_proto_messages.specs.TurnRuns.Indications.{is_unexpected}
use Rattle.turn_client_proto_messages.proofs.Small.{xored_short}
use Rattle.turn_client_proto_messages.proofs.TurnTypesFrame.Texts.{whole_length}
use Rattle.turn_client_proto_step_laws.specs.Payload.Sending.{indication_to}
use Rattle.turn_client_proto_messages.specs.TurnTypesFrame.ChannelFrames.{channel_header_refusal, channel_refusal}
use Rattle.turn_client_proto_messages.specs.TurnTypesFrame.Channeled.{channeled_text}
use Rattle.turn_client_proto_messages.specs.StunProtoAgent.State.{is_tcp}
use Rattle.turn_client_proto_messages.specs.StunTypesBase.declared.transport.TransportType.{TransportType}
use Rattle.turn_client_proto_messages.specs.StunTypesBase.declared.transport.TransportType.TheVariants.{Tcp, Udp}
use Rattle.turn_client_proto_progress_laws.specs.Holding.{IsDataOf, IsFrameOf}
use Rattle.turn_desk_world_laws.specs.Sending.{IsAlone, IsSendOf}

-- ---- a SEND indication

head_length : (kind number : ℕ) (all : List Attr) → length (message_text kind number all) ≡ 20 + length (body_text all)
unfolding message_text header_text
head_length kind number all = omega arith

module _ (number : ℕ) (peer : SocketAddr) (bytes : List ℕ) where
  abbrev peer_given : Attr
  peer_given = peer_attribute (record { method = send_method; peer = peer; number = number; payload = bytes })

  abbrev data_given : Attr
  data_given = data_attribute (record { method = send_method; peer = peer; number = number; payload = bytes })

  abbrev both : List Attr
  both = peer_given ∷ data_given ∷ []

  shape : IsShape (kinds_of both)
  shape = record {
    ordinary = kinds_of both;
    integrity = [];
    sha256 = [];
    sha512 = [];
    fingerprint = [];
    parts = refl;
    each = (refl, (refl, tt));
    first = inl refl;
    second = inl refl;
    third = inl refl;
    fourth = inl refl;
  }

  fits : length bytes ≤ most_payload → AllByRecursion FitsAttribute both
  fits short =
      let few = xored_short number (address_value peer) in
      (record { kind = omega arith; value = omega (arith, few) }, (record { kind = omega arith; value = omega (arith, short) }, tt))

  body_short : length bytes ≤ most_payload → length (body_text both) < 2 ^ 16
  body_short short =
      let few = xored_short number (address_value peer) in
      let whole = whole_length 22 number peer_given data_given in
      omega (arith, whole, head_length 22 number both, few, short)

  -- The message of this type with both attributes is read as it was written.
  read : (kind : ℕ) → kind < 2 ^ 14 → number < 2 ^ 96 → length bytes ≤ most_payload → IsReadAs kind number both (message_text kind number both)
  read kind lawful small short = written_read kind number both lawful small (fits short) shape (body_short short) (inl refl)

  pub indicated : number < 2 ^ 96 → length bytes ≤ most_payload → IsReadBack number peer → IsSendOf peer bytes (indication_to peer number bytes)
  indicated small short back =
      let is = read 22 (omega arith) small short in
      record {
        message = is.message;
        class = ap class_of is.kind;
        method = ap method_of is.kind;
        of = peer_given;
        one_peer = ap (filter (λ a. a.kind == xor_peer_address_kind)) is.shows;
        names = ap (λ n. address_in n peer_given) is.number ∙ back;
        given = data_given;
        one_data = ap (filter (λ a. a.kind == data_kind)) is.shows;
        carries = refl;
        expected = ap (λ (l : List Attr). list_any (λ e. is_unexpected e.1.kind) (numbered 20 l)) is.shows;
      }

  pub reported : number < 2 ^ 96 → length bytes ≤ most_payload → IsReadBack number peer
      → IsDataOf peer bytes (indication_text (record { method = data_method; peer = peer; number = number; payload = bytes }))
  reported small short back =
      let is = read 23 (omega arith) small short in
      record {
        message = is.message;
        class = ap class_of is.kind;
        method = ap method_of is.kind;
        of = peer_given;
        of_kind = refl;
        names = ap (λ n. address_in n peer_given) is.number ∙ back;
        given = data_given;
        given_kind = refl;
        given_is = refl;
        shows = inl is.shows;
      }

-- ---- channel frames

-- The header of a frame with this number and this many bytes, and what follows it.
abbrev headed : ℕ → ℕ → List ℕ → List ℕ
headed number len rest = big_bytes 2 number ++ (big_bytes 2 len ++ rest)

module _ (number : ℕ) (bytes rest body : List ℕ) (least : least_channel ≤ number) (most : number ≤ greatest_channel) (short : length bytes < 2 ^ 16) (parts : body ≡ bytes ++ rest) where
  abbrev text : List ℕ
  text = headed number (length bytes) body

  kind_is : kind_at text ≡ number
  kind_is = big_number-reads_back 2 number (big_bytes 2 (length bytes) ++ body) (omega (arith, most))

  length_is : length_at text ≡ length bytes
  length_is = big_number-reads_back 2 (length bytes) body short

  size_is : length text ≡ 4 + length bytes + length rest
  size_is = let both = ap length parts ∙ length-append bytes rest in omega (arith, both)

  accepted : channel_refusal text ≡ None
  unfolding channel_refusal channel_header_refusal
  accepted =
      let four = le-ltb (length text) 4 (omega (arith, size_is)) in
      let low = le-leb least_channel number least in
      let high = le-leb number greatest_channel most in
      let whole = le-ltb (length text) (4 + length bytes) (omega (arith, size_is)) in
      rw (kind_is, length_is, low, high, four, whole) refl

  pub framed : IsFrameOf number bytes text
  framed = record {
    lawful = accepted;
    is = rw (kind_is, length_is, parts, take_at bytes rest (length bytes) refl) refl;
  }

pub alone : (transport : TransportType) (number : ℕ) (bytes : List ℕ) → least_channel ≤ number → number ≤ greatest_channel → length bytes < 2 ^ 16
    → IsFrameOf number bytes (channeled_text (record { frame = record { id = number; payload = bytes }; padded = is_tcp transport }))
    × IsAlone transport (channeled_text (record { frame = record { id = number; payload = bytes }; padded = is_tcp transport }))
alone Udp number bytes least most short =
    let none = sym (append-nil bytes) in
    (framed number bytes [] bytes least most short none, (let len = length_is number bytes [] bytes least most short none in rw len (omega arith)))
alone Tcp number bytes least most short =
    let padding : List ℕ = replicate (padding_len (length bytes)) 0 in
    let body : List ℕ = bytes ++ padding in
    let len = length_is number bytes padding body least most short refl in
    let size = size_is number bytes padding body least most short refl in
    let pads = length-replicate {A = ℕ} (padding_len (length bytes)) 0 in (
      framed number bytes padding body least most short refl,
      record {
        top = rw (le-leb 0x40 (number / 256 % 256) (omega (arith, least, most)), lt-ltb (number / 256 % 256) 0x80 (omega (arith, least, most))) refl;
        header = omega (arith, size);
        size = rw len (omega (arith, size, pads));
      },
    )
