-- How a reply reaches a client with a pending request, and what a client that holds something delivers.
use Rattle.std.proofs.Common.{◌≡◌, ℕ, ◌+◌, Bool, true, false, List, [], ◌∷◌, length, Option, Some, None, option_map, refl, sym, ap, ◌∙◌, subst, ◌⊎◌, inl, inr}
use Rattle.std.specs.Prelude.{MatchOption, find, reverse}
use Rattle.std.specs.Option.{option_and_then, option_or}
use Rattle.std.specs.Net.Socket.{socket_ip}
use Rattle.std.specs.declared.net.ip_addr.IpAddr.{IpAddr}
use Rattle.std.specs.declared.net.socket_addr.SocketAddr.{SocketAddr}
use Rattle.turn_client_proto_messages.specs.StunTypesWire.Attributes.{Attr, kind_at, numbered}
use Rattle.turn_client_proto_messages.specs.StunTypesWire.Grammar.{number_at, refusal, visible}
use Rattle.turn_client_proto_messages.specs.StunTypesWire.declared.class.MessageClass.TheVariants.{Success}
use Rattle.turn_client_proto_messages.specs.StunTypesWire.declared.error.StunParseError.{StunParseError}
use Rattle.turn_client_proto_messages.specs.StunTypesWire.Registry.{header_size}
use Rattle.turn_client_proto_messages.specs.StunTypesWire.Types.{class_of}
use Rattle.turn_client_proto_messages.specs.StunTypesBase.declared.transmit.Transmit.{Transmit}
use Rattle.turn_client_proto_messages.specs.StunTypesBase.declared.transport.TransportType.{TransportType}
use Rattle.turn_client_proto_messages.specs.TurnTypesAttributes.TurnRegistry.{data_kind, xor_peer_address_kind}
use Rattle.turn_client_proto_messages.specs.TurnTypesPeer.TurnShows.{address_in}
use Rattle.turn_client_proto_messages.specs.Allocation.declared.allocation.Allocation.{Allocation}
use Rattle.turn_client_proto_messages.specs.Api.Payloads.{part_of}
use Rattle.turn_client_proto_messages.specs.Api.declared.answer.TurnRecvRet.{TurnRecvRet}
use Rattle.turn_client_proto_step_laws.specs.Recv.Control.{Control, Datagrams}
use Rattle.turn_client_proto_handshake_laws.specs.Core.Deleting.{is_authenticated}
use Rattle.turn_client_proto_handshake_laws.specs.Core.declared.protocol.Protocol.{Protocol}
use Rattle.turn_client_proto_step_laws.specs.Recv.Datagrams.{Foreign, Processed, IsDatagramTaken, IsDelivered, IsMessageTaken, IsOfServer, IsRead, IsTaken, Lost as MessageLost, Own}
use Rattle.turn_client_proto_messages.specs.TurnRuns.Indications.{HasData, IsOfPeer, is_data, is_indication, is_kind, last_listed, peer_reported, index_of, report_decoded}
use Rattle.turn_client_proto_step_laws.specs.Recv.ClientState.{ClientState}
use Rattle.turn_client_proto_step_laws.specs.Payload.declared.payload.Payload.{Payload}
use Rattle.turn_client_proto_step_laws.specs.Payload.declared.payload.Payload.TheVariants.{Data, Report}
use Rattle.turn_client_proto_step_laws.specs.Payload.Payloads.{carried, carried_for, carried_over, payload_of, payload_reported, permitted}
use Rattle.turn_client_proto_messages.specs.Allocation.Permits.{permits}
use Rattle.turn_client_proto_step_laws.specs.Recv.Receipts.{IsReceived, IsReceivedBy}
use Rattle.turn_client_proto_step_laws.proofs.Payload.Parts.{entry_in}
use Rattle.turn_client_proto_handshake_laws.specs.Coming.{IsFromServer, IsProcessedAs, IsLost}
use Rattle.turn_client_proto_handshake_laws.specs.Stages.{IsOf}
use Rattle.turn_client_proto_handshake_laws.specs.Sent.{Beginning}
use Rattle.turn_client_proto_progress_laws.specs.Holding.{HoldsPermission, IsDataOf}
use Rattle.turn_client_proto_progress_laws.proofs.Asking.Lists.{one_found}

-- ---- a message that is a success gives nothing of a peer

pub no_payload_of : (p : Protocol) (bytes : List ℕ) → refusal bytes ≡ None → is_indication (class_of (kind_at bytes)) ≡ false → payload_of p bytes ≡ None
unfolding payload_of payload_reported
no_payload_of p bytes message no_indication =
    let no_data : is_data bytes ≡ false = rw no_indication refl in
    elim (is_authenticated p.phase) as (λ (x : Bool). is_authenticated p.phase ≡ x → payload_of p bytes ≡ None) [
      | true ↦ λ on. rw (message, on, no_data) refl
      | false ↦ λ off. rw (message, off) refl
    ] refl

pub no_payload : (p : Protocol) (bytes : List ℕ) → refusal bytes ≡ None → class_of (kind_at bytes) ≡ Success → payload_of p bytes ≡ None
no_payload p bytes message success = no_payload_of p bytes message (ap is_indication success)

module _ (b : Beginning) (k : ClientState) (of : IsOf b k.core) {T : Type 0} (items : T → List ℕ) (came : Transmit T) (from : IsFromServer b came) (now : ℕ) (answer : TurnRecvRet T) (k2 : ClientState) where
  of_server : IsOfServer k.core came
  of_server = record {
    transport = from.transport ∙ sym of.transport;
    from = from.from ∙ sym of.server;
    to = from.to ∙ sym of.here;
  }

  read : (message : List ℕ) → IsMessageTaken k.core message came now answer k2.core → k2.control ≡ Datagrams → IsProcessedAs k message came now Datagrams answer k2 ⊎ IsLost k came answer k2
  read message (Processed handled processed as_it) control = inl (record { handled = handled; processed = processed; answer_is = as_it; control_is = control })
  read message (MessageLost reported grows failed) control = inr (reported, failed)

  taken : k.control ≡ Datagrams → IsReceived items k came now answer k2 → IsTaken items k.core came now answer k2.core × (k2.control ≡ Datagrams)
  taken over received = by (subst (λ (c : Control). IsReceivedBy items now c k.core came answer k2) over received)
    where
      by : IsDatagramTaken items k.core came now answer k2.core × (k2.control ≡ Datagrams) → IsTaken items k.core came now answer k2.core × (k2.control ≡ Datagrams)
      by (Foreign foreign back, control) = absurd (foreign of_server)
      by (Own server is, control) = (is, control)

  -- The message is handled.
  pub processed_by : payload_of k.core (items came.bytes) ≡ None → k.control ≡ Datagrams → refusal (items came.bytes) ≡ None → IsReceived items k came now answer k2
      → IsProcessedAs k (items came.bytes) came now Datagrams answer k2 ⊎ IsLost k came answer k2
  processed_by none over message received =
      let is = taken over received in
      let reads = subst (λ (o : Option Payload). MatchOption o (IsRead (refusal (items came.bytes)) k.core (items came.bytes) came now answer k2.core)
      (λ payload. IsDelivered items came payload answer × (k2.core ≡ k.core))) none is.0 in
      read (items came.bytes) (subst (λ (o : Option StunParseError). IsRead o k.core (items came.bytes) came now answer k2.core) message reads) is.1

  -- The payload is delivered.
  pub given_by : (payload : Payload) → payload_of k.core (items came.bytes) ≡ Some payload → k.control ≡ Datagrams → IsReceived items k came now answer k2
      → IsDelivered items came payload answer × (k2.core ≡ k.core) × (k2.control ≡ Datagrams)
  given_by payload some over received =
      let is = taken over received in
      let gives = subst (λ (o : Option Payload). MatchOption o (IsRead (refusal (items came.bytes)) k.core (items came.bytes) came now answer k2.core)
      (λ x. IsDelivered items came x answer × (k2.core ≡ k.core))) some is.0 in
      (gives.0, gives.1, is.1)

-- A client of which neither part has changed is the same.
pub same_stored : (old new : ClientState) → new.core ≡ old.core → new.control ≡ old.control → new ≡ old
same_stored old new core_is control_is =
    let one : new ≡ record { core = old.core; control = new.control } = ap (λ (x : Protocol). record { core = x; control = new.control }) core_is in
    let other : record { core = old.core; control = new.control } ≡ old = ap (λ (x : Control). record { core = old.core; control = x }) control_is in
    one ∙ other

-- ---- what an indication gives where a permission stands

-- The payload is this range of the bytes.
pub record IsPart (bytes : List ℕ) (start end : ℕ) (payload : List ℕ) : Type 0 where
  pub is : part_of bytes start end ≡ payload

pub record GivesData (p : Protocol) (transport : TransportType) (peer : SocketAddr) (payload bytes : List ℕ) : Type 0 where
  pub start : ℕ
  pub end : ℕ
  pub gives : payload_of p bytes ≡ Some (Data transport peer start end)
  pub part : part_of bytes start end ≡ payload

module _ (b : Beginning) (ip : IpAddr) (p : Protocol) (h : HoldsPermission b ip p) (peer : SocketAddr) (payload bytes : List ℕ) (same : socket_ip peer ≡ ip) (of : IsOfPeer bytes peer) where
  permitted_is : permitted (socket_ip peer) p.allocations ≡ Some b.config.transport
  permitted_is =
      ap (λ (i : IpAddr). permitted i p.allocations) same
      ∙ (ap (λ (l : List Allocation). option_map (λ (a : Allocation). a.transport) (find (permits ip) l)) h.only
      ∙ (ap (option_map (λ (a : Allocation). a.transport)) (one_found (permits ip) h.allocation h.is) ∙ ap Some h.transport))

  reported_is : payload_of p bytes ≡ carried bytes b.config.transport peer
  unfolding payload_of payload_reported
  reported_is =
      let on : is_authenticated p.phase ≡ true = ap is_authenticated h.phase in
      let first : payload_of p bytes ≡ carried_for p.allocations bytes (peer_reported bytes) = rw (of.message, on, of.is_data) refl in
      first ∙ (ap (λ (o : Option SocketAddr). carried_for p.allocations bytes o) of.named ∙ ap (λ (o : Option TransportType). carried_over bytes peer o) permitted_is)

  by_entry : (found : Option (ℕ × Attr)) → last_listed data_kind bytes ≡ found → MatchOption found ⊥ (λ e. e.1.value ≡ payload) → GivesData p b.config.transport peer payload bytes
  by_entry None at has = absurd has
  by_entry (Some e) at has = record {
    start = e.0 + 4;
    end = e.0 + 4 + length e.1.value;
    gives = reported_is ∙ ap (λ (o : Option (ℕ × Attr)). option_or (option_map (λ (index : ℕ × ℕ). Data b.config.transport peer index.0 index.1) (option_map index_of o)) (option_map (λ report. Report b.config.transport peer report) (report_decoded bytes))) at;
    part = (entry_in data_kind bytes e at).is ∙ has;
  }

  pub gives_data : HasData bytes payload → GivesData p b.config.transport peer payload bytes
  gives_data has = by_entry (last_listed data_kind bytes) refl has

-- ---- an indication of both attributes alone

-- Both attributes, in either order.
abbrev pub AreBoth : List Attr → Attr → Attr → Type 0
AreBoth all of given = (all ≡ of ∷ given ∷ []) ⊎ (all ≡ given ∷ of ∷ [])

module _ (peer : SocketAddr) (payload bytes : List ℕ) (d : IsDataOf peer payload bytes) where
  abbrev of_value : List ℕ
  of_value = d.of.value

  of_is : d.of ≡ record { kind = xor_peer_address_kind; value = d.of.value }
  of_is = ap (λ (k : ℕ). record { kind = k; value = d.of.value }) d.of_kind

  given_is : d.given ≡ record { kind = data_kind; value = d.given.value }
  given_is = ap (λ (k : ℕ). record { kind = k; value = d.given.value }) d.given_kind

  both_listed : (visible bytes ≡ record { kind = xor_peer_address_kind; value = d.of.value } ∷ record { kind = data_kind; value = d.given.value } ∷ [])
      ⊎ (visible bytes ≡ record { kind = data_kind; value = d.given.value } ∷ record { kind = xor_peer_address_kind; value = d.of.value } ∷ [])
  both_listed = elim d.shows [
    | inl first ↦ inl (first ∙ Prim.cc (of_is, given_is))
    | inr last ↦ inr (last ∙ Prim.cc (of_is, given_is))
  ]

  names_it : address_in (number_at bytes) (record { kind = xor_peer_address_kind; value = d.of.value }) ≡ Some peer
  names_it = ap (λ (a : Attr). address_in (number_at bytes) a) (sym of_is) ∙ d.names

  pub data_of_peer : IsOfPeer bytes peer
  data_of_peer = elim both_listed [
    | inl first ↦ record {
      message = d.message;
      is_data = rw (d.class, d.method, first) refl;
      named = ap (λ (l : List Attr). option_and_then (λ (e : ℕ × Attr). address_in (number_at bytes) e.1) (find (is_kind xor_peer_address_kind) (reverse (numbered header_size l)))) first ∙ names_it;
    }
    | inr last ↦ record {
      message = d.message;
      is_data = rw (d.class, d.method, last) refl;
      named = ap (λ (l : List Attr). option_and_then (λ (e : ℕ × Attr). address_in (number_at bytes) e.1) (find (is_kind xor_peer_address_kind) (reverse (numbered header_size l)))) last ∙ names_it;
    }
  ]

  pub data_has : HasData bytes payload
  data_has = elim both_listed [
    | inl first ↦ subst (λ (l : List Attr). MatchOption (find (is_kind data_kind) (reverse (numbered header_size l))) ⊥ (λ e. e.1.value ≡ payload)) (sym first) d.given_is
    | inr last ↦ subst (λ (l : List Attr). MatchOption (find (is_kind data_kind) (reverse (numbered header_size l))) ⊥ (λ e. e.1.value ≡ payload)) (sym last) d.given_is
  ]
