-- A delivered payload is from a permitted peer, and lies within the bytes.
use Rattle.std.proofs.Common.{◌≡◌, ◌+◌, ◌≤◌, ℕ, Bool, true, false, ◌&&◌, List, length, drop, Option, Some, None, is_none, option_map, refl, sym, ap, subst, arith}
use Rattle.std.specs.Prelude.{if◌then◌else◌, MatchOption}
use Rattle.std.specs.Option.{option_or}
use Rattle.std.proofs.lemmas.Bool.Decides.{nat_tests}
use Rattle.std.proofs.lemmas.List.{length-drop, length-take}
use Rattle.std.specs.Net.Socket.{socket_ip}
use Rattle.std.specs.declared.net.socket_addr.SocketAddr.{SocketAddr}
use Rattle.stun_types_wire.specs.Attributes.{Attr, kind_at, length_at}
use Rattle.stun_types_wire.specs.Grammar.{refusal}
use Rattle.stun_types_wire.specs.declared.error.StunParseError.{StunParseError}
use Rattle.stun_types_base.specs.declared.transport.TransportType.{TransportType}
use Rattle.turn_types_frame.specs.ChannelFrames.{channel_header_refusal, channel_refusal, frame_at}
use Rattle.turn_types_peer.specs.PeerValues.{IcmpReport}
use Rattle.turn_types_attributes.specs.TurnRegistry.{data_kind}
use Rattle.turn_client_proto_core.specs.Deleting.{is_authenticated}
use Rattle.turn_client_proto_core.specs.declared.protocol.Protocol.{Protocol}
use Rattle.turn_client_proto_core.specs.TurnRuns.Indications.{HasData, IsOfPeer, is_data, last_listed, peer_reported, index_of, report_decoded}
use Rattle.turn_client_proto_api.specs.Payloads.{part_of}
use Rattle.turn_client_proto_payload.specs.Payloads.{bound, permitted, carried_for, carried_over, framed_by, payload_framed, payload_of, payload_reported}
use Rattle.turn_client_proto_payload.specs.OfPeers.{IsGiven}
use Rattle.turn_client_proto_payload.specs.declared.payload.Payload.{Payload}
use Rattle.turn_client_proto_payload.specs.declared.payload.Payload.TheVariants.{Data, Report}
use Rattle.turn_client_proto_payload.proofs.Parts.{entry_in, occurs}

-- If a conditional option has a value, its condition holds, and the value is the option's.
if_given : {A : Type 0} (c : Bool) (o : Option A) (x : A) → (if c then o else None) ≡ Some x → o ≡ Some x
if_given true o x is = is
if_given false o x is = absurd (Prim.cc is)

if_holds : {A : Type 0} (c : Bool) (o : Option A) (x : A) → (if c then o else None) ≡ Some x → c ≡ true
if_holds true o x is = refl
if_holds false o x is = absurd (Prim.cc is)

is_none_None : {A : Type 0} (o : Option A) → is_none o ≡ true → o ≡ None
is_none_None None is = refl
is_none_None (Some x) is = absurd (Prim.cc is)

first_so : (x y : Bool) → (x && y) ≡ true → x ≡ true
first_so true y h = refl
first_so false y h = absurd (Prim.cc h)

second_so : (x y : Bool) → (x && y) ≡ true → y ≡ true
second_so true y h = h
second_so false y h = absurd (Prim.cc h)

-- The premises of a delivery: what the message is, which peer it names, and what permits the peer.
record IsCarried (p : Protocol) (bytes : List ℕ) (transport : TransportType) (peer : SocketAddr) : Type 0 where
  authenticated : is_authenticated p.phase ≡ true
  of_peer : IsOfPeer bytes peer
  permitted : permitted (socket_ip peer) p.allocations ≡ Some transport

carried_by : (p : Protocol) (bytes : List ℕ) (transport : TransportType) (peer : SocketAddr) (found : Option (ℕ × Attr)) (report : Option IcmpReport) (payload : Payload)
    → IsCarried p bytes transport peer → last_listed data_kind bytes ≡ found → report_decoded bytes ≡ report
    → option_or (option_map (λ index. Data transport peer index.0 index.1) (option_map index_of found)) (option_map (λ r. Report transport peer r) report) ≡ Some payload
    → IsGiven p bytes payload
carried_by p bytes transport peer (Some e) report payload way at reported is =
    let given : Data transport peer (e.0 + 4) (e.0 + 4 + length e.1.value) ≡ payload = Prim.cc is in
    let there = entry_in data_kind bytes e at in
    let has : HasData bytes (part_of bytes (e.0 + 4) (e.0 + 4 + length e.1.value)) =
    subst (λ (o : Option (ℕ × Attr)). MatchOption o ⊥ (λ x. x.1.value ≡ part_of bytes (e.0 + 4) (e.0 + 4 + length e.1.value))) (sym at) (sym there.is) in
    subst (IsGiven p bytes) given (record {
      carried = (way.of_peer, has);
      let_through = (way.authenticated, way.permitted);
      within = there.fits;
    })
carried_by p bytes transport peer None (Some report) payload way at reported is =
    let given : Report transport peer report ≡ payload = Prim.cc is in
    subst (IsGiven p bytes) given (record {
      carried = (way.of_peer, at, reported);
      let_through = (way.authenticated, way.permitted);
      within = omega arith;
    })
carried_by p bytes transport peer None None payload way at reported is = absurd (Prim.cc is)

over_due : (p : Protocol) (bytes : List ℕ) (peer : SocketAddr) (transport : Option TransportType) (payload : Payload)
    → is_authenticated p.phase ≡ true → IsOfPeer bytes peer → permitted (socket_ip peer) p.allocations ≡ transport
    → carried_over bytes peer transport ≡ Some payload → IsGiven p bytes payload
over_due p bytes peer None payload ready named permits is = absurd (Prim.cc is)
over_due p bytes peer (Some transport) payload ready named permits is =
    carried_by p bytes transport peer (last_listed data_kind bytes) (report_decoded bytes) payload
    (record { authenticated = ready; of_peer = named; permitted = permits }) refl refl is

for_due : (p : Protocol) (bytes : List ℕ) (peer : Option SocketAddr) (payload : Payload)
    → is_authenticated p.phase ≡ true → refusal bytes ≡ None → is_data bytes ≡ true → peer_reported bytes ≡ peer
    → carried_for p.allocations bytes peer ≡ Some payload → IsGiven p bytes payload
for_due p bytes None payload ready message is_one named is = absurd (Prim.cc is)
for_due p bytes (Some peer) payload ready message is_one named is =
    over_due p bytes peer (permitted (socket_ip peer) p.allocations) payload ready
    (record { message = message; is_data = is_one; named = named }) refl is

reported_due : (p : Protocol) (bytes : List ℕ) (payload : Payload) → refusal bytes ≡ None → payload_reported p bytes ≡ Some payload → IsGiven p bytes payload
unfolding payload_reported
reported_due p bytes payload message is =
    let both = if_holds (is_authenticated p.phase && is_data bytes) (carried_for p.allocations bytes (peer_reported bytes)) payload is in
    for_due p bytes (peer_reported bytes) payload
    (first_so (is_authenticated p.phase) (is_data bytes) both) message (second_so (is_authenticated p.phase) (is_data bytes) both)
    refl (if_given (is_authenticated p.phase && is_data bytes) (carried_for p.allocations bytes (peer_reported bytes)) payload is)

header_there : (bytes : List ℕ) → channel_refusal bytes ≡ None → 4 ≤ length bytes
unfolding channel_refusal channel_header_refusal
header_there bytes none = grind (arith, nat_tests, none)

frame_within : (bytes : List ℕ) → 4 ≤ length bytes → 4 + length (frame_at bytes).payload ≤ length bytes
frame_within bytes four = omega (arith, four, length-take (length_at bytes) (drop 4 bytes), length-drop 4 bytes)

framed_of : (p : Protocol) (bytes : List ℕ) (to : Option (TransportType × SocketAddr)) (payload : Payload)
    → channel_refusal bytes ≡ None → bound (frame_at bytes).id p.allocations ≡ to
    → option_map (framed_by (frame_at bytes)) to ≡ Some payload → IsGiven p bytes payload
framed_of p bytes None payload none at is = absurd (Prim.cc is)
framed_of p bytes (Some to) payload none at is =
    let given : framed_by (frame_at bytes) to ≡ payload = Prim.cc is in
    let there = occurs bytes 4 (length_at bytes) in
    subst (IsGiven p bytes) given (record {
      carried = (none, ap (λ (l : List ℕ). record { id = kind_at bytes; payload = l }) (sym there));
      let_through = at;
      within = frame_within bytes (header_there bytes none);
    })

framed_due : (p : Protocol) (bytes : List ℕ) (payload : Payload) → payload_framed p bytes ≡ Some payload → IsGiven p bytes payload
unfolding payload_framed
framed_due p bytes payload is = framed_of p bytes (bound (frame_at bytes).id p.allocations) payload
    (is_none_None (channel_refusal bytes) (if_holds _ _ payload is)) refl (if_given _ _ payload is)

either_due : (p : Protocol) (bytes : List ℕ) (payload : Payload) (refused : Option StunParseError) → refusal bytes ≡ refused
    → (if is_none refused then payload_reported p bytes else payload_framed p bytes) ≡ Some payload → IsGiven p bytes payload
either_due p bytes payload None message is = reported_due p bytes payload message is
either_due p bytes payload (Some error) none is = framed_due p bytes payload is

pub payload_of_peer : (p : Protocol) (bytes : List ℕ) (payload : Payload) → payload_of p bytes ≡ Some payload → IsGiven p bytes payload
unfolding payload_of
payload_of_peer p bytes payload is = either_due p bytes payload (refusal bytes) refl is
