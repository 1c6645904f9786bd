-- A message or a channel frame that carries something of a peer is a step of a run, in which that is
-- delivered.
use Rattle.std.proofs.Common.{◌≡◌, ℕ, Bool, List, [], ◌∷◌, Option, Some, None, is_some, option_map, refl, sym, ap, subst, inl, inr}
use Rattle.std.proofs.lemmas.Bool.{eqb-true}
use Rattle.std.specs.List.{find}
use Rattle.std.specs.Prelude.{option_and_then}
use Rattle.std.specs.Net.Socket.{socket_ip}
use Rattle.std.specs.declared.net.ip_addr.IpAddr.{IpAddr}
use Rattle.std.specs.declared.net.socket_addr.SocketAddr.{SocketAddr}
use Rattle.turn_client_proto_timers.specs.StunTypesBase.declared.transport.TransportType.{TransportType}
use Rattle.turn_client_proto_timers.specs.Peers.Channel.Numbers.{is_numbered}
use Rattle.turn_client_proto_timers.specs.Core.declared.protocol.Protocol.{Protocol}
use Rattle.turn_client_proto_timers.specs.TurnRuns.Indications.{Carries}
use Rattle.turn_client_proto_timers.specs.TurnRuns.Members.{IsIn}
use Rattle.turn_client_proto_timers.specs.TurnRuns.Messages as run
use Rattle.turn_client_proto_recv.specs.Payload.OfPeers.{IsLetThrough, reported_of}
use Rattle.turn_client_proto_recv.specs.Payload.Payloads.{bound, bound_in, payload_of, permitted}
use Rattle.turn_client_proto_timers.specs.Allocation.Permits.{is_for, permits}
use Rattle.turn_client_proto_timers.specs.TurnRuns.Steps.{IsDelivered}
use Rattle.turn_client_proto_recv.specs.Payload.declared.payload.Payload.{Payload}
use Rattle.turn_client_proto_recv.specs.Payload.declared.payload.Payload.TheVariants.{Data, Framed, Report}
use Rattle.turn_client_proto_recv.proofs.Payload.OfPeers.{payload_of_peer}
use Rattle.turn_client_proto_step_laws.specs.ClientWords.{Has, HasChannel, HasPermission, IsStored, client_words}
use Rattle.turn_client_proto_step_laws.specs.Held.{Allocation, Channel}
use Rattle.turn_client_proto_step_laws.specs.RunClient.{Client}
use Rattle.turn_client_proto_step_laws.specs.RunSteps.{IsGiving, call_of}
use Rattle.turn_client_proto_step_laws.specs.Sound.{IsSound}
use Rattle.turn_client_proto_step_laws.proofs.Ending.{still}
use Rattle.turn_client_proto_step_laws.proofs.Lists.{found_in, found_passes, inside, passes_one}
use Rattle.turn_client_proto_step_laws.proofs.Showing.{gives_step}
use Rattle.turn_client_proto_step_laws.proofs.Visible.{same_ip}

-- ---- who is permitted has something that is stored

-- The first allocation in which a permission for the address is active has it.
permitted_stored : (allocations : List Allocation) (ip : IpAddr) (transport : TransportType) → permitted ip allocations ≡ Some transport → IsStored allocations (run.Permission transport ip)
permitted_stored allocations ip transport is = by (find (permits ip) allocations) refl is
  where
    by : (found : Option Allocation) → find (permits ip) allocations ≡ found → option_map (λ (a : Allocation). a.transport) found ≡ Some transport → IsStored allocations (run.Permission transport ip)
    by None at is = absurd (Prim.cc is)
    by (Some a) at is =
        let p = passes_one (is_for ip) a.permissions (found_passes (permits ip) allocations a at) in
        record {
          allocation = a;
          listed = found_in (permits ip) allocations a at;
          has = subst (λ (t : TransportType). Has a (run.Permission t ip)) (inside is)
              (subst (λ (x : IpAddr). Has a (run.Permission a.transport x)) (same_ip p.one.ip ip p.passes) (HasPermission p.one p.listed));
        }

-- The first channel with this number.
numbered_had : (number : ℕ) (peer : SocketAddr) (transport : TransportType) (a : Allocation) (found : Option Channel) → find (is_numbered number) a.channels ≡ found
    → option_map {U = TransportType × SocketAddr} (λ (c : Channel). (a.transport, c.peer)) found ≡ Some (transport, peer) → Has a (run.Channel number peer)
numbered_had number peer transport a None at is = absurd (Prim.cc is)
numbered_had number peer transport a (Some c) at is =
    let to : c.peer ≡ peer = ap (λ (x : TransportType × SocketAddr). x.1) (inside is) in
    subst (λ (x : SocketAddr). Has a (run.Channel number x)) to
    (subst (λ (n : ℕ). Has a (run.Channel n c.peer)) (eqb-true c.number number (found_passes (is_numbered number) a.channels c at))
    (HasChannel c (found_in (is_numbered number) a.channels c at)))

-- An allocation has a channel with this number.
abbrev has_numbered : ℕ → Allocation → Bool
has_numbered number a = is_some (bound_in number a)

-- The first allocation that has one.
bound_stored : (allocations : List Allocation) (number : ℕ) (peer : SocketAddr) (transport : TransportType) → bound number allocations ≡ Some (transport, peer) → IsStored allocations (run.Channel number peer)
bound_stored allocations number peer transport is = by (find (has_numbered number) allocations) refl is
  where
    by : (found : Option Allocation) → find (has_numbered number) allocations ≡ found → option_and_then (bound_in number) found ≡ Some (transport, peer) → IsStored allocations (run.Channel number peer)
    by None at is = absurd (Prim.cc is)
    by (Some a) at is = record {
      allocation = a;
      listed = found_in (has_numbered number) allocations a at;
      has = numbered_had number peer transport a (find (is_numbered number) a.channels) refl is;
    }

-- A permitted payload names the permission or the channel.
named : (p : Protocol) (bytes : List ℕ) (payload : Payload) → IsLetThrough p payload → (h : run.Held) × run.NamesHeld (reported_of bytes payload) h × IsStored p.allocations h
named p bytes (Data transport peer start end) is = (run.Permission transport (socket_ip peer), refl, permitted_stored p.allocations (socket_ip peer) transport is.1)
named p bytes (Report transport peer report) is = (run.Permission transport (socket_ip peer), refl, permitted_stored p.allocations (socket_ip peer) transport is.1)
named p bytes (Framed number transport peer start end) is = (run.Channel number peer, refl, bound_stored p.allocations number peer transport is)

-- ---- the step

-- What the received bytes carry is delivered.
delivered : (before after : Client) (bytes : List ℕ) (payload : Payload) → Carries bytes (reported_of bytes payload)
    → IsDelivered client_words (call_of before (bytes ∷ []) None [] after) (reported_of bytes payload)
delivered before after bytes (Data transport peer start end) is = (bytes, inl refl, is)
delivered before after bytes (Report transport peer report) is = (bytes, inl refl, is)
delivered before after bytes (Framed number transport peer start end) is = (bytes, inl refl, is)

-- A statement about one payload alone.
pub alone : (P : run.Payload → Type 0) (one : run.Payload) → P one → (p : run.Payload) → IsIn p (one ∷ []) → P p
alone P one is p h = elim h [ inl same ↦ subst P same is | inr none ↦ absurd none ]

pub giving_step : (c : Client) (bytes : List ℕ) (payload : Payload) → IsSound c → payload_of c.core bytes ≡ Some payload → IsGiving c bytes (reported_of bytes payload ∷ []) c.core
giving_step c bytes payload sound is =
    let given = payload_of_peer c.core bytes payload is in
    let quiet = still c (bytes ∷ []) c.core sound refl in
    let reported = reported_of bytes payload in
    let call = call_of c (bytes ∷ []) None [] quiet.after in
    let stored : (h : run.Held) × run.NamesHeld reported h × IsStored quiet.after.core.allocations h =
    subst (λ (p : Protocol). (h : run.Held) × run.NamesHeld reported h × IsStored p.allocations h) (sym quiet.core_is) (named c.core bytes payload given.let_through) in
    record {
      after = quiet.after;
      core_is = quiet.core_is;
      waits = quiet.waits;
      step = gives_step client_words call (reported ∷ [])
          (alone (IsDelivered client_words call) reported (delivered c quiet.after bytes payload given.carried))
          (alone (λ p. (h : run.Held) × run.NamesHeld p h × IsStored quiet.after.core.allocations h) reported stored) quiet.step;
      sound = quiet.sound;
    }
