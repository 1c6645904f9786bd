-- What a client sends to a peer is for that peer.
use Rattle.std.proofs.Common.{◌≡◌, ℕ, ◌<◌, ◌≤◌, ◌^◌, Bool, true, false, leb, ltb, List, [], ◌∷◌, length, Option, Some, None, Ok, Err, refl, sym, ap, ◌∙◌, subst, arith, inl, inr}
use Rattle.std.specs.Prelude.{MatchOption, ◌&&◌, not, find, is_none, is_some, option_and_then}
use Rattle.std.specs.List.{AllByRecursion, list_any}
use Rattle.std.proofs.lemmas.Bool.{and_parts, cases_Bool, leb-true, ltb-false}
use Rattle.std.specs.Net.Socket.{IsSocketAddr, socket_ip}
use Rattle.std.specs.declared.net.socket_addr.SocketAddr.{SocketAddr}
use Rattle.std.specs.declared.net.socket_addr.SocketAddr.TheVariants.{V4, V6}
use Rattle.turn_client_proto_messages.specs.StunTypesBase.declared.transport.TransportType.{TransportType}
use Rattle.turn_client_proto_messages.specs.StunTypesBase.declared.transport.TransportType.TheVariants.{Tcp, Udp}
use Rattle.turn_client_proto_messages.specs.TurnTypesAttributes.StunTypesAttributes.Addresses.{on_the_wire}
use Rattle.turn_client_proto_messages.specs.TurnTypesAttributes.TurnRegistry.{most_payload}
use Rattle.turn_client_proto_messages.specs.TurnRuns.Members.{IsIn}
use Rattle.turn_client_proto_messages.specs.Allocation.declared.allocation.Allocation.{Allocation}
use Rattle.turn_client_proto_messages.specs.Allocation.declared.channel.Channel.{Channel}
use Rattle.turn_client_proto_messages.specs.Allocation.declared.connection.Connection.{Connection}
use Rattle.turn_client_proto_messages.specs.Allocation.Permits.{is_for, permits}
use Rattle.turn_client_proto_messages.specs.Allocation.Same.{is_same_address, is_same_transport}
use Rattle.turn_client_proto_messages.proofs.Peers.{peer_read}
use Rattle.turn_client_proto_api.specs.Sent.{Sent}
use Rattle.turn_client_proto_api.specs.declared.error.SendError.{SendError}
use Rattle.turn_client_proto_api.specs.declared.error.SendError.TheVariants.{NoPermission, TooLarge}
use Rattle.turn_client_proto_step_laws.specs.Peers.Permission.Asking.{permits_over}
use Rattle.turn_client_proto_core.specs.declared.protocol.Protocol.{Protocol}
use Rattle.turn_client_proto_step_laws.specs.Payload.Sending.{Answer, Full, IsIndicated, IsPassedOn, IsSendAnswered, IsSentBy, IsSentOver, Numbered, by_control, channel_in, channel_to, connection_in, connection_to, frame_of, indication_to, send_refusal, standing}
use Rattle.turn_desk_world_laws.specs.Sending.{AreNumbered, HasConnection, HasPermission, IsMeantFor, IsNumbered, IsSendOf}
use Rattle.turn_desk_world_laws.proofs.SendsRead.{alone, indicated}
use Rattle.turn_client_proto_step_laws.proofs.Lists.{found_in, found_passes, inside}
use Rattle.turn_client_proto_step_laws.proofs.Numbers.{number_small}
use Rattle.turn_client_proto_step_laws.proofs.SameSockets.{same_address}
use Rattle.turn_client_proto_step_laws.proofs.Visible.{same_ip}

-- ---- lists

each_in : {X : Type 0} (P : X → Type 0) (xs : List X) (x : X) → AllByRecursion P xs → IsIn x xs → P x
each_in P [] x all is = absurd is
each_in P (y ∷ ys) x all (inl same) = subst P same all.0
each_in P (y ∷ ys) x all (inr later) = each_in P ys x all.1 later

same_transport : (x y : TransportType) → is_same_transport x y ≡ true → x ≡ y
same_transport Udp Udp is = refl
same_transport Tcp Tcp is = refl
same_transport Udp Tcp is = absurd (Prim.cc is)
same_transport Tcp Udp is = absurd (Prim.cc is)

none_missing : {A : Type 0} (x : Option A) → is_none x ≡ true → x ≡ None
none_missing None is = refl
none_missing (Some a) is = absurd (Prim.cc is)

-- Some element passes.
some_passes : {X : Type 0} (p : X → Bool) (xs : List X) → list_any p xs ≡ true → (x : X) × IsIn x xs × (p x ≡ true)
some_passes p [] is = absurd (Prim.cc is)
some_passes p (x ∷ xs) is = elim (cases_Bool (p x)) [
  | inl passes ↦ (x, inl refl, passes)
  | inr fails ↦
      let rest = some_passes p xs (sym (rw fails refl) ∙ is) in
      (rest.0, inr rest.1, rest.2)
]

not_true : (b : Bool) → not b ≡ true → b ≡ false
not_true true is = absurd (Prim.cc is)
not_true false is = refl

-- ---- what is sent

sent_in : Sent → Answer → Sent
sent_in other (Ok (Some sent)) = sent
sent_in other (Ok None) = other
sent_in other (Err error) = other

abbrev result_of : Sent → Answer
result_of sent = Ok (Some sent)

sent_is : (a b : Sent) → result_of a ≡ result_of b → a ≡ b
unfolding sent_in
sent_is a b is = ap (sent_in a) is

-- An indication is read as one to its peer.
indicated_to : (peer : SocketAddr) (number : ℕ) (bytes : List ℕ) → IsSocketAddr peer → number < 2 ^ 96 → length bytes ≤ most_payload
    → IsSendOf (on_the_wire peer) bytes (indication_to peer number bytes)
indicated_to (V4 a) number bytes own small short = indicated number (V4 a) bytes small short (peer_read number (V4 a) own refl refl)
indicated_to (V6 a) number bytes own small short =
    indicated number (on_the_wire (V6 a)) bytes small short (peer_read number (on_the_wire (V6 a)) (own.0, own.1, omega arith) refl refl)

module _ (old : Protocol) (to : SocketAddr) (bytes : List ℕ) (now : ℕ) (sent : Sent) (new : Protocol) where
  abbrev result : Answer
  result = result_of sent

  -- ---- over UDP

  -- The channel to the peer that the client has.
  record IsHeld (c : Channel) : Type 0 where
    allocation : Allocation
    of : IsIn allocation old.allocations
    over : allocation.transport ≡ Udp
    bound : IsIn c allocation.channels
    to_peer : c.peer ≡ to

  in_one : (a : Allocation) (c : Channel) → IsIn a old.allocations → channel_in Udp to a ≡ Some c → IsHeld c
  in_one a c of is = elim (cases_Bool (is_same_transport a.transport Udp)) [
    | inl over ↦
        let found : find (λ x. is_same_address x.peer to) a.channels ≡ Some c = sym (rw over refl) ∙ is in
        record {
          allocation = a;
          of = of;
          over = same_transport a.transport Udp over;
          bound = found_in (λ x. is_same_address x.peer to) a.channels c found;
          to_peer = same_address c.peer to (found_passes (λ x. is_same_address x.peer to) a.channels c found);
        }
    | inr other ↦ absurd (let none : channel_in Udp to a ≡ None = rw other refl in Prim.cc (sym none ∙ is))
  ]

  in_all : (x : Option Allocation) (c : Channel) → find (λ a. is_some (channel_in Udp to a)) old.allocations ≡ x → option_and_then (channel_in Udp to) x ≡ Some c → IsHeld c
  in_all None c found is = absurd (Prim.cc is)
  in_all (Some a) c found is = in_one a c (found_in (λ a. is_some (channel_in Udp to a)) old.allocations a found) is

  record IsActive (c : Channel) : Type 0 where
    held : IsHeld c
    active : now ≤ c.expiry

  stands : (x : Option Channel) (c : Channel) → channel_to Udp to old.allocations ≡ x → standing now x ≡ Some c → IsActive c
  stands None c found is = absurd (Prim.cc is)
  stands (Some d) c found is = elim (cases_Bool (leb now d.expiry)) [
    | inl active ↦
        let own : standing now (Some d) ≡ Some d = rw active refl in
        let same : d ≡ c = inside (sym own ∙ is) in
        subst IsActive same (record {
          held = in_all (find (λ a. is_some (channel_in Udp to a)) old.allocations) d refl found;
          active = leb-true now d.expiry active;
        })
    | inr over ↦ absurd (let none : standing now (Some d) ≡ None = rw over refl in Prim.cc (sym none ∙ is))
  ]

  module _ (own : IsSocketAddr to) (numbered : AreNumbered old.allocations) (short : length bytes ≤ most_payload) where
    by_indication : IsIndicated old to bytes result → IsMeantFor Udp old to bytes now sent
    by_indication (Numbered number next is) =
        let same : sent ≡ by_control old (indication_to to number bytes) = sent_is sent (by_control old (indication_to to number bytes)) is in
        subst (λ (s : Sent). IsMeantFor Udp old to bytes now s) (sym same) (record { from = refl; to = refl; over = refl }, inl (indicated_to to number bytes own (number_small old number next) short))
    by_indication (Full all is) = absurd (Prim.cc is)

    by_channel : (c : Channel) → IsActive c → result ≡ Ok (Some (by_control old (frame_of old c bytes))) → IsMeantFor Udp old to bytes now sent
    by_channel c is answered =
        let same : sent ≡ by_control old (frame_of old c bytes) = sent_is sent (by_control old (frame_of old c bytes)) answered in
        let ranges = each_in (λ (a : Allocation). AllByRecursion IsNumbered a.channels) old.allocations is.held.allocation numbered is.held.of in
        let range = each_in IsNumbered is.held.allocation.channels c ranges is.held.bound in
        let framed = alone old.agent.transport c.number bytes range.0 range.1 (omega (arith, short)) in
        subst (λ (s : Sent). IsMeantFor Udp old to bytes now s) (sym same) (
          record { from = refl; to = refl; over = refl },
          inr (record {
            number = c.number;
            has = record {
              allocation = is.held.allocation;
              of = is.held.of;
              over = is.held.over;
              channel = c;
              bound = is.held.bound;
              number_is = refl;
              to = is.held.to_peer;
              active = is.active;
            };
            frame = framed.0;
            alone = framed.1;
          }),
        )

    sent_by : (x : Option Channel) → standing now (channel_to Udp to old.allocations) ≡ x → IsSentBy x old to bytes result new → IsMeantFor Udp old to bytes now sent
    sent_by None found is = by_indication is.0
    sent_by (Some c) found is = by_channel c (stands (channel_to Udp to old.allocations) c refl found) is.0

  -- ---- over TCP

  abbrev is_bound : Connection → Bool
  is_bound c = is_same_address c.peer to && is_none c.awaited

  bound_in_one : (a : Allocation) (c : Connection) → IsIn a old.allocations → connection_in Tcp to a ≡ Some c → HasConnection old c.here to
  bound_in_one a c of is = elim (cases_Bool (is_same_transport a.transport Tcp)) [
    | inl over ↦
        let found : find is_bound a.connections ≡ Some c = sym (rw over refl) ∙ is in
        let both = and_parts (is_same_address c.peer to) (is_none c.awaited) (found_passes is_bound a.connections c found) in
        record {
          allocation = a;
          of = of;
          over = same_transport a.transport Tcp over;
          connection = c;
          stored = found_in is_bound a.connections c found;
          here_is = refl;
          to = same_address c.peer to both.0;
          bound = none_missing c.awaited both.1;
        }
    | inr other ↦ absurd (let none : connection_in Tcp to a ≡ None = rw other refl in Prim.cc (sym none ∙ is))
  ]

  bound_in_all : (x : Option Allocation) (c : Connection) → find (λ a. is_some (connection_in Tcp to a)) old.allocations ≡ x → option_and_then (connection_in Tcp to) x ≡ Some c → HasConnection old c.here to
  bound_in_all None c found is = absurd (Prim.cc is)
  bound_in_all (Some a) c found is = bound_in_one a c (found_in (λ a. is_some (connection_in Tcp to a)) old.allocations a found) is

  passed_on : (x : Option Connection) → connection_to Tcp to old.allocations ≡ x → IsPassedOn x old bytes result new → IsMeantFor Tcp old to bytes now sent
  passed_on None found is = absurd is
  passed_on (Some c) found is =
      let whole : Sent = record { bytes = bytes; transport = Tcp; from = c.here; to = old.server } in
      let same : sent ≡ whole = sent_is sent whole is.0 in
      subst (λ (s : Sent). IsMeantFor Tcp old to bytes now s) (sym same) (record {
        has = bound_in_all (find (λ a. is_some (connection_in Tcp to a)) old.allocations) c refl found;
        to = refl;
        over = refl;
        bytes_are = refl;
      })

  -- ---- what isn't refused

  short_enough : send_refusal Udp old to bytes ≡ None → length bytes ≤ most_payload
  unfolding send_refusal
  short_enough none = elim (cases_Bool (list_any (permits_over Udp (socket_ip to)) old.allocations)) [
    | inl permitted ↦ elim (cases_Bool (ltb most_payload (length bytes))) [
      | inl more ↦ absurd (let large : send_refusal Udp old to bytes ≡ Some TooLarge = rw (permitted, more) refl in Prim.cc (sym large ∙ none))
      | inr fits ↦ ltb-false most_payload (length bytes) fits
    ]
    | inr barred ↦ absurd (let refused : send_refusal Udp old to bytes ≡ Some NoPermission = rw barred refl in Prim.cc (sym refused ∙ none))
  ]

  answered : (transport : TransportType) (x : Option SendError) → IsSocketAddr to → AreNumbered old.allocations → send_refusal transport old to bytes ≡ x
      → MatchOption x (IsSentOver transport old to bytes now result new) (λ error. (result ≡ Err error) × (new ≡ old)) → IsMeantFor transport old to bytes now sent
  answered Udp None own numbered none is = sent_by own numbered (short_enough none) (standing now (channel_to Udp to old.allocations)) refl is
  answered Tcp None own numbered none is = passed_on (connection_to Tcp to old.allocations) refl is
  answered transport (Some error) own numbered refused is = absurd (Prim.cc is.0)

  -- ---- the permission

  permitted_in : (a : Allocation) (transport : TransportType) → IsIn a old.allocations → permits_over transport (socket_ip to) a ≡ true → HasPermission old transport (socket_ip to)
  permitted_in a transport of is =
      let outer = and_parts (not a.is_expired) (is_same_transport a.transport transport && permits (socket_ip to) a) is in
      let inner = and_parts (is_same_transport a.transport transport) (permits (socket_ip to) a) outer.1 in
      let found = some_passes (is_for (socket_ip to)) a.permissions inner.1 in
      record {
        allocation = a;
        of = of;
        over = same_transport a.transport transport inner.0;
        occurs = not_true a.is_expired outer.0;
        permission = found.0;
        active = found.1;
        ip_is = same_ip found.0.ip (socket_ip to) found.2;
      }

  permitted_by : (transport : TransportType) (x : Option SendError) → send_refusal transport old to bytes ≡ x
      → MatchOption x (IsSentOver transport old to bytes now result new) (λ error. (result ≡ Err error) × (new ≡ old)) → HasPermission old transport (socket_ip to)
  unfolding send_refusal
  permitted_by transport (Some error) refused is = absurd (Prim.cc is.0)
  permitted_by transport None none is = elim (cases_Bool (list_any (permits_over transport (socket_ip to)) old.allocations)) [
    | inl permitted ↦
        let found = some_passes (permits_over transport (socket_ip to)) old.allocations permitted in
        permitted_in found.0 transport found.1 found.2
    | inr barred ↦ absurd (let refused : send_refusal transport old to bytes ≡ Some NoPermission = rw barred refl in Prim.cc (sym refused ∙ none))
  ]

pub permitted : (old new : Protocol) (transport : TransportType) (to : SocketAddr) (bytes : List ℕ) (now : ℕ) (sent : Sent) → IsSendAnswered old transport to bytes now (Ok (Some sent)) new → HasPermission old transport (socket_ip to)
permitted old new transport to bytes now sent is = permitted_by old to bytes now sent new transport (send_refusal transport old to bytes) refl is

pub meant : (old new : Protocol) (transport : TransportType) (to : SocketAddr) (bytes : List ℕ) (now : ℕ) (sent : Sent) → AreNumbered old.allocations → IsSocketAddr to
    → IsSendAnswered old transport to bytes now (Ok (Some sent)) new → IsMeantFor transport old to bytes now sent
meant old new transport to bytes now sent numbered own is = answered old to bytes now sent new transport (send_refusal transport old to bytes) own numbered refl is
