-- A connection that a caller requests is a step of a run, and so is the response to a CONNECT (RFC 6062,
-- section 4.3).
use Rattle.std.proofs.Common.{◌≡◌, ℕ, Bool, true, false, eqb, if◌then◌else◌, List, [], ◌∷◌, ◌++◌, map, Option, Some, None, Result, Ok, Err, refl, sym, ap, ◌∙◌, subst, arith, inl, inr}
use Rattle.std.proofs.lemmas.Bool.{eqb-true}
use Rattle.std.specs.FinMap as finite
use Rattle.std.specs.List.{find}
use Rattle.std.specs.Option.{option_and_then}
use Rattle.std.specs.Prelude.{IfNone, IfSome, MatchResult}
use Rattle.std.specs.declared.net.socket_addr.SocketAddr.{SocketAddr}
use Rattle.turn_client_proto_timers.specs.StunTypesWire.Attributes.{Attr, kind_at}
use Rattle.turn_client_proto_timers.specs.StunTypesBase.Family.{family_of_socket}
use Rattle.turn_client_proto_timers.specs.StunTypesWire.Grammar.{number_at, refusal, visible}
use Rattle.turn_client_proto_timers.specs.StunTypesWire.declared.class.MessageClass.{MessageClass}
use Rattle.turn_client_proto_timers.specs.StunTypesWire.declared.class.MessageClass.TheVariants.{Request, Indication, Success, Error}
use Rattle.turn_client_proto_timers.specs.StunTypesWire.Types.{class_of, is_response_class}
use Rattle.turn_client_proto_timers.specs.StunTypesWrite.ValueReading.{value_refusal}
use Rattle.turn_client_proto_timers.specs.StunTypesBase.declared.transport.TransportType.TheVariants.{Tcp}
use Rattle.turn_client_proto_timers.specs.StunProtoTransaction.Agents.{Transaction}
use Rattle.turn_client_proto_recv.specs.StunProtoClient.Client as signers
use Rattle.turn_client_proto_timers.specs.StunProtoAgent.Handling.{after_message}
use Rattle.turn_client_proto_timers.specs.StunProtoAgent.Sending.{with_request}
use Rattle.turn_client_proto_timers.specs.StunProtoAgent.State.{Agent}
use Rattle.turn_client_proto_timers.proofs.StunProtoAgent.Numbers.{handled_new, sent}
use Rattle.turn_client_proto_recv.specs.TurnTypesAttributes.TurnRegistry.{connection_id_kind}
use Rattle.turn_client_proto_timers.specs.TurnTypesPeer.TurnShows.{number_in, number_visible, unless_refused}
use Rattle.turn_client_proto_timers.specs.TurnRuns.Members.{IsIn}
use Rattle.turn_client_proto_timers.specs.TurnRuns.Messages as run
use Rattle.turn_client_proto_timers.specs.TurnRuns.Steps.{ClientStep, IsAnswered}
use Rattle.turn_client_proto_timers.specs.TurnRuns.StunWire.{decoded_by}
use Rattle.turn_client_proto_timers.specs.Allocation.Awaited.{is_connecting}
use Rattle.turn_client_proto_timers.specs.Api.declared.error.TcpConnectError.{TcpConnectError}
use Rattle.turn_client_proto_timers.specs.Api.declared.error.TcpConnectError.TheVariants.{NoAllocation, NoMemory}
use Rattle.turn_client_proto_timers.specs.Api.declared.event.TurnEvent.TheVariants.{TcpConnectFailed}
use Rattle.turn_client_proto_timers.specs.Allocation.PendingRequests.{pending_request, awaits_reply}
use Rattle.turn_client_proto_timers.specs.Peers.Channel.Numbers.{AreDistinct}
use Rattle.turn_client_proto_timers.specs.Allocation.declared.pending.PendingRequest.{PendingRequest}
use Rattle.turn_client_proto_timers.specs.Allocation.declared.pending.PendingRequest.TheVariants.{ChannelRenewal, Lifetime, NewChannel, NewConnection, NewPermission, Renewal}
use Rattle.turn_client_proto_recv.specs.Connecting.{IsConnectAnswered, IsConnectionRequested, after_connecting, allocation_towards, changed_towards, connect_refusal, connect_refusal_in, connect_refused_in}
use Rattle.turn_client_proto_timers.specs.Connection.Asking.{barring, connecting}
use Rattle.turn_client_proto_timers.specs.Connection.Reported as connections
use Rattle.turn_client_proto_timers.specs.Peers.Permission.Asking.{is_of, is_past, marked}
use Rattle.turn_client_proto_timers.specs.Messages.Requests.{request_text}
use Rattle.turn_client_proto_timers.specs.Messages.declared.request.TurnRequest.TheVariants.{Connect}
use Rattle.turn_client_proto_timers.proofs.Messages.Peers.{peer_read}
use Rattle.turn_client_proto_timers.specs.Messages.Reported.{connection_in, connection_reported}
use Rattle.turn_client_proto_timers.specs.Core.Asking.{requested}
use Rattle.turn_client_proto_timers.specs.Core.Deleting.{is_authenticated}
use Rattle.turn_client_proto_timers.specs.Core.Numbering.{after_number}
use Rattle.turn_client_proto_timers.specs.Core.Responding.{accepted, judged}
use Rattle.turn_client_proto_timers.specs.Core.Standing.{IsConnectResponded, after_connect}
use Rattle.turn_client_proto_timers.specs.Core.declared.protocol.Phase.{Phase}
use Rattle.turn_client_proto_timers.specs.Core.declared.protocol.Phase.TheVariants.{Authenticated}
use Rattle.turn_client_proto_timers.specs.Core.declared.protocol.Protocol.{Protocol}
use Rattle.turn_client_proto_step_laws.specs.Adding.{IsSignedFor}
use Rattle.turn_client_proto_step_laws.specs.ClientWords.{IsTaken, Outstanding, Allocating, Pending, client_words}
use Rattle.turn_client_proto_step_laws.specs.Held.{Allocation, Connecting, Waiting}
use Rattle.turn_client_proto_step_laws.specs.RunClient.{Client, Parts, moved, parts_of}
use Rattle.turn_client_proto_step_laws.specs.RunSteps.{IsRunStep, call_of}
use Rattle.turn_client_proto_step_laws.specs.Sound.{AsksOf, CanAsk, IsOrderly, IsSound, IsWhole, UntilEnded}
use Rattle.turn_client_proto_step_laws.proofs.Adding.{HasNumber, adds_both}
use Rattle.turn_client_proto_step_laws.proofs.Agents.{message_listed, outstanding_before}
use Rattle.turn_client_proto_step_laws.proofs.Asking.{IsMade, IsUnderWay, requested_adds, requested_orderly, asks, at_first, made}
use Rattle.turn_client_proto_step_laws.proofs.Awaited.{IsRequestedOf, IsFoundBy, OfRequestedChannel, OfConnection, OfLifetime, OfNew, OfRenewal, OfRenewedChannel}
use Rattle.turn_client_proto_step_laws.proofs.Ending.{still}
use Rattle.turn_client_proto_step_laws.proofs.Joined.{asks_to, connected_joining, connecting_joining, given_up_distinct, given_up_joining, learns, learns_unattempted}
use Rattle.turn_client_proto_step_laws.proofs.Joining.{AreJoining, allocations_joining, attempted_joining, each_joining, first_joining, itself, joining_orderly, stored_joining, none_connects, none_learnt, taken_joining, waits_joining}
use Rattle.turn_client_proto_step_laws.proofs.Lessening.{same_first_distinct}
use Rattle.turn_client_proto_step_laws.proofs.Lists.{found_in, found_passes, nothing_after}
use Rattle.turn_client_proto_step_laws.proofs.Orderly.{until_all}
use Rattle.turn_client_proto_step_laws.proofs.Plain.{counts_none, held_is_stored, none_decoded, nothing_transmitted, notices, quiet, run_step}
use Rattle.turn_client_proto_step_laws.proofs.Refreshing.{allocated, number_transmitted}
use Rattle.turn_client_proto_step_laws.proofs.Requesting.{authenticated, marks_first}
use Rattle.turn_client_proto_step_laws.proofs.Signed.{signed_arrives}
use Rattle.turn_client_proto_step_laws.proofs.Taken.{none_outstanding}

-- ---- what a CONNECT asks for

module _ (mid : Protocol) (peer : SocketAddr) (number now : ℕ) (is : IsMade mid (Connect peer) number) where
  abbrev text : List ℕ
  text = request_text mid.auth (Connect peer) number

  -- What is outstanding with its transaction ID is that request.
  pub asks_connect : (c : Connecting) → asks_to peer number c → AsksOf (with_request mid.agent text mid.server now) (run.Knows 0 c.peer) c.number
  asks_connect c same t there =
      let own_number : c.number ≡ number = ap (λ (x : Connecting). x.number) same in
      let to : c.peer ≡ peer = ap (λ (x : Connecting). x.peer) same in
      elim (sent mid.agent text mid.server now c.number t there) [
        | inl before ↦ absurd (Prim.cc (none_outstanding mid number (Some t) (ap (finite.get mid.agent.outstanding) (sym own_number) ∙ before) is.is_next.free))
        | inr own ↦
            subst (λ (m : run.Message). run.Asks m (run.Knows 0 c.peer)) (sym (ap (λ (x : Transaction). decoded_by x.bytes) own.1 ∙ is.reported))
            (refl, ap (λ (x : SocketAddr). x ∷ []) (sym to))
      ]

  -- Its transaction ID is that of a request that is made.
  pub connect_number : (c : Connecting) → asks_to peer number c → HasNumber c.number (decoded_by text ∷ [])
  connect_number c same = record { one = decoded_by text; listed = inl refl; is = is.number_is ∙ sym (ap (λ (x : Connecting). x.number) same) }

pub whole_to : (peer : SocketAddr) (number : ℕ) → IsWhole peer → (c : Connecting) → asks_to peer number c → IsWhole c.peer
whole_to peer number whole c same = subst IsWhole (sym (ap (λ (x : Connecting). x.peer) same)) whole

-- ---- a caller requests one

module _ (c : Client) (peer : SocketAddr) (now : ℕ) (whole : IsWhole peer) where
  abbrev passes : Allocation → Bool
  passes = is_of Tcp (family_of_socket peer)

  asks_for : (number : ℕ) → IsOrderly (parts_of c.core) → c.core.phase ≡ Authenticated → IsUnderWay c [] c.core → IsMade c.core (Connect peer) number → IsRunStep c [] None [] (after_connecting peer number now c.core)
  unfolding after_connecting requested
  asks_for number orderly occurs under_way is =
      let text = request_text c.core.auth (Connect peer) number in
      let mid : Parts = parts_of (requested (after_number c.core) (Connect peer) number now) in
      let change = connecting (record { number = number; peer = peer }) in
      let left : List Allocation = changed_towards peer change c.core.allocations in
      let are : AreJoining (asks_to peer number) none_learnt c.core.allocations left =
      first_joining (asks_to peer number) none_learnt passes change c.core.allocations (λ a found. connecting_joining peer number a) in
      let adds = adds_both (decoded_by text ∷ []) (parts_of c.core) mid (record mid { allocations = left }) (requested_adds c.core (Connect peer) number now)
      (allocations_joining (decoded_by text ∷ []) (asks_to peer number) mid left are (connect_number c.core peer number now is)) in
      let stored = joining_orderly (asks_to peer number) none_learnt mid left are (asks_connect c.core peer number now is) (whole_to peer number whole)
      (same_first_distinct passes change (λ a. (refl, refl)) c.core.allocations orderly.distinct)
      (requested_orderly c.core (Connect peer) number now is (allocated _ c.core.phase occurs) orderly) in
      asks c c.core (Connect peer) number under_way is None (after_connecting peer number now c.core) adds stored refl (λ realm h. h) under_way.can_ask.settings refl refl (nothing_transmitted (decoded_by text ∷ []) c)

  refused : (found : Option Allocation) (new : Protocol) → IsSound c → new ≡ connect_refused_in found peer now c.core → IsRunStep c [] None [] new
  refused None new sound is = still c [] new sound is
  refused (Some a) new sound is =
      subst (λ (p : Protocol). IsRunStep c [] None [] p) (sym is)
      (elim (is_past now a) as (λ b. IsRunStep c [] None [] (if b then record c.core { allocations = changed_towards peer marked c.core.allocations } else c.core)) [
        | true ↦ marks_first c passes sound
        | false ↦ still c [] c.core sound refl
      ])

  answered : (answer : Result (Unit {0}) TcpConnectError) (new : Protocol) → IsSound c → c.core.phase ≡ Authenticated → CanAsk c
      → MatchResult answer (λ _. IsConnectionRequested c.core peer now new) (λ error. (error ≡ NoMemory) × (new ≡ after_number c.core)) → IsRunStep c [] None [] new
  answered (Ok x) new sound occurs can is =
      let under_way = at_first c [] sound.orderly can in
      subst (λ (p : Protocol). IsRunStep c [] None [] p) (sym is.after)
      (asks_for is.number sound.orderly occurs under_way (made c c.core (Connect peer) is.number under_way tt (peer_read is.number peer whole.own whole.flow whole.scope) is.is_next))
  answered (Err e) new sound occurs can is = subst (λ (p : Protocol). IsRunStep c [] None [] p) (sym is.1) (number_transmitted c sound)

  -- If the call is not refused, the server has allocated.
  is_active_by : (found : Option Allocation) (phase : Phase) → connect_refusal_in found phase peer now ≡ None → is_authenticated phase ≡ true
  is_active_by None phase none = absurd (Prim.cc none)
  is_active_by (Some a) phase none =
      elim (is_past now a) as (λ (b : Bool). (if b then Some NoAllocation else (if is_authenticated phase then barring peer a else Some NoAllocation)) ≡ None → is_authenticated phase ≡ true) [
        | true ↦ λ h. absurd (Prim.cc h)
        | false ↦ elim (is_authenticated phase) as (λ (b : Bool). (if b then barring peer a else Some NoAllocation) ≡ None → b ≡ true) [
          | true ↦ λ h. refl
          | false ↦ λ h. absurd (Prim.cc h)
        ]
      ] none

  pub connect_step : (answer : Result (Unit {0}) TcpConnectError) (new : Protocol) → IsSound c → IsConnectAnswered c.core peer now answer new → IsRunStep c [] None [] new
  connect_step answer new sound is = by (connect_refusal c.core peer now) refl is.refused is.requested
    where
      by : (o : Option TcpConnectError) → connect_refusal c.core peer now ≡ o
          → IfSome o (λ error. (answer ≡ Err error) × (new ≡ connect_refused_in (allocation_towards peer c.core) peer now c.core))
          → IfNone o (MatchResult answer (λ _. IsConnectionRequested c.core peer now new) (λ error. (error ≡ NoMemory) × (new ≡ after_number c.core)))
          → IsRunStep c [] None [] new
      by (Some error) at rejected none = refused (allocation_towards peer c.core) new sound rejected.1
      by None at none going =
          let occurs = authenticated c.core.phase (is_active_by (allocation_towards peer c.core) c.core.phase at) in
          answered answer new sound occurs (subst (λ (f : Phase). UntilEnded f (CanAsk c)) occurs sound.can_ask) going

-- ---- the connection that was found

-- The first allocation that awaits the response to a CONNECT, and the connection which that requested.
pub record IsConnectFound (number : ℕ) (peer : SocketAddr) (all : List Allocation) : Type 0 where
  pub allocation : Allocation
  pub found : find (awaits_reply number) all ≡ Some allocation
  pub connection : Connecting
  pub at : find (is_connecting number) allocation.connecting ≡ Some connection
  pub is_peer : connection.peer ≡ peer

pub connect_found : (number : ℕ) (peer : SocketAddr) (all : List Allocation) → IsFoundBy number all (NewConnection peer) → IsConnectFound number peer all
connect_found number peer all first = by first.is
  where
    by : IsRequestedOf number first.allocation (NewConnection peer) → IsConnectFound number peer all
    by (OfLifetime lifetime at same) = absurd (Prim.cc same)
    by (OfRequestedChannel c at same) = absurd (Prim.cc same)
    by (OfRenewedChannel c at same) = absurd (Prim.cc same)
    by (OfNew p at same) = absurd (Prim.cc same)
    by (OfRenewal p at same) = absurd (Prim.cc same)
    by (OfConnection c at same) = record { allocation = first.allocation; found = first.found; connection = c; at = at; is_peer = sym (Prim.cc same) }

module _ (p : Parts) (number : ℕ) (peer : SocketAddr) (orderly : IsOrderly p) (is : IsConnectFound number peer p.allocations) where
  there_in : IsIn is.allocation p.allocations
  there_in = found_in (awaits_reply number) p.allocations is.allocation is.found

  listed_in : IsIn is.connection is.allocation.connecting
  listed_in = found_in (is_connecting number) is.allocation.connecting is.connection is.at

  own_number : is.connection.number ≡ number
  own_number = eqb-true is.connection.number number (found_passes (is_connecting number) is.allocation.connecting is.connection is.at)

  -- XOR-PEER-ADDRESS carries its peer completely.
  pub found_whole : IsWhole peer
  found_whole = subst IsWhole is.is_peer ((orderly.connects is.allocation there_in).whole is.connection listed_in)

  -- The outstanding request asks for it.
  pub found_asks : (n : ℕ) (t : Transaction) → finite.get p.agent.outstanding number ≡ Some t → run.Asks (decoded_by t.bytes) (run.Knows n peer)
  found_asks n t there =
      subst (λ (x : SocketAddr). run.Asks (decoded_by t.bytes) (run.Knows n x)) is.is_peer
      ((orderly.connects is.allocation there_in).requested is.connection listed_in t (ap (finite.get p.agent.outstanding) own_number ∙ there))

-- ---- a response

-- A response has one of the two classes.
response_of : (class : MessageClass) → is_response_class class ≡ true → run.IsResponse class
response_of Success is = inl refl
response_of Error is = inr refl
response_of Request is = absurd (Prim.cc is)
response_of Indication is = absurd (Prim.cc is)

-- What is decoded by a type is decoded of an attribute of that type.
same_kind : (kind n : ℕ) (a : Attr) (reported : Option ℕ) → a.kind ≡ kind → unless_refused (value_refusal kind 4 4 a) reported ≡ Some n → unless_refused (value_refusal a.kind 4 4 a) reported ≡ Some n
same_kind kind n a reported is h = ap (λ (k : ℕ). unless_refused (value_refusal k 4 4 a) reported) is ∙ h

-- The connection ID that is decoded is visible.
pub number_decoded : (bytes : List ℕ) (connection : ℕ) → connection_reported bytes ≡ Some connection → number_visible 4 connection_id_kind bytes ≡ Some connection
number_decoded bytes connection reported = by (find (λ (a : Attr). eqb a.kind connection_id_kind) (visible bytes)) refl reported
  where
    by : (found : Option Attr) → find (λ (a : Attr). eqb a.kind connection_id_kind) (visible bytes) ≡ found → option_and_then connection_in found ≡ Some connection → number_in 4 found ≡ Some connection
    by None at is = absurd (Prim.cc is)
    by (Some a) at is =
        let kind : a.kind ≡ connection_id_kind = eqb-true a.kind connection_id_kind (found_passes (λ (x : Attr). eqb x.kind connection_id_kind) (visible bytes) a at) in
        same_kind connection_id_kind connection a _ kind is

module _ (c : Client) (signer : signers.Client) (bytes : List ℕ) (message : refusal bytes ≡ None) (response : is_response_class (class_of (kind_at bytes)) ≡ true)
    (own : IsSignedFor c bytes) (peer : SocketAddr) (connection : ℕ) (reported : connection_reported bytes ≡ Some connection)
    (is : IsConnectFound (number_at bytes) peer c.core.allocations) (t : Transaction) (there : finite.get c.core.agent.outstanding (number_at bytes) ≡ Some t)
    (orderly : IsOrderly (parts_of c.core)) (under_way : IsUnderWay c (bytes ∷ []) (accepted bytes (judged signer c.core))) where
  abbrev number : ℕ
  number = number_at bytes

  abbrev agent : Agent
  agent = after_message c.core.agent bytes c.core.server

  abbrev left : List Allocation
  left = connections.all_connected connection peer number c.core.allocations

  -- No event is queued.
  abbrev core : Protocol
  core = record (accepted bytes (judged signer c.core)) { allocations = left; events = c.core.events ++ [] }

  are : AreJoining none_connects (learns connection peer) c.core.allocations left
  are = first_joining none_connects (learns connection peer) (awaits_reply number) (connections.connected connection peer number) c.core.allocations
      (λ a found. connected_joining connection peer number a)

  taken : (n : ℕ) → IsTaken (record (parts_of c.core) { agent = agent; allocations = left }) n → IsTaken (parts_of c.core) n
  taken n (Outstanding x at) = let was = handled_new c.core.agent bytes c.core.server n x at in Outstanding was.before was.there
  taken n (Allocating listed) = Allocating listed
  taken n (Pending a listed p) = elim (taken_joining none_connects (learns connection peer) (parts_of c.core) left are (learns_unattempted connection peer) n (Pending a listed p)) [ inl was ↦ was | inr now ↦ absurd now.1 ]

  -- The response brings that very connection.
  answers : (n : ℕ) (to : SocketAddr) → connection ≡ n → peer ≡ to → IsAnswered client_words (call_of c (bytes ∷ []) None [] (moved c c.transmitted core)) [] (run.Knows n to) number
  answers n to same alike =
      subst (λ (k : ℕ). IsAnswered client_words (call_of c (bytes ∷ []) None [] (moved c c.transmitted core)) [] (run.Knows k to) number) same
      (subst (λ (x : SocketAddr). IsAnswered client_words (call_of c (bytes ∷ []) None [] (moved c c.transmitted core)) [] (run.Knows connection x) number) alike (record {
        bytes = bytes;
        response = decoded_by bytes;
        arrives = signed_arrives c bytes (moved c c.transmitted core) message own;
        number_is = refl;
        request = decoded_by t.bytes;
        waited = inl (record { number = number; transaction = t; there = there; shows = message_listed t.bytes (orderly.messages number t there) });
        request_is = orderly.numbers number t there;
        asks = found_asks (parts_of c.core) number peer orderly is connection t there;
        brings = (response_of (class_of (kind_at bytes)) response, number_decoded bytes connection reported);
      }))

  step : ClientStep client_words (call_of c (bytes ∷ []) None [] (moved c c.transmitted core))
  unfolding accepted
  step = record {
    account = refl;
    seed = refl;
    accepts = λ a. a;
    realms = under_way.realms;
    counted = (counts_none c core refl).counted;
    few = (counts_none c core refl).few;
    started = [];
    requests = λ m h. absurd h;
    numbered = omega arith;
    outstanding = λ m h. inl (outstanding_before c.core.agent agent (handled_new c.core.agent bytes c.core.server) m h);
    queued = λ m h. inl h;
    taken = λ n h. inl (taken n h);
    draws = λ generated m h shows. absurd (Prim.cc h);
    handles = λ x h. inl h;
    buffers = λ x h. inr h;
    gained = [];
    gains = λ h k. inl (stored_joining none_connects (learns connection peer) (parts_of c.core) left are h k);
    answers = λ x h. absurd h;
    once = tt;
    spent = λ x m h. absurd h;
    known = λ x h. absurd h;
    is_of = λ x h. absurd h;
    decodes = ap notices (sym (nothing_after c.core.events)) ∙ nothing_after (notices c.core.events);
    shows = λ h k. held_is_stored left h k;
    visible = λ h i. absurd i;
    waits = λ n p w. elim (waits_joining none_connects (learns connection peer) (parts_of c.core) left are n p w) [
      | inl was ↦ inl was
      | inr learnt ↦ inr (inl (number, answers n p (ap (λ (x : Waiting). x.connection) (sym learnt.1) ∙ learnt.2) (ap (λ (x : Waiting). x.peer) (sym learnt.1) ∙ learnt.3)))
    ];
    attempted = λ n h. inl (attempted_joining none_connects (learns connection peer) (parts_of c.core) left are (learns_unattempted connection peer) n h);
    delivers = λ p h. absurd h;
    names = λ p h. absurd h;
  }

  pub known_step : IsRunStep c (bytes ∷ []) None [] core
  unfolding accepted
  known_step = record {
    after = moved c c.transmitted core;
    core_is = refl;
    waits = refl;
    step = step;
    sound = record {
      orderly = joining_orderly none_connects (learns connection peer) (parts_of (accepted bytes (judged signer c.core))) left are (λ k h. absurd h) (λ k h. absurd h)
          (same_first_distinct (awaits_reply number) (connections.connected connection peer number) (λ a. (refl, refl)) c.core.allocations orderly.distinct) under_way.orderly;
      can_ask = until_all c.core.phase (record {
        account = under_way.can_ask.account;
        settled = under_way.can_ask.settled;
        texts = under_way.can_ask.texts;
        settings = under_way.can_ask.settings;
        words = under_way.can_ask.words;
      });
    };
  }

-- ---- by what the request asks for

module _ (c : Client) (mid : Protocol) (bytes : List ℕ) (under_way : IsUnderWay c (bytes ∷ []) mid) where
  -- The client with these allocations and events.
  abbrev with_answer : Option PendingRequest → Option ℕ → Protocol
  with_answer what reported = record mid {
    allocations = connections.answered what reported (number_at bytes) mid.allocations;
    events = mid.events ++ connections.reported_of what reported;
  }

  -- A connection becomes known.
  abbrev pub KnowsOne : Type 0
  KnowsOne = (peer : SocketAddr) (connection : ℕ) → pending_request (number_at bytes) mid.allocations ≡ Some (NewConnection peer) → connection_reported bytes ≡ Some connection
      → IsRunStep c (bytes ∷ []) None [] (with_answer (Some (NewConnection peer)) (Some connection))

  left_with : (left : List Allocation) (core : Protocol) → AreJoining none_connects none_learnt mid.allocations left → AreDistinct left → core ≡ record mid { allocations = left; events = core.events }
      → notices core.events ≡ notices mid.events → IsRunStep c (bytes ∷ []) None [] core
  left_with left core are distinct is reported =
      let after : Protocol = record mid { allocations = left; events = core.events } in
      subst (λ (p : Protocol). IsRunStep c (bytes ∷ []) None [] p) (sym is)
      (run_step [] (bytes ∷ []) None [] c c.transmitted after
      (quiet None [] c c.transmitted after (counts_none c after under_way.rng) under_way.realms
      (adds_both [] (parts_of c.core) (parts_of mid) (record (parts_of mid) { allocations = left }) under_way.adds (allocations_joining [] none_connects (parts_of mid) left are (λ k h. absurd h)))
      (nothing_transmitted [] c) (reported ∙ under_way.reported))
      (joining_orderly none_connects none_learnt (parts_of mid) left are (λ k h. absurd h) (λ k h. absurd h) distinct under_way.orderly) (until_all mid.phase (record {
        account = under_way.can_ask.account;
        settled = under_way.can_ask.settled;
        texts = under_way.can_ask.texts;
        settings = under_way.can_ask.settings;
        words = under_way.can_ask.words;
      })))

  as_it_is : IsRunStep c (bytes ∷ []) None [] (record mid { allocations = mid.allocations; events = mid.events ++ [] })
  as_it_is =
      left_with mid.allocations (record mid { allocations = mid.allocations; events = mid.events ++ [] }) (λ a listed. record { before = a; listed = listed; is = itself none_connects none_learnt a })
      under_way.orderly.distinct refl (ap notices (sym (nothing_after mid.events)))

  by_request : KnowsOne → (what : Option PendingRequest) (reported : Option ℕ) → pending_request (number_at bytes) mid.allocations ≡ what → connection_reported bytes ≡ reported → IsRunStep c (bytes ∷ []) None [] (with_answer what reported)
  by_request knows None reported at is = as_it_is
  by_request knows (Some (Lifetime lifetime)) reported at is = as_it_is
  by_request knows (Some (NewChannel transport channel peer)) reported at is = as_it_is
  by_request knows (Some (ChannelRenewal transport channel peer)) reported at is = as_it_is
  by_request knows (Some (NewPermission transport ip)) reported at is = as_it_is
  by_request knows (Some (Renewal transport ip)) reported at is = as_it_is
  by_request knows (Some (NewConnection peer)) (Some connection) at is = knows peer connection at is
  by_request knows (Some (NewConnection peer)) None at is =
      left_with (map (connections.given_up (Some (number_at bytes))) mid.allocations) (with_answer (Some (NewConnection peer)) None)
      (each_joining none_connects none_learnt (connections.given_up (Some (number_at bytes))) (given_up_joining (Some (number_at bytes))) mid.allocations)
      (given_up_distinct (Some (number_at bytes)) mid.allocations under_way.orderly.distinct) refl (none_decoded mid.events (TcpConnectFailed peer ∷ []) refl)

  pub connect_responded : KnowsOne → (handled : Bool) (new : Protocol) → IsConnectResponded mid bytes handled new → IsRunStep c (bytes ∷ []) None [] new
  unfolding after_connect
  connect_responded knows handled new h =
      subst (λ (p : Protocol). IsRunStep c (bytes ∷ []) None [] p) (sym h.1)
      (by_request knows (pending_request (number_at bytes) mid.allocations) (connection_reported bytes) refl refl)
