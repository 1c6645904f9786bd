-- A message from the socket of a connection that is to be bound is a step of a run (RFC 6062, section 4.3).
use Rattle.std.proofs.Common.{◌≡◌, ◌⊎◌, ℕ, ◌==◌, true, false, List, [], ◌∷◌, ◌++◌, map, Option, Some, None, Result, Ok, Err, refl, sym, ap, ◌∙◌, subst, arith, inl, inr}
use Rattle.std.proofs.lemmas.Bool.{eqb-true}
use Rattle.std.specs.FinMap as finite
use Rattle.std.specs.Prelude.{is_some, option_and_then}
use Rattle.std.specs.Option.{option_map}
use Rattle.std.specs.declared.net.socket_addr.SocketAddr.{SocketAddr}
use Rattle.turn_client_proto_timers.specs.StunTypesWire.Attributes.{kind_at}
use Rattle.turn_client_proto_timers.specs.StunTypesWire.Grammar.{number_at, refusal}
use Rattle.turn_client_proto_timers.specs.StunTypesWire.Headers.{AreBytes}
use Rattle.turn_client_proto_timers.specs.StunTypesWire.declared.algorithm.IntegrityAlgorithm.{IntegrityAlgorithm}
use Rattle.turn_client_proto_timers.specs.StunTypesWire.declared.class.MessageClass.{MessageClass}
use Rattle.turn_client_proto_timers.specs.StunTypesWire.declared.class.MessageClass.TheVariants.{Request, Indication, Success, Error}
use Rattle.turn_client_proto_timers.specs.StunTypesWire.Types.{class_of, method_of}
use Rattle.turn_client_proto_timers.specs.StunProtoTransaction.Agents.{Transaction}
use Rattle.turn_client_proto_recv.specs.StunProtoClient.Client as signers
use Rattle.turn_client_proto_recv.specs.StunProtoClient.declared.error.LongTermClientAuthError.{LongTermClientAuthError}
use Rattle.turn_client_proto_recv.specs.StunProtoClient.declared.error.LongTermClientAuthError.TheVariants.{Unauthorized, IntegrityFailed, UnsupportedFeature, NoMemory}
use Rattle.turn_client_proto_recv.specs.StunProtoClient.declared.validation.LongTermClientValidation.{LongTermClientValidation}
use Rattle.turn_client_proto_recv.specs.StunProtoClient.declared.validation.LongTermClientValidation.TheVariants.{ResendRequest, Validated}
use Rattle.turn_client_proto_timers.specs.StunProtoAgent.Handling.{after_message, ends_one, is_awaited, is_response}
use Rattle.turn_client_proto_timers.specs.StunProtoAgent.Numbers.{IsWithout, ShowsNumbers}
use Rattle.turn_client_proto_timers.specs.StunProtoAgent.State.{Agent}
use Rattle.turn_client_proto_timers.proofs.StunProtoAgent.Numbers.{answered_without, handled_new, still_shows}
use Rattle.turn_client_proto_recv.specs.TurnTypesAttributes.TurnRegistry.{connection_bind_method}
use Rattle.turn_client_proto_timers.specs.TurnRuns.Members.{IsIn}
use Rattle.turn_client_proto_timers.specs.TurnRuns.Messages as run
use Rattle.turn_client_proto_timers.specs.TurnRuns.Steps.{Call, ClientStep, IsAnswered, Reported, WasKnown}
use Rattle.turn_client_proto_timers.specs.TurnRuns.StunWire.{decoded_by}
use Rattle.turn_client_proto_timers.specs.Api.declared.event.TurnEvent.TheVariants.{TcpConnected, TcpConnectFailed}
use Rattle.turn_client_proto_timers.specs.Peers.Channel.Numbers.{AreDistinct}
use Rattle.turn_client_proto_timers.specs.Connection.Sockets.{closed, has_from, is_from}
use Rattle.turn_client_proto_timers.specs.Connection.Streams.{awaiting, from, waits_from, waits_in}
use Rattle.turn_client_proto_recv.specs.Processing.{IsAnswerProcessed, IsAnswerJudged, IsRequestedAnew, IsProcessedAt, IsOfBinding, IsSettled, requested_anew, awaited_at, bound_at, aborted, is_answer, is_of_binding, is_success_class, joining_by, joining_of}
use Rattle.turn_client_proto_recv.specs.declared.processing.Joining.{Joining}
use Rattle.turn_client_proto_timers.specs.Messages.Judging.{IsJudged}
use Rattle.turn_client_proto_timers.specs.Messages.Requests.{request_text}
use Rattle.turn_client_proto_timers.specs.Messages.declared.request.TurnRequest.TheVariants.{ConnectionBind}
use Rattle.turn_client_proto_recv.specs.Sockets.{binding_time}
use Rattle.turn_client_proto_timers.specs.Core.Asking.{requested_from}
use Rattle.turn_client_proto_timers.specs.Core.Deleting.{is_authenticated}
use Rattle.turn_client_proto_timers.specs.StunTypesBase.Times.{time_after}
use Rattle.turn_client_proto_timers.specs.Core.Numbering.{after_number}
use Rattle.turn_client_proto_timers.specs.Core.Responding.{accepted, answered, judged}
use Rattle.turn_client_proto_timers.specs.Core.declared.protocol.Phase.{Phase}
use Rattle.turn_client_proto_timers.specs.Core.declared.protocol.Phase.TheVariants.{Authenticated}
use Rattle.turn_client_proto_timers.specs.Core.declared.protocol.Protocol.{Protocol}
use Rattle.turn_client_proto_step_laws.specs.Adding.{IsSignedFor}
use Rattle.turn_client_proto_step_laws.specs.ClientWords.{ByConnection, IsStored, IsTaken, Outstanding, Allocating, Pending, client_words}
use Rattle.turn_client_proto_step_laws.specs.Held.{Allocation, Binding, Connection}
use Rattle.turn_client_proto_step_laws.specs.RunClient.{Client, Parts, moved, parts_of}
use Rattle.turn_client_proto_step_laws.specs.RunSteps.{IsRunStep, call_of}
use Rattle.turn_client_proto_step_laws.specs.Sound.{AsksFor, CanAsk, IsOrderly, IsSound, UntilEnded}
use Rattle.turn_client_proto_step_laws.proofs.Adding.{HasNumber, adds_both, allocations_less}
use Rattle.turn_client_proto_step_laws.proofs.Agents.{has_other, message_listed, outstanding_before}
use Rattle.turn_client_proto_step_laws.proofs.Asking.{IsMade, IsUnderWay, requested_from_adds, requested_from_orderly, asks, at_first, made, once_accepted, once_answered, once_judged}
use Rattle.turn_client_proto_step_laws.proofs.Binds.{asks_bind}
use Rattle.turn_client_proto_step_laws.proofs.Changing.{AreChanging, Bounding, IsChanging, IsFirst, IsTurned, Rebinding, allocations_changing, attempted_changing, changing_orderly, first_changing, held_as, stored_changing, none_bound, none_rebound, one_changing, taken_changing, waits_changing}
use Rattle.turn_client_proto_step_laws.proofs.Ending.{still}
use Rattle.turn_client_proto_step_laws.proofs.Lessening.{each_less, same_distinct, same_first_distinct}
use Rattle.turn_client_proto_step_laws.proofs.Lists.{both_so, found_in, inside}
use Rattle.turn_client_proto_step_laws.proofs.Orderly.{allocations_orderly, until_all}
use Rattle.turn_client_proto_step_laws.proofs.Parting.{closed_alike, closed_less}
use Rattle.turn_client_proto_step_laws.proofs.Plain.{counts_none, held_is_stored, joined, none_decoded, nothing_transmitted, quiet, run_step}
use Rattle.turn_client_proto_step_laws.proofs.Polling.{by_test}
use Rattle.turn_client_proto_step_laws.proofs.Realms.{going_at}
use Rattle.turn_client_proto_step_laws.proofs.Refreshing.{allocated}
use Rattle.turn_client_proto_step_laws.proofs.Requesting.{authenticated}
use Rattle.turn_client_proto_step_laws.proofs.Signed.{signed_arrives, validated_own}
use Rattle.turn_client_proto_step_laws.proofs.Streaming.{from_first}

-- ---- the connection goes

module _ (c : Client) (mid : Protocol) (bytes : List ℕ) (here peer : SocketAddr) (under_way : IsUnderWay c (bytes ∷ []) mid) where
  breaks : IsRunStep c (bytes ∷ []) None [] (aborted here peer mid)
  unfolding aborted
  breaks =
      let left : List Allocation = map (closed here) mid.allocations in
      let after : Protocol = aborted here peer mid in
      let fewer = each_less [] (closed here) (closed_less here) mid.allocations in
      run_step [] (bytes ∷ []) None [] c c.transmitted after
      (quiet None [] c c.transmitted after (counts_none c after under_way.rng) under_way.realms
      (adds_both [] (parts_of c.core) (parts_of mid) (parts_of after) under_way.adds (allocations_less [] [] (parts_of mid) left fewer (λ r h. absurd h)))
      (nothing_transmitted [] c) (none_decoded mid.events (TcpConnectFailed peer ∷ []) refl ∙ under_way.reported))
      (allocations_orderly [] (parts_of mid) left fewer (λ r h. absurd h) (same_distinct (closed here) (closed_alike here) mid.allocations under_way.orderly.distinct) under_way.orderly)
      (until_all mid.phase (record {
        account = under_way.can_ask.account;
        settled = under_way.can_ask.settled;
        texts = under_way.can_ask.texts;
        settings = under_way.can_ask.settings;
        words = under_way.can_ask.words;
      }))

  pub invalid_step : (new : Protocol) → new ≡ aborted here peer mid → IsRunStep c (bytes ∷ []) None [] new
  invalid_step new is = subst (λ (p : Protocol). IsRunStep c (bytes ∷ []) None [] p) (sym is) breaks

-- ---- the one that is to be bound

-- The first connection with this own address, and what it awaits.
pub record IsJoining (here : SocketAddr) (all : List Allocation) (j : Joining) : Type 0 where
  pub connection : Connection
  pub first : IsFirst (has_from here) (is_from here) all connection
  pub binding : Binding
  pub awaits : connection.awaited ≡ Some binding
  pub is : joining_by connection binding ≡ j

pub joining_is : (here : SocketAddr) (all : List Allocation) (j : Joining) → awaited_at here all ≡ Some j → IsJoining here all j
joining_is here all j is = by (from here all) refl is
  where
    of : (k : Connection) → from here all ≡ Some k → (o : Option Binding) → k.awaited ≡ o → option_map (joining_by k) o ≡ Some j → IsJoining here all j
    of k there None none h = absurd (Prim.cc h)
    of k there (Some b) awaits h = record { connection = k; first = from_first here all k there; binding = b; awaits = awaits; is = inside h }

    by : (o : Option Connection) → from here all ≡ o → option_and_then joining_of o ≡ Some j → IsJoining here all j
    by None none h = absurd (Prim.cc h)
    by (Some k) there h = of k there k.awaited refl h

module _ (New : Bounding) (Now : Rebinding) (here : SocketAddr) (all : List Allocation) (j : Joining) (is : IsJoining here all j) (awaited : Option Binding) (turned : IsTurned New Now is.connection (awaiting awaited is.connection)) where
  -- The connections change in this way.
  pub joining_changes : AreChanging New Now all (waits_from here awaited all)
  joining_changes = first_changing New Now (has_from here) (waits_in here awaited) all (λ a found.
      subst (λ (x : Allocation). IsChanging New Now x (waits_in here awaited x)) (inside (sym is.first.found ∙ found))
      (one_changing New Now (is_from here) (awaiting awaited) is.first.allocation (λ k there.
      subst (λ (x : Connection). IsTurned New Now x (awaiting awaited x)) (inside (sym is.first.at ∙ there)) turned)))

-- ---- it is requested for once more

module _ (c : Client) (mid : Protocol) (bytes : List ℕ) (now : ℕ) (under_way : IsUnderWay c (bytes ∷ []) mid) (occurs : mid.phase ≡ Authenticated) (here : SocketAddr) (j : Joining) (is : IsJoining here mid.allocations j) where
  -- By the request with this transaction ID.
  abbrev asks_by : ℕ → Rebinding
  asks_by number k b = (k.connection ≡ j.connection) × (b.number ≡ number)

  abbrev awaited : ℕ → Binding
  awaited number = record { number = number; expiry = time_after now binding_time }

  anew : (number : ℕ) → IsMade mid (ConnectionBind j.connection) number → IsRunStep c (bytes ∷ []) None [] (requested_anew here j.connection number now mid)
  unfolding requested_anew
  anew number made_it =
      let started : List run.Message = decoded_by (request_text mid.auth (ConnectionBind j.connection) number) ∷ [] in
      let sent : Parts = parts_of (requested_from here (after_number mid) (ConnectionBind j.connection) number now) in
      let left : List Allocation = waits_from here (Some (awaited number)) mid.allocations in
      let own : is.connection.connection ≡ j.connection = ap (λ (x : Joining). x.connection) is.is in
      let turned : IsTurned none_bound (asks_by number) is.connection (awaiting (Some (awaited number)) is.connection) = record {
        here_is = refl;
        peer_is = refl;
        number_is = refl;
        is_bound = λ e. absurd (Prim.cc e);
        requested = λ b e. inr (own, ap (λ (x : Binding). x.number) (sym (inside e)));
      } in
      let are = joining_changes none_bound (asks_by number) here mid.allocations j is (Some (awaited number)) turned in
      let has : (k : Connection) (b : Binding) → asks_by number k b → HasNumber b.number started =
      λ k b own_it. record { one = decoded_by (request_text mid.auth (ConnectionBind j.connection) number); listed = inl refl; is = made_it.number_is ∙ sym own_it.1 } in
      let asks_it : (k : Connection) (b : Binding) → asks_by number k b → AsksFor sent.agent (held_as k) b.number =
      λ k b own_it. subst (λ (n : ℕ). AsksFor sent.agent (held_as k) n) (sym own_it.1)
      (subst (λ (n : ℕ). AsksFor sent.agent (run.Connection k.here k.peer n) number) (sym own_it.0) (asks_bind mid k.here k.peer j.connection number now made_it)) in
      let core : Protocol = requested_anew here j.connection number now mid in
      let adds = adds_both started (parts_of mid) sent (parts_of core) (requested_from_adds here mid (ConnectionBind j.connection) number now)
      (allocations_changing started (asks_by number) sent left are has) in
      let distinct : AreDistinct left = same_first_distinct (has_from here) (waits_in here (Some (awaited number))) (λ a. (refl, refl)) mid.allocations under_way.orderly.distinct in
      let orderly = changing_orderly none_bound (asks_by number) sent left are asks_it distinct
      (requested_from_orderly here mid (ConnectionBind j.connection) number now made_it (allocated _ mid.phase occurs) under_way.orderly) in
      asks c mid (ConnectionBind j.connection) number under_way made_it None core adds orderly refl (λ realm h. h) under_way.can_ask.settings refl refl (nothing_transmitted started c)

  pub anew_step : (new : Protocol) → IsRequestedAnew here j.connection now mid new → IsRunStep c (bytes ∷ []) None [] new
  anew_step new h =
      subst (λ (p : Protocol). IsRunStep c (bytes ∷ []) None [] p) (sym h.after)
      (anew h.number (made c mid (ConnectionBind j.connection) h.number under_way h.lawful tt h.is_next))

-- ---- it is bound

module _ (c : Client) (signer : signers.Client) (bytes : List ℕ) (message : refusal bytes ≡ None) (success : class_of (kind_at bytes) ≡ Success) (ends : ends_one c.core.agent bytes ≡ true)
    (own : IsSignedFor c bytes) (here : SocketAddr) (j : Joining) (is : IsJoining here c.core.allocations j) (number_is : number_at bytes ≡ j.number)
    (t : Transaction) (there : finite.get c.core.agent.outstanding (number_at bytes) ≡ Some t)
    (orderly : IsOrderly (parts_of c.core)) (under_way : IsUnderWay c (bytes ∷ []) (accepted bytes (judged signer c.core))) where
  abbrev agent : Agent
  agent = after_message c.core.agent bytes c.core.server

  abbrev left : List Allocation
  left = waits_from here None c.core.allocations

  abbrev core : Protocol
  core = record (accepted bytes (judged signer c.core)) { allocations = left; events = c.core.events ++ TcpConnected j.peer ∷ [] }

  abbrev call : Call Client
  call = call_of c (bytes ∷ []) None [] (moved c c.transmitted core)

  abbrev held : run.Held
  held = held_as is.connection

  abbrev reported : Reported
  reported = record { notice = run.TcpConnected j.peer; held = held; number = number_at bytes }

  -- That connection is bound now.
  abbrev binds_it : Bounding
  binds_it k = held_as k ≡ held

  are : AreChanging binds_it none_rebound c.core.allocations left
  are = joining_changes binds_it none_rebound here c.core.allocations j is None (record {
    here_is = refl;
    peer_is = refl;
    number_is = refl;
    is_bound = λ e. inr refl;
    requested = λ b e. absurd (Prim.cc e);
  })

  taken : (n : ℕ) → IsTaken (record (parts_of c.core) { agent = agent; allocations = left }) n → IsTaken (parts_of c.core) n
  taken n (Outstanding x at) = let was = handled_new c.core.agent bytes c.core.server n x at in Outstanding was.before was.there
  taken n (Allocating listed) = Allocating listed
  taken n (Pending a listed p) = elim (taken_changing binds_it none_rebound (parts_of c.core) left are n (Pending a listed p)) [ inl was ↦ was | inr now ↦ absurd now.2 ]

  gains : (h : run.Held) → IsStored left h → IsStored c.core.allocations h ⊎ ((x : Reported) × IsIn x (reported ∷ []) × (x.held ≡ h))
  gains h k = elim (stored_changing binds_it none_rebound (parts_of c.core) left are h k) [
    | inl was ↦ inl was
    | inr gained ↦ inr (reported, inl refl, sym gained.1 ∙ gained.2)
  ]

  was_listed : IsIn is.first.allocation c.core.allocations
  was_listed = found_in (has_from here) c.core.allocations is.first.allocation is.first.found

  it_listed : IsIn is.connection is.first.allocation.connections
  it_listed = found_in (is_from here) is.first.allocation.connections is.connection is.first.at

  -- The request that is answered asked for it.
  requested_it : run.Asks (decoded_by t.bytes) (run.Holds held)
  requested_it =
      let awaited : is.binding.number ≡ number_at bytes = ap (λ (x : Joining). x.number) is.is ∙ sym number_is in
      (orderly.connects is.first.allocation was_listed).binds is.connection it_listed is.binding is.awaits t (ap (finite.get c.core.agent.outstanding) awaited ∙ there)

  -- The one gained item is this one.
  only : (P : Reported → Type 0) → P reported → (x : Reported) → IsIn x (reported ∷ []) → P x
  only P h x (inl same) = subst P same h
  only P h x (inr none) = absurd none

  without : IsWithout c.core.agent (number_at bytes) agent
  without = answered_without c.core.agent bytes c.core.server ends

  shows_numbers : ShowsNumbers agent
  shows_numbers = still_shows c.core.agent agent (handled_new c.core.agent bytes c.core.server) orderly.numbers

  answers_it : IsAnswered client_words call [] (run.Holds held) (number_at bytes)
  answers_it = record {
    bytes = bytes;
    response = decoded_by bytes;
    arrives = signed_arrives c bytes (moved c c.transmitted core) message own;
    number_is = refl;
    request = decoded_by t.bytes;
    waited = inl (record { number = number_at bytes; transaction = t; there = there; shows = message_listed t.bytes (orderly.messages (number_at bytes) t there) });
    request_is = orderly.numbers (number_at bytes) t there;
    asks = requested_it;
    brings = success;
  }

  step : ClientStep client_words call
  unfolding accepted
  step = record {
    account = refl;
    seed = refl;
    accepts = λ a. a;
    realms = under_way.realms;
    counted = (counts_none c core refl).counted;
    few = (counts_none c core refl).few;
    started = [];
    requests = λ m h. absurd h;
    numbered = omega arith;
    outstanding = λ m h. inl (outstanding_before c.core.agent agent (handled_new c.core.agent bytes c.core.server) m h);
    queued = λ m h. inl h;
    taken = λ n h. inl (taken n h);
    draws = λ generated m h shows. absurd (Prim.cc h);
    handles = λ x h. inl h;
    buffers = λ x h. inr h;
    gained = reported ∷ [];
    gains = gains;
    answers = only (λ (x : Reported). IsAnswered client_words call [] (run.Holds x.held) x.number) answers_it;
    once = ((λ x h. absurd h), tt);
    spent = λ x m listed h same. absurd (has_other c.core.agent agent (number_at bytes) m shows_numbers without h (same ∙ only (λ (y : Reported). y.number ≡ number_at bytes) refl x listed));
    known = only (λ (x : Reported). WasKnown client_words c x.held) (record { allocation = is.first.allocation; listed = was_listed; knows = ByConnection is.connection it_listed });
    is_of = only (λ (x : Reported). run.IsOf x.notice x.held) (is.connection.here, is.connection.connection, ap (λ (x : SocketAddr). run.Connection is.connection.here x is.connection.connection) (ap (λ (x : Joining). x.peer) is.is));
    decodes = joined c.core.events (TcpConnected j.peer ∷ []);
    shows = λ h k. held_is_stored left h k;
    visible = λ h i. absurd i;
    waits = λ n p w. inl (waits_changing binds_it none_rebound (parts_of c.core) left are n p w);
    attempted = λ n h. inl (attempted_changing binds_it none_rebound (parts_of c.core) left are n h);
    delivers = λ p h. absurd h;
    names = λ p h. absurd h;
  }

  pub bound_step : IsRunStep c (bytes ∷ []) None [] (bound_at here j.peer (accepted bytes (judged signer c.core)))
  unfolding bound_at accepted
  bound_step = record {
    after = moved c c.transmitted core;
    core_is = refl;
    waits = refl;
    step = step;
    sound = record {
      orderly = changing_orderly binds_it none_rebound (parts_of (accepted bytes (judged signer c.core))) left are (λ k b h. absurd h)
          (same_first_distinct (has_from here) (waits_in here None) (λ a. (refl, refl)) c.core.allocations orderly.distinct) under_way.orderly;
      can_ask = until_all c.core.phase (record {
        account = under_way.can_ask.account;
        settled = under_way.can_ask.settled;
        texts = under_way.can_ask.texts;
        settings = under_way.can_ask.settings;
        words = under_way.can_ask.words;
      });
    };
  }

-- ---- by the verdict

success_class : (class : MessageClass) → is_success_class class ≡ true → class ≡ Success
success_class Success is = refl
success_class Error is = absurd (Prim.cc is)
success_class Request is = absurd (Prim.cc is)
success_class Indication is = absurd (Prim.cc is)

module _ (c : Client) (bytes : List ℕ) (now : ℕ) (orderly : IsOrderly (parts_of c.core)) (can : CanAsk c) (occurs : c.core.phase ≡ Authenticated) (are_bytes : AreBytes bytes) (message : refusal bytes ≡ None)
    (here : SocketAddr) (j : Joining) (is : IsJoining here c.core.allocations j) (answer : is_answer j.number bytes ≡ true) where
  bound_by : (algorithm : IntegrityAlgorithm) (signer : signers.Client) → IsJudged c.core.auth bytes (Ok (Validated algorithm)) signer → class_of (kind_at bytes) ≡ Success → is_awaited c.core.agent bytes ≡ true
      → (found : Option Transaction) → finite.get c.core.agent.outstanding (number_at bytes) ≡ found → is_some found ≡ true → IsRunStep c (bytes ∷ []) None [] (bound_at here j.peer (accepted bytes (judged signer c.core)))
  bound_by algorithm signer valid success awaited None there some = absurd (Prim.cc some)
  bound_by algorithm signer valid success awaited (Some t) there some =
      let both = both_so (is_response bytes) (number_at bytes == j.number) answer in
      let ends : ends_one c.core.agent bytes ≡ true = (rw (both.0, awaited) refl) in
      bound_step c signer bytes message success ends (validated_own c signer bytes algorithm are_bytes can (going_at c.core.phase Authenticated occurs (λ stored. refl)) valid) here j is
      (eqb-true (number_at bytes) j.number both.1) t there orderly (once_accepted c (judged signer c.core) bytes (once_judged c bytes (Ok (Validated algorithm)) signer orderly can valid))

  settled : (algorithm : IntegrityAlgorithm) (signer : signers.Client) (new : Protocol) → IsJudged c.core.auth bytes (Ok (Validated algorithm)) signer → IsSettled here j.peer (judged signer c.core) bytes new
      → IsRunStep c (bytes ∷ []) None [] new
  settled algorithm signer new valid h =
      let under_way = once_judged c bytes (Ok (Validated algorithm)) signer orderly can valid in
      let accepts = once_accepted c (judged signer c.core) bytes under_way in
      by_test (is_awaited c.core.agent bytes)
      (λ (awaited : is_awaited c.core.agent bytes ≡ true) one. by_test (is_success_class (class_of (kind_at bytes)))
      (λ (ok : is_success_class (class_of (kind_at bytes)) ≡ true) (o : new ≡ bound_at here j.peer (accepted bytes (judged signer c.core))).
      subst (λ (p : Protocol). IsRunStep c (bytes ∷ []) None [] p) (sym o)
      (bound_by algorithm signer valid (success_class (class_of (kind_at bytes)) ok) awaited (finite.get c.core.agent.outstanding (number_at bytes)) refl awaited))
      (λ (_ : is_success_class (class_of (kind_at bytes)) ≡ false) (o : new ≡ aborted here j.peer (accepted bytes (judged signer c.core))).
      invalid_step c (accepted bytes (judged signer c.core)) bytes here j.peer accepts new o)
      one)
      (λ (_ : is_awaited c.core.agent bytes ≡ false) (o : new ≡ aborted here j.peer (judged signer c.core)). invalid_step c (judged signer c.core) bytes here j.peer under_way new o) h

  refused_by : (error : LongTermClientAuthError) (signer : signers.Client) (new : Protocol) → IsJudged c.core.auth bytes (Err error) signer → new ≡ aborted here j.peer (answered bytes (judged signer c.core)) → IsRunStep c (bytes ∷ []) None [] new
  refused_by error signer new verdict h =
      invalid_step c (answered bytes (judged signer c.core)) bytes here j.peer (once_answered c (judged signer c.core) bytes (once_judged c bytes (Err error) signer orderly can verdict)) new h

  answer_judged : (verdict : Result LongTermClientValidation LongTermClientAuthError) (signer : signers.Client) (new : Protocol) → IsJudged c.core.auth bytes verdict signer
      → IsAnswerJudged verdict here j (judged signer c.core) bytes now new → IsRunStep c (bytes ∷ []) None [] new
  answer_judged (Ok (ResendRequest choice)) signer new verdict h =
      anew_step c (judged signer c.core) bytes now (once_judged c bytes (Ok (ResendRequest choice)) signer orderly can verdict) occurs here j is new h
  answer_judged (Ok (Validated algorithm)) signer new verdict h = settled algorithm signer new verdict h
  answer_judged (Err NoMemory) signer new verdict h = absurd h
  answer_judged (Err Unauthorized) signer new verdict h = refused_by Unauthorized signer new verdict h
  answer_judged (Err (IntegrityFailed algorithm)) signer new verdict h = refused_by (IntegrityFailed algorithm) signer new verdict h
  answer_judged (Err UnsupportedFeature) signer new verdict h = refused_by UnsupportedFeature signer new verdict h

-- ---- a message

module _ (c : Client) (bytes : List ℕ) (now : ℕ) (new : Protocol) (here : SocketAddr) (sound : IsSound c) (are_bytes : AreBytes bytes) (message : refusal bytes ≡ None) where
  of_binding : (o : Option Joining) → awaited_at here c.core.allocations ≡ o → c.core.phase ≡ Authenticated → CanAsk c → IsOfBinding o here c.core bytes now new → IsRunStep c (bytes ∷ []) None [] new
  of_binding None none occurs can h = still c (bytes ∷ []) new sound h
  of_binding (Some j) there occurs can h =
      by_test (is_answer j.number bytes)
      (λ (answer : is_answer j.number bytes ≡ true) (o : IsAnswerProcessed here j c.core bytes now new).
      answer_judged c bytes now sound.orderly can occurs are_bytes message here j (joining_is here c.core.allocations j there) answer o.verdict o.auth new o.is_judged o.outcome)
      (λ (_ : is_answer j.number bytes ≡ false) (o : new ≡ aborted here j.peer c.core). invalid_step c c.core bytes here j.peer (at_first c (bytes ∷ []) sound.orderly can) new o) h

  pub answer_step : IsProcessedAt here c.core bytes now new → IsRunStep c (bytes ∷ []) None [] new
  answer_step is =
      by_test (is_of_binding c.core bytes)
      (λ (passes : is_of_binding c.core bytes ≡ true) (o : IsOfBinding (awaited_at here c.core.allocations) here c.core bytes now new).
      let occurs = authenticated c.core.phase (both_so (is_authenticated c.core.phase) (method_of (kind_at bytes) == connection_bind_method) passes).0 in
      of_binding (awaited_at here c.core.allocations) refl occurs (subst (λ (f : Phase). UntilEnded f (CanAsk c)) occurs sound.can_ask) o)
      (λ (_ : is_of_binding c.core bytes ≡ false) (o : new ≡ c.core). still c (bytes ∷ []) new sound o) is
