-- The success response to a CREATE_PERMISSION is a step of a run: the requested permissions are gained.
use Rattle.std.proofs.Common.{◌≡◌, ℕ, true, List, [], ◌∷◌, ◌++◌, map, Some, None, refl, sym, ap, ◌∙◌, subst, arith, inl, inr}
use Rattle.std.specs.FinMap as finite
use Rattle.std.specs.List.{find}
use Rattle.std.specs.declared.net.ip_addr.IpAddr.{IpAddr}
use Rattle.std.specs.declared.net.socket_addr.SocketAddr.{SocketAddr}
use Rattle.turn_client_proto_timers.specs.StunTypesWire.Attributes.{kind_at}
use Rattle.turn_client_proto_timers.specs.StunTypesWire.Grammar.{number_at, refusal}
use Rattle.turn_client_proto_timers.specs.StunTypesWire.declared.class.MessageClass.TheVariants.{Success}
use Rattle.turn_client_proto_timers.specs.StunTypesWire.Types.{class_of}
use Rattle.turn_client_proto_timers.specs.StunTypesBase.declared.transport.TransportType.{TransportType}
use Rattle.turn_client_proto_timers.specs.StunProtoTransaction.Agents.{Transaction}
use Rattle.turn_client_proto_recv.specs.StunProtoClient.Client as signers
use Rattle.turn_client_proto_timers.specs.StunProtoAgent.Handling.{after_message, ends_one}
use Rattle.turn_client_proto_timers.specs.StunProtoAgent.Numbers.{IsWithout, ShowsNumbers}
use Rattle.turn_client_proto_timers.specs.StunProtoAgent.State.{Agent}
use Rattle.turn_client_proto_timers.proofs.StunProtoAgent.Numbers.{answered_without, handled_new, still_shows}
use Rattle.turn_client_proto_timers.specs.TurnRuns.Members.{IsIn, NoneTwice}
use Rattle.turn_client_proto_timers.specs.TurnRuns.Messages as run
use Rattle.turn_client_proto_timers.specs.TurnRuns.Steps.{ClientStep, IsAnswered, Reported, WasKnown, reported_for}
use Rattle.turn_client_proto_timers.specs.TurnRuns.StunWire.{decoded_by}
use Rattle.turn_client_proto_timers.specs.Allocation.Awaited.{asks_for_permission}
use Rattle.turn_client_proto_timers.specs.Allocation.PendingRequests.{addresses_for, pending_request, awaits_reply}
use Rattle.turn_client_proto_timers.specs.Allocation.Permissions.{addresses_of, names_of}
use Rattle.turn_client_proto_timers.specs.Peers.Permission.Permitted.{all_permitted_each}
use Rattle.turn_client_proto_timers.specs.Peers.Permission.Granted.{permitted_all}
use Rattle.turn_client_proto_timers.specs.Allocation.declared.pending.PendingRequest.TheVariants.{NewPermission}
use Rattle.turn_client_proto_timers.specs.Api.declared.event.TurnEvent.TheVariants.{PermissionCreated}
use Rattle.turn_client_proto_timers.specs.Core.Permitting.{granted}
use Rattle.turn_client_proto_timers.specs.Core.Responding.{accepted, judged}
use Rattle.turn_client_proto_timers.specs.Core.declared.protocol.Protocol.{Protocol}
use Rattle.turn_client_proto_step_laws.specs.Adding.{IsSignedFor}
use Rattle.turn_client_proto_step_laws.specs.ClientWords.{IsTaken, Outstanding, Allocating, Pending, client_words}
use Rattle.turn_client_proto_step_laws.specs.Held.{Allocation, PendingPermission}
use Rattle.turn_client_proto_step_laws.specs.RunClient.{Client, moved, parts_of}
use Rattle.turn_client_proto_step_laws.specs.RunSteps.{IsRunStep, call_of}
use Rattle.turn_client_proto_timers.specs.Peers.Channel.Numbers.{AreDistinct}
use Rattle.turn_client_proto_timers.specs.Api.declared.event.TurnEvent.{TurnEvent}
use Rattle.turn_client_proto_step_laws.specs.Sound.{IsOrderly, IsWhole}
use Rattle.turn_client_proto_step_laws.proofs.Lessening.{same_first_distinct}
use Rattle.turn_client_proto_step_laws.proofs.Permissions.{first_permitting, permitted_permitting}
use Rattle.turn_client_proto_step_laws.proofs.Fitting.{permitting_orderly}
use Rattle.turn_client_proto_step_laws.proofs.Permitting.{ArePermitting, Gaining, attempted_permitting, stored_permitting, none_asks, taken_permitting, waits_permitting}
use Rattle.turn_client_proto_step_laws.proofs.Agents.{has_other, message_listed, outstanding_before}
use Rattle.turn_client_proto_step_laws.proofs.Asking.{IsUnderWay}
use Rattle.turn_client_proto_step_laws.proofs.Awaited.{IsRequestedOf, IsFoundBy, OfRequestedChannel, OfConnection, OfLifetime, OfNew, OfRenewal, OfRenewedChannel, found_by}
use Rattle.turn_client_proto_step_laws.proofs.Firsts.{image_in}
use Rattle.turn_client_proto_step_laws.proofs.Lists.{found_in, found_passes, in_map, inside}
use Rattle.turn_client_proto_step_laws.proofs.Named.{addresses_found, named_once, permission_reported}
use Rattle.turn_client_proto_step_laws.proofs.Orderly.{until_all}
use Rattle.turn_client_proto_step_laws.proofs.Plain.{counts_none, held_is_stored, joined, notices}
use Rattle.turn_client_proto_step_laws.proofs.Signed.{signed_arrives}
use Rattle.turn_client_proto_step_laws.proofs.Taken.{among}

-- ---- the one that was found

-- The first allocation that awaits the response to a request, and the pending permission which that requested.
pub record IsRequestedIn (number : ℕ) (transport : TransportType) (ip : IpAddr) (all : List Allocation) : Type 0 where
  pub allocation : Allocation
  pub found : find (awaits_reply number) all ≡ Some allocation
  pub is_transport : allocation.transport ≡ transport
  pub permission : PendingPermission
  pub asked : find (asks_for_permission number) allocation.pending_permissions ≡ Some permission
  pub listed : IsIn permission allocation.pending_permissions
  pub has : IsIn number permission.numbers

pub requested_in : (number : ℕ) (transport : TransportType) (ip : IpAddr) (all : List Allocation) → pending_request number all ≡ Some (NewPermission transport ip) → IsRequestedIn number transport ip all
requested_in number transport ip all h = by (found_by number all (NewPermission transport ip) h)
  where
    of : (a : Allocation) → find (awaits_reply number) all ≡ Some a → IsRequestedOf number a (NewPermission transport ip) → IsRequestedIn number transport ip all
    of a there (OfLifetime lifetime at same) = absurd (Prim.cc same)
    of a there (OfRequestedChannel c at same) = absurd (Prim.cc same)
    of a there (OfRenewedChannel c at same) = absurd (Prim.cc same)
    of a there (OfRenewal p at same) = absurd (Prim.cc same)
    of a there (OfConnection c at same) = absurd (Prim.cc same)
    of a there (OfNew p at same) = record {
      allocation = a;
      found = there;
      is_transport = Prim.cc same;
      permission = p;
      asked = at;
      listed = found_in (asks_for_permission number) a.pending_permissions p at;
      has = among number p.numbers (found_passes (asks_for_permission number) a.pending_permissions p at);
    }

    by : IsFoundBy number all (NewPermission transport ip) → IsRequestedIn number transport ip all
    by first = of first.allocation first.found first.is

-- ---- the step

-- What was gained, as a list.
abbrev pub is_gained : List Reported → Gaining
is_gained gained held = (x : Reported) × IsIn x gained × (x.held ≡ held)

-- Each gained item was requested with this transaction ID, and the response brings it; it is reported once.
pub record AreGranted (c : Client) (bytes requested : List ℕ) (gained : List Reported) : Type 0 where
  pub numbers : (x : Reported) → IsIn x gained → x.number ≡ number_at bytes
  pub asks : (x : Reported) → IsIn x gained → run.Asks (decoded_by requested) (run.Holds x.held)
  pub brings : (x : Reported) → IsIn x gained → run.Brings (decoded_by bytes) (run.Holds x.held)
  pub known : (x : Reported) → IsIn x gained → WasKnown client_words c x.held
  pub is_of : (x : Reported) → IsIn x gained → run.IsOf x.notice x.held
  pub once : NoneTwice reported_for gained

module _ (c : Client) (signer : signers.Client) (bytes : List ℕ) (message : refusal bytes ≡ None) (ends : ends_one c.core.agent bytes ≡ true)
    (own : IsSignedFor c bytes) (t : Transaction) (there : finite.get c.core.agent.outstanding (number_at bytes) ≡ Some t)
    (orderly : IsOrderly (parts_of c.core)) (under_way : IsUnderWay c (bytes ∷ []) (accepted bytes (judged signer c.core))) where
  abbrev agent : Agent
  agent = after_message c.core.agent bytes c.core.server

  -- The client with these allocations, in which this was gained, and these events.
  abbrev with_left : List Allocation → List TurnEvent → Protocol
  with_left left events = record (accepted bytes (judged signer c.core)) { allocations = left; events = events }

  without : IsWithout c.core.agent (number_at bytes) agent
  without = answered_without c.core.agent bytes c.core.server ends

  shows_numbers : ShowsNumbers agent
  shows_numbers = still_shows c.core.agent agent (handled_new c.core.agent bytes c.core.server) orderly.numbers

  module _ (gained : List Reported) (left : List Allocation) (events : List TurnEvent) (is : AreGranted c bytes t.bytes gained) (are : ArePermitting (is_gained gained) none_asks c.core.allocations left)
      (decodes : notices events ≡ notices c.core.events ++ map (λ (x : Reported). x.notice) gained) where
    abbrev core : Protocol
    core = with_left left events

    taken : (n : ℕ) → IsTaken (record (parts_of c.core) { agent = agent; allocations = left }) n → IsTaken (parts_of c.core) n
    taken n (Outstanding x at) = let was = handled_new c.core.agent bytes c.core.server n x at in Outstanding was.before was.there
    taken n (Allocating listed) = Allocating listed
    taken n (Pending a listed p) = elim (taken_permitting (is_gained gained) none_asks (parts_of c.core) left are n (Pending a listed p)) [ inl was ↦ was | inr now ↦ absurd now.1 ]

    answers : (x : Reported) → IsIn x gained → IsAnswered client_words (call_of c (bytes ∷ []) None [] (moved c c.transmitted core)) [] (run.Holds x.held) x.number
    answers x listed = record {
      bytes = bytes;
      response = decoded_by bytes;
      arrives = signed_arrives c bytes (moved c c.transmitted core) message own;
      number_is = sym (is.numbers x listed);
      request = decoded_by t.bytes;
      waited = inl (record { number = number_at bytes; transaction = t; there = there; shows = message_listed t.bytes (orderly.messages (number_at bytes) t there) });
      request_is = orderly.numbers (number_at bytes) t there ∙ sym (is.numbers x listed);
      asks = is.asks x listed;
      brings = is.brings x listed;
    }

    step : ClientStep client_words (call_of c (bytes ∷ []) None [] (moved c c.transmitted core))
    unfolding accepted
    step = record {
      account = refl;
      seed = refl;
      accepts = λ a. a;
      realms = under_way.realms;
      counted = (counts_none c core refl).counted;
      few = (counts_none c core refl).few;
      started = [];
      requests = λ m h. absurd h;
      numbered = omega arith;
      outstanding = λ m h. inl (outstanding_before c.core.agent agent (handled_new c.core.agent bytes c.core.server) m h);
      queued = λ m h. inl h;
      taken = λ n h. inl (taken n h);
      draws = λ generated m h shows. absurd (Prim.cc h);
      handles = λ x h. inl h;
      buffers = λ x h. inr h;
      gained = gained;
      gains = stored_permitting (is_gained gained) none_asks (parts_of c.core) left are;
      answers = answers;
      once = is.once;
      spent = λ x m listed h same. absurd (has_other c.core.agent agent (number_at bytes) m shows_numbers without h (same ∙ is.numbers x listed));
      known = is.known;
      is_of = is.is_of;
      decodes = decodes;
      shows = λ h k. held_is_stored left h k;
      visible = λ h i. absurd i;
      waits = λ n p w. inl (waits_permitting (is_gained gained) none_asks (parts_of c.core) left are n p w);
      attempted = λ n h. inl (attempted_permitting (is_gained gained) none_asks (parts_of c.core) left are n h);
      delivers = λ p h. absurd h;
      names = λ p h. absurd h;
    }

    -- A step in which this was gained, if XOR-PEER-ADDRESS carries the peers of gained channels completely.
    pub gained_step : ((channel : ℕ) (peer : SocketAddr) → is_gained gained (run.Channel channel peer) → IsWhole peer) → AreDistinct left → IsRunStep c (bytes ∷ []) None [] core
    unfolding accepted
    gained_step whole distinct = record {
      after = moved c c.transmitted core;
      core_is = refl;
      waits = refl;
      step = step;
      sound = record {
        orderly = permitting_orderly (is_gained gained) none_asks (parts_of (accepted bytes (judged signer c.core))) left are
            (record { asks = λ held n h. absurd h; requested = λ channel peer n h. absurd h; gained = whole }) under_way.orderly distinct;
        can_ask = until_all c.core.phase (record {
          account = under_way.can_ask.account;
          settled = under_way.can_ask.settled;
          texts = under_way.can_ask.texts;
          settings = under_way.can_ask.settings;
          words = under_way.can_ask.words;
        });
      };
    }

-- ---- permissions

-- Each permission is reported as created.
permissions_decoded : (transport : TransportType) (number : ℕ) (ips : List IpAddr) → notices (map (PermissionCreated transport) ips) ≡ map (λ (x : Reported). x.notice) (map (permission_reported transport number) ips)
permissions_decoded transport number [] = refl
permissions_decoded transport number (ip ∷ ips) = ap (λ (l : List run.Notice). run.PermissionCreated transport ip ∷ l) (permissions_decoded transport number ips)

module _ (c : Client) (signer : signers.Client) (bytes : List ℕ) (now : ℕ) (message : refusal bytes ≡ None) (success : class_of (kind_at bytes) ≡ Success) (ends : ends_one c.core.agent bytes ≡ true)
    (own : IsSignedFor c bytes) (transport : TransportType) (ip : IpAddr) (is : IsRequestedIn (number_at bytes) transport ip c.core.allocations) (t : Transaction) (there : finite.get c.core.agent.outstanding (number_at bytes) ≡ Some t)
    (orderly : IsOrderly (parts_of c.core)) (under_way : IsUnderWay c (bytes ∷ []) (accepted bytes (judged signer c.core))) where
  -- The addresses that the request names.
  abbrev ips : List IpAddr
  ips = addresses_for (number_at bytes) c.core.allocations

  abbrev reported : IpAddr → Reported
  reported = permission_reported transport (number_at bytes)

  abbrev gained : List Reported
  gained = map reported ips

  were_named : ips ≡ addresses_of is.permission
  were_named = addresses_found (number_at bytes) c.core.allocations is.allocation is.permission is.found is.asked

  was_listed : IsIn is.allocation c.core.allocations
  was_listed = found_in (awaits_reply (number_at bytes)) c.core.allocations is.allocation is.found

  asks : (x : IpAddr) → IsIn x ips → run.Asks (decoded_by t.bytes) (run.Holds (run.Permission transport x))
  asks x named =
      subst (λ (y : TransportType). run.Asks (decoded_by t.bytes) (run.Holds (run.Permission y x))) is.is_transport
      (orderly.permissions is.allocation was_listed is.permission is.listed (number_at bytes) is.has x (subst (λ (l : List IpAddr). IsIn x l) were_named named) t there)

  -- Each gained item is the permission for one of these addresses.
  only : (P : Reported → Type 0) → ((x : IpAddr) → IsIn x ips → P (reported x)) → (x : Reported) → IsIn x gained → P x
  only P h x listed = let image = in_map reported x ips listed in subst P (sym image.is) (h image.source image.listed)

  are_granted : AreGranted c bytes t.bytes gained
  are_granted = record {
    numbers = only (λ (x : Reported). x.number ≡ number_at bytes) (λ x named. refl);
    asks = only (λ (x : Reported). run.Asks (decoded_by t.bytes) (run.Holds x.held)) asks;
    brings = only (λ (x : Reported). run.Brings (decoded_by bytes) (run.Holds x.held)) (λ x named. success);
    known = only (λ (x : Reported). WasKnown client_words c x.held) (λ x named. tt);
    is_of = only (λ (x : Reported). run.IsOf x.notice x.held) (λ x named. refl);
    once = subst (λ (l : List IpAddr). NoneTwice reported_for (map reported l)) (sym were_named) (named_once transport (number_at bytes) (names_of is.permission));
  }

  transport_of : (a : Allocation) → find (awaits_reply (number_at bytes)) c.core.allocations ≡ Some a → transport ≡ a.transport
  transport_of a found = sym is.is_transport ∙ ap (λ (x : Allocation). x.transport) (inside (sym is.found ∙ found))

  are : ArePermitting (is_gained gained) none_asks c.core.allocations (all_permitted_each ips (number_at bytes) now c.core.allocations)
  are = first_permitting (is_gained gained) none_asks (awaits_reply (number_at bytes)) (permitted_all ips (number_at bytes) now) c.core.allocations
      (λ a found. permitted_permitting (is_gained gained) none_asks ips (number_at bytes) now a
      (λ x named. (reported x, image_in reported x ips named, ap (λ (y : TransportType). run.Permission y x) (transport_of a found))))

  no_channel : (channel : ℕ) (peer : SocketAddr) → is_gained gained (run.Channel channel peer) → IsWhole peer
  no_channel channel peer g = absurd (only (λ (x : Reported). x.held ≡ run.Channel channel peer → ⊥) (λ x named e. Prim.cc e) g.0 g.1 g.2)

  decodes : notices (c.core.events ++ map (PermissionCreated transport) ips) ≡ notices c.core.events ++ map (λ (x : Reported). x.notice) gained
  decodes = joined c.core.events (map (PermissionCreated transport) ips) ∙ ap (λ (l : List run.Notice). notices c.core.events ++ l) (permissions_decoded transport (number_at bytes) ips)

  pub granted_step : IsRunStep c (bytes ∷ []) None [] (granted transport ips (number_at bytes) now (accepted bytes (judged signer c.core)))
  unfolding granted accepted
  granted_step =
      gained_step c signer bytes message ends own t there orderly under_way gained (all_permitted_each ips (number_at bytes) now c.core.allocations) (c.core.events ++ map (PermissionCreated transport) ips)
      are_granted are decodes no_channel
      (same_first_distinct (awaits_reply (number_at bytes)) (permitted_all ips (number_at bytes) now) (λ a. (refl, refl)) c.core.allocations orderly.distinct)
