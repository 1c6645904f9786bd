-- What an event of a simulation is for a client that requests a connection while a loop drives it.
use Rattle.std.proofs.Common.{◌≡◌, ◌≢◌, ◌≤◌, ◌<◌, ◌+◌, ◌-◌, ◌++◌, ℕ, true, false, arith, List, [], ◌∷◌, Some, None, refl, sym, ap, ◌∙◌, subst, inl, inr}
use Rattle.std.specs.Prelude.{◌==◌, IsSome, Vec}
use Rattle.std.proofs.lemmas.Bool.{eq-eqb}
use Rattle.std.specs.FinMap as map
use Rattle.std.specs.declared.alloc.Global.{Global}
use Rattle.std.specs.declared.net.socket_addr.SocketAddr.{SocketAddr}
use Rattle.turn_desk_core.specs.StunTypesBase.Times.{time_after}
use Rattle.turn_desk_core.specs.StunTypesWire.Attributes.{kind_at}
use Rattle.turn_desk_core.specs.StunTypesWire.Grammar.{refusal}
use Rattle.turn_desk_core.specs.StunTypesWire.Types.{class_of, method_of, type_of}
use Rattle.turn_desk_core.specs.StunTypesWire.declared.class.MessageClass.TheVariants.{Error, Success, Request as RequestClass}
use Rattle.turn_desk_core.specs.StunTypesAuthAttributes.Userhashes.{userhash_of}
use Rattle.turn_desk_core.specs.StunProtoServer.Users.{HashesDiffer}
use Rattle.turn_client_proto_messages.specs.StunTypesIntegrity.Credentials.{NameAndPassword}
use Rattle.turn_client_proto_messages.specs.Requests.{is_signed, request_method}
use Rattle.turn_client_proto_messages.specs.Waiting.{Queued as QueuedMessage}
use Rattle.turn_client_proto_messages.specs.declared.request.TurnRequest.{TurnRequest}
use Rattle.turn_client_proto_api.specs.StunProtoAuth.Nonce.{features_offered}
use Rattle.turn_client_proto_api.specs.declared.event.TurnEvent.{TurnEvent}
use Rattle.turn_client_proto_step_laws.specs.Recv.ClientState.{Protocol}
use Rattle.turn_client_proto_handshake_laws.specs.Coming.{IsPartOf}
use Rattle.turn_desk_event.specs.StunProtoTransaction.Schedule.{Waits, end_at, transmissions, waits_after}
use Rattle.std.specs.List.{sum}
use Rattle.turn_client_proto_messages.specs.Allocation.Awaited.{has_number}
use Rattle.turn_client_proto_handshake_laws.specs.Requested.{Requested}
use Rattle.turn_client_proto_progress_laws.specs.Holders.{Holder, IsListed, IsSignedBy}
use Rattle.turn_client_proto_progress_laws.specs.Replies.{IsSuccessOf}
use Rattle.turn_client_proto_progress_laws.specs.TcpBinding.{IsTcpBinding}
use Rattle.turn_desk_core.specs.State.{State}
use Rattle.turn_desk_core.specs.Steps.{IsAnswer}
use Rattle.turn_desk_core.specs.declared.decision.Decision.{Decision}
use Rattle.turn_desk_event.specs.declared.answer.Answer.{Answer}
use Rattle.turn_desk_event.specs.declared.answer.Answer.TheVariants as answer
use Rattle.turn_desk_event.specs.declared.event.Event.{Event}
use Rattle.turn_desk_event.specs.declared.event.Event.TheVariants.{ToDesk}
use Rattle.turn_desk_world_laws.specs.World.Desks.{words_of}
use Rattle.turn_desk_world_laws.specs.World.Model.{World}
use Rattle.turn_desk_world_laws.specs.World.Runs.{IsStep}
use Rattle.turn_desk_progress_laws.specs.Joining.{IsSameDesk, ReportsOwn}
use Rattle.turn_desk_progress_laws.specs.Links.{Link}
use Rattle.turn_desk_progress_laws.specs.Loops.{MayBegin}
use Rattle.turn_desk_progress_laws.specs.Promises.{control_at, over}
use Rattle.turn_desk_progress_laws.specs.Scripts.{Plan}
use Rattle.turn_desk_progress_laws.proofs.Coming.{none_yet}
use Rattle.turn_desk_progress_laws.proofs.Same.{step_same}
use Rattle.turn_desk_progress_laws.proofs.Successes.{IsMethod, message_is, method_same, number_same, reply_right}
use Rattle.turn_desk_progress_laws.proofs.Worlds.{IsServedOn, served_on}
use Rattle.turn_desk_laws.specs.ConnectionLoops.{Bind, Connect, Method, Permission, Target, Timing}
use Rattle.turn_desk_laws.specs.ConnectionPromises.{request_made_for, from_of, number_of}
use Rattle.turn_desk_laws.specs.ConnectionStages.{Counts, IsRequestMade, IsHeldFor, IsSameServer, ReportsFirst, earlier_of, holder_at, pending_for, request_at, socket_head}

-- ---- times

pub never : {A : Type 0} (a b : ℕ) → a < b → b ≤ a → A
never a b less more = absurd (omega (arith, less, more))

pub itself : (a : ℕ) → a ≤ a
itself a = omega arith

-- What is made later is given up later.
later_end : (one other wait now : ℕ) → one ≤ other → now < time_after one wait → now < time_after other wait
later_end one other wait now sooner before = omega (arith, sooner, before)

pub given_up_later : (one other : ℕ) (waits : Waits) (now : ℕ) → one ≤ other → now < end_at one waits → now < end_at other waits
given_up_later one other waits now sooner before = later_end one other (sum (waits_after waits (transmissions false waits - 1)) + waits.final) now sooner before

-- A transaction ID alone is among itself.
pub alone_among : (n : ℕ) → has_number n (n ∷ []) ≡ true
alone_among n = rw (eq-eqb n n refl) refl

-- The oldest one of some requests and one more.
pub oldest_of : (one : Requested) (older : List Requested) (oldest : ℕ) → oldest ≤ one.made → ((x : Requested) → IsListed x older → oldest ≤ x.made) → (x : Requested) → IsListed x (one ∷ older) → oldest ≤ x.made
oldest_of one older oldest sooner since x (inl same) = subst (λ (y : Requested). oldest ≤ y.made) (sym same) sooner
oldest_of one older oldest sooner since x (inr listed) = since x listed

-- ---- methods

pub signs_so : (target : Target) (method : Method) → is_signed (request_made_for target method) ≡ true
signs_so target Permission = refl
signs_so target Connect = refl
signs_so target Bind = refl

pub method_so : (target : Target) (method : Method) → request_method (request_made_for target method) ≡ number_of method
method_so target Permission = refl
method_so target Connect = refl
method_so target Bind = refl

pub request_so : (method : Method) → method_of (type_of RequestClass (number_of method)) ≡ number_of method
request_so Permission = refl
request_so Connect = refl
request_so Bind = refl

pub error_so : (method : Method) → method_of (type_of Error (number_of method)) ≡ number_of method
error_so Permission = refl
error_so Connect = refl
error_so Bind = refl

pub is_method : (method : Method) → IsMethod (number_of method)
is_method Permission = record { error = refl; success = refl; method = refl }
is_method Connect = record { error = refl; success = refl; method = refl }
is_method Bind = record { error = refl; success = refl; method = refl }

-- ---- the server core

module _ (plan : Plan) (old : World) (target : Target) where
  pub server_on : (w v : World) → v.desk ≡ w.desk → IsSameServer plan target old w → IsSameServer plan target old v
  server_on w v same is = record {
    realm = ap (λ (d : State). d.auth.realm) same ∙ is.realm;
    users = ap (λ (d : State). d.auth.users) same ∙ is.users;
    algorithms = ap (λ (d : State). d.auth.algorithms) same ∙ is.algorithms;
    anonymous = ap (λ (d : State). d.auth.anonymous_username) same ∙ is.anonymous;
    own = λ stored there. is.own stored (ap (λ (d : State). map.get d.auth.clients plan.client.here) (sym same) ∙ there);
    other = λ stored there. is.other stored (ap (λ (d : State). map.get d.auth.clients target.local) (sym same) ∙ there);
  }

  -- The address of which it is said what is stored.
  abbrev link_at : SocketAddr → Link
  link_at local = record { peer = target.peer; number = target.number; local = local; requested = 0; granted = 0; made = 0; first = 0 }

  module _ (event : Event) (w v : World) (ret : Answer) (step : IsStep event w ret v) (is : IsSameServer plan target old w) where
    from_itself : (local : SocketAddr) → IsSameDesk (link_at local) w v
    from_itself local = step_same (link_at local) w event w v ret step (record { realm = refl; users = refl; algorithms = refl; anonymous = refl; decodes = λ own. own })

    reports_on : (local : SocketAddr) → ReportsFirst old local w → ReportsFirst old local v
    reports_on local reports stored there =
        (from_itself local).decodes
        (λ before found. reports before found ∙ (ap (λ l. features_offered l old.desk.auth.anonymous_username) (sym is.algorithms) ∙ ap (features_offered w.desk.auth.algorithms) (sym is.anonymous)))
        stored there
        ∙ (ap (λ l. features_offered l w.desk.auth.anonymous_username) is.algorithms ∙ ap (features_offered old.desk.auth.algorithms) is.anonymous)

    pub server_step : IsSameServer plan target old v
    server_step = record {
      realm = (from_itself target.local).realm ∙ is.realm;
      users = (from_itself target.local).users ∙ is.users;
      algorithms = (from_itself target.local).algorithms ∙ is.algorithms;
      anonymous = (from_itself target.local).anonymous ∙ is.anonymous;
      own = reports_on plan.client.here is.own;
      other = reports_on target.local is.other;
    }

  -- What it stores for the address from which a request is sent.
  pub reports_from : (method : Method) (w : World) → IsSameServer plan target old w → ReportsFirst old (from_of plan target method) w
  reports_from Permission w is = is.own
  reports_from Connect w is = is.own
  reports_from Bind w is = is.other

-- ---- the client

module _ (plan : Plan) (old w v : World) (target : Target) (address : SocketAddr) (lifetime since : ℕ) where
  -- If the client has changed, and the server core hasn't.
  pub moves : (before head : List ℕ) (Was Is : Holder → List TurnEvent → Protocol → Type 0) (s : IsHeldFor plan old target address lifetime since before Was w) → v.desk ≡ w.desk
      → (core : Protocol) → v.client ≡ Some (over (control_at plan.client.transport head) core) → (events : List TurnEvent) → Is (holder_at plan address lifetime since s.auth s.standing) events core
      → IsHeldFor plan old target address lifetime since head Is v
  moves before head Was Is s same core there events is = record {
    auth = s.auth;
    standing = s.standing;
    of = s.of;
    server = server_on plan old target w v same s.server;
    events = events;
    client = record { core = core; there = there; is = is };
  }

-- The count of challenges.
pub counts_on : (method : Method) (challenges : ℕ) (p q : Protocol) → q.resends ≡ p.resends → Counts method challenges p → Counts method challenges q
counts_on Permission challenges p q same is = same ∙ is
counts_on Connect challenges p q same is = same ∙ is
counts_on Bind challenges p q same is = tt

-- The request is outstanding still, if all else of the client's state is as stated.
pub asked_on : (plan : Plan) (target : Target) (method : Method) (t : Timing) (queue more : List QueuedMessage) (head next : List ℕ) (h : Holder) (events left : List TurnEvent) (p q : Protocol) (n : ℕ)
    → (is : IsRequestMade plan target method t queue head h events p n) → q.resends ≡ p.resends
    → IsTcpBinding h (Some (request_at target method h t n)) (earlier_of method is.older) (pending_for target method h t.granted t.made is.ids n (socket_head method next)) more t.sent left q
    → IsRequestMade plan target method t more next h left q n
asked_on plan target method t queue more head next h events left p q n is same binding = record {
  fits = is.fits;
  ids = is.ids;
  among = is.among;
  older = is.older;
  since_oldest = is.since_oldest;
  made_later = is.made_later;
  lawful = is.lawful;
  apart = is.apart;
  is = binding;
  counts = counts_on method t.challenges p q same is.counts;
  again = is.again;
}

-- ---- the server core grants the request

module _ (plan : Plan) (old w v : World) (target : Target) (address : SocketAddr) (lifetime since : ℕ) (head : List ℕ) (Is : Holder → List TurnEvent → Protocol → Type 0) (s : IsHeldFor plan old target address lifetime since head Is w) (may : MayBegin plan old)
    (what : TurnRequest) (number : ℕ) (text : List ℕ) (signed : IsSignedBy (holder_at plan address lifetime since s.auth s.standing) what number text) (m : ℕ) (method : IsMethod m) (method_is : method_of (kind_at text) ≡ m)
    (bytes reply : Vec ℕ Global) (same : bytes.items ≡ text) (from : SocketAddr) (now : ℕ) (decision : Decision) (seed : List ℕ) (success : class_of (kind_at reply.items) ≡ Success)
    (step : IsStep (ToDesk bytes from now decision seed) w (answer.Reply reply) v) where
  abbrev h : Holder
  h = holder_at plan address lifetime since s.auth s.standing

  on : IsServedOn w v bytes.items reply.items from now decision seed
  on = served_on w v bytes reply from now decision seed (answer.Reply reply) refl step

  pub answered : IsAnswer w.desk from text now (words_of seed) decision reply.items v.desk
  answered = subst (λ (l : List ℕ). IsAnswer w.desk from l now (words_of seed) decision reply.items v.desk) same on.replied.answer

  differ : HashesDiffer w.desk.auth
  differ = λ a b one other alike. may.hashes a b
      (subst (λ u. IsSome (map.get u a)) s.server.users one)
      (subst (λ u. IsSome (map.get u b)) s.server.users other)
      (subst (λ (r : List ℕ). userhash_of a r ≡ userhash_of b r) s.server.realm alike)

  present : map.get w.desk.auth.users s.standing.account.username ≡ Some s.standing.account.password
  present =
      ap (λ u. map.get u s.standing.account.username) s.server.users
      ∙ (ap (λ (x : NameAndPassword). map.get old.desk.auth.users x.username) s.of.account ∙ (may.user ∙ ap (λ (x : NameAndPassword). Some x.password) (sym s.of.account)))

  pub message_so : refusal reply.items ≡ None
  message_so = message_is w.desk v.desk from text reply.items now (words_of seed) decision m method method_is answered success

  pub success_so : IsSuccessOf h m number reply.items
  success_so = record {
    number_is = number_same w.desk v.desk from text reply.items now (words_of seed) decision m method method_is answered success ∙ signed.number_is;
    success = success;
    method_is = method_same w.desk v.desk from text reply.items now (words_of seed) decision m method method_is answered success;
    right = reply_right w.desk v.desk from text reply.items now (words_of seed) decision m method method_is answered success s.auth.anonymous_username s.standing signed.claims present
        (s.of.realm ∙ sym s.server.realm) differ;
  }

  pub part_so : IsPartOf [] reply.items
  part_so = none_yet reply.items message_so

-- The client is unchanged, and meets this statement too.
pub stays_so : (plan : Plan) (old w v : World) (target : Target) (address : SocketAddr) (lifetime since : ℕ) (head : List ℕ) (Was Is : Holder → List TurnEvent → Protocol → Type 0) (s : IsHeldFor plan old target address lifetime since head Was w)
    (bytes reply : Vec ℕ Global) (from : SocketAddr) (now : ℕ) (decision : Decision) (seed : List ℕ) → IsStep (ToDesk bytes from now decision seed) w (answer.Reply reply) v
    → Is (holder_at plan address lifetime since s.auth s.standing) s.events s.client.core → IsHeldFor plan old target address lifetime since head Is v
stays_so plan old w v target address lifetime since head Was Is s bytes reply from now decision seed step is = record {
  auth = s.auth;
  standing = s.standing;
  of = s.of;
  server = server_step plan old target (ToDesk bytes from now decision seed) w v (answer.Reply reply) step s.server;
  events = s.events;
  client = record {
    core = s.client.core;
    there = (served_on w v bytes reply from now decision seed (answer.Reply reply) refl step).client ∙ s.client.there;
    is = is;
  };
}
