use Rattle.std.proofs.Common.{◌≡◌, ◌^◌, ◌<◌, ℕ, true, List, [], ◌∷◌, ap, refl, sym, ◌∙◌, subst}
use Rattle.std.specs.Net.Socket.{socket_ip}
use Rattle.std.specs.declared.net.socket_addr.SocketAddr.{SocketAddr}
use Rattle.turn_client_proto_messages.specs.StunTypesIntegrity.Credentials.{NameAndPassword}
use Rattle.turn_desk_core.specs.StunTypesWire.Types.{method_of, type_of}
use Rattle.turn_desk_core.specs.StunTypesWire.declared.class.MessageClass.TheVariants.{Request as RequestClass}
use Rattle.turn_client_proto_api.specs.StunProtoAuth.Claims.{Claimed}
use Rattle.turn_client_proto_messages.specs.StunProtoClient.Client.{account_key}
use Rattle.turn_client_proto_messages.specs.StunProtoClient.Digests.{IsRight}
use Rattle.turn_desk_core.specs.TurnTypesAttributes.TurnRegistry.{connect_method, connection_bind_method, create_permission_method}
use Rattle.turn_client_proto_api.specs.declared.event.TurnEvent.{TurnEvent}
use Rattle.turn_client_proto_api.specs.Sent.{Sent}
use Rattle.turn_client_proto_progress_laws.specs.Holders.{CanSign, Holder, sent_from, signed_by}
use Rattle.turn_client_proto_messages.specs.Requests.{is_signed, request_method}
use Rattle.turn_client_proto_messages.specs.ReportedRequests.{CanBeRead, IsLawfulRequest, reported_request}
use Rattle.turn_client_proto_messages.specs.declared.request.TurnRequest.{TurnRequest}
use Rattle.turn_client_proto_messages.specs.declared.request.TurnRequest.TheVariants.{Connect, ConnectionBind, CreatePermission}
use Rattle.turn_client_proto_step_laws.specs.Recv.ClientState.{Protocol}
use Rattle.turn_desk_world_laws.specs.World.Model.{World}
use Rattle.turn_desk_world_laws.specs.World.Runs.{IsRun, IsStep}
use Rattle.turn_desk_event.specs.declared.answer.Answer.{Answer}
use Rattle.turn_desk_event.specs.declared.event.Event.{Event}
use Rattle.turn_desk_progress_laws.specs.Promises.{IsFresh}
use Rattle.turn_desk_progress_laws.specs.Scripts.{Plan}
use Rattle.turn_desk_progress_laws.specs.Joining.{IsHeldBy, IsAtStep, holder_in}
use Rattle.turn_desk_progress_laws.specs.Linked.{Asks, HasLinked, IsOverTcp, IsSigned}
use Rattle.turn_desk_progress_laws.specs.Links.{AskConnect, AskTransmitted, AskPermission, Requested, Answered, Binding, Bound, Called, Clear, DrawBind, DrawConnect, DrawPermission, Transmitted, DrawsEarly, DrawsIdly, Empties, EndBind, Eventful, GiveBind, GiveConnect, GivePermission, GrantBind, GrantConnect, GrantPermission, Held, IsLinkScript, IsTimelyLink, Known, Link, Links, Looks, Off, Opened, Opens, Permitted, Permitting, PollsClear, PollsEarly, PollsIdly, PollsKnown, Reached, Receives, Reported, Unpermitted, Waiting}
use Rattle.turn_desk_progress_laws.proofs.connections.links_lead_on.Goals as goal

module _ (c : goal.After-connections_are_listed) (plan : Plan) (old : World) (fresh : IsFresh plan old) (tcp : IsOverTcp plan) (address : SocketAddr) (lifetime : ℕ) (link : Link) (timely : IsTimelyLink plan lifetime link) where
  -- ---- one event

  module _ (w v : World) (progress next : Reached) (event : Event) (ret : Answer) where
    abbrev At : Reached → Event → Answer → Reached → Type 0
    At from happening r to = IsAtStep plan old address lifetime link from w → IsStep happening w r v → IsAtStep plan old address lifetime link to v

    as_said : (from : Reached) (happening : Event) (r : Answer) (to : Reached) → progress ≡ from → event ≡ happening → ret ≡ r → next ≡ to → At from happening r to → At progress event ret next
    as_said from happening r to one two three four is = λ occurs step.
        subst (λ (n : Reached). IsAtStep plan old address lifetime link n v) (sym four)
        (is (subst (λ (p : Reached). IsAtStep plan old address lifetime link p w) one occurs) (subst (λ (x : Answer). IsStep happening w x v) three (subst (λ (e : Event). IsStep e w ret v) two step)))

    one : Links plan lifetime link progress event ret next → At progress event ret next
    one (AskPermission at is to) = as_said _ _ ret _ at is refl to (λ s step. c.permissions_are_linked.ensures.requested plan old w v address lifetime link ret timely s step)
    one (DrawPermission at is to) = as_said _ _ ret _ at is refl to (λ s step. c.permissions_are_linked.ensures.transmitted plan old w v address lifetime link ret timely s step)
    one (GrantPermission request bytes reply decision seed at same is answer success to) =
        as_said _ _ _ _ at is answer to (λ s step. c.permissions_are_linked.ensures.granted plan old w v address lifetime link request bytes reply decision seed fresh s same success step)
    one (GivePermission request reply head rest bytes at on is to) =
        as_said _ _ ret _ at is refl to (λ s step. c.permissions_are_linked.ensures.given plan old w v address lifetime link ret request reply head rest bytes tcp timely s on step)
    one (AskConnect at is to) = as_said _ _ ret _ at is refl to (λ s step. c.connections_are_linked.ensures.requested plan old w v address lifetime link ret timely s step)
    one (DrawConnect at is to) = as_said _ _ ret _ at is refl to (λ s step. c.connections_are_linked.ensures.transmitted plan old w v address lifetime link ret timely s step)
    one (GrantConnect request bytes reply seed at same is answer success to) =
        as_said _ _ _ _ at is answer to (λ s step. c.connections_are_linked.ensures.granted plan old w v address lifetime link request bytes reply seed fresh s same success step)
    one (GiveConnect request reply head rest bytes at on is to) =
        as_said _ _ ret _ at is refl to (λ s step. c.connections_are_linked.ensures.given plan old w v address lifetime link ret request reply head rest bytes tcp timely s on step)
    one (Empties now at early is to) = as_said _ _ ret _ refl is refl to (λ s step. c.sockets_are_linked.ensures.emptied plan old w v address lifetime link progress ret now at s early step)
    one (PollsKnown now at early is to) = as_said _ _ ret _ refl is refl to (λ s step. c.sockets_are_linked.ensures.polled_known plan old w v address lifetime link progress ret now at s early step)
    one (PollsClear now at early is to) = as_said _ _ ret _ at is refl to (λ s step. c.sockets_are_linked.ensures.polled_clear plan old w v address lifetime link ret now s early step)
    one (Opens number now socket peer at apart early is to) =
        as_said _ _ ret _ at is refl to (λ s step. c.sockets_are_linked.ensures.opened plan old w v address lifetime link ret number now socket peer s apart early step)
    one (DrawBind last now at late early is to) =
        as_said _ _ ret _ at is refl to (λ s step. c.bindings_are_linked.ensures.transmitted plan old w v address lifetime link ret last now s late early step)
    one (GrantBind sent now request bytes reply decision seed at same is answer success to) =
        as_said _ _ _ _ at is answer to (λ s step. c.bindings_are_linked.ensures.granted plan old w v address lifetime link request bytes reply decision seed sent now fresh s same success step)
    one (GiveBind sent now request reply head rest bytes at some parts more early is to) =
        as_said _ _ ret _ at is refl to (λ s step. c.bindings_are_linked.ensures.given plan old w v address lifetime link ret request reply head rest bytes sent now tcp s some parts more early step)
    one (EndBind sent now request reply head more bytes at some parts early is to) =
        as_said _ _ ret _ at is refl to (λ s step. c.bindings_are_linked.ensures.ended plan old w v address lifetime link ret request reply head more bytes sent now tcp s some parts early step)
    one (DrawsIdly now at quiet is to) = as_said _ _ ret _ refl is refl to (λ s step. c.links_idle.ensures.transmitted plan old w v address lifetime link progress now ret timely quiet at s step)
    one (PollsIdly now at quiet is to) = as_said _ _ ret _ refl is refl to (λ s step. c.links_idle.ensures.polled plan old w v address lifetime link progress now ret timely quiet at s step)
    one (DrawsEarly last now at early is to) = as_said _ _ ret _ refl is refl to (λ s step. c.links_idle.ensures.early plan old w v address lifetime link progress last now ret at early s step)
    one (PollsEarly made now at before quiet is to) = as_said _ _ ret _ refl is refl to (λ s step. c.links_idle.ensures.waits plan old w v address lifetime link progress made now ret timely quiet at before s step)
    one (Looks what now look is to) = as_said _ _ ret _ refl is refl to (λ s step. c.links_stand_still.ensures.looks plan old w v address lifetime link progress what now ret s look step)
    one (Receives now at is to) = as_said _ _ ret _ refl is refl to (λ s step. c.links_stand_still.ensures.receives plan old w v address lifetime link progress now ret fresh s at step)

  -- ---- all of them

  all : (w new : World) (progress last : Reached) (pairs : List (Event × Answer)) → IsAtStep plan old address lifetime link progress w → IsRun w pairs new → IsLinkScript plan lifetime link progress pairs last → IsAtStep plan old address lifetime link last new
  unfolding IsRun IsLinkScript
  all w new progress last [] occurs run is = subst (λ (p : Reached). IsAtStep plan old address lifetime link p new) (sym is) (subst (λ (x : World). IsAtStep plan old address lifetime link progress x) (sym run) occurs)
  all w new progress last (pair ∷ pairs) occurs run is = all run.0 new is.0 last pairs (one w run.0 progress is.0 pair.0 pair.1 is.1 occurs run.1) run.2 is.2

  -- ---- what that means

  module _ (new : World) (head : List ℕ) (Is : Holder → List TurnEvent → Protocol → Type 0) (s : IsHeldBy plan old address lifetime link head Is new) where
    abbrev h : Holder
    h = holder_in plan address lifetime s.auth s.standing

    -- What the client signs.
    signed : (what : TurnRequest) (number made : ℕ) (here : SocketAddr) (request : Sent) (m : ℕ) → CanSign h → IsLawfulRequest what → is_signed what ≡ true → number < 2 ^ 96 → request_method what ≡ m → method_of (type_of RequestClass m) ≡ m
        → request ≡ sent_from h here (signed_by h what number made) → IsSigned plan old here m request
    signed what number made here request m can lawful signs fits method is_method is =
        let k = c.holders_can_ask.ensures.signs h what number can lawful signs fits in
        let read = c.proof_requests_are_read.ensures.read h.auth what number can.short lawful fits in
        subst (λ (r : Sent). IsSigned plan old here m r) (sym is) (record {
          transport = refl;
          from = refl;
          to = refl;
          message = k.message;
          request_is = k.request_is;
          method_is = ap method_of read.kind ∙ (ap (λ (x : ℕ). method_of (type_of RequestClass x)) method ∙ is_method);
          algorithm = s.standing.challenge.choice;
          claims = ap (λ (x : Claimed). x.integrity) k.claims;
          right = subst (λ (r : List ℕ). IsRight (signed_by h what number made).bytes (account_key plan.client.config.credentials r s.standing.challenge.choice)) s.of.realm
              (subst (λ (x : NameAndPassword). IsRight (signed_by h what number made).bytes (account_key x s.standing.challenge.realm s.standing.challenge.choice)) s.of.account k.valid);
        })

    asks_so : (what : TurnRequest) (number made : ℕ) (here : SocketAddr) (request : Sent) → CanSign h → IsLawfulRequest what → is_signed what ≡ true → number < 2 ^ 96
        → request ≡ sent_from h here (signed_by h what number made) → CanBeRead what number → Asks what request
    asks_so what number made here request can lawful signs fits is readable =
        let k = c.holders_can_ask.ensures.signs h what number can lawful signs fits in
        subst (λ (r : Sent). Asks what r) (sym is) (k.reported readable ∙ ap (reported_request what) (sym k.number_is))

  promise : (new : World) (progress : Reached) → IsAtStep plan old address lifetime link progress new → HasLinked plan old address link progress new
  promise new Held s = tt
  promise new Requested s = tt
  promise new Unpermitted s = s
  promise new (AskTransmitted request) s =
      let a = s.client.is in
      signed new [] _ s (CreatePermission (socket_ip link.peer ∷ [])) a.number link.requested plan.client.here request create_permission_method a.is.is.signs a.is.lawful refl a.fits refl refl a.is.request_is
  promise new (Permitting request reply head) s = tt
  promise new Permitted s = tt
  promise new Called s = tt
  promise new (Transmitted request) s =
      let a = s.client.is in (
        signed new [] _ s (Connect link.peer) a.number link.made plan.client.here request connect_method a.is.is.signs tt refl a.fits refl refl a.is.request_is,
        λ whole. asks_so new [] _ s (Connect link.peer) a.number link.made plan.client.here request a.is.is.signs tt refl a.fits a.is.request_is
            (c.addresses_are_read_back.ensures a.number link.peer whole.own whole.flow whole.scope),
      )
  promise new (Reported request reply head) s = tt
  promise new Known s = tt
  promise new Clear s = tt
  promise new Eventful s = record { core = s.client.core; there = s.client.there; is = λ none. s.client.is.0 (sym s.client.is.1.events_are ∙ none) }
  promise new (Waiting number socket peer) s = (s.client.is.number_is, s.client.is.socket_is, s.client.is.peer_is)
  promise new (Opened last) s = tt
  promise new (Binding sent request) s =
      let a = s.client.is in (
        signed new [] _ s (ConnectionBind link.number) a.number a.is.made link.local request connection_bind_method a.is.is.signs a.is.lawful refl a.fits refl refl a.is.request_is,
        asks_so new [] _ s (ConnectionBind link.number) a.number a.is.made link.local request a.is.is.signs a.is.lawful refl a.fits a.is.request_is tt,
      )
  promise new (Answered sent request reply head) s = tt
  promise new (Bound more) s = record { core = s.client.core; there = s.client.there; is = c.connections_are_listed.ensures.visible _ _ _ _ _ _ _ _ _ _ s.client.is.is }
  promise new Off s = s

pub returns-clause-occurs : goal.returns-clause-occurs
returns-clause-occurs c = λ plan old w new address lifetime link progress last pairs fresh tcp timely is run script.
    all c plan old fresh tcp address lifetime link timely w new progress last pairs is run script

pub returns-clause-promised : goal.returns-clause-promised
returns-clause-promised c = λ plan old w address lifetime link progress fresh tcp timely is. promise c plan old fresh tcp address lifetime link timely w progress is
