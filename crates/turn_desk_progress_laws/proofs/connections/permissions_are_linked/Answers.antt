use Rattle.std.proofs.Common.{◌≡◌, ◌≤◌, ◌++◌, ◌^◌, ℕ, List, [], ◌∷◌, Some, None, ap, arith, refl, sym, ◌∙◌, subst, append-nil}
use Rattle.std.specs.Prelude.{Ok, Err, Vec}
use Rattle.std.specs.Net.Socket.{socket_ip}
use Rattle.std.specs.declared.alloc.Global.{Global}
use Rattle.std.specs.declared.net.socket_addr.SocketAddr.{SocketAddr}
use Rattle.turn_desk_core.specs.StunTypesBase.Family.{family_of_socket}
use Rattle.turn_desk_core.specs.StunTypesWire.Types.{method_of}
use Rattle.turn_desk_core.specs.StunTypesBase.declared.transport.TransportType.TheVariants.{Tcp}
use Rattle.turn_desk_core.specs.TurnTypesAttributes.TurnRegistry.{create_permission_method}
use Rattle.turn_client_proto_api.specs.declared.event.TurnEvent.{TurnEvent}
use Rattle.turn_client_proto_api.specs.declared.event.TurnEvent.TheVariants.{PermissionCreated}
use Rattle.turn_client_proto_handshake_laws.specs.Coming.{IsPartOf}
use Rattle.turn_client_proto_api.specs.Sent.{Sent, sent_of}
use Rattle.turn_client_proto_progress_laws.specs.Free.{CanPermit}
use Rattle.turn_client_proto_progress_laws.specs.Holders.{Holder, queued_from, sent_from}
use Rattle.turn_client_proto_progress_laws.specs.TcpBinding.{IsHolding, permission_request, permitting}
use Rattle.turn_client_proto_messages.specs.TurnRuns.Indications.{is_indication}
use Rattle.turn_client_proto_messages.specs.declared.request.TurnRequest.TheVariants.{CreatePermission}
use Rattle.turn_client_proto_progress_laws.proofs.TcpBinding.Same.{family_of_peer}
use Rattle.turn_desk_world_laws.specs.World.Calls.{IsTransmittedAs, IsPermissionReported}
use Rattle.turn_client_proto_step_laws.specs.Recv.ClientState.{Protocol}
use Rattle.turn_desk_world_laws.specs.World.Model.{World}
use Rattle.turn_desk_world_laws.specs.World.Runs.{IsStep}
use Rattle.turn_desk_event.specs.declared.answer.Answer.{Answer}
use Rattle.turn_desk_event.specs.declared.answer.Answer.TheVariants as answer
use Rattle.turn_desk_event.specs.declared.answer.Refusal.TheVariants.{CreatePermission as PermissionRefused}
use Rattle.turn_desk_core.specs.declared.decision.Decision.{Decision}
use Rattle.turn_desk_event.specs.declared.event.ClientCall.TheVariants as call
use Rattle.turn_desk_event.specs.declared.event.Event.TheVariants.{Call, Draw, ToClient, ToDesk}
use Rattle.turn_desk_progress_laws.specs.Promises.{IsFresh, control_at, over}
use Rattle.turn_desk_progress_laws.specs.Scripts.{BringsOn, Plan}
use Rattle.turn_desk_progress_laws.proofs.Clients.{draws}
use Rattle.turn_desk_progress_laws.proofs.Indexes.{same_sent}
use Rattle.turn_desk_progress_laws.specs.Joining.{IsAskTransmitted, IsRequested, IsPermitted, IsPermitting, OfNumber, IsAtStep, holder_in}
use Rattle.turn_desk_progress_laws.specs.Linked.{IsOverTcp}
use Rattle.turn_desk_progress_laws.specs.Links.{AskTransmitted, Requested, Held, IsSuccess, IsTimelyLink, Link, Permitting, Unpermitted, called, transmitted, permitted_by}
use Rattle.turn_desk_progress_laws.proofs.Granting.{message_so, part_so, stays_so, success_so}
use Rattle.turn_desk_progress_laws.proofs.Successes.{IsMethod}
use Rattle.turn_desk_progress_laws.proofs.Worlds.{DoHold, processed_on, stored_on, moves, permission_called}
use Rattle.turn_desk_progress_laws.proofs.connections.permissions_are_linked.Goals as goal

module _ (c : goal.After-messages_reach_holders) (plan : Plan) (old w v : World) (address : SocketAddr) (lifetime : ℕ) (link : Link) where
  -- ---- it is requested for

  module _ (timely : IsTimelyLink plan lifetime link) (s : IsAtStep plan old address lifetime link Held w) where
    abbrev h : Holder
    h = holder_in plan address lifetime s.auth s.standing

    early : link.requested ≤ 2 ^ 62
    early = let a = timely.requested in let b = timely.following in let d = timely.called in let e = timely.in_range in omega (arith, a, b, d, e)

    -- The one reason to refuse the call.
    other_family : (same : family_of_socket link.peer ≡ family_of_socket address) → CanPermit h (socket_ip link.peer) link.requested
    other_family same = record {
      family = sym (family_of_peer link.peer) ∙ same;
      before = (let a = timely.requested in let b = timely.following in let d = timely.before_refresh in omega (arith, a, b, d));
    }

    requested_by : (ret : Answer) (core : Protocol) → v.client ≡ Some (over (control_at plan.client.transport []) core) → v.desk ≡ w.desk → IsPermissionReported ret Tcp (socket_ip link.peer) s.client.core link.requested core
        → IsAtStep plan old address lifetime link (called ret Requested Unpermitted) v
    requested_by answer.Done core there same is =
        let both = c.permissions_are_requested_for.ensures.answered h plan.second s.events s.client.core core (socket_ip link.peer) link.requested (Ok tt) s.client.is is (λ none. Prim.cc none) in
        let a = c.permissions_are_requested_for.ensures.requested h plan.second s.events s.client.core core (socket_ip link.peer) link.requested s.client.is is in
        moves plan old w v address lifetime link [] [] (λ h events p. IsHolding h plan.second events p) (λ h events p. OfNumber (λ number. IsRequested link plan.second h events p number)) s same core there s.events
        (record { number = a.0; fits = a.1; is = record { lawful = a.2; could = both.0 refl; is = a.3 } })
    requested_by (answer.Refused (PermissionRefused error)) core there same is =
        let both = c.permissions_are_requested_for.ensures.answered h plan.second s.events s.client.core core (socket_ip link.peer) link.requested (Err error) s.client.is is.0 (λ none. is.1 (Prim.cc none)) in
        λ own. Prim.cc (both.1 (other_family own))
    requested_by _ core there same is = absurd is

    asks : (ret : Answer) → IsStep (Call (call.CreatePermission Tcp (socket_ip link.peer)) link.requested) w ret v → IsAtStep plan old address lifetime link (called ret Requested Unpermitted) v
    asks ret step =
        let on = permission_called (control_at plan.client.transport []) w v s.client.core link.requested ret s.client.there early Tcp (socket_ip link.peer) step in
        requested_by ret on.core on.there on.desk on.reported

  -- ---- its request is transmitted

  module _ (timely : IsTimelyLink plan lifetime link) (s : IsAtStep plan old address lifetime link Requested w) where
    transmitted_early : link.granted ≤ 2 ^ 62
    transmitted_early = let b = timely.following in let d = timely.called in let e = timely.in_range in omega (arith, b, d, e)

    abbrev n : ℕ
    n = s.client.is.number

    abbrev holder : Holder
    holder = holder_in plan address lifetime s.auth s.standing

    transmitted_by : (ret : Answer) (core : Protocol) → v.client ≡ Some (over (control_at plan.client.transport []) core) → v.desk ≡ w.desk → IsTransmittedAs ret s.client.core link.granted core
        → IsAtStep plan old address lifetime link (transmitted ret (λ request. AskTransmitted request)) v
    unfolding IsTransmittedAs
    transmitted_by (answer.Transmit sent) core there same is =
        let a = c.holders_rest.ensures.sends holder (Some (permission_request holder (socket_ip link.peer) n link.requested)) [] (permitting holder (socket_ip link.peer) n)
        (queued_from plan.client.here (permission_request holder (socket_ip link.peer) n link.requested)) [] plan.second s.events s.client.core core link.granted (Some (sent_of sent)) s.client.is.is.is timely.permitted is in
        moves plan old w v address lifetime link [] [] (λ h events p. OfNumber (λ number. IsRequested link plan.second h events p number)) (λ h events p. OfNumber (λ number. IsAskTransmitted link (sent_of sent) h events p number)) s same core there s.events
        (record {
          number = n;
          fits = s.client.is.fits;
          is = record {
            lawful = s.client.is.is.lawful;
            could = s.client.is.is.could;
            request_is = same_sent (sent_of sent) (sent_from holder plan.client.here (permission_request holder (socket_ip link.peer) n link.requested)) a.0;
            is = a.1;
          };
        })
    transmitted_by answer.Nothing core there same is =
        let a = c.holders_rest.ensures.sends holder (Some (permission_request holder (socket_ip link.peer) n link.requested)) [] (permitting holder (socket_ip link.peer) n)
        (queued_from plan.client.here (permission_request holder (socket_ip link.peer) n link.requested)) [] plan.second s.events s.client.core core link.granted None s.client.is.is.is timely.permitted is in
        absurd (Prim.cc a.0)
    transmitted_by _ core there same is = absurd is

    draws_it : (ret : Answer) → IsStep (Draw link.granted) w ret v → IsAtStep plan old address lifetime link (transmitted ret (λ request. AskTransmitted request)) v
    draws_it ret step =
        let d = draws (control_at plan.client.transport []) w v s.client.core link.granted ret s.client.there transmitted_early step in
        transmitted_by ret d.core d.there d.desk d.transmitted

  -- ---- it is granted

  module _ (fresh : IsFresh plan old) (request : Sent) (s : IsAtStep plan old address lifetime link (AskTransmitted request) w) where
    abbrev k : Holder
    k = holder_in plan address lifetime s.auth s.standing

    abbrev text : List ℕ
    text = (permission_request k (socket_ip link.peer) s.client.is.number link.requested).bytes

    granted_it : (bytes reply : Vec ℕ Global) (decision : Decision) (seed : List ℕ) → bytes.items ≡ request.bytes → IsSuccess reply.items
        → IsStep (ToDesk bytes request.from link.granted decision seed) w (answer.Reply reply) v → IsAtStep plan old address lifetime link (Permitting request reply.items []) v
    granted_it bytes reply decision seed same success step =
        let what = CreatePermission (socket_ip link.peer ∷ []) in
        let a = s.client.is in
        let can = a.is.is.signs in
        let signed = c.holders_can_ask.ensures.signs k what a.number can a.is.lawful refl a.fits in
        let read = c.proof_requests_are_read.ensures.read k.auth what a.number can.short a.is.lawful a.fits in
        let is_method : IsMethod create_permission_method = record { error = refl; success = refl; method = refl } in
        let same_text : bytes.items ≡ text = same ∙ ap (λ (r : Sent). r.bytes) a.is.request_is in
        let Was = λ (h : Holder) (events : List TurnEvent) (p : Protocol). OfNumber (λ number. IsAskTransmitted link request h events p number) in
        let all = success_so plan old w v address lifetime link [] Was s fresh what a.number text signed create_permission_method is_method (ap method_of read.kind) bytes reply same_text request.from link.granted decision seed success step in
        stays_so plan old w v address lifetime link [] Was s fresh what a.number text signed create_permission_method is_method (ap method_of read.kind) bytes reply same_text request.from link.granted decision seed success step
        (λ h events p. OfNumber (λ number. IsPermitting link request reply.items [] h events p number))
        (record {
          number = a.number;
          fits = a.fits;
          is = record {
            transmitted = a.is;
            message = message_so plan old w v address lifetime link [] Was s fresh what a.number text signed create_permission_method is_method (ap method_of read.kind) bytes reply same_text request.from link.granted decision seed success step;
            success = all;
            part = part_so plan old w v address lifetime link [] Was s fresh what a.number text signed create_permission_method is_method (ap method_of read.kind) bytes reply same_text request.from link.granted decision seed success step;
          };
        })

  -- ---- it is returned

  module _ (tcp : IsOverTcp plan) (timely : IsTimelyLink plan lifetime link) (request : Sent) (reply head : List ℕ) (s : IsAtStep plan old address lifetime link (Permitting request reply head) w) where
    abbrev g : Holder
    g = holder_in plan address lifetime s.auth s.standing

    abbrev asking : IsPermitting link request reply head g s.events s.client.core s.client.is.number
    asking = s.client.is.is

    reach : DoHold
    reach = record { chunk = c.messages_reach_holders.ensures.chunk; whole = c.messages_reach_holders.ensures.whole }

    given_early : link.granted ≤ 2 ^ 62
    given_early = let b = timely.following in let d = timely.called in let e = timely.in_range in omega (arith, b, d, e)

    own_step : (bytes : Vec ℕ Global) (ret : Answer) → IsStep (ToClient bytes request.to request.from link.granted) w ret v → IsStep (ToClient bytes plan.client.server plan.client.here link.granted) w ret v
    own_step bytes ret step = subst (λ (r : Sent). IsStep (ToClient bytes r.to r.from link.granted) w ret v) asking.transmitted.request_is step

    gives : (ret : Answer) (bytes : Vec ℕ Global) (rest : List ℕ) → BringsOn Tcp reply head bytes.items rest → IsStep (ToClient bytes request.to request.from link.granted) w ret v
        → IsAtStep plan old address lifetime link (permitted_by request reply (head ++ bytes.items) rest) v
    gives ret bytes [] on step =
        let all : reply ≡ head ++ bytes.items = on.1 ∙ append-nil (head ++ bytes.items) in
        let processed = processed_on reach plan.client tcp.over w v s.client.core asking.transmitted.is.settings head s.client.there bytes link.granted ret given_early on.0 (own_step bytes ret step) reply all asking.message (ap is_indication asking.success.success) in
        let ready = c.permissions_are_requested_for.ensures.granted g (socket_ip link.peer) s.client.is.number link.requested link.granted s.events s.client.core processed.core reply link.granted processed.handled asking.transmitted.is asking.success processed.processed in
        moves plan old w v address lifetime link head [] (λ h events p. OfNumber (λ number. IsPermitting link request reply head h events p number)) (λ h events p. IsPermitted link h events p)
        s processed.desk processed.core processed.there (s.events ++ PermissionCreated Tcp (socket_ip link.peer) ∷ []) (record { could = asking.transmitted.could; is = ready.1 })
    gives ret bytes (byte ∷ rest) on step =
        let part : IsPartOf (head ++ bytes.items) reply = record { is_message = asking.message; rest = byte ∷ rest; parts = on.1; more = λ none. Prim.cc none } in
        let stored = stored_on reach plan.client tcp.over w v s.client.core asking.transmitted.is.settings head s.client.there bytes link.granted ret given_early on.0 (own_step bytes ret step) reply part in
        moves plan old w v address lifetime link head (head ++ bytes.items) (λ h events p. OfNumber (λ number. IsPermitting link request reply head h events p number))
        (λ h events p. OfNumber (λ number. IsPermitting link request reply (head ++ bytes.items) h events p number)) s stored.1 s.client.core stored.0 s.events
        (record { number = s.client.is.number; fits = s.client.is.fits; is = record { transmitted = asking.transmitted; message = asking.message; success = asking.success; part = part } })

pub returns-clause-requested : goal.returns-clause-requested
returns-clause-requested c = λ plan old w v address lifetime link ret timely s step. asks c plan old w v address lifetime link timely s ret step

pub returns-clause-transmitted : goal.returns-clause-transmitted
returns-clause-transmitted c = λ plan old w v address lifetime link ret timely s step. draws_it c plan old w v address lifetime link timely s ret step

pub returns-clause-granted : goal.returns-clause-granted
returns-clause-granted c = λ plan old w v address lifetime link request bytes reply decision seed fresh s same success step.
    granted_it c plan old w v address lifetime link fresh request s bytes reply decision seed same success step

pub returns-clause-given : goal.returns-clause-given
returns-clause-given c = λ plan old w v address lifetime link ret request reply head rest bytes tcp timely s on step.
    gives c plan old w v address lifetime link tcp timely request reply head s ret bytes rest on step
