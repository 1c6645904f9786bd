use Rattle.std.proofs.Common.{◌≡◌, ◌≤◌, ◌++◌, ◌^◌, ℕ, List, [], ◌∷◌, Some, None, ap, arith, refl, ◌∙◌, subst, append-nil}
use Rattle.std.specs.Prelude.{Err, Vec}
use Rattle.std.specs.Net.Socket.{socket_ip}
use Rattle.std.specs.declared.alloc.Global.{Global}
use Rattle.std.specs.declared.net.socket_addr.SocketAddr.{SocketAddr}
use Rattle.turn_desk_core.specs.StunTypesWire.Types.{method_of}
use Rattle.turn_desk_core.specs.StunTypesBase.declared.transport.TransportType.TheVariants.{Tcp}
use Rattle.turn_desk_core.specs.TurnTypesAttributes.TurnRegistry.{connect_method}
use Rattle.turn_client_proto_api.specs.declared.event.TurnEvent.{TurnEvent}
use Rattle.turn_client_proto_handshake_laws.specs.Coming.{IsPartOf}
use Rattle.turn_client_proto_api.specs.Sent.{Sent, sent_of}
use Rattle.turn_client_proto_progress_laws.specs.Free.{CanConnect, CanPermit}
use Rattle.turn_client_proto_progress_laws.specs.Holders.{Holder, queued_from, sent_from}
use Rattle.turn_client_proto_progress_laws.specs.TcpBinding.{HasRequestedConnect, HasLearned, connect_request, connecting_to}
use Rattle.turn_client_proto_messages.specs.TurnRuns.Indications.{is_indication}
use Rattle.turn_client_proto_messages.specs.declared.request.TurnRequest.TheVariants.{Connect}
use Rattle.turn_client_proto_progress_laws.proofs.TcpBinding.Same.{family_of_peer}
use Rattle.turn_desk_world_laws.specs.World.Calls.{IsTransmittedAs, IsConnectReported}
use Rattle.turn_desk_world_laws.specs.World.Desks.{words_of}
use Rattle.turn_client_proto_step_laws.specs.Recv.ClientState.{Protocol}
use Rattle.turn_desk_world_laws.specs.World.Model.{World}
use Rattle.turn_desk_world_laws.specs.World.Runs.{IsStep}
use Rattle.turn_desk_event.specs.declared.answer.Answer.{Answer}
use Rattle.turn_desk_event.specs.declared.answer.Answer.TheVariants as answer
use Rattle.turn_desk_event.specs.declared.answer.Refusal.TheVariants.{TcpConnect as ConnectRefused}
use Rattle.turn_desk_core.specs.declared.decision.Decision.TheVariants as by
use Rattle.turn_desk_event.specs.declared.event.ClientCall.TheVariants as call
use Rattle.turn_desk_event.specs.declared.event.Event.TheVariants.{Call, Draw, ToClient, ToDesk}
use Rattle.turn_desk_progress_laws.specs.Promises.{IsFresh, control_at, over}
use Rattle.turn_desk_progress_laws.specs.Scripts.{BringsOn, Plan}
use Rattle.turn_desk_progress_laws.proofs.Clients.{draws}
use Rattle.turn_desk_progress_laws.proofs.Indexes.{same_sent}
use Rattle.turn_desk_progress_laws.specs.Joining.{IsTransmittedFor, IsPermitted, IsReported, OfNumber, IsAtStep, holder_in, permitted_in}
use Rattle.turn_desk_progress_laws.specs.Linked.{IsOverTcp}
use Rattle.turn_desk_progress_laws.specs.Links.{Called, Transmitted, IsSuccess, IsTimelyLink, Link, Off, Permitted, Reported, called, transmitted, brought_reply}
use Rattle.turn_desk_progress_laws.proofs.Successes.{IsMethod, shows_number}
use Rattle.turn_desk_progress_laws.proofs.Granting.{answered, message_so, part_so, stays_so, success_so}
use Rattle.turn_desk_progress_laws.proofs.Worlds.{DoHold, connect_called, processed_on, stored_on, moves, served_on}
use Rattle.turn_desk_progress_laws.proofs.connections.connections_are_linked.Goals as goal

module _ (c : goal.After-messages_reach_holders) (plan : Plan) (old w v : World) (address : SocketAddr) (lifetime : ℕ) (link : Link) where
  -- ---- it is requested for

  module _ (timely : IsTimelyLink plan lifetime link) (s : IsAtStep plan old address lifetime link Permitted w) where
    abbrev h : Holder
    h = holder_in plan address lifetime s.auth s.standing

    early : link.made ≤ 2 ^ 62
    early = let d = timely.called in let e = timely.in_range in omega (arith, d, e)

    -- There is no reason to refuse the call.
    can_connect : CanPermit h (socket_ip link.peer) link.requested → CanConnect h (socket_ip link.peer) link.peer link.made
    can_connect was = record {
      family = family_of_peer link.peer ∙ was.family;
      own = refl;
      before = (let d = timely.before_refresh in omega (arith, d));
    }

    requested_by : (ret : Answer) (core : Protocol) → v.client ≡ Some (over (control_at plan.client.transport []) core) → v.desk ≡ w.desk → IsConnectReported ret link.peer s.client.core link.made core
        → IsAtStep plan old address lifetime link (called ret Called Off) v
    requested_by answer.Done core there same is =
        let a = c.connections_are_requested_for.ensures.requested h (socket_ip link.peer) link.granted link.granted s.events s.client.core core link.peer link.made s.client.is.is is in
        moves plan old w v address lifetime link [] [] (λ h events p. IsPermitted link h events p)
        (λ h events p. OfNumber (λ number. HasRequestedConnect h (permitted_in link) link.peer number link.made link.granted events p)) s same core there s.events
        (record { number = a.0; fits = a.1; is = a.2 })
    requested_by (answer.Refused (ConnectRefused error)) core there same is =
        let both = c.connections_are_requested_for.ensures.answered h (socket_ip link.peer) link.granted link.granted s.events s.client.core core link.peer link.made (Err error) s.client.is.is is.0 (λ none. is.1 (Prim.cc none)) in
        Prim.cc (both.1 (can_connect s.client.is.could))
    requested_by _ core there same is = absurd is

    asks : (ret : Answer) → IsStep (Call (call.TcpConnect link.peer) link.made) w ret v → IsAtStep plan old address lifetime link (called ret Called Off) v
    asks ret step =
        let on = connect_called (control_at plan.client.transport []) w v s.client.core link.made ret s.client.there early link.peer step in
        requested_by ret on.core on.there on.desk on.reported

  -- ---- its request is transmitted

  module _ (timely : IsTimelyLink plan lifetime link) (s : IsAtStep plan old address lifetime link Called w) where
    abbrev n : ℕ
    n = s.client.is.number

    abbrev holder : Holder
    holder = holder_in plan address lifetime s.auth s.standing

    transmitted_by : (ret : Answer) (core : Protocol) → v.client ≡ Some (over (control_at plan.client.transport []) core) → v.desk ≡ w.desk → IsTransmittedAs ret s.client.core link.first core
        → IsAtStep plan old address lifetime link (transmitted ret (λ request. Transmitted request)) v
    unfolding IsTransmittedAs
    transmitted_by (answer.Transmit sent) core there same is =
        let a = c.holders_rest.ensures.sends holder (Some (connect_request holder link.peer n link.made)) [] (connecting_to holder (permitted_in link) link.peer n)
        (queued_from plan.client.here (connect_request holder link.peer n link.made)) [] link.granted s.events s.client.core core link.first (Some (sent_of sent)) s.client.is.is timely.apart is in
        moves plan old w v address lifetime link [] [] (λ h events p. OfNumber (λ number. HasRequestedConnect h (permitted_in link) link.peer number link.made link.granted events p))
        (λ h events p. OfNumber (λ number. IsTransmittedFor link (sent_of sent) h events p number)) s same core there s.events
        (record {
          number = n;
          fits = s.client.is.fits;
          is = record {
            request_is = same_sent (sent_of sent) (sent_from holder plan.client.here (connect_request holder link.peer n link.made)) a.0;
            is = a.1;
          };
        })
    transmitted_by answer.Nothing core there same is =
        let a = c.holders_rest.ensures.sends holder (Some (connect_request holder link.peer n link.made)) [] (connecting_to holder (permitted_in link) link.peer n)
        (queued_from plan.client.here (connect_request holder link.peer n link.made)) [] link.granted s.events s.client.core core link.first None s.client.is.is timely.apart is in
        absurd (Prim.cc a.0)
    transmitted_by _ core there same is = absurd is

    draws_it : (ret : Answer) → IsStep (Draw link.first) w ret v → IsAtStep plan old address lifetime link (transmitted ret (λ request. Transmitted request)) v
    draws_it ret step =
        let d = draws (control_at plan.client.transport []) w v s.client.core link.first ret s.client.there timely.in_range step in
        transmitted_by ret d.core d.there d.desk d.transmitted

  -- ---- it is granted

  module _ (fresh : IsFresh plan old) (request : Sent) (s : IsAtStep plan old address lifetime link (Transmitted request) w) where
    abbrev k : Holder
    k = holder_in plan address lifetime s.auth s.standing

    abbrev text : List ℕ
    text = (connect_request k link.peer s.client.is.number link.made).bytes

    granted_it : (bytes reply : Vec ℕ Global) (seed : List ℕ) → bytes.items ≡ request.bytes → IsSuccess reply.items
        → IsStep (ToDesk bytes request.from link.first (by.Connect link.number) seed) w (answer.Reply reply) v → IsAtStep plan old address lifetime link (Reported request reply.items []) v
    granted_it bytes reply seed same success step =
        let what = Connect link.peer in
        let a = s.client.is in
        let can = a.is.is.signs in
        let signed = c.holders_can_ask.ensures.signs k what a.number can tt refl a.fits in
        let read = c.proof_requests_are_read.ensures.read k.auth what a.number can.short tt a.fits in
        let is_method : IsMethod connect_method = record { error = refl; success = refl; method = refl } in
        let same_text : bytes.items ≡ text = same ∙ ap (λ (r : Sent). r.bytes) a.is.request_is in
        let Was = λ (h : Holder) (events : List TurnEvent) (p : Protocol). OfNumber (λ number. IsTransmittedFor link request h events p number) in
        let answer_is = answered plan old w v address lifetime link [] Was s fresh what a.number text signed connect_method is_method (ap method_of read.kind) bytes reply same_text request.from link.first (by.Connect link.number) seed success step in
        let on = served_on w v bytes reply request.from link.first (by.Connect link.number) seed (answer.Reply reply) refl step in
        stays_so plan old w v address lifetime link [] Was s fresh what a.number text signed connect_method is_method (ap method_of read.kind) bytes reply same_text request.from link.first (by.Connect link.number) seed success step
        (λ h events p. OfNumber (λ number. IsReported link request reply.items [] h events p number))
        (record {
          number = a.number;
          fits = a.fits;
          is = record {
            transmitted = a.is;
            message = message_so plan old w v address lifetime link [] Was s fresh what a.number text signed connect_method is_method (ap method_of read.kind) bytes reply same_text request.from link.first (by.Connect link.number) seed success step;
            success = success_so plan old w v address lifetime link [] Was s fresh what a.number text signed connect_method is_method (ap method_of read.kind) bytes reply same_text request.from link.first (by.Connect link.number) seed success step;
            reported = c.messages_are_reported_alike.ensures.connection reply.items ∙ shows_number w.desk v.desk request.from text reply.items link.first (words_of seed) link.number connect_method is_method (ap method_of read.kind) answer_is success on.four_bytes;
            part = part_so plan old w v address lifetime link [] Was s fresh what a.number text signed connect_method is_method (ap method_of read.kind) bytes reply same_text request.from link.first (by.Connect link.number) seed success step;
          };
        })

  -- ---- it is returned

  module _ (tcp : IsOverTcp plan) (timely : IsTimelyLink plan lifetime link) (request : Sent) (reply head : List ℕ) (s : IsAtStep plan old address lifetime link (Reported request reply head) w) where
    abbrev g : Holder
    g = holder_in plan address lifetime s.auth s.standing

    abbrev asking : IsReported link request reply head g s.events s.client.core s.client.is.number
    asking = s.client.is.is

    reach : DoHold
    reach = record { chunk = c.messages_reach_holders.ensures.chunk; whole = c.messages_reach_holders.ensures.whole }

    own_step : (bytes : Vec ℕ Global) (ret : Answer) → IsStep (ToClient bytes request.to request.from link.first) w ret v → IsStep (ToClient bytes plan.client.server plan.client.here link.first) w ret v
    own_step bytes ret step = subst (λ (r : Sent). IsStep (ToClient bytes r.to r.from link.first) w ret v) asking.transmitted.request_is step

    gives : (ret : Answer) (bytes : Vec ℕ Global) (rest : List ℕ) → BringsOn Tcp reply head bytes.items rest → IsStep (ToClient bytes request.to request.from link.first) w ret v
        → IsAtStep plan old address lifetime link (brought_reply request reply (head ++ bytes.items) rest) v
    gives ret bytes [] on step =
        let all : reply ≡ head ++ bytes.items = on.1 ∙ append-nil (head ++ bytes.items) in
        let processed = processed_on reach plan.client tcp.over w v s.client.core asking.transmitted.is.settings head s.client.there bytes link.first ret timely.in_range on.0 (own_step bytes ret step) reply all asking.message (ap is_indication asking.success.success) in
        let learned = c.connections_are_requested_for.ensures.learned g (permitted_in link) link.peer s.client.is.number link.made link.first link.number s.events s.client.core processed.core reply link.first processed.handled (refl, tt) asking.transmitted.is asking.success asking.reported processed.processed in
        moves plan old w v address lifetime link head [] (λ h events p. OfNumber (λ number. IsReported link request reply head h events p number)) (λ h events p. HasLearned h (permitted_in link) link.number link.peer link.first events p)
        s processed.desk processed.core processed.there s.events learned.1
    gives ret bytes (byte ∷ rest) on step =
        let part : IsPartOf (head ++ bytes.items) reply = record { is_message = asking.message; rest = byte ∷ rest; parts = on.1; more = λ none. Prim.cc none } in
        let stored = stored_on reach plan.client tcp.over w v s.client.core asking.transmitted.is.settings head s.client.there bytes link.first ret timely.in_range on.0 (own_step bytes ret step) reply part in
        moves plan old w v address lifetime link head (head ++ bytes.items) (λ h events p. OfNumber (λ number. IsReported link request reply head h events p number))
        (λ h events p. OfNumber (λ number. IsReported link request reply (head ++ bytes.items) h events p number)) s stored.1 s.client.core stored.0 s.events
        (record { number = s.client.is.number; fits = s.client.is.fits; is = record { transmitted = asking.transmitted; message = asking.message; success = asking.success; reported = asking.reported; part = part } })

pub returns-clause-requested : goal.returns-clause-requested
returns-clause-requested c = λ plan old w v address lifetime link ret timely s step. asks c plan old w v address lifetime link timely s ret step

pub returns-clause-transmitted : goal.returns-clause-transmitted
returns-clause-transmitted c = λ plan old w v address lifetime link ret timely s step. draws_it c plan old w v address lifetime link timely s ret step

pub returns-clause-granted : goal.returns-clause-granted
returns-clause-granted c = λ plan old w v address lifetime link request bytes reply seed fresh s same success step.
    granted_it c plan old w v address lifetime link fresh request s bytes reply seed same success step

pub returns-clause-given : goal.returns-clause-given
returns-clause-given c = λ plan old w v address lifetime link ret request reply head rest bytes tcp timely s on step.
    gives c plan old w v address lifetime link tcp timely request reply head s ret bytes rest on step
