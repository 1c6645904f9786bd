use Rattle.std.proofs.Common.{◌≡◌, ◌≢◌, ◌≤◌, ◌++◌, ℕ, List, [], ◌∷◌, Some, None, ap, refl, sym, ◌∙◌, subst, inl, inr}
use Rattle.std.specs.Prelude.{Vec}
use Rattle.std.specs.Borrow.{Bor}
use Rattle.std.specs.declared.alloc.Global.{Global}
use Rattle.std.specs.declared.net.socket_addr.SocketAddr.{SocketAddr}
use Rattle.turn_desk_core.specs.StunTypesWire.Types.{method_of}
use Rattle.turn_desk_core.specs.StunTypesBase.Times.{time_after}
use Rattle.turn_desk_core.specs.TurnTypesAttributes.TurnRegistry.{connection_bind_method}
use Rattle.turn_client_proto_api.specs.declared.answer.TurnRecvRet.{TurnRecvRet}
use Rattle.turn_client_proto_api.specs.declared.answer.TurnRecvRet.TheVariants as recv
use Rattle.turn_client_proto_api.specs.declared.event.TurnEvent.{TurnEvent}
use Rattle.turn_client_proto_api.specs.declared.event.TurnEvent.TheVariants.{TcpConnected}
use Rattle.turn_client_proto_handshake_laws.specs.Coming.{HasCome, IsPartOf}
use Rattle.turn_client_proto_api.specs.Sent.{Sent, sent_of}
use Rattle.turn_client_proto_handshake_laws.specs.Driving.{client_end}
use Rattle.turn_client_proto_progress_laws.specs.Holders.{Holder, queued_from, sent_from}
use Rattle.turn_client_proto_progress_laws.specs.TcpBinding.{HasSentBind, allocation_of, bind_request, joining}
use Rattle.turn_client_proto_progress_laws.specs.Overs.{IsFromServerTo}
use Rattle.turn_client_proto_messages.specs.Api.Options.{cadence}
use Rattle.turn_client_proto_messages.specs.declared.request.TurnRequest.TheVariants.{ConnectionBind}
use Rattle.turn_desk_world_laws.specs.World.Calls.{IsTransmittedAs, IsReported}
use Rattle.turn_client_proto_step_laws.specs.Recv.Control.{Control}
use Rattle.turn_client_proto_step_laws.specs.Recv.ClientState.{Protocol}
use Rattle.turn_desk_world_laws.specs.World.Model.{World}
use Rattle.turn_desk_world_laws.specs.World.Runs.{IsStep}
use Rattle.turn_desk_event.specs.declared.answer.Answer.{Answer}
use Rattle.turn_desk_event.specs.declared.answer.Answer.TheVariants as answer
use Rattle.turn_desk_core.specs.declared.decision.Decision.{Decision}
use Rattle.turn_desk_event.specs.declared.event.Event.TheVariants.{Draw, ToClient, ToDesk}
use Rattle.turn_desk_progress_laws.specs.Promises.{IsFresh, control_at, over}
use Rattle.turn_desk_progress_laws.specs.Scripts.{Plan}
use Rattle.turn_desk_progress_laws.proofs.Clients.{draws, stays}
use Rattle.turn_desk_progress_laws.proofs.Indexes.{same_sent}
use Rattle.turn_desk_progress_laws.specs.Joining.{IsAnswered, IsBinding, IsEnd, IsOpened, OfNumber, IsAtStep, holder_in, permitted_in}
use Rattle.turn_desk_progress_laws.specs.Linked.{IsOverTcp}
use Rattle.turn_desk_progress_laws.specs.Links.{Answered, Binding, Bound, IsSuccess, Link, Opened, transmitted}
use Rattle.turn_desk_progress_laws.proofs.Granting.{message_so, part_so, stays_so, success_so}
use Rattle.turn_desk_progress_laws.proofs.Successes.{IsMethod}
use Rattle.turn_desk_progress_laws.proofs.Worlds.{IsFedOn, fed_on, moves, open_at}
use Rattle.turn_desk_progress_laws.proofs.connections.bindings_are_linked.Goals as goal

module _ (c : goal.After-messages_reach_sockets) (plan : Plan) (old w v : World) (address : SocketAddr) (lifetime : ℕ) (link : Link) where
  -- ---- the CONNECTION_BIND is transmitted

  module _ (last now : ℕ) (s : IsAtStep plan old address lifetime link (Opened last) w) (late : time_after last cadence ≤ now) where
    abbrev h : Holder
    h = holder_in plan address lifetime s.auth s.standing

    abbrev o : IsOpened link last h s.events s.client.core s.client.is.number
    o = s.client.is.is

    abbrev n : ℕ
    n = s.client.is.number

    transmitted_by : (ret : Answer) (core : Protocol) → v.client ≡ Some (over (control_at plan.client.transport []) core) → v.desk ≡ w.desk → IsTransmittedAs ret s.client.core now core
        → IsAtStep plan old address lifetime link (transmitted ret (λ request. Binding now request)) v
    unfolding IsTransmittedAs
    transmitted_by (answer.Transmit sent) core there same is =
        let a = c.holders_rest.ensures.sends h (Some (bind_request h link.number n o.made)) o.older (allocation_of h (permitted_in link) (joining link.local link.peer link.number n o.made []))
        (queued_from link.local (bind_request h link.number n o.made)) [] last s.events s.client.core core now (Some (sent_of sent)) o.is late is in
        moves plan old w v address lifetime link [] [] (λ h events p. OfNumber (λ number. IsOpened link last h events p number))
        (λ h events p. OfNumber (λ number. IsBinding link now (sent_of sent) [] h events p number)) s same core there s.events
        (record {
          number = n;
          fits = s.client.is.fits;
          is = record {
            older = o.older;
            made = o.made;
            apart = o.apart;
            lawful = o.lawful;
            request_is = same_sent (sent_of sent) (sent_from h link.local (bind_request h link.number n o.made)) a.0;
            is = a.1;
          };
        })
    transmitted_by answer.Nothing core there same is =
        let a = c.holders_rest.ensures.sends h (Some (bind_request h link.number n o.made)) o.older (allocation_of h (permitted_in link) (joining link.local link.peer link.number n o.made []))
        (queued_from link.local (bind_request h link.number n o.made)) [] last s.events s.client.core core now None o.is late is in
        absurd (Prim.cc a.0)
    transmitted_by _ core there same is = absurd is

    draws_it : (ret : Answer) → now ≤ client_end → IsStep (Draw now) w ret v → IsAtStep plan old address lifetime link (transmitted ret (λ request. Binding now request)) v
    draws_it ret early step =
        let d = draws (control_at plan.client.transport []) w v s.client.core now ret s.client.there early step in
        transmitted_by ret d.core d.there d.desk d.transmitted

  -- ---- it is granted

  module _ (fresh : IsFresh plan old) (sent : ℕ) (request : Sent) (s : IsAtStep plan old address lifetime link (Binding sent request) w) where
    abbrev k : Holder
    k = holder_in plan address lifetime s.auth s.standing

    abbrev b : IsBinding link sent request [] k s.events s.client.core s.client.is.number
    b = s.client.is.is

    abbrev text : List ℕ
    text = (bind_request k link.number s.client.is.number b.made).bytes

    granted_it : (bytes reply : Vec ℕ Global) (decision : Decision) (seed : List ℕ) (now : ℕ) → bytes.items ≡ request.bytes → IsSuccess reply.items
        → IsStep (ToDesk bytes request.from now decision seed) w (answer.Reply reply) v → IsAtStep plan old address lifetime link (Answered sent request reply.items []) v
    granted_it bytes reply decision seed now same success step =
        let what = ConnectionBind link.number in
        let a = s.client.is in
        let can = b.is.signs in
        let signed = c.holders_can_ask.ensures.signs k what a.number can b.lawful refl a.fits in
        let read = c.proof_requests_are_read.ensures.read k.auth what a.number can.short b.lawful a.fits in
        let is_method : IsMethod connection_bind_method = record { error = refl; success = refl; method = refl } in
        let same_text : bytes.items ≡ text = same ∙ ap (λ (r : Sent). r.bytes) b.request_is in
        let Was = λ (h : Holder) (events : List TurnEvent) (p : Protocol). OfNumber (λ number. IsBinding link sent request [] h events p number) in
        stays_so plan old w v address lifetime link [] Was s fresh what a.number text signed connection_bind_method is_method (ap method_of read.kind) bytes reply same_text request.from now decision seed success step
        (λ h events p. OfNumber (λ number. IsAnswered link sent request reply.items [] h events p number))
        (record {
          number = a.number;
          fits = a.fits;
          is = record {
            binding = b;
            message = message_so plan old w v address lifetime link [] Was s fresh what a.number text signed connection_bind_method is_method (ap method_of read.kind) bytes reply same_text request.from now decision seed success step;
            success = success_so plan old w v address lifetime link [] Was s fresh what a.number text signed connection_bind_method is_method (ap method_of read.kind) bytes reply same_text request.from now decision seed success step;
            part = part_so plan old w v address lifetime link [] Was s fresh what a.number text signed connection_bind_method is_method (ap method_of read.kind) bytes reply same_text request.from now decision seed success step;
          };
        })

  -- ---- the reply comes over the socket

  module _ (tcp : IsOverTcp plan) (sent now : ℕ) (request : Sent) (reply head : List ℕ) (s : IsAtStep plan old address lifetime link (Answered sent request reply head) w) (bytes : Vec ℕ Global) (some : bytes.items ≢ []) (early : now ≤ client_end) (ret : Answer)
      (step : IsStep (ToClient bytes request.to request.from now) w ret v) where
    abbrev g : Holder
    g = holder_in plan address lifetime s.auth s.standing

    abbrev a : IsAnswered link sent request reply head g s.events s.client.core s.client.is.number
    a = s.client.is.is

    abbrev control : Control
    control = control_at plan.client.transport []

    own_step : IsStep (ToClient bytes plan.client.server link.local now) w ret v
    own_step = subst (λ (r : Sent). IsStep (ToClient bytes r.to r.from now) w ret v) a.binding.request_is step

    f : IsFedOn control w v s.client.core now ret s.client.there early bytes.items plan.client.server link.local
    f = fed_on control w v s.client.core now ret s.client.there early bytes plan.client.server link.local own_step

    from : IsFromServerTo plan.client link.local f.fed.came
    from = record { transport = f.fed.transport_is ∙ a.binding.is.settings.transport; from = f.fed.from_is; to = f.fed.to_is }

    some_came : f.fed.came.bytes.now ≢ []
    some_came = λ none. some (sym f.fed.bytes_are ∙ none)

    come : HasCome [] (over control s.client.core)
    come = open_at plan.client.transport [] tcp.over

    never_lost : {A : Type 0} → f.fed.took ≡ recv.NoMemory f.fed.came → A
    never_lost lost = absurd (subst (λ (t : TurnRecvRet (Bor (List ℕ))). IsReported t ret) lost f.fed.reported)

    there_so : HasCome [] f.after → v.client ≡ Some (over control f.after.core)
    there_so occurs = f.there ∙ ap Some (stays control f.after (occurs ∙ sym come))

    gives : (rest : List ℕ) → reply ≡ (head ++ bytes.items) ++ rest → rest ≢ [] → IsAtStep plan old address lifetime link (Answered sent request reply (head ++ bytes.items)) v
    gives rest parts more =
        let part : IsPartOf (head ++ bytes.items) reply = record { is_message = a.message; rest = rest; parts = parts; more = more } in
        let taken = c.messages_reach_sockets.ensures.chunk g a.binding.older (permitted_in link) link.local link.peer link.number s.client.is.number a.binding.made sent head s.events (over control s.client.core) f.after f.fed.came now f.fed.took reply
        a.binding.is a.binding.apart come from some_came (subst (λ (l : List ℕ). IsPartOf (head ++ l) reply) (sym f.fed.bytes_are) part) f.fed.received in
        elim taken [
          | inl is ↦ moves plan old w v address lifetime link [] [] (λ h events p. OfNumber (λ number. IsAnswered link sent request reply head h events p number))
              (λ h events p. OfNumber (λ number. IsAnswered link sent request reply (head ++ bytes.items) h events p number)) s f.desk f.after.core (there_so is.1) s.events
              (record {
                number = s.client.is.number;
                fits = s.client.is.fits;
                is = record {
                  binding = record {
                    older = a.binding.older;
                    made = a.binding.made;
                    apart = a.binding.apart;
                    lawful = a.binding.lawful;
                    request_is = a.binding.request_is;
                    is = subst (λ (l : List ℕ). HasSentBind g a.binding.older (permitted_in link) link.local link.peer link.number s.client.is.number a.binding.made sent (head ++ l) s.events f.after.core) f.fed.bytes_are is.0;
                  };
                  message = a.message;
                  success = a.success;
                  part = part;
                };
              })
          | inr lost ↦ never_lost lost
        ]

    ends : (more : List ℕ) → head ++ bytes.items ≡ reply ++ more → IsAtStep plan old address lifetime link (Bound more) v
    ends more parts =
        let taken = c.messages_reach_sockets.ensures.bound g a.binding.older (permitted_in link) link.local link.peer link.number s.client.is.number a.binding.made sent head s.events (over control s.client.core) f.after f.fed.came now f.fed.took reply more
        a.binding.is a.binding.apart come from some_came a.message (ap (λ (l : List ℕ). head ++ l) f.fed.bytes_are ∙ parts) a.success f.fed.received in
        elim taken [
          | inl is ↦ moves plan old w v address lifetime link [] [] (λ h events p. OfNumber (λ number. IsAnswered link sent request reply head h events p number)) (λ h events p. IsEnd link more h events p)
              s f.desk f.after.core (there_so is.1) (s.events ++ TcpConnected link.peer ∷ []) (record { older = a.binding.older; sent = sent; is = is.0 })
          | inr lost ↦ never_lost lost
        ]

pub returns-clause-transmitted : goal.returns-clause-transmitted
returns-clause-transmitted c = λ plan old w v address lifetime link ret last now s late early step. draws_it c plan old w v address lifetime link last now s late ret early step

pub returns-clause-granted : goal.returns-clause-granted
returns-clause-granted c = λ plan old w v address lifetime link request bytes reply decision seed sent now fresh s same success step.
    granted_it c plan old w v address lifetime link fresh sent request s bytes reply decision seed now same success step

pub returns-clause-given : goal.returns-clause-given
returns-clause-given c = λ plan old w v address lifetime link ret request reply head rest bytes sent now tcp s some parts more early step.
    gives c plan old w v address lifetime link tcp sent now request reply head s bytes some early ret step rest parts more

pub returns-clause-ended : goal.returns-clause-ended
returns-clause-ended c = λ plan old w v address lifetime link ret request reply head more bytes sent now tcp s some parts early step.
    ends c plan old w v address lifetime link tcp sent now request reply head s bytes some early ret step more parts
