use Rattle.std.proofs.Common.{append-nil, ◌≡◌, ◌≢◌, ◌≤◌, ◌++◌, ℕ, List, [], ◌∷◌, Some, None, ap, refl, sym, ◌∙◌, subst, inl, inr}
use Rattle.std.specs.Prelude.{Vec}
use Rattle.std.specs.Borrow.{Bor}
use Rattle.std.specs.declared.alloc.Global.{Global}
use Rattle.std.specs.declared.net.socket_addr.SocketAddr.{SocketAddr}
use Rattle.turn_desk_core.specs.StunTypesWire.Grammar.{refusal}
use Rattle.turn_desk_core.specs.StunTypesWire.Attributes.{kind_at}
use Rattle.turn_desk_core.specs.StunTypesWire.Types.{method_of}
use Rattle.turn_client_proto_messages.specs.StunProtoClient.Challenges.{ChallengeFields, challenge_visible}
use Rattle.turn_desk_core.specs.TurnTypesAttributes.TurnRegistry.{connection_bind_method}
use Rattle.turn_client_proto_api.specs.declared.answer.TurnRecvRet.{TurnRecvRet}
use Rattle.turn_client_proto_api.specs.declared.answer.TurnRecvRet.TheVariants as recv
use Rattle.turn_client_proto_handshake_laws.specs.Coming.{HasCome, IsPartOf}
use Rattle.turn_client_proto_api.specs.Sent.{Sent}
use Rattle.turn_client_proto_handshake_laws.specs.Driving.{client_end}
use Rattle.turn_client_proto_progress_laws.specs.Holders.{Holder}
use Rattle.turn_client_proto_progress_laws.specs.TcpBinding.{HasSentBind, bind_request}
use Rattle.turn_client_proto_progress_laws.specs.Overs.{IsFromServerTo}
use Rattle.turn_client_proto_progress_laws.specs.Replies.{IsChallengeOf, challenged_by}
use Rattle.turn_client_proto_messages.specs.declared.request.TurnRequest.TheVariants.{ConnectionBind, FirstAllocate}
use Rattle.turn_client_proto_messages.specs.Judging.{signer_of}
use Rattle.turn_client_proto_handshake_laws.specs.Sent.{first_number, first_request}
use Rattle.turn_desk_world_laws.specs.World.Calls.{IsReported}
use Rattle.turn_client_proto_step_laws.specs.Recv.Control.{Control}
use Rattle.turn_desk_world_laws.specs.World.Desks.{words_of}
use Rattle.turn_desk_core.specs.Steps.{IsAnswer}
use Rattle.turn_desk_core.specs.Requests.{IsServed}
use Rattle.turn_client_proto_step_laws.specs.Recv.ClientState.{Protocol}
use Rattle.turn_desk_world_laws.specs.World.Model.{World}
use Rattle.turn_desk_world_laws.specs.World.Runs.{IsStep}
use Rattle.turn_desk_event.specs.declared.answer.Answer.{Answer}
use Rattle.turn_desk_event.specs.declared.answer.Answer.TheVariants as answer
use Rattle.turn_desk_core.specs.declared.decision.Decision.{Decision}
use Rattle.turn_desk_event.specs.declared.event.Event.TheVariants.{Call, ToClient, ToDesk}
use Rattle.turn_desk_event.specs.declared.event.ClientCall.{ClientCall}
use Rattle.turn_desk_event.specs.declared.event.ClientCall.TheVariants as call
use Rattle.turn_desk_progress_laws.specs.Promises.{IsFresh, control_at, over}
use Rattle.turn_desk_progress_laws.specs.Scripts.{IsLook, Plan}
use Rattle.turn_desk_progress_laws.proofs.Clients.{IsLooked, IsLookedOn, Still, Took, looks, same_desk, stays}
use Rattle.turn_desk_progress_laws.proofs.Coming.{DoWait, none_yet, waiting_rests}
use Rattle.turn_desk_progress_laws.proofs.Indexes.{first_fits}
use Rattle.turn_desk_progress_laws.specs.Standing.{IsOfSettings}
use Rattle.turn_desk_progress_laws.specs.Joining.{IsBinding, IsSameDesk, KeepsOwn, OfNumber, IsAtStep, holder_in, permitted_in}
use Rattle.turn_desk_progress_laws.specs.Linked.{IsOverTcp}
use Rattle.turn_desk_progress_laws.specs.Rebinding.{IsTurned, IsAtStageAgain, Turned, turned}
use Rattle.turn_desk_progress_laws.specs.Links.{Binding, Link}
use Rattle.turn_desk_progress_laws.proofs.Challenged.{answers_other, hides_so, list_there, message_is, method_same, number_same, realm_is, takes_so}
use Rattle.turn_desk_progress_laws.proofs.Same.{step_same}
use Rattle.turn_desk_progress_laws.proofs.Successes.{IsMethod}
use Rattle.turn_desk_progress_laws.proofs.Worlds.{IsFedOn, IsServedOn, desk_on, fed_on, moves, open_at, served_on}
use Rattle.turn_desk_progress_laws.proofs.connections.bindings_are_turned.Goals as goal

module _ (c : goal.After-connections_are_listed) (plan : Plan) (old w v : World) (address : SocketAddr) (lifetime : ℕ) (link : Link) where
  -- ---- it is challenged

  module _ (fresh : IsFresh plan old) (own : KeepsOwn link old.desk.auth) (sent : ℕ) (request : Sent) (s : IsAtStep plan old address lifetime link (Binding sent request) w) (bytes reply : Vec ℕ Global) (reported : ChallengeFields) (decision : Decision) (seed : List ℕ) (now : ℕ)
      (same : bytes.items ≡ request.bytes) (shows : challenge_visible reply.items ≡ Some reported) (step : IsStep (ToDesk bytes link.local now decision seed) w (answer.Reply reply) v) where
    abbrev k : Holder
    k = holder_in plan address lifetime s.auth s.standing

    abbrev b : IsBinding link sent request [] k s.events s.client.core s.client.is.number
    b = s.client.is.is

    abbrev text : List ℕ
    text = (bind_request k link.number s.client.is.number b.made).bytes

    on : IsServedOn w v bytes.items reply.items link.local now decision seed
    on = served_on w v bytes reply link.local now decision seed (answer.Reply reply) refl step

    same_text : bytes.items ≡ text
    same_text = same ∙ ap (λ (r : Sent). r.bytes) b.request_is

    answered : IsAnswer w.desk link.local text now (words_of seed) decision reply.items v.desk
    answered = subst (λ (l : List ℕ). IsAnswer w.desk link.local l now (words_of seed) decision reply.items v.desk) same_text on.replied.answer

    served : IsServed text
    served = subst IsServed same_text on.replied.served

    desk : IsSameDesk link old v
    desk = step_same link old (ToDesk bytes link.local now decision seed) w v (answer.Reply reply) step s.desk

    method_is : method_of (kind_at text) ≡ connection_bind_method
    method_is = ap method_of (c.proof_requests_are_read.ensures.read k.auth (ConnectionBind link.number) s.client.is.number b.is.signs.short b.lawful s.client.is.fits).kind

    is_method : IsMethod connection_bind_method
    is_method = record { error = refl; success = refl; method = refl }

    settings : IsOfSettings old.desk.auth reported
    settings = record {
      realm = realm_is w.desk v.desk link.local text reply.items now (words_of seed) decision connection_bind_method is_method refl method_is served answered reported shows ∙ s.desk.realm;
      takes_own = takes_so w.desk v.desk link.local text reply.items now (words_of seed) decision connection_bind_method is_method refl method_is served answered reported shows
          old.desk.auth.algorithms old.desk.auth.anonymous_username s.desk.algorithms (desk.decodes own);
      hides = hides_so w.desk v.desk link.local text reply.items now (words_of seed) decision connection_bind_method is_method refl method_is served answered reported shows
          old.desk.auth.algorithms old.desk.auth.anonymous_username s.desk.algorithms (desk.decodes own);
      listed = list_there w.desk v.desk link.local text reply.items now (words_of seed) decision connection_bind_method is_method refl method_is served answered reported shows;
    }

    message : refusal reply.items ≡ None
    message = message_is w.desk v.desk link.local text reply.items now (words_of seed) decision connection_bind_method is_method refl method_is served answered reported shows

    turns : IsAtStageAgain plan old address lifetime link (Turned sent request reply.items []) v
    turns = record {
      auth = s.auth;
      standing = s.standing;
      of = s.of;
      desk = desk;
      events = s.events;
      client = record {
        core = s.client.core;
        there = on.client ∙ s.client.there;
        is = record {
          number = s.client.is.number;
          fits = s.client.is.fits;
          is = record {
            binding = b;
            message = message;
            reported = reported;
            challenge = record {
              number_is = number_same w.desk v.desk link.local text reply.items now (words_of seed) decision connection_bind_method is_method refl method_is served answered reported shows
                  ∙ (c.holders_can_ask.ensures.signs k (ConnectionBind link.number) s.client.is.number b.is.signs b.lawful refl s.client.is.fits).number_is;
              method_is = method_same w.desk v.desk link.local text reply.items now (words_of seed) decision connection_bind_method is_method refl method_is served answered reported shows;
              visible = shows;
            };
            of = settings;
            choice = s.of.choice;
            can = answers_other old.desk.auth s.auth s.of.reported reported s.of.of settings s.of.choice s.of.answered;
            part = none_yet reply.items message;
          };
        };
      };
    }

  -- ---- the reply comes over the socket

  module _ (tcp : IsOverTcp plan) (sent now : ℕ) (request : Sent) (reply head : List ℕ) (s : IsAtStageAgain plan old address lifetime link (Turned sent request reply head) w) (bytes : Vec ℕ Global) (some : bytes.items ≢ []) (early : now ≤ client_end) (ret : Answer)
      (step : IsStep (ToClient bytes request.to request.from now) w ret v) where
    abbrev g : Holder
    g = holder_in plan address lifetime s.auth s.standing

    abbrev a : IsTurned old link sent request reply head g s.events s.client.core s.client.is.number
    a = s.client.is.is

    abbrev control : Control
    control = control_at plan.client.transport []

    own_step : IsStep (ToClient bytes plan.client.server link.local now) w ret v
    own_step = subst (λ (r : Sent). IsStep (ToClient bytes r.to r.from now) w ret v) a.binding.request_is step

    f : IsFedOn control w v s.client.core now ret s.client.there early bytes.items plan.client.server link.local
    f = fed_on control w v s.client.core now ret s.client.there early bytes plan.client.server link.local own_step

    from : IsFromServerTo plan.client link.local f.fed.came
    from = record { transport = f.fed.transport_is ∙ a.binding.is.settings.transport; from = f.fed.from_is; to = f.fed.to_is }

    some_came : f.fed.came.bytes.now ≢ []
    some_came = λ none. some (sym f.fed.bytes_are ∙ none)

    come : HasCome [] (over control s.client.core)
    come = open_at plan.client.transport [] tcp.over

    never_lost : {A : Type 0} → f.fed.took ≡ recv.NoMemory f.fed.came → A
    never_lost lost = absurd (subst (λ (t : TurnRecvRet (Bor (List ℕ))). IsReported t ret) lost f.fed.reported)

    there_so : HasCome [] f.after → v.client ≡ Some (over control f.after.core)
    there_so occurs = f.there ∙ ap Some (stays control f.after (occurs ∙ sym come))

    -- All of the challenge has come, or these first bytes.
    gives : (rest : List ℕ) → reply ≡ (head ++ bytes.items) ++ rest → IsAtStageAgain plan old address lifetime link (turned sent request reply (head ++ bytes.items) rest) v
    gives (byte ∷ rest) parts =
        let part : IsPartOf (head ++ bytes.items) reply = record { is_message = a.message; rest = byte ∷ rest; parts = parts; more = λ none. Prim.cc none } in
        let taken = c.messages_reach_sockets.ensures.chunk g a.binding.older (permitted_in link) link.local link.peer link.number s.client.is.number a.binding.made sent head s.events (over control s.client.core) f.after f.fed.came now f.fed.took reply
        a.binding.is a.binding.apart come from some_came (subst (λ (l : List ℕ). IsPartOf (head ++ l) reply) (sym f.fed.bytes_are) part) f.fed.received in
        elim taken [
          | inl is ↦ moves plan old w v address lifetime link [] [] (λ h events p. OfNumber (λ number. IsTurned old link sent request reply head h events p number))
              (λ h events p. OfNumber (λ number. IsTurned old link sent request reply (head ++ bytes.items) h events p number)) s f.desk f.after.core (there_so is.1) s.events
              (record {
                number = s.client.is.number;
                fits = s.client.is.fits;
                is = record {
                  binding = record {
                    older = a.binding.older;
                    made = a.binding.made;
                    apart = a.binding.apart;
                    lawful = a.binding.lawful;
                    request_is = a.binding.request_is;
                    is = subst (λ (l : List ℕ). HasSentBind g a.binding.older (permitted_in link) link.local link.peer link.number s.client.is.number a.binding.made sent (head ++ l) s.events f.after.core) f.fed.bytes_are is.0;
                  };
                  message = a.message;
                  reported = a.reported;
                  challenge = a.challenge;
                  of = a.of;
                  choice = a.choice;
                  can = a.can;
                  part = part;
                };
              })
          | inr lost ↦ never_lost lost
        ]
    gives [] parts =
        let all : reply ≡ head ++ f.fed.came.bytes.now = parts ∙ (append-nil (head ++ bytes.items) ∙ ap (λ (l : List ℕ). head ++ l) (sym f.fed.bytes_are)) in
        let taken = c.messages_reach_sockets.ensures.challenged g a.binding.older (permitted_in link) link.local link.peer link.number s.client.is.number a.binding.made sent head s.events (over control s.client.core) f.after f.fed.came now f.fed.took a.reported a.choice
        a.binding.is a.binding.apart come from some_came (subst (λ (l : List ℕ). refusal l ≡ None) all a.message) (subst (λ (l : List ℕ). IsChallengeOf a.reported connection_bind_method s.client.is.number l) all a.challenge) a.can f.fed.received in
        elim taken [
          | inl is ↦ (let h2 : Holder = challenged_by g a.reported is.0 in record {
            auth = h2.auth;
            standing = h2.standing;
            of = record {
              account = s.of.account;
              realm = a.of.realm;
              reported = a.reported;
              choice = is.0;
              of = a.of;
              answered = record { strongest = is.1.strongest; anonymous = is.1.anonymous; listed = is.1.listed };
            };
            desk = desk_on plan old w v address lifetime link f.desk s.desk;
            events = s.events;
            client = record {
              core = f.after.core;
              there = there_so is.5;
              is = record {
                number = is.2;
                fits = is.3;
                is = record {
                  older = bind_request g link.number s.client.is.number a.binding.made ∷ a.binding.older;
                  made = now;
                  apart = a.binding.apart;
                  lawful = a.binding.lawful;
                  is = is.4;
                };
              };
            };
          })
          | inr lost ↦ never_lost lost
        ]

  -- ---- a look, and what has come

  module _ (sent : ℕ) (request : Sent) (reply head : List ℕ) (s : IsAtStageAgain plan old address lifetime link (Turned sent request reply head) w) (now : ℕ) (ret : Answer) where
    abbrev q : Holder
    q = holder_in plan address lifetime s.auth s.standing

    abbrev t : IsTurned old link sent request reply head q s.events s.client.core s.client.is.number
    t = s.client.is.is

    looks_on : (what : ClientCall) → IsLook what → IsStep (Call what now) w ret v → IsAtStageAgain plan old address lifetime link (Turned sent request reply head) v
    looks_on what look step = by l.core l.looked l.there
      where
        l : IsLookedOn (control_at plan.client.transport []) s.client.core ret w v
        l = looks (control_at plan.client.transport []) w v s.client.core what now ret s.client.there look step

        by : (core : Protocol) → IsLooked s.client.core ret core → v.client ≡ Some (over (control_at plan.client.transport []) core) → IsAtStageAgain plan old address lifetime link (Turned sent request reply head) v
        by core (Took event taken reported) there =
            let d = c.holders_rest.ensures.reported q _ t.binding.older _ [] sent s.events s.client.core core event t.binding.is taken in
            moves plan old w v address lifetime link [] [] (λ h events p. OfNumber (λ number. IsTurned old link sent request reply head h events p number))
            (λ h events p. OfNumber (λ number. IsTurned old link sent request reply head h events p number)) s (same_desk w v l.of) core there d.0
            (record {
              number = s.client.is.number;
              fits = s.client.is.fits;
              is = record {
                binding = record {
                  older = t.binding.older;
                  made = t.binding.made;
                  apart = t.binding.apart;
                  lawful = t.binding.lawful;
                  request_is = t.binding.request_is;
                  is = d.2;
                };
                message = t.message;
                reported = t.reported;
                challenge = t.challenge;
                of = t.of;
                choice = t.choice;
                can = t.can;
                part = t.part;
              };
            })
        by core (Still same reported) there =
            moves plan old w v address lifetime link [] [] (λ h events p. OfNumber (λ number. IsTurned old link sent request reply head h events p number))
            (λ h events p. OfNumber (λ number. IsTurned old link sent request reply head h events p number)) s (same_desk w v l.of) core there s.events
            (subst (λ (p : Protocol). OfNumber (λ number. IsTurned old link sent request reply head q s.events p number)) (sym same) s.client.is)

    receives_on : IsFresh plan old → IsStep (Call call.PollRecv now) w ret v → IsAtStageAgain plan old address lifetime link (Turned sent request reply head) v
    receives_on fresh step =
        let started : IsPartOf [] (first_request plan.client) = none_yet (first_request plan.client)
        (c.proof_requests_are_read.ensures.message (signer_of plan.client.config) (FirstAllocate plan.client.config.transport plan.client.config.families plan.client.config.options) (first_number plan.client)
        (c.new_clients_ask.ensures.short plan.client fresh.room) fresh.room.1 (first_fits plan.client)) in
        let wait : DoWait = record { waiting = c.messages_reach_clients.ensures.waiting; none_waits = c.messages_reach_clients.ensures.none_waits } in
        let r = waiting_rests wait plan.client w v s.client.core [] (first_request plan.client) now ret s.client.there (c.connections_are_listed.ensures.joining_none _ _ _ _ _ _ _ _ _ _ _ _ _ _ t.binding.is) started step in
        subst (λ (x : World). IsAtStageAgain plan old address lifetime link (Turned sent request reply head) x) (sym r.same) s

pub returns-clause-turned : goal.returns-clause-turned
returns-clause-turned c = λ plan old w v address lifetime link request bytes reply reported decision seed sent now fresh own s same shows step.
    turns c plan old w v address lifetime link fresh own sent request s bytes reply reported decision seed now same shows step

pub returns-clause-given : goal.returns-clause-given
returns-clause-given c = λ plan old w v address lifetime link ret request reply head rest bytes sent now tcp s some parts early step.
    gives c plan old w v address lifetime link tcp sent now request reply head s bytes some early ret step rest parts

pub returns-clause-looks : goal.returns-clause-looks
returns-clause-looks c = λ plan old w v address lifetime link ret request reply head sent what now s look step. looks_on c plan old w v address lifetime link sent request reply head s now ret what look step

pub returns-clause-receives : goal.returns-clause-receives
returns-clause-receives c = λ plan old w v address lifetime link ret request reply head sent now fresh s step. receives_on c plan old w v address lifetime link sent request reply head s now ret fresh step
