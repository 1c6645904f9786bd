use Rattle.std.proofs.Common.{◌≡◌, ◌≢◌, ◌≤◌, ◌<◌, ◌+◌, ◌^◌, ◌++◌, Bool, false, ℕ, List, [], ◌∷◌, Some, None, refl, sym, ap, ◌∙◌, subst, inl, inr}
use Rattle.std.specs.Prelude.{Vec}
use Rattle.std.specs.Net.Socket.{socket_ip}
use Rattle.std.specs.declared.alloc.Global.{Global}
use Rattle.std.specs.declared.net.socket_addr.SocketAddr.{SocketAddr}
use Rattle.turn_desk_core.specs.StunTypesWire.Attributes.{kind_at}
use Rattle.turn_desk_core.specs.StunTypesWire.Grammar.{number_at, refusal}
use Rattle.turn_desk_core.specs.StunTypesWire.Types.{class_of}
use Rattle.turn_desk_core.specs.StunTypesWire.declared.algorithm.IntegrityAlgorithm.{IntegrityAlgorithm}
use Rattle.turn_client_proto_messages.specs.StunProtoClient.Challenges.{ChallengeFields, challenge_visible}
use Rattle.turn_client_proto_messages.specs.TurnRuns.Indications.{is_indication}
use Rattle.turn_client_proto_api.specs.Sent.{Sent}
use Rattle.turn_client_proto_api.specs.declared.event.TurnEvent.{TurnEvent}
use Rattle.turn_client_proto_step_laws.specs.Recv.ClientState.{Protocol}
use Rattle.turn_client_proto_handshake_laws.specs.Core.Responding.{most_resends}
use Rattle.turn_client_proto_handshake_laws.specs.Driving.{client_end}
use Rattle.turn_client_proto_handshake_laws.specs.Requested.{Requested}
use Rattle.turn_client_proto_progress_laws.specs.Holders.{Holder, IsListed}
use Rattle.turn_client_proto_progress_laws.specs.Replies.{CanAnswer, IsChallengeOf, challenged_by}
use Rattle.turn_client_proto_progress_laws.specs.TcpBinding.{bind_request}
use Rattle.turn_desk_core.specs.TurnTypesAttributes.TurnRegistry.{connection_bind_method}
use Rattle.turn_desk_event.specs.declared.answer.Answer.{Answer}
use Rattle.turn_desk_event.specs.declared.event.Event.TheVariants.{ToClient}
use Rattle.turn_desk_world_laws.specs.World.Model.{World}
use Rattle.turn_desk_world_laws.specs.World.Runs.{IsStep}
use Rattle.turn_desk_progress_laws.specs.Linked.{IsOverTcp}
use Rattle.turn_desk_progress_laws.specs.Promises.{control_at, over}
use Rattle.turn_desk_progress_laws.specs.Scripts.{Plan}
use Rattle.turn_desk_progress_laws.proofs.Worlds.{DoHold, processed_on}
use Rattle.turn_desk_laws.specs.ConnectionLoops.{Bind, Challenged, Connect, Method, Permission, Queued, Target, Timing, challenged}
use Rattle.turn_desk_laws.specs.ConnectionPromises.{request_made_for, from_of}
use Rattle.turn_desk_laws.specs.ConnectionStages.{IsChallenged, IsHeldFor, IsQueued, IsStage, holder_at, own_head, permitted_at, request_at}
use Rattle.turn_desk_laws.proofs.ConnectionAgain.{no_indication}
use Rattle.turn_desk_laws.proofs.ConnectionChunks.{come, fed, from_server, never_lost, some_came, there_so}
use Rattle.turn_desk_laws.proofs.ConnectionTools.{alone_among, itself, oldest_of, server_on, signs_so}
use Rattle.turn_desk_laws.proofs.connections.challenges_are_answered_again.Goals as goal

module _ (c : goal.After-messages_reach_sockets) (plan : Plan) (old w v : World) (target : Target) (address : SocketAddr) (lifetime since : ℕ) (t : Timing) (method : Method) (request : Sent) (reply head : List ℕ) (bytes : Vec ℕ Global) (now : ℕ) (ret : Answer)
    (tcp : IsOverTcp plan) (in_range : now ≤ client_end) (some : bytes.items ≢ []) (all : reply ≡ head ++ bytes.items) (step : IsStep (ToClient bytes request.to request.from now) w ret v)
    (s : IsStage plan old target address lifetime since (Challenged method request reply head) t w) where
  abbrev h : Holder
  h = holder_at plan address lifetime since s.auth s.standing

  abbrev is : IsChallenged plan old target method t request reply head h s.events s.client.core
  is = s.client.is

  reach : DoHold
  reach = record { chunk = c.messages_reach_holders.ensures.chunk; whole = c.messages_reach_holders.ensures.whole }

  -- The challenged request has the transaction ID under which it was stored.
  pub number_so : number_at request.bytes ≡ is.transmitted.transaction_id
  number_so = ap (λ (r : Sent). number_at r.bytes) is.transmitted.request_is
      ∙ (c.holders_can_ask.ensures.signs h (request_made_for target method) is.transmitted.transaction_id is.transmitted.request_made.is.signs is.transmitted.request_made.lawful (signs_so target method) is.transmitted.request_made.fits).number_is

  -- The challenge that was stored is the one that came.
  pub nonce_so : (choice : IntegrityAlgorithm) (reported : ChallengeFields) → challenge_visible reply ≡ Some reported → (challenged_by h is.reported choice).standing.challenge.nonce ≡ reported.nonce
  nonce_so choice reported visible =
      let same : is.reported ≡ reported = Prim.cc (sym is.challenge.visible ∙ visible) in
      ap (λ (x : ChallengeFields). x.nonce) same

  -- The client stores the challenge, and its state is this.
  pub stored : (choice : IntegrityAlgorithm) → CanAnswer h is.reported choice → (u : Timing) (core : Protocol) → v.client ≡ Some (over (control_at plan.client.transport []) core) → v.desk ≡ w.desk
      → IsQueued plan target method u (challenged_by h is.reported choice) s.events core → IsHeldFor plan old target address lifetime since [] (λ h events p. IsQueued plan target method u h events p) v
  stored choice can u core there same queued = record {
    auth = (challenged_by h is.reported choice).auth;
    standing = (challenged_by h is.reported choice).standing;
    of = record {
      account = s.of.account;
      realm = is.of.realm;
      reported = is.reported;
      choice = choice;
      of = is.of;
      answered = record { strongest = can.strongest; anonymous = can.anonymous; listed = can.listed };
    };
    server = server_on plan old target w v same s.server;
    events = s.events;
    client = record { core = core; there = there; is = queued };
  }

  own_step : IsStep (ToClient bytes request.to request.from now) w ret v → IsStep (ToClient bytes plan.client.server (from_of plan target method) now) w ret v
  own_step given = subst (λ (r : Sent). IsStep (ToClient bytes r.to r.from now) w ret v) is.transmitted.request_is given

by_method : goal.After-messages_reach_sockets → (plan : Plan) (old w v : World) (target : Target) (address : SocketAddr) (lifetime since : ℕ) (t : Timing) (method : Method) (request : Sent) (reply head : List ℕ) (bytes : Vec ℕ Global) (now : ℕ) (ret : Answer)
    → IsOverTcp plan → now ≤ client_end → t.oldest ≤ now → bytes.items ≢ [] → reply ≡ head ++ bytes.items → IsStep (ToClient bytes request.to request.from now) w ret v
    → IsStage plan old target address lifetime since (Challenged method request reply head) t w → IsStage plan old target address lifetime since (Queued method) (challenged method now request reply t) v
by_method c plan old w v target address lifetime since t Permission request reply head bytes now ret tcp in_range sooner some all step s =
    let h = holder_at plan address lifetime since s.auth s.standing in
    let is = s.client.is in
    let request_made = is.transmitted.request_made in
    let k = processed_on (reach c plan old w v target address lifetime since t Permission request reply head bytes now ret tcp in_range some all step s) plan.client tcp.over w v s.client.core request_made.is.settings head s.client.there bytes now ret in_range some
    (own_step c plan old w v target address lifetime since t Permission request reply head bytes now ret tcp in_range some all step s step) reply all is.message (no_indication reply is.reported is.challenge.visible) in
    let a = c.challenged_permissions_go_again.ensures.challenged h (socket_ip target.peer) request_made.ids is.transmitted.transaction_id t.made t.sent s.events s.client.core k.core reply now k.handled is.reported is.choice
    request_made.among request_made.is (subst (λ (x : ℕ). x ≤ most_resends) (sym request_made.counts) is.may) is.challenge is.can k.processed in
    stored c plan old w v target address lifetime since t Permission request reply head bytes now ret tcp in_range some all step s a.choice a.can (challenged Permission now request reply t) k.core k.there k.desk
    (record {
      transaction_id = a.transaction_id;
      request_made = record {
        fits = a.fits;
        ids = a.all;
        among = a.among;
        older = [];
        since_oldest = λ x listed. absurd listed;
        made_later = itself now;
        lawful = a.lawful;
        apart = tt;
        is = a.is;
        counts = a.counted ∙ ap (λ (x : ℕ). x + 1) request_made.counts;
        again = record {
          other = λ same. a.other (same ∙ number_so c plan old w v target address lifetime since t Permission request reply head bytes now ret tcp in_range some all step s);
          nonce = nonce_so c plan old w v target address lifetime since t Permission request reply head bytes now ret tcp in_range some all step s a.choice;
        };
      };
    })
by_method c plan old w v target address lifetime since t Connect request reply head bytes now ret tcp in_range sooner some all step s =
    let h = holder_at plan address lifetime since s.auth s.standing in
    let is = s.client.is in
    let request_made = is.transmitted.request_made in
    let k = processed_on (reach c plan old w v target address lifetime since t Connect request reply head bytes now ret tcp in_range some all step s) plan.client tcp.over w v s.client.core request_made.is.settings head s.client.there bytes now ret in_range some
    (own_step c plan old w v target address lifetime since t Connect request reply head bytes now ret tcp in_range some all step s step) reply all is.message (no_indication reply is.reported is.challenge.visible) in
    let a = c.challenged_connects_go_again.ensures h (permitted_at target t.granted) target.peer is.transmitted.transaction_id t.made t.sent s.events s.client.core k.core reply now k.handled is.reported is.choice
    (refl, tt) request_made.is (subst (λ (x : ℕ). x ≤ most_resends) (sym request_made.counts) is.may) is.challenge is.can k.processed in
    stored c plan old w v target address lifetime since t Connect request reply head bytes now ret tcp in_range some all step s a.choice a.can (challenged Connect now request reply t) k.core k.there k.desk
    (record {
      transaction_id = a.transaction_id;
      request_made = record {
        fits = a.fits;
        ids = a.transaction_id ∷ [];
        among = alone_among a.transaction_id;
        older = [];
        since_oldest = λ x listed. absurd listed;
        made_later = itself now;
        lawful = tt;
        apart = tt;
        is = a.is;
        counts = a.counted ∙ ap (λ (x : ℕ). x + 1) request_made.counts;
        again = record {
          other = λ same. a.other (same ∙ number_so c plan old w v target address lifetime since t Connect request reply head bytes now ret tcp in_range some all step s);
          nonce = nonce_so c plan old w v target address lifetime since t Connect request reply head bytes now ret tcp in_range some all step s a.choice;
        };
      };
    })
by_method c plan old w v target address lifetime since t Bind request reply head bytes now ret tcp in_range sooner some all step s =
    let h = holder_at plan address lifetime since s.auth s.standing in
    let is = s.client.is in
    let request_made = is.transmitted.request_made in
    let f = fed plan w v target address lifetime since t request head bytes now ret tcp in_range some step s.auth s.standing s.events s.client.core s.client.there is.transmitted in
    let whole : reply ≡ head ++ f.fed.came.bytes.now = all ∙ ap (λ (l : List ℕ). head ++ l) (sym f.fed.bytes_are) in
    let taken = c.messages_reach_sockets.ensures.challenged h request_made.older (permitted_at target t.granted) target.local target.peer target.number is.transmitted.transaction_id t.made t.sent head s.events (over (control_at plan.client.transport []) s.client.core) f.after f.fed.came now f.fed.took is.reported is.choice
    request_made.is request_made.apart (come plan w v target address lifetime since t request head bytes now ret tcp in_range some step s.auth s.standing s.events s.client.core s.client.there is.transmitted)
    (from_server plan w v target address lifetime since t request head bytes now ret tcp in_range some step s.auth s.standing s.events s.client.core s.client.there is.transmitted)
    (some_came plan w v target address lifetime since t request head bytes now ret tcp in_range some step s.auth s.standing s.events s.client.core s.client.there is.transmitted)
    (subst (λ (l : List ℕ). refusal l ≡ None) whole is.message) (subst (λ (l : List ℕ). IsChallengeOf is.reported connection_bind_method is.transmitted.transaction_id l) whole is.challenge) is.can f.fed.received in
    elim taken [
      | inl k ↦ stored c plan old w v target address lifetime since t Bind request reply head bytes now ret tcp in_range some all step s k.0 k.1 (challenged Bind now request reply t) f.after.core
          (there_so plan w v target address lifetime since t request head bytes now ret tcp in_range some step s.auth s.standing s.events s.client.core s.client.there is.transmitted k.5) f.desk
          (record {
            transaction_id = k.2;
            request_made = record {
              fits = k.3;
              ids = k.2 ∷ [];
              among = alone_among k.2;
              older = bind_request h target.number is.transmitted.transaction_id t.made ∷ request_made.older;
              since_oldest = λ x listed. oldest_of (bind_request h target.number is.transmitted.transaction_id t.made) request_made.older t.oldest request_made.made_later request_made.since_oldest x listed;
              made_later = sooner;
              lawful = request_made.lawful;
              apart = request_made.apart;
              is = k.4;
              counts = tt;
              again = record {
                other = tt;
                nonce = nonce_so c plan old w v target address lifetime since t Bind request reply head bytes now ret tcp in_range some all step s k.0;
              };
            };
          })
      | inr lost ↦ never_lost plan w v target address lifetime since t request head bytes now ret tcp in_range some step s.auth s.standing s.events s.client.core s.client.there is.transmitted lost
    ]

pub returns : goal.returns
returns c = λ plan old w v target address lifetime since t method request reply head bytes now ret tcp in_range sooner some all s step. by_method c plan old w v target address lifetime since t method request reply head bytes now ret tcp in_range sooner some all step s
