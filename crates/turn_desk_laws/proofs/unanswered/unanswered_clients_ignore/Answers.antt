use Rattle.std.proofs.Common.{◌≡◌, ◌≢◌, ◌⊎◌, ◌++◌, ◌≤◌, ℕ, Bool, List, [], ◌∷◌, None, Some, refl, sym, ap, ◌∙◌, subst}
use Rattle.std.specs.Prelude.{Vec}
use Rattle.std.specs.declared.alloc.Global.{Global}
use Rattle.std.specs.declared.net.socket_addr.SocketAddr.{SocketAddr}
use Rattle.turn_desk_core.specs.StunTypesBase.declared.transport.TransportType.{TransportType}
use Rattle.turn_desk_core.specs.StunTypesBase.declared.transport.TransportType.TheVariants.{Udp}
use Rattle.turn_desk_core.specs.StunTypesWire.Grammar.{refusal}
use Rattle.turn_client_proto_api.specs.declared.event.TurnEvent.{TurnEvent}
use Rattle.turn_client_proto_step_laws.specs.Recv.ClientState.{Protocol}
use Rattle.turn_client_proto_handshake_laws.specs.Coming.{IsPartOf, IsUnserved}
use Rattle.turn_client_proto_handshake_laws.specs.Core.Receiving.{IsProcessed}
use Rattle.turn_client_proto_handshake_laws.specs.Driving.{client_end}
use Rattle.turn_client_proto_handshake_laws.specs.Sent.{Begins}
use Rattle.turn_client_proto_handshake_laws.specs.Stages.{HasEnded, IsAsking}
use Rattle.turn_desk_event.specs.declared.answer.Answer.{Answer}
use Rattle.turn_desk_event.specs.declared.event.Event.TheVariants.{ToClient}
use Rattle.turn_desk_world_laws.specs.World.Model.{World}
use Rattle.turn_desk_world_laws.specs.World.Runs.{IsStep}
use Rattle.turn_desk_progress_laws.specs.Loops.{Timing}
use Rattle.turn_desk_progress_laws.specs.Promises.{HasClient, control_at, event_in, over}
use Rattle.turn_desk_progress_laws.specs.Scripts.{BringsOn, Plan}
use Rattle.turn_desk_progress_laws.proofs.Clients.{Rests}
use Rattle.turn_desk_progress_laws.proofs.Coming.{DoReach, IsBroughtOn, IsProcessedOn, IsStoredOn, brings, none_yet}
use Rattle.turn_desk_progress_laws.proofs.Indexes.{reports_still, untold}
use Rattle.turn_desk_laws.specs.Unanswered.{MayCome, RequestState, Unmade, Outstanding, TimedOut, until_whole}
use Rattle.turn_desk_laws.specs.UnansweredStages.{IsStageOf}
use Rattle.turn_desk_laws.proofs.UnansweredComing.{garbles, strays}
use Rattle.turn_desk_laws.proofs.UnansweredIgnoring.{asking_ignores, new_ignores}
use Rattle.turn_desk_laws.proofs.UnansweredStaying.{rests_so}
use Rattle.turn_desk_laws.proofs.unanswered.unanswered_clients_ignore.Goals as goal

module _ (c : goal.After-messages_reach_clients) (plan : Plan) (w v : World) (reported : List TurnEvent) (t : Timing) (head : List ℕ) where
  abbrev reach : DoReach
  reach = record { datagram = c.messages_reach_clients.ensures.datagram; chunk = c.messages_reach_clients.ensures.chunk; whole = c.messages_reach_clients.ensures.whole }

  -- Nothing is allocated to the client, and a message that may come changes nothing.
  record IsCore (request : RequestState) : Type 0 where
    core : Protocol
    there : w.client ≡ Some (over (control_at plan.client.transport head) core)
    unserved : IsUnserved plan.client core
    ignores : (message : List ℕ) → MayCome plan request message [] → (now : ℕ) (handled : Bool) (q : Protocol) → IsProcessed core message now handled q → q ≡ core

  core_of : (request : RequestState) → IsStageOf plan reported request t head w → IsCore request
  core_of Unmade is = record {
    core = is.client.core;
    there = is.client.there;
    unserved = c.stages_are_unserved.ensures.fresh plan.client is.client.core is.client.is;
    ignores = λ message may now handled q processed. new_ignores plan.client is.client.core message now handled q is.client.is processed;
  }
  core_of Outstanding is = record {
    core = is.client.core;
    there = is.client.there;
    unserved = c.stages_are_unserved.ensures.asking plan.client t.many t.sent is.client.core is.client.is;
    ignores = λ message may now handled q processed. asking_ignores plan t.many t.sent is.client.core is.client.is message now handled q may processed;
  }
  core_of TimedOut is = record {
    core = is.client.core;
    there = is.client.there;
    unserved = c.stages_are_unserved.ensures.ended plan.client is.left is.client.core is.client.is;
    ignores = λ message may now handled q processed. (c.ended_clients_rest.ensures.processed plan.client is.left is.client.core q message now handled is.client.is processed).1;
  }

  -- The same stage, with this client and other bytes buffered.
  stage_with : (request : RequestState) (ret : Answer) (is : IsStageOf plan reported request t head w) (next : List ℕ) → v.client ≡ Some (over (control_at plan.client.transport next) (core_of request is).core) → event_in ret ≡ []
      → IsStageOf plan (reported ++ event_in ret) request t next v
  unfolding core_of
  stage_with Unmade ret is next there silent = record {
    untold = untold reported (event_in ret) is.untold silent;
    none_sent = is.none_sent;
    client = record { core = is.client.core; there = there; is = is.client.is };
  }
  stage_with Outstanding ret is next there silent = record {
    untold = untold reported (event_in ret) is.untold silent;
    client = record { core = is.client.core; there = there; is = is.client.is };
  }
  stage_with TimedOut ret is next there silent = record {
    left = is.left;
    decodes = reports_still reported ret is.left silent ∙ is.decodes;
    client = record { core = is.client.core; there = there; is = is.client.is };
  }

  module _ (request : RequestState) (is : IsStageOf plan reported request t head w) (bytes : Vec ℕ Global) (from to : SocketAddr) (now : ℕ) (ret : Answer) (step : IsStep (ToClient bytes from to now) w ret v) where
    strays_by : (k : IsCore request) → (from ≢ plan.client.server) ⊎ (to ≢ plan.client.here) → Rests ret w v
    strays_by k elsewhere = strays plan.client k.core k.unserved w v bytes from to now ret (control_at plan.client.transport head) elsewhere k.there step

    garbles_by : (k : IsCore request) → plan.client.transport ≡ Udp → refusal bytes.items ≢ None → Rests ret w v
    garbles_by k udp none = garbles plan.client k.core k.unserved w v bytes from to now ret none (subst (λ (r : TransportType). w.client ≡ Some (over (control_at r head) k.core)) udp k.there) step

  module _ (request : RequestState) (is : IsStageOf plan reported request t head w) (message : List ℕ) (whole : refusal message ≡ None) (bytes : Vec ℕ Global) (now : ℕ) (ret : Answer) where
    abbrev k : IsCore request
    k = core_of request is

    abbrev After : List ℕ → Type 0
    After rest = IsStageOf plan (reported ++ event_in ret) request t (until_whole (head ++ bytes.items) rest) v × ((part : List ℕ) × IsPartOf (until_whole (head ++ bytes.items) rest) part)

    by_rest : (rest : List ℕ) → MayCome plan request message rest → IsBroughtOn plan.client.transport k.core message (head ++ bytes.items) rest now ret w v → After rest
    by_rest [] may h = (
      stage_with request ret is [] (h.there ∙ ap (λ (q : Protocol). Some (over (control_at plan.client.transport []) q)) (k.ignores message may now h.handled h.core h.processed)) h.silent_is,
      (message, none_yet message whole),
    )
    by_rest (byte ∷ rest) may h = (stage_with request ret is (head ++ bytes.items) h.0.there h.0.silent_is, (message, h.1))

pub returns-clause-strays : goal.returns-clause-strays
returns-clause-strays c = λ plan w v reported request t head bytes from to now ret is elsewhere step.
    rests_so plan reported request t head ret w v (strays_by c plan w v reported t head request is bytes from to now ret step (core_of c plan w v reported t head request is) elsewhere) is

pub returns-clause-garbles : goal.returns-clause-garbles
returns-clause-garbles c = λ plan w v reported request t head bytes from to now ret is udp none step.
    rests_so plan reported request t head ret w v (garbles_by c plan w v reported t head request is bytes from to now ret step (core_of c plan w v reported t head request is) udp none) is

pub returns-clause-brings : goal.returns-clause-brings
returns-clause-brings c = λ plan w v reported request t head message rest bytes now ret is whole may on early step.
    let k = core_of c plan w v reported t head request is in
    by_rest c plan w v reported t head request is message whole bytes now ret rest may
    (brings (reach c plan w v reported t head) plan.client w v k.core message head rest bytes now ret k.there k.unserved whole on early step)
