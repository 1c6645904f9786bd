-- The request, from the call to the reply.
use Rattle.std.proofs.Common.{◌≡◌, ℕ, ◌≤◌, arith, Bool, true, List, [], ◌∷◌, ◌++◌, refl, sym, ap, ◌∙◌, subst, inl, inr}
use Rattle.std.specs.Prelude.{Vec}
use Rattle.std.specs.declared.alloc.Global.{Global}
use Rattle.std.specs.declared.net.socket_addr.SocketAddr.{SocketAddr}
use Rattle.turn_desk_core.specs.StunTypesWire.Attributes.{kind_at}
use Rattle.turn_desk_core.specs.StunTypesWire.declared.class.MessageClass.TheVariants.{Success}
use Rattle.turn_desk_core.specs.StunTypesWire.Types.{class_of}
use Rattle.turn_client_proto_messages.specs.TurnRuns.Indications.{is_indication}
use Rattle.turn_client_proto_handshake_laws.specs.Coming.{IsPartOf}
use Rattle.turn_client_proto_handshake_laws.specs.Core.Receiving.{IsProcessed}
use Rattle.turn_client_proto_progress_laws.specs.Asking.{AnyCount, HasRequested, Wanted}
use Rattle.turn_client_proto_progress_laws.specs.Holding.{IsGrantOf, IsOwnRequest}
use Rattle.turn_desk_world_laws.specs.World.Desks.{IsDeskAnswered, words_of}
use Rattle.turn_client_proto_step_laws.specs.Recv.ClientState.{Protocol}
use Rattle.turn_desk_world_laws.specs.World.Model.{World}
use Rattle.turn_desk_world_laws.specs.World.Runs.{IsRun, IsStep, is_in_range}
use Rattle.turn_desk_event.specs.declared.answer.Answer.{Answer}
use Rattle.turn_desk_event.specs.declared.answer.Answer.TheVariants as answer
use Rattle.turn_desk_core.specs.declared.decision.Decision.{Decision}
use Rattle.turn_desk_event.specs.declared.event.ClientCall.TheVariants as call
use Rattle.turn_desk_event.specs.declared.event.Event.{Event}
use Rattle.turn_desk_event.specs.declared.event.Event.TheVariants.{Call, Draw, ToClient, ToDesk}
use Rattle.turn_desk_progress_laws.specs.Promises.{HasClient, control_at}
use Rattle.turn_desk_progress_laws.specs.Scripts.{BringsOn, Plan}
use Rattle.turn_desk_progress_laws.proofs.Clients.{done}
use Rattle.turn_desk_progress_laws.proofs.Coming.{none_yet}
use Rattle.turn_desk_progress_laws.specs.Asking.{Between, Transmitted, Follows, Granted, Got, IsAskingScript, IsBetween, IsTransmitted, IsGiven, IsGranted, IsReplied, Pending, Receives, Stop, given}
use Rattle.turn_desk_progress_laws.proofs.Following.{IsReady, at_desk, placed}
use Rattle.turn_desk_progress_laws.proofs.Calls.{DoesWait, IsActedOn, acted_asks, calls, draws, receives}
use Rattle.turn_desk_progress_laws.proofs.RequestComing.{IsBrought, asker_waits, brings, part_of_one}
use Rattle.turn_desk_progress_laws.proofs.Desks.{grants_own}

module _ (plan : Plan) (realm : List ℕ) (address : SocketAddr) (wanted : Wanted) (request : List ℕ) (now : ℕ) (Held : Protocol → Type 0)
    (own : (p : Protocol) → HasRequested plan.client realm address wanted request now p → IsOwnRequest plan.client realm wanted request)
    (holds : (reply : List ℕ) (p q : Protocol) (handled : Bool) → HasRequested plan.client realm address wanted request now p → IsGrantOf plan.client realm request reply → IsProcessed p reply now handled q → Held q)
    (waits : (p : Protocol) → Held p → DoesWait (control_at plan.client.transport []) p Held) where
  abbrev Asks : Protocol → Type 0
  Asks p = HasRequested plan.client realm address wanted request now p

  pub record IsArriving (reply head : List ℕ) (w : World) : Type 0 where
    pub ready : IsReady plan realm head Asks w
    pub early : is_in_range now ≡ true
    pub grant : IsGrantOf plan.client realm request reply
    pub part : IsPartOf head reply

  -- The state of the simulation at each stop.
  abbrev pub IsAtStage : Stop → World → Type 0
  IsAtStage Pending w = IsReady plan realm [] Asks w
  IsAtStage Transmitted w = IsReady plan realm [] Asks w × (is_in_range now ≡ true)
  IsAtStage (Granted reply head) w = IsArriving reply head w
  IsAtStage (Got reply) w = HasClient plan [] w Held × (is_in_range now ≡ true)

  acted : (w v : World) (at : ℕ) → at ≤ now → (ready : IsReady plan realm [] Asks w) → IsActedOn (control_at plan.client.transport []) ready.client.core at w v → IsReady plan realm [] Asks v
  acted w v at early ready a = placed plan realm plan.client.transport refl [] Asks w v ready.desk
      (record { core = a.core; there = a.there; is = acted_asks plan.client realm address wanted request now now AnyCount ready.client.core a.core at early early ready.client.is a.acted; of = a.of })

  between : (event : Event) (w v : World) (ret : Answer) → IsBetween now event → IsReady plan realm [] Asks w → IsStep event w ret v → IsReady plan realm [] Asks v
  between (Call what at) w v ret is ready step = acted w v at is.1 ready (calls (control_at plan.client.transport []) w v ready.client.core what at ret ready.client.there is.0 step)
  between (Draw at) w v ret is ready step = acted w v at is ready (draws (control_at plan.client.transport []) w v ready.client.core at ret ready.client.there step)
  between (ToClient bytes from to at) w v ret is ready step = absurd is
  between (ToDesk bytes from at decision seed) w v ret is ready step = at_desk plan realm [] Asks w v ret bytes from at decision seed ready step

  -- What was transmitted was transmitted in range.
  in_range : (w v : World) (ret : Answer) (sent : _) → ret ≡ answer.Transmit sent → IsReady plan realm [] Asks w → IsStep (Draw now) w ret v → is_in_range now ≡ true
  in_range w v ret sent is ready step =
      let d = done (control_at plan.client.transport []) now _ ready.client.core w.client v.client ret ready.client.there step.0 in
      elim d.outcome [
        | inl does ↦ does.0
        | inr out ↦ absurd (Prim.cc (sym is ∙ out.0))
      ]

  granted : (w v : World) (bytes reply : Vec ℕ Global) (decision : Decision) (seed : List ℕ) → bytes.items ≡ request → class_of (kind_at reply.items) ≡ Success
      → IsReady plan realm [] Asks w → IsStep (ToDesk bytes plan.client.here now decision seed) w (answer.Reply reply) v → IsGrantOf plan.client realm request reply.items
  granted w v bytes reply decision seed same success ready step =
      let requested = subst (λ (l : List ℕ). IsDeskAnswered (answer.Reply reply) w.desk l plan.client.here now decision seed v.desk) same step.0 in
      grants_own plan.client realm wanted request (own ready.client.core ready.client.is) w.desk v.desk ready.desk plan.client.here reply.items now (words_of seed) decision requested.reply.served success requested.reply.answer

  -- A chunk of the reply comes.
  came : (w v : World) (reply before head rest : List ℕ) → (a : IsArriving reply before w) → IsBrought plan.client.transport a.ready.client.core reply head rest now w v → IsAtStage (given reply head rest) v
  came w v reply before head [] a b = (record { core = b.core; there = b.there; is = holds reply a.ready.client.core b.core b.is.0 a.ready.client.is a.grant b.is.1 }, a.early)
  came w v reply before head (byte ∷ rest) a b = record {
    ready = placed plan realm plan.client.transport refl head Asks w v a.ready.desk
        (record { core = b.0.core; there = b.0.there; is = subst (λ (x : Protocol). Asks x) (sym b.0.is) a.ready.client.is; of = b.0.of });
    early = a.early;
    grant = a.grant;
    part = b.1;
  }

  brought : (w v : World) (reply head rest : List ℕ) (bytes : Vec ℕ Global) (ret : Answer) → BringsOn plan.client.transport reply head bytes.items rest → IsArriving reply head w → IsStep (ToClient bytes plan.client.server plan.client.here now) w ret v
      → IsAtStage (given reply (head ++ bytes.items) rest) v
  brought w v reply head rest bytes ret on a step =
      let c = a.ready.client in
      came w v reply head (head ++ bytes.items) rest a
      (brings plan.client w v c.core c.is.speaks.settings bytes now ret a.early step reply a.grant.message (ap is_indication a.grant.success) plan.client.transport head rest c.there on)

  -- `poll_recv` is called.
  received : (stop : Stop) (w v : World) (at : ℕ) (ret : Answer) → IsReplied stop → IsAtStage stop w → IsStep (Call call.PollRecv at) w ret v → IsAtStage stop v
  received Pending w v at ret replied s step = absurd replied
  received Transmitted w v at ret replied s step = absurd replied
  received (Granted reply head) w v at ret replied s step =
      let c = s.ready.client in
      record {
        ready = placed plan realm plan.client.transport refl head Asks w v s.ready.desk
            (receives (control_at plan.client.transport head) Asks w v c.core at ret c.there c.is
            (asker_waits plan.client realm address wanted request now now AnyCount plan.client.transport head c.core c.is (part_of_one plan.client.transport head reply s.part)) step);
        early = s.early;
        grant = s.grant;
        part = s.part;
      }
  received (Got reply) w v at ret replied s step =
      let i = receives (control_at plan.client.transport []) Held w v s.0.core at ret s.0.there s.0.is (waits s.0.core s.0.is) step in
      (record { core = i.core; there = i.there; is = i.is }, s.1)

  one : (event : Event) (w v : World) (ret : Answer) (stop next : Stop) → Follows plan request now stop event ret next → IsAtStage stop w → IsStep event w ret v → IsAtStage next v
  one event w v ret stop next (Between at is to) s step =
      subst (λ (x : Stop). IsAtStage x v) (sym to) (between event w v ret is (subst (λ (x : Stop). IsAtStage x w) at s) step)
  one event w v ret stop next (IsTransmitted sent at is said own_bytes to) s step =
      let ready : IsReady plan realm [] Asks w = subst (λ (x : Stop). IsAtStage x w) at s in
      let transmitted = subst (λ (e : Event). IsStep e w ret v) is step in
      subst (λ (x : Stop). IsAtStage x v) (sym to)
      (acted w v now (omega arith) ready (draws (control_at plan.client.transport []) w v ready.client.core now ret ready.client.there transmitted), in_range w v ret sent said ready transmitted)
  one event w v ret stop next (IsGranted bytes reply decision seed at same is said success to) s step =
      let here : IsAtStage Transmitted w = subst (λ (x : Stop). IsAtStage x w) at s in
      let requested = subst (λ (a : Answer). IsStep (ToDesk bytes plan.client.here now decision seed) w a v) said (subst (λ (e : Event). IsStep e w ret v) is step) in
      let grant = granted w v bytes reply decision seed same success here.0 requested in
      subst (λ (x : Stop). IsAtStage x v) (sym to) (record {
        ready = at_desk plan realm [] Asks w v (answer.Reply reply) bytes plan.client.here now decision seed here.0 requested;
        early = here.1;
        grant = grant;
        part = none_yet reply.items grant.message;
      })
  one event w v ret stop next (Receives at replied is to) s step =
      subst (λ (x : Stop). IsAtStage x v) (sym to) (received stop w v at ret replied s (subst (λ (e : Event). IsStep e w ret v) is step))
  one event w v ret stop next (IsGiven reply head rest bytes at on is to) s step =
      let a : IsArriving reply head w = subst (λ (x : Stop). IsAtStage x w) at s in
      subst (λ (x : Stop). IsAtStage x v) (sym to) (brought w v reply head rest bytes ret on a (subst (λ (e : Event). IsStep e w ret v) is step))

  pub asking : (pairs : List (Event × Answer)) (w v : World) (stop last : Stop) → IsAtStage stop w → IsRun w pairs v → IsAskingScript plan request now stop pairs last → IsAtStage last v
  unfolding IsRun IsAskingScript
  asking [] w v stop last s run is = subst (λ (x : Stop). IsAtStage x v) (sym is) (subst (λ (x : World). IsAtStage stop x) (sym run) s)
  asking (pair ∷ pairs) w v stop last s run is = asking pairs run.0 v is.0 last (one pair.0 w run.0 pair.1 stop is.0 is.1 s run.1) run.2 is.2
