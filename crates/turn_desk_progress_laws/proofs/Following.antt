-- A simulation whose client is established at its server core.
use Rattle.std.proofs.Common.{◌≡◌, ◌≢◌, ℕ, ◌<◌, arith, List, [], ◌∷◌, ◌++◌, Some, None, true, refl, sym, ap, ◌∙◌, subst, inl, inr}
use Rattle.std.specs.Prelude.{Vec}
use Rattle.std.specs.declared.alloc.Global.{Global}
use Rattle.std.specs.declared.net.socket_addr.SocketAddr.{SocketAddr}
use Rattle.std.proofs.lemmas.Bool.{le-leb, leb-true}
use Rattle.turn_desk_core.specs.StunTypesBase.declared.transport.TransportType.{TransportType}
use Rattle.turn_desk_core.specs.StunTypesBase.declared.transport.TransportType.TheVariants.{Tcp, Udp}
use Rattle.turn_client_proto_messages.specs.StunProtoClient.Challenges.{challenge_visible}
use Rattle.turn_client_proto_messages.specs.TurnRuns.Members.{IsIn}
use Rattle.turn_client_proto_handshake_laws.specs.Coming.{IsPartOf}
use Rattle.turn_client_proto_handshake_laws.specs.Driving.{client_end}
use Rattle.turn_client_proto_progress_laws.specs.Speaking.{Speaks, ReportsRealm}
use Rattle.turn_client_proto_progress_laws.proofs.Asking.Processing.{processed_speaks}
use Rattle.turn_desk_world_laws.specs.World.Desks.{IsDeskAnswered, words_of}
use Rattle.turn_client_proto_step_laws.specs.Recv.ClientState.{Protocol}
use Rattle.turn_desk_world_laws.specs.World.Model.{World}
use Rattle.turn_desk_world_laws.specs.World.Runs.{IsRun, IsStep, is_in_range}
use Rattle.turn_desk_core.specs.State.{State}
use Rattle.turn_client_proto_step_laws.specs.Recv.Control.{Datagrams}
use Rattle.turn_desk_event.specs.declared.answer.Answer.{Answer}
use Rattle.turn_desk_event.specs.declared.answer.Answer.TheVariants as answer
use Rattle.turn_desk_core.specs.declared.decision.Decision.{Decision}
use Rattle.turn_desk_event.specs.declared.event.Event.{Event}
use Rattle.turn_desk_event.specs.declared.event.Event.TheVariants.{Call, Draw, ToClient, ToDesk}
use Rattle.turn_desk_progress_laws.specs.Promises.{HasClient, control_at, over}
use Rattle.turn_desk_progress_laws.specs.Scripts.{BringsOn, Plan}
use Rattle.turn_desk_progress_laws.proofs.Clients.{done, same_desk}
use Rattle.turn_desk_progress_laws.specs.Asking.{AtDesk, Begins, Calls, Datagram, Delivery, Draws, Continues, Half, Idle, Late, IsClean, IsCleanRun, delivered, replies_in, with_reply}
use Rattle.turn_desk_progress_laws.proofs.Calls.{IsIn as IsInWorld, acted_speaks, any_call, draws}
use Rattle.turn_desk_progress_laws.proofs.RequestComing.{IsBrought, IsStoredOf, brings, datagram_speaks, nothing_of, part_of_one, socket_stays, speaker_waits}
use Rattle.turn_desk_progress_laws.proofs.Parts.{desk_by}
use Rattle.turn_desk_progress_laws.proofs.Desks.{IsDeskOf, IsReplyOf, desk_stays, reply_is}

-- ---- a world

-- The statement `Is` holds of the client, to which these first bytes of a reply have come; and the server
-- core has the client's user.
pub record IsReady (plan : Plan) (realm head : List ℕ) (Is : Protocol → Type 0) (w : World) : Type 0 where
  pub client : HasClient plan head w Is
  pub desk : IsDeskOf plan.client realm w.desk

out_of_range : {A : Type 0} (now : ℕ) → client_end < now → is_in_range now ≡ true → A
out_of_range now late early = absurd (omega (arith, late, leb-true now client_end early))

-- What came before a chunk.
abbrev pub head_of : Delivery → List ℕ
head_of Idle = []
head_of (Half reply head) = head

module _ (plan : Plan) (realm : List ℕ) where
  -- If only the client has changed.
  pub placed : (transport : TransportType) → plan.client.transport ≡ transport → (head : List ℕ) (Is : Protocol → Type 0) (w v : World) → IsDeskOf plan.client realm w.desk → IsInWorld (control_at transport head) Is w v → IsReady plan realm head Is v
  placed transport same head Is w v desk i = record {
    client = record { core = i.core; there = i.there ∙ ap (λ (t : TransportType). Some (over (control_at t head) i.core)) (sym same); is = i.is };
    desk = subst (λ (d : State). IsDeskOf plan.client realm d) (sym (same_desk w v i.of)) desk;
  }

  -- If only the server core has changed.
  pub at_desk : (head : List ℕ) (Is : Protocol → Type 0) (w v : World) (ret : Answer) (bytes : Vec ℕ Global) (from : SocketAddr) (at : ℕ) (decision : Decision) (seed : List ℕ) → IsReady plan realm head Is w → IsStep (ToDesk bytes from at decision seed) w ret v → IsReady plan realm head Is v
  at_desk head Is w v ret bytes from at decision seed ready step = record {
    client = record { core = ready.client.core; there = ap (λ (x : World). x.client) step.1 ∙ ready.client.there; is = ready.client.is };
    desk = desk_stays plan.client realm w.desk v.desk ready.desk ret bytes.items from at decision seed step.0;
  }

  -- The reply that is under way.
  abbrev pub IsUnderWayOf : Delivery → Type 0
  IsUnderWayOf Idle = Unit {0}
  IsUnderWayOf (Half reply head) = IsPartOf head reply × IsReplyOf realm reply

  stored_of : (transport : TransportType) (at : Delivery) → IsUnderWayOf at → IsStoredOf transport (head_of at)
  stored_of transport Idle way = nothing_of transport
  stored_of transport (Half reply head) way = part_of_one transport head reply way.0

  -- The server core's replies so far.
  abbrev pub AreReplies : List (List ℕ) → Type 0
  AreReplies replies = (reply : List ℕ) → IsIn reply replies → IsReplyOf realm reply

  -- What the server core replies.
  more_own : (replies : List (List ℕ)) (ret : Answer) (d e : State) (bytes : Vec ℕ Global) (from : SocketAddr) (at : ℕ) (decision : Decision) (seed : List ℕ) → d.auth.realm ≡ realm → AreReplies replies
      → IsDeskAnswered ret d bytes.items from at decision seed e → AreReplies (with_reply (ToDesk bytes from at decision seed) ret replies)
  more_own replies (answer.Reply r) d e bytes from at decision seed same own is reply (inl it) =
      subst (λ (l : List ℕ). IsReplyOf realm l) it (reply_is realm d e same from bytes.items r.items at (words_of seed) is.reply.served decision is.reply.answer)
  more_own replies (answer.Reply r) d e bytes from at decision seed same own is reply (inr later) = own reply later
  more_own replies _ d e bytes from at decision seed same own is reply listed = own reply listed

  own_by : (replies : List (List ℕ)) (event : Event) (w v : World) (ret : Answer) → w.desk.auth.realm ≡ realm → AreReplies replies → IsStep event w ret v → AreReplies (with_reply event ret replies)
  own_by replies (Call what at) w v ret same own step reply listed = own reply listed
  own_by replies (Draw at) w v ret same own step reply listed = own reply listed
  own_by replies (ToClient bytes from to at) w v ret same own step reply listed = own reply listed
  own_by replies (ToDesk bytes from at decision seed) w v ret same own step reply listed = more_own replies ret w.desk v.desk bytes from at decision seed same own step.0 reply listed

  among_own : (replies : List (List ℕ)) (message : List ℕ) → AreReplies replies → (challenge_visible message ≢ None → IsIn message replies) → ReportsRealm realm message
  among_own replies message own among reported shows = (own message (among (λ none. Prim.cc (sym shows ∙ none)))).decodes reported shows

  -- After any run.
  pub replies_on : (pairs : List (Event × Answer)) (replies : List (List ℕ)) (w v : World) → IsDeskOf plan.client realm w.desk → AreReplies replies → IsRun w pairs v → AreReplies (replies_in pairs replies)
  unfolding IsRun replies_in
  replies_on [] replies w v desk own run = own
  replies_on (pair ∷ pairs) replies w v desk own run =
      replies_on pairs (with_reply pair.0 pair.1 replies) run.0 v (desk_by plan.client realm pair.0 pair.1 w run.0 desk run.1) (own_by replies pair.0 w run.0 pair.1 desk.realm_is own run.1) run.2

  -- ---- a client that speaks

  module _ (address : SocketAddr) where
    abbrev pub Speaking : Protocol → Type 0
    Speaking p = Speaks plan.client realm address p

    abbrev pub SpeaksIn : List ℕ → World → Type 0
    SpeaksIn head w = IsReady plan realm head Speaking w

    pub record SpeaksAt (at : Delivery) (w : World) : Type 0 where
      pub speaks : SpeaksIn (head_of at) w
      pub way : IsUnderWayOf at

    stays_at : (at next : Delivery) (v : World) → next ≡ at → IsUnderWayOf at → SpeaksIn (head_of at) v → SpeaksAt next v
    stays_at at next v same way speaks = subst (λ (d : Delivery). SpeaksAt d v) (sym same) (record { speaks = speaks; way = way })

    -- A chunk of a reply comes over TCP.
    brought : (reply head rest : List ℕ) (now : ℕ) (w v : World) (p : Protocol) → plan.client.transport ≡ Tcp → IsReplyOf realm reply → Speaking p → IsDeskOf plan.client realm w.desk → IsBrought Tcp p reply head rest now w v → SpeaksAt (delivered reply head rest) v
    brought reply head [] now w v p tcp is speaks desk b = record {
      speaks = placed Tcp tcp [] Speaking w v desk (record { core = b.core; there = b.there; is = processed_speaks plan.client realm address p speaks reply is.decodes now b.is.0 b.core b.is.1; of = b.of });
      way = tt;
    }
    brought reply head (byte ∷ rest) now w v p tcp is speaks desk b = record {
      speaks = placed Tcp tcp head Speaking w v desk (record { core = b.0.core; there = b.0.there; is = subst (λ (x : Protocol). Speaking x) (sym b.0.is) speaks; of = b.0.of });
      way = (b.1, is);
    }

    come : (reply head rest : List ℕ) (bytes : Vec ℕ Global) (now : ℕ) (w v : World) (ret : Answer) → plan.client.transport ≡ Tcp → IsReplyOf realm reply → SpeaksIn head w → BringsOn Tcp reply head bytes.items rest → is_in_range now ≡ true
        → IsStep (ToClient bytes plan.client.server plan.client.here now) w ret v → SpeaksAt (delivered reply (head ++ bytes.items) rest) v
    come reply head rest bytes now w v ret tcp is ready on early step =
        let p = ready.client.core in
        let there : w.client ≡ Some (over (control_at Tcp head) p) = ready.client.there ∙ ap (λ (t : TransportType). Some (over (control_at t head) p)) tcp in
        brought reply (head ++ bytes.items) rest now w v p tcp is ready.client.is ready.desk (brings plan.client w v p ready.client.is.settings bytes now ret early step reply is.message is.answers Tcp head rest there on)

    -- What comes later than the client's latest time has no effect.
    unheard : (head : List ℕ) (w v : World) (bytes : Vec ℕ Global) (from to : SocketAddr) (now : ℕ) (ret : Answer) → client_end < now → SpeaksIn head w → IsStep (ToClient bytes from to now) w ret v → SpeaksIn head v
    unheard head w v bytes from to now ret late s step =
        let c = s.client in
        let d = done (control_at plan.client.transport head) now _ c.core w.client v.client ret c.there step.0 in
        elim d.outcome [
          | inl does ↦ absurd (out_of_range now late does.0)
          | inr out ↦ placed plan.client.transport refl head Speaking w v s.desk (record { core = c.core; there = d.there ∙ ap Some out.1; is = c.is; of = step.1 })
        ]

    clean_step : (replies : List (List ℕ)) (at : Delivery) (event : Event) (next : Delivery) (w v : World) (ret : Answer) → IsClean plan replies at event next → AreReplies replies → SpeaksAt at w → IsStep event w ret v → SpeaksAt next v
    clean_step replies at event next w v ret (Calls what now other is to) own s step =
        let c = s.speaks.client in
        stays_at at next v to s.way (placed plan.client.transport refl (head_of at) Speaking w v s.speaks.desk
        (any_call (control_at plan.client.transport (head_of at)) w v c.core what now ret c.there (subst (λ (e : Event). IsStep e w ret v) is step) plan.client realm address c.is
        (speaker_waits plan.client realm address plan.client.transport (head_of at) c.core c.is (stored_of plan.client.transport at s.way))
        (socket_stays plan plan.client.transport (head_of at) c.core what c.is.settings.here other)))
    clean_step replies at event next w v ret (Draws now is to) own s step =
        let c = s.speaks.client in
        let a = draws (control_at plan.client.transport (head_of at)) w v c.core now ret c.there (subst (λ (e : Event). IsStep e w ret v) is step) in
        stays_at at next v to s.way (placed plan.client.transport refl (head_of at) Speaking w v s.speaks.desk
        (record { core = a.core; there = a.there; is = acted_speaks plan.client realm address c.core a.core now c.is a.acted; of = a.of }))
    clean_step replies at event next w v ret (AtDesk bytes from now decision seed is to) own s step =
        stays_at at next v to s.way (at_desk (head_of at) Speaking w v ret bytes from now decision seed s.speaks (subst (λ (e : Event). IsStep e w ret v) is step))
    clean_step replies at event next w v ret (Datagram bytes from to now udp among is stays_so) own s step =
        let c = s.speaks.client in
        let there : w.client ≡ Some (over Datagrams c.core) = c.there ∙ ap (λ (t : TransportType). Some (over (control_at t (head_of at)) c.core)) udp in
        stays_at at next v stays_so s.way (placed Udp udp (head_of at) Speaking w v s.speaks.desk
        (datagram_speaks plan.client realm address w v c.core bytes from to now ret there c.is (among_own replies bytes.items own among) (subst (λ (e : Event). IsStep e w ret v) is step)))
    clean_step replies at event next w v ret (Late bytes from to now late is stays_so) own s step =
        stays_at at next v stays_so s.way (unheard (head_of at) w v bytes from to now ret late s.speaks (subst (λ (e : Event). IsStep e w ret v) is step))
    clean_step replies at event next w v ret (Begins reply rest bytes now tcp idle listed on early is to) own s step =
        let here : SpeaksAt Idle w = subst (λ (d : Delivery). SpeaksAt d w) idle s in
        subst (λ (d : Delivery). SpeaksAt d v) (sym to) (come reply [] rest bytes now w v ret tcp (own reply listed) here.speaks on (le-leb now client_end early) (subst (λ (e : Event). IsStep e w ret v) is step))
    clean_step replies at event next w v ret (Continues reply head rest bytes now tcp half on early is to) own s step =
        let here : SpeaksAt (Half reply head) w = subst (λ (d : Delivery). SpeaksAt d w) half s in
        subst (λ (d : Delivery). SpeaksAt d v) (sym to) (come reply head rest bytes now w v ret tcp here.way.1 here.speaks on (le-leb now client_end early) (subst (λ (e : Event). IsStep e w ret v) is step))

    pub clean : (pairs : List (Event × Answer)) (replies : List (List ℕ)) (at last : Delivery) (w v : World) → AreReplies replies → SpeaksAt at w → IsRun w pairs v → IsCleanRun plan replies at pairs last → SpeaksAt last v
    unfolding IsRun IsCleanRun
    clean [] replies at last w v own s run is = subst (λ (d : Delivery). SpeaksAt d v) (sym is) (subst (λ (x : World). SpeaksAt at x) (sym run) s)
    clean (pair ∷ pairs) replies at last w v own s run is =
        clean pairs (with_reply pair.0 pair.1 replies) is.0 last run.0 v (own_by replies pair.0 w run.0 pair.1 s.speaks.desk.realm_is own run.1) (clean_step replies at pair.0 is.0 w run.0 pair.1 is.1 own s run.1) run.2 is.2
