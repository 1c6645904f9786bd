-- Connections end with their sockets.
use Rattle.std.proofs.Common.{Vec, Global, ◌≡◌, ℕ, true, false, if◌then◌else◌, List, [], ◌∷◌, ◌++◌, Option, Some, None, refl, sym, ap, ◌∙◌, subst, inl, inr}
use Rattle.std.proofs.lemmas.List.{append_assoc}
use Rattle.std.specs.declared.net.socket_addr.SocketAddr.{SocketAddr}
use Rattle.turn_desk_step_laws.specs.TurnRuns.Chains.{steps_of}
use Rattle.turn_desk_step_laws.specs.TurnClientProtoAllocation.declared.connection.Binding.{Binding}
use Rattle.turn_desk_step_laws.specs.TurnClientProtoAllocation.declared.connection.Connection.{Connection as Joined}
use Rattle.turn_client_proto_step_laws.specs.ClientWords.{IsStored, client_words}
use Rattle.turn_client_proto_step_laws.specs.Recv.Closing.{after_close, is_joined, without}
use Rattle.turn_client_proto_step_laws.specs.Recv.Control.{Control, Datagrams, Open, Closed}
use Rattle.turn_client_proto_step_laws.specs.Recv.ClientState.{ClientState, Protocol}
use Rattle.turn_desk_step_laws.specs.TurnRuns.Messages.{Connection, FromConnection, Held}
use Rattle.turn_client_proto_step_laws.specs.RunClient.{Client}
use Rattle.turn_desk_step_laws.specs.TurnRuns.Runs.{AtClient, AtDesk, AtEach, IsLawful, Leads, Step}
use Rattle.turn_desk_step_laws.specs.TurnRuns.Steps.{Call}
use Rattle.turn_client_proto_step_laws.proofs.Closed.{none_over}
use Rattle.turn_client_proto_step_laws.proofs.Lists.{inside, nothing_after}
use Rattle.turn_client_proto_step_laws.proofs.Polling.{by_test}
use Rattle.turn_desk_event.specs.declared.answer.Answer.{Answer}
use Rattle.turn_desk_event.specs.declared.answer.Answer.TheVariants as answer
use Rattle.turn_desk_event.specs.declared.event.ClientCall.{ClientCall}
use Rattle.turn_desk_event.specs.declared.event.ClientCall.TheVariants as call
use Rattle.turn_desk_event.specs.declared.event.Event.{Event}
use Rattle.turn_desk_event.specs.declared.event.Event.TheVariants as event
use Rattle.turn_desk_step_laws.specs.DeskRun.{DeskCall}
use Rattle.turn_desk_world.specs.Calls.{IsCallReported, IsCalled}
use Rattle.turn_desk_world_laws.specs.Ends.{BoundSince, EndWithSockets, HasNoneOver, IsParted, IsServedBy, WasBound, closing}
use Rattle.turn_desk_world.specs.Model.{World}
use Rattle.turn_desk_world.specs.Runs.{IsAtClient, IsInRange, IsStep, is_in_range}
use Rattle.turn_desk_world_laws.specs.Safety.{IsAccount, words}
use Rattle.turn_desk_world_laws.specs.SocketCalls.{AreCallsBound, AreCallsOfJoining, AreCallsOver, IsOne}
use Rattle.turn_desk_world_laws.specs.Reported.{AreCallsBy, AreCallsOfAsking, AreCallsOfBytes, AreCallsOfChunk, AreCallsOverTcp, AreStepsBy, AreStepsOfClient, AreTakenUp, IsAt, IsStoredAs, IsReportedBy, OfStream, OverNone, OverSocket, raw_requested}
use Rattle.turn_desk_world_laws.proofs.Answered.{newest}
use Rattle.turn_desk_world_laws.proofs.Chain.{each_later, leads_parted}

-- ---- calls end in the client that they leave

module _ (first last : Client) where
  abbrev EndIn : List (Call Client) → Type 0
  EndIn [] = last ≡ first
  EndIn (call ∷ earlier) = last ≡ call.after

  ends_so : (calls others : List (Call Client)) → calls ≡ others → EndIn others → EndIn calls
  ends_so calls others are ends = subst EndIn (sym are) ends

  one_ends : (Is : Call Client → Type 0) (calls : List (Call Client)) → IsOne Is first calls last → EndIn calls
  one_ends Is calls (call, are, begins, ends, is) = ends_so calls (call ∷ []) are ends

module _ (last : Client) where
  taken_ends : (now : ℕ) (ret : Answer) (first : Client) (calls : List (Call Client)) → AreTakenUp now ret first calls last → EndIn first last calls
  taken_ends now ret first [] is = is.0
  taken_ends now ret first (call ∷ earlier) is = is.0

  ends_after : (first : Client) (taking : List (Call Client)) (coming : Call Client) → EndIn coming.after last taking → EndIn first last (taking ++ coming ∷ [])
  ends_after first [] coming ends = ends
  ends_after first (call ∷ taking) coming ends = ends

module _ (stored : ClientState) (ret : Answer) (first last : Client) (calls : List (Call Client)) where
  chunk_ends : (bytes : List ℕ) (from to : SocketAddr) (now : ℕ) → AreCallsOfChunk stored bytes from to now ret first calls last → EndIn first last calls
  chunk_ends bytes from to now is =
      ends_so first last calls (is.taking ++ is.coming ∷ []) is.calls_are
      (ends_after last first is.taking is.coming (taken_ends last now ret is.coming.after is.taking is.taken))

  joining_ends : (k : Joined) (to : SocketAddr) (now : ℕ) (bytes : List ℕ) → AreCallsOfJoining k to now bytes first calls last → EndIn first last calls
  joining_ends k to now bytes is = ends_so first last calls (is.back ∷ is.processed ++ is.out ∷ []) is.calls_are is.ends

  bound_ends : (awaited : Option Binding) (k : Joined) (to : SocketAddr) (now : ℕ) (bytes : List ℕ) → AreCallsBound awaited k to now bytes ret stored.core first calls last → EndIn first last calls
  bound_ends (Some binding) k to now bytes is = joining_ends k to now bytes is.1
  bound_ends None k to now bytes is = one_ends first last _ calls is

  over_ends : (k : Joined) (to : SocketAddr) (now : ℕ) (bytes : List ℕ) → AreCallsOver k to now bytes ret stored.core first calls last → EndIn first last calls
  over_ends k to now [] is = one_ends first last _ calls is.1
  over_ends k to now (byte ∷ bytes) is = bound_ends k.awaited k to now (byte ∷ bytes) is

  tcp_ends : (bytes : List ℕ) (from to : SocketAddr) (now : ℕ) → AreCallsOverTcp stored bytes from to now ret first calls last → EndIn first last calls
  tcp_ends bytes from to now (OfStream is are) = chunk_ends bytes from to now are
  tcp_ends bytes from to now (OverSocket none inside_it k at are) = over_ends k to now bytes are
  tcp_ends bytes from to now (OverNone none no_socket are) = chunk_ends bytes from to now are

  bytes_ends : (control : Control) (bytes : Vec ℕ Global) (from to : SocketAddr) (now : ℕ) → AreCallsOfBytes control stored bytes from to now ret first calls last → EndIn first last calls
  bytes_ends Datagrams bytes from to now is = one_ends first last _ calls is
  bytes_ends (Open stream) bytes from to now is = tcp_ends bytes.items from to now is
  bytes_ends Closed bytes from to now is = tcp_ends bytes.items from to now is

  asking_ends : (raw : Option Joined) (now : ℕ) → AreCallsOfAsking raw now stored ret first calls last → EndIn first last calls
  asking_ends (Some k) now is = one_ends first last _ calls is
  asking_ends None now is = taken_ends last now ret first calls is

  call_ends : (what : ClientCall) (now : ℕ) → AreCallsBy (event.Call what now) stored ret first calls last → EndIn first last calls
  call_ends call.PollRecv now is = asking_ends (raw_requested now stored) now is
  call_ends call.Poll now is = one_ends first last _ calls is
  call_ends call.PollEvent now is = one_ends first last _ calls is
  call_ends call.Delete now is = one_ends first last _ calls is
  call_ends (call.CreatePermission transport ip) now is = one_ends first last _ calls is
  call_ends (call.CreatePermissions transport ips) now is = one_ends first last _ calls is
  call_ends (call.HavePermission transport ip) now is = one_ends first last _ calls is
  call_ends (call.Permissions transport relayed) now is = one_ends first last _ calls is
  call_ends (call.BindChannel transport peer) now is = one_ends first last _ calls is
  call_ends (call.TcpConnect peer) now is = one_ends first last _ calls is
  call_ends (call.AllocatedTcpSocket id peer here) now is = one_ends first last _ calls is
  call_ends (call.TcpClosed here there) now is = one_ends first last _ calls is
  call_ends call.Connections now is = one_ends first last _ calls is
  call_ends call.Channels now is = one_ends first last _ calls is
  call_ends (call.SendTo transport to bytes) now is = one_ends first last _ calls is
  call_ends call.ProtocolError now is = one_ends first last _ calls is
  call_ends call.RelayedAddresses now is = one_ends first last _ calls is

-- ---- so each part of an account leaves the client that its world stores

at_same : (o : Option ClientState) (c d : Client) → c.core ≡ d.core → c.waiting ≡ d.waiting → IsAt o c → IsAt o d
at_same None c d cores waits is = absurd is
at_same (Some k) c d cores waits is = record { core = is.core ∙ cores; waits = is.waits ∙ waits; are_bytes = is.are_bytes }

module _ (old next : Option ClientState) (first mid : Client) (at : IsAt old first) where
  left_at : (stored : ClientState) (begins ends : Client) (calls : List (Call Client)) → old ≡ Some stored → IsStoredAs begins stored → IsAt next ends → EndIn begins ends calls → Leads {D = DeskCall} first (steps_of calls) mid → IsAt next mid
  left_at stored begins ends [] is before after same leads =
      let here = subst (λ (o : Option ClientState). IsAt o first) is at in
      subst (IsAt next) (sym leads) (at_same next begins first (sym before.core ∙ here.core) (sym before.waits ∙ here.waits) (subst (IsAt next) same after))
  left_at stored begins ends (call ∷ earlier) is before after same leads = subst (IsAt next) (same ∙ sym leads.0) after

  steps_at : (happening : Event) (ret : Answer) (steps : List (Step Client DeskCall)) → ((stored : ClientState) (begins ends : Client) (calls : List (Call Client)) → AreCallsBy happening stored ret begins calls ends → EndIn begins ends calls)
      → AreStepsOfClient happening ret old next steps → Leads first steps mid → IsAt next mid
  steps_at happening ret steps end_in is leads =
      left_at is.stored is.first is.last is.calls is.stored_is is.before is.after (end_in is.stored is.first is.last is.calls is.are) (subst (λ (l : List (Step Client DeskCall)). Leads first l mid) is.steps_are leads)

event_at : (happening : Event) (ret : Answer) (old next : World) (steps : List (Step Client DeskCall)) (first mid : Client) → IsAt old.client first → IsStep happening old ret next → AreStepsBy happening ret old steps next
    → Leads first steps mid → IsAt next.client mid
event_at (event.Call what now) ret old next steps first mid at is by leads =
    steps_at old.client next.client first mid at (event.Call what now) ret steps (λ stored begins ends calls are. call_ends stored ret begins ends calls what now are) by leads
event_at (event.Draw now) ret old next steps first mid at is by leads =
    steps_at old.client next.client first mid at (event.Draw now) ret steps (λ stored begins ends calls are. one_ends begins ends _ calls are) by leads
event_at (event.ToClient bytes from to now) ret old next steps first mid at is by leads =
    steps_at old.client next.client first mid at (event.ToClient bytes from to now) ret steps (λ stored begins ends calls are. bytes_ends stored ret begins ends calls stored.control bytes from to now are) by leads
event_at (event.ToDesk bytes from now decision seed) ret old next steps first mid at is by leads =
    let same : mid ≡ first = subst (λ (l : List (Step Client DeskCall)). Leads first l mid) by leads in
    subst (IsAt next.client) (sym same) (subst (λ (o : Option ClientState). IsAt o first) (sym (ap (λ (w : World). w.client) is.1)) at)

reported_at : (pairs : List (Event × Answer)) (old new : World) (run : List (Step Client DeskCall)) (first last : Client) → IsReportedBy old pairs run new → Leads first run last → IsAt old.client first → IsAt new.client last
unfolding IsReportedBy
reported_at [] old new run first last reported leads at =
    let same : last ≡ first = subst (λ (l : List (Step Client DeskCall)). Leads first l last) reported.0 leads in
    subst (IsAt new.client) (sym same) (subst (λ (w : World). IsAt w.client first) (sym reported.1) at)
reported_at (pair ∷ pairs) old new run first last (next, steps, later, run_is, is, by, rest) leads at =
    let two = leads_parted first last later steps (subst (λ (l : List (Step Client DeskCall)). Leads first l last) run_is leads) in
    reported_at pairs next new later two.0 last rest two.2 (event_at pair.0 pair.1 old next steps first two.0 at is by two.1)

-- ---- an account in two parts

reported_parted : (before after : List (Event × Answer)) (old new : World) (run : List (Step Client DeskCall)) → IsReportedBy old (before ++ after) run new → IsParted old before after run new
unfolding IsReportedBy
reported_parted [] after old new run reported = record {
  between = old;
  earlier = [];
  later = run;
  run_is = nothing_after run;
  reported_before = (refl, refl);
  reported_after = reported;
}
reported_parted (pair ∷ before) after old new run (next, steps, later, run_is, is, by, rest) =
    let parts = reported_parted before after next new later rest in
    record {
      between = parts.between;
      earlier = parts.earlier ++ steps;
      later = parts.later;
      run_is = run_is ∙ ap (λ (l : List (Step Client DeskCall)). l ++ steps) parts.run_is ∙ append_assoc parts.later parts.earlier steps;
      reported_before = (next, steps, parts.earlier, refl, is, by, parts.reported_before);
      reported_after = parts.reported_after;
    }

-- ---- what is stored was bound since

module _ (mid : Client) (here : SocketAddr) (none : (peer : SocketAddr) (number : ℕ) → client_words.IsStored mid (Connection here peer number) → ⊥) where
  stored_since : (later : List (Step Client DeskCall)) (c : Client) → Leads mid later c → AtEach (λ s _. IsLawful words s) later → (peer : SocketAddr) (number : ℕ) → client_words.IsStored c (Connection here peer number)
      → WasBound here peer number later
  stored_since [] c leads each peer number stored = absurd (none peer number (subst (λ (x : Client). client_words.IsStored x (Connection here peer number)) leads stored))
  stored_since (AtClient call ∷ later) c leads each peer number stored =
      elim (each.0.gains (Connection here peer number) (subst (λ (x : Client). client_words.IsStored x (Connection here peer number)) leads.0 stored)) [
        | inl was ↦ inr (stored_since later call.before leads.1 each.1 peer number was)
        | inr gained ↦ inl (each.0, gained.0, gained.1, gained.2)
      ]
  stored_since (AtDesk d ∷ later) c leads each peer number stored = inr (stored_since later c leads each.1 peer number stored)

  each_since : (later : List (Step Client DeskCall)) (c : Client) → Leads mid later c → AtEach (λ s _. IsLawful words s) later → AtEach (BoundSince here) later
  each_since [] c leads each = tt
  each_since (AtClient call ∷ later) c leads each =
      let bound = stored_since (AtClient call ∷ later) call.after (refl, leads.1) each in (
        record {
          stored = λ peer number stored. bound peer number stored;
          visible = λ peer number listed. bound peer number (each.0.shows (Connection here peer number) (each.0.visible (Connection here peer number) listed));
          given = λ peer bytes listed.
              let named = each.0.names (FromConnection here peer bytes) listed in
              (named.1.0, bound peer named.1.0 (subst (λ (h : Held). client_words.IsStored call.after h) named.1.1 named.2));
        },
        each_since later call.before leads.1 each.1,
      )
  each_since (AtDesk d ∷ later) c leads each = (tt, each_since later c leads each.1)

none_at : (here : SocketAddr) (w : World) (c : Client) → IsAt w.client c → HasNoneOver here w → (peer : SocketAddr) (number : ℕ) → client_words.IsStored c (Connection here peer number) → ⊥
none_at here w c at none peer number stored = by w.client refl at
  where
    by : (o : Option ClientState) → w.client ≡ o → IsAt o c → ⊥
    by None is at = at
    by (Some k) is at = none k is peer number (subst (λ (p : Protocol). IsStored p.allocations (Connection here peer number)) (sym at.core) stored)

-- ---- after the close of a socket

same_server : (here there : SocketAddr) (p : Protocol) → ((after_close here there p).agent.transport ≡ p.agent.transport) × ((after_close here there p).server ≡ p.server)
unfolding without
same_server here there p =
    elim (is_joined here there p) as (λ b. ((if b then without here p else p).agent.transport ≡ p.agent.transport) × ((if b then without here p else p).server ≡ p.server)) [ true ↦ (refl, refl) | false ↦ (refl, refl) ]

module _ (here there : SocketAddr) (now : ℕ) where
  -- The client that the close left.
  was_closed : (o n : Option ClientState) → IsAtClient now (λ p q. IsCallReported (call.TcpClosed here there) answer.Done p now q) o answer.Done n → (k : ClientState) → n ≡ Some k → (b : ClientState) × (k.core ≡ after_close here there b.core)
  unfolding IsAtClient IsInRange IsCallReported IsCalled
  was_closed None n h k is = absurd (Prim.cc h.0)
  was_closed (Some b) None h k is = absurd h
  was_closed (Some b) (Some a) h k is =
      by_test (is_in_range now)
      (λ _ does. (b, ap (λ (x : ClientState). x.core) (sym (inside is)) ∙ does.0))
      (λ _ nothing. absurd (let never : ⊥ = Prim.cc nothing.0 in never)) h

  closed_none : (w next : World) → IsStep (event.Call (call.TcpClosed here there) now) w answer.Done next → IsServedBy there next → HasNoneOver here next
  closed_none w next is (k, k_is, tcp, served) other other_is peer number stored =
      let same : other ≡ k = inside (sym other_is ∙ k_is) in
      let was = was_closed w.client next.client is.0 k k_is in
      let stays = same_server here there was.0.core in
      let server : was.0.core.server ≡ there = sym stays.1 ∙ ap (λ (p : Protocol). p.server) (sym was.1) ∙ served in
      none_over was.0.core k.core here peer number
      (sym stays.0 ∙ ap (λ (p : Protocol). p.agent.transport) (sym was.1) ∙ tcp)
      (was.1 ∙ ap (λ (s : SocketAddr). after_close here s was.0.core) (sym server))
      (subst (λ (x : ClientState). IsStored x.core.allocations (Connection here peer number)) same stored)

-- ---- of an account

pub end_with_sockets : (first : Client) (old : World) (pairs : List (Event × Answer)) (new : World) (run : List (Step Client DeskCall)) (last : Client) → IsAt old.client first → IsAccount first old pairs new run last
    → EndWithSockets old pairs run new
end_with_sockets first old pairs new run last at is = record {
  parted = λ before after parts. reported_parted before after old new run (subst (λ (l : List (Event × Answer)). IsReportedBy old l run new) parts is.reported);
  since = λ before after p here none.
      let two = leads_parted first last p.later p.earlier (subst (λ (l : List (Step Client DeskCall)). Leads first l last) p.run_is is.leads) in
      let lawful = each_later (IsLawful words) p.later p.earlier (subst (λ (l : List (Step Client DeskCall)). AtEach (λ s _. IsLawful words s) l) p.run_is is.lawful) in
      let here_at = reported_at before old p.between p.earlier first two.0 p.reported_before two.1 at in
      each_since two.0 here (none_at here p.between two.0 here_at none) p.later last two.2 lawful;
  closed = λ before after here there now p served.
      let one = newest before (closing here there now) old p.between p.earlier p.reported_before in
      closed_none here there now one.before p.between one.step served;
}
