use Rattle.std.proofs.Common.{◌≡◌, ℕ, ◌<◌, ◌≤◌, ◌+◌, arith, Bool, true, length, List, [], ◌∷◌, ◌++◌, Option, Some, refl, sym, ap, ◌∙◌, subst}
use Rattle.std.specs.Prelude.{Vec}
use Rattle.std.specs.declared.alloc.Global.{Global}
use Rattle.std.specs.declared.net.socket_addr.SocketAddr.{SocketAddr}
use Rattle.turn_client_proto_messages.specs.StunProtoClient.Challenges.{ChallengeFields, challenge_visible, is_anonymous_enough, is_listed_enough, list_for_choice}
use Rattle.turn_client_proto_messages.specs.StunProtoAuth.Claims.{claimed}
use Rattle.turn_client_proto_messages.specs.StunProtoClient.Client.{Client}
use Rattle.turn_client_proto_messages.specs.StunProtoClient.ClientValidation.{IsAnswerable}
use Rattle.turn_client_proto_messages.specs.StunProtoClient.Choice.{IsStrongest}
use Rattle.turn_client_proto_messages.specs.StunProtoTransaction.Schedule.{end_at}
use Rattle.turn_client_proto_messages.specs.Judging.{signer_of}
use Rattle.turn_client_proto_messages.specs.StunTypesWire.declared.algorithm.IntegrityAlgorithm.{IntegrityAlgorithm}
use Rattle.turn_client_proto_handshake_laws.specs.Core.Asking.{queued_request}
use Rattle.turn_client_proto_handshake_laws.specs.Core.Receiving.{IsProcessed}
use Rattle.turn_client_proto_handshake_laws.specs.Core.Responding.{most_resends}
use Rattle.turn_client_proto_progress_laws.specs.Asking.{HasMadeRequest, Wanted}
use Rattle.turn_client_proto_progress_laws.specs.Speaking.{Signs, Speaks}
use Rattle.turn_client_proto_progress_laws.proofs.Asking.Own.{AreRead}
use Rattle.turn_client_proto_step_laws.specs.Recv.ClientState.{ClientState, Protocol}
use Rattle.turn_client_proto_step_laws.specs.Recv.Control.{Control}
use Rattle.turn_desk_world_laws.specs.World.Model.{World}
use Rattle.turn_desk_world_laws.specs.World.Runs.{IsRun, IsStep}
use Rattle.turn_desk_event.specs.declared.answer.Answer.{Answer}
use Rattle.turn_desk_event.specs.declared.event.ClientCall.{ClientCall}
use Rattle.turn_desk_event.specs.declared.event.Event.{Event}
use Rattle.turn_desk_event.specs.declared.event.Event.TheVariants.{ToClient}
use Rattle.turn_desk_progress_laws.specs.LoopStages.{IsHeldSo, IsStageOf}
use Rattle.turn_desk_progress_laws.specs.Promises.{HasClient, control_at, events_in, over}
use Rattle.turn_desk_progress_laws.specs.Scripts.{BringsOn, Plan, Progress}
use Rattle.turn_desk_progress_laws.specs.Standing.{IsOfSettings}
use Rattle.turn_desk_progress_laws.proofs.Challenged.{answers_other}
use Rattle.turn_desk_laws.specs.AwaitedRequests.{CanAnswer, HasCalled, HasQueued, IsRequestAwaited, IsRequestedAgain, IsWithin}
use Rattle.turn_client_proto_progress_laws.specs.RequestChallenges.{Counted, IsMadeAgain}
use Rattle.turn_desk_laws.specs.RequestLoops.{Challenged, HasAllocated, IsAskingLoop, IsNext, IsQueued, IsQueuedAfter, IsRequestCall, RequestPosition, requested}
use Rattle.turn_desk_laws.proofs.RenewalWorlds.{keeps_on, keeps_run}
use Rattle.turn_desk_laws.proofs.RequestAwaited.{Held, called_for, do_ask, here, keeps_three, stage_so}
use Rattle.turn_desk_laws.proofs.RequestMade as established
use Rattle.turn_client_proto_progress_laws.proofs.RequestChallenged.{challenge_answered}
use Rattle.turn_desk_laws.proofs.RequestRuns.{IsTurning, turned_on}
use Rattle.turn_desk_laws.proofs.challenged_loops.loops_make_requests_again.Goals as goal

read : (c : goal.After-signed_requests_claim) → AreRead
read c = record {
  message = c.proof_requests_are_read.ensures.message;
  number = c.proof_requests_are_read.ensures.number;
  kind = λ client r number short lawful fits. (c.proof_requests_are_read.ensures.read client r number short lawful fits).kind;
}

-- The cores of one client are the same, whatever has come.
core_of : (one other : Control) (p q : Protocol) (o : Option ClientState) → o ≡ Some (over one p) → o ≡ Some (over other q) → p ≡ q
core_of one other p q o is too = (let same : over one p ≡ over other q = Prim.cc (sym is ∙ too) in ap (λ (k : ClientState). k.core) same)

-- A client answers a challenge by its settings alone.
answers_alike : (one other : Client) (reported : ChallengeFields) (choice : IntegrityAlgorithm) → one.algorithms ≡ other.algorithms → one.hardened ≡ other.hardened → one.anonymous_username ≡ other.anonymous_username → IsAnswerable other reported choice
    → IsAnswerable one reported choice
answers_alike one other reported choice algorithms hardened anonymous is = record {
  strongest = subst (λ h. IsStrongest one.algorithms h (list_for_choice h reported) choice) (sym hardened) (subst (λ l. IsStrongest l other.hardened (list_for_choice other.hardened reported) choice) (sym algorithms) is.strongest);
  anonymous = ap (λ f. is_anonymous_enough f reported.nonce) anonymous ∙ is.anonymous;
  listed = ap (λ h. is_listed_enough h reported) hardened ∙ is.listed;
}

-- ---- after the loop

none_happened : (pairs : List (Event × Answer)) (w v : World) → pairs ≡ [] → IsRun w pairs v → w ≡ v
unfolding IsRun
none_happened [] w v none run = sym run
none_happened (pair ∷ pairs) w v none run = absurd (Prim.cc none)

module _ (c : goal.After-signed_requests_claim) (plan : Plan) (old two : World) (address : SocketAddr) (has : HasAllocated plan old address two) where
  held : IsHeldSo plan old (events_in has.first) has.position.timing has.signed address has.lifetime has.reply has.between
  held = subst (λ (x : Progress). IsStageOf plan old (events_in has.first) x has.position.timing has.between) has.done
      (c.honest_loops_allocate.ensures.occurs plan old has.between has.first has.position has.may has.run has.loop).stage

  can : CanAnswer plan old
  can = record { reported = held.choice.reported; choice = held.choice.algorithm; of = held.is.of; answered = held.is.answered }

  none_so : has.second ≡ [] → HasClient plan [] two (λ p. p.resends ≡ 0)
  none_so none = subst (λ (w : World). HasClient plan [] w (λ p. p.resends ≡ 0)) (none_happened has.second has.between two none has.again) (record { core = held.client.core; there = held.client.there; is = held.client.is.resends })

  speaks : HasClient plan [] has.between (λ p. Speaks plan.client old.desk.auth.realm address p)
  speaks = c.loops_leave_speakers.ensures plan old has.between has.first has.position has.signed address has.lifetime has.reply has.may has.run has.loop has.done

  module _ (three : World) (what : ClientCall) (request : List ℕ) (made beyond challenges : ℕ) (asks : IsRequestCall what) (called : HasCalled plan what made beyond challenges request two three) where
    abbrev counted : ℕ → Type 0
    counted = Counted challenges

    first_so : (until : ℕ) → until < end_at made plan.client.config.waits → IsRequestAwaited plan old address what request until beyond challenges three
    first_so until early =
        let a = called_for plan old two address has speaks three made request beyond counted called.holds called.counted called.is what asks called.step in
        record {
          may = has.may;
          can = can;
          keeps = keeps_three plan old two address has speaks three made request beyond counted called.holds called.counted called.is what called.step;
          wanted = a.0;
          is_for = a.1;
          client = record { core = a.2.after; there = a.2.there; is = a.2.asks until early };
        }

    behind_so : (many : ℕ) → HasQueued plan many two → IsQueued plan request many three
    behind_so many queued =
        let a = called_for plan old two address has speaks three made request beyond counted called.holds called.counted called.is what asks called.step in
        let there = (established.ready plan old two address has speaks).client.there in
        let same : queued.client.core ≡ here plan old two address has speaks = core_of (control_at plan.client.transport queued.head) (control_at plan.client.transport []) queued.client.core (here plan old two address has speaks) two.client queued.client.there there in
        let length_is : length (here plan old two address has speaks).queue ≡ many = ap (λ (p : Protocol). length p.queue) (sym same) ∙ queued.client.is in
        record { core = a.2.after; there = a.2.there; is = subst (λ (n : ℕ). IsQueuedAfter request n a.2.after) length_is a.2.stands }

-- ---- a challenge

module _ (c : goal.After-signed_requests_claim) (plan : Plan) (old three four five : World) (address : SocketAddr) (what : ClientCall) (request reply head : List ℕ) (third : List (Event × Answer)) (made sent until beyond later challenges now : ℕ) (position : RequestPosition) (bytes : Vec ℕ Global) (ret : Answer)
    (a : IsRequestAwaited plan old address what request until beyond challenges three) (within : IsWithin beyond until) (few : challenges ≤ most_resends) (on : IsRun three third four) (loop : IsAskingLoop plan request until (requested made sent) third position) (at : position.stage ≡ Challenged reply head)
    (last : BringsOn plan.client.transport reply head bytes.items []) (next : IsNext until position now) (step : IsStep (ToClient bytes plan.client.server plan.client.here now) four ret five) (early : later < end_at now plan.client.config.waits) where
  abbrev realm : List ℕ
  realm = old.desk.auth.realm

  abbrev Asks : Protocol → Type 0
  Asks p = HasMadeRequest plan.client realm address a.wanted request until beyond (Counted challenges) p

  turning : IsTurning plan old a.may request a.wanted until Asks (Held (read c) c.signed_requests_claim.ensures plan old a.may address request until beyond (Counted challenges) within.early within.in_range a.wanted)
      (do_ask (read c) c.signed_requests_claim.ensures plan old a.may address request until beyond (Counted challenges) within.early within.in_range a.wanted) within.in_range reply head four
  turning = stage_so (read c) c.signed_requests_claim.ensures plan old a.may address request until beyond (Counted challenges) within.early within.in_range three a.wanted a.client a.keeps four third made sent position on loop (Challenged reply head) at

  abbrev p : Protocol
  p = turning.ready.client.core

  abbrev is_asking : Asks p
  is_asking = turning.ready.client.is

  -- The client handles the challenge.
  record IsTaken : Type 0 where
    core : Protocol
    there : five.client ≡ Some (over (control_at plan.client.transport []) core)
    handled : Bool
    is : IsProcessed p reply now handled core

  taken : IsTaken
  taken =
      let b = turned_on plan old a.may request a.wanted until Asks (Held (read c) c.signed_requests_claim.ensures plan old a.may address request until beyond (Counted challenges) within.early within.in_range a.wanted)
      (do_ask (read c) c.signed_requests_claim.ensures plan old a.may address request until beyond (Counted challenges) within.early within.in_range a.wanted) within.in_range four five now reply head [] bytes ret next.early last turning step in
      record { core = b.core; there = b.there; handled = b.is.0; is = b.is.1 }

  -- It can answer it.
  answerable : IsAnswerable p.auth turning.is.reported a.can.choice
  answerable =
      let s = is_asking.speaks.signs in
      answers_alike p.auth (signer_of plan.client.config) turning.is.reported a.can.choice s.algorithms s.hardened s.hides
      (answers_other old.desk.auth (signer_of plan.client.config) a.can.reported turning.is.reported a.can.of turning.is.of a.can.choice a.can.answered)

  again : IsMadeAgain plan.client realm address a.wanted request turning.is.reported later beyond p taken.core
  again =
      let counts : p.resends ≡ challenges = is_asking.counts in
      challenge_answered plan.client realm address a.wanted request until beyond (Counted challenges) p is_asking c.signed_requests_claim.ensures reply turning.is.reported
      (record { number = turning.is.number_is; visible = turning.is.visible; realm_is = turning.is.of.realm }) 0 (record { choice = a.can.choice; can = answerable; few = omega (arith, counts, few) }) now later early taken.handled taken.core taken.is

  again_so : IsRequestedAgain plan old address what request reply later beyond (challenges + 1) four five
  again_so =
      let m = again in
      let counts : p.resends ≡ challenges = is_asking.counts in
      record {
        again = m.request;
        is = record {
          old = over (control_at plan.client.transport head) p;
          old_there = turning.ready.client.there;
          new = over (control_at plan.client.transport []) taken.core;
          new_there = taken.there;
          made = m.made;
        };
        other = m.other;
        nonce = λ reported shows. (let same : turning.is.reported ≡ reported = Prim.cc (sym turning.is.visible ∙ shows) in subst (λ (t : ChallengeFields). (claimed m.request).nonce ≡ Some t.nonce) same m.nonce);
        awaited = record {
          may = a.may;
          can = a.can;
          keeps = keeps_on plan old a.may (ToClient bytes plan.client.server plan.client.here now) four five ret step (keeps_run plan old a.may third three four on a.keeps);
          wanted = a.wanted;
          is_for = a.is_for;
          client = record {
            core = taken.core;
            there = taken.there;
            is = subst (λ (n : ℕ). HasMadeRequest plan.client realm address a.wanted m.request later beyond (Counted (n + 1)) taken.core) counts m.asks;
          };
        };
        queued = queued;
      }
    where
      queued : (many : ℕ) → HasQueued plan many four → IsQueued plan again.request many five
      queued many q =
          let same : q.client.core ≡ p = core_of (control_at plan.client.transport q.head) (control_at plan.client.transport head) q.client.core p four.client q.client.there turning.ready.client.there in
          let length_is : length p.queue ≡ many = ap (λ (x : Protocol). length x.queue) (sym same) ∙ q.client.is in
          record {
            core = taken.core;
            there = taken.there;
            is = record { before = p.queue; own = queued_request plan.client.here again.request; after = []; queue_is = again.queue_is; bytes_are = refl; requests = refl; many = length_is };
          }

pub returns-clause-none : goal.returns-clause-none
returns-clause-none c = λ plan old two address has none. none_so c plan old two address has none

pub returns-clause-first : goal.returns-clause-first
returns-clause-first c = λ plan old two three address what request made until beyond challenges has asks called early. first_so c plan old two address has three what request made beyond challenges asks called until early

pub returns-clause-queued : goal.returns-clause-queued
returns-clause-queued c = λ plan old two three address what request made beyond challenges many has asks called queued. behind_so c plan old two address has three what request made beyond challenges asks called many queued

pub returns-clause-again : goal.returns-clause-again
returns-clause-again c = λ plan old three four five address what request reply head third made sent until beyond later challenges now position bytes ret a within few on loop at last next step early.
    again_so c plan old three four five address what request reply head third made sent until beyond later challenges now position bytes ret a within few on loop at last next step early
