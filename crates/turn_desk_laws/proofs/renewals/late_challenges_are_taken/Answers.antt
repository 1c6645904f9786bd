use Rattle.std.proofs.Common.{◌≡◌, ◌≤◌, ◌<◌, ◌+◌, ◌++◌, ℕ, arith, Bool, false, List, [], ◌∷◌, Some, refl, ap, ◌∙◌, subst}
use Rattle.std.specs.Prelude.{Vec, length}
use Rattle.std.specs.declared.alloc.Global.{Global}
use Rattle.std.specs.declared.net.socket_addr.SocketAddr.{SocketAddr}
use Rattle.turn_desk_core.specs.StunTypesWire.Grammar.{number_at}
use Rattle.turn_client_proto_messages.specs.Judging.{signer_of}
use Rattle.turn_client_proto_api.specs.Sent.{Sent}
use Rattle.turn_client_proto_messages.specs.Waiting.{Queued}
use Rattle.turn_client_proto_step_laws.specs.Recv.ClientState.{ClientState}
use Rattle.turn_client_proto_handshake_laws.specs.Choosing.{Choice}
use Rattle.turn_client_proto_handshake_laws.specs.Driving.{client_end}
use Rattle.turn_client_proto_progress_laws.specs.Keeping.{Term}
use Rattle.turn_desk_event.specs.declared.answer.Answer.{Answer}
use Rattle.turn_desk_event.specs.declared.event.Event.TheVariants.{ToClient}
use Rattle.turn_desk_world_laws.specs.World.Model.{World}
use Rattle.turn_desk_world_laws.specs.World.Runs.{IsStep}
use Rattle.turn_desk_progress_laws.specs.Loops.{MayBegin}
use Rattle.turn_desk_progress_laws.specs.Promises.{control_at, over}
use Rattle.turn_desk_progress_laws.specs.Scripts.{BringsOn, Plan}
use Rattle.turn_desk_progress_laws.specs.Watched.{IsAgreed, term_of}
use Rattle.turn_desk_progress_laws.proofs.Challenged.{answers_other}
use Rattle.turn_desk_progress_laws.proofs.Clients.{stays}
use Rattle.turn_desk_laws.specs.RefreshStages.{IsRefreshedAgain, IsRefreshingOn, most_challenges, rechosen, refresh_queued}
use Rattle.turn_desk_laws.specs.RenewalLoops.{RenewalPosition, challenged_by}
use Rattle.turn_desk_laws.specs.RenewalStages.{IsAtRenewal, IsChallengedAt, count_by, queue_by}
use Rattle.turn_desk_laws.proofs.RefreshChallenged.{one_longer}
use Rattle.turn_desk_laws.proofs.RefreshComing.{DoCome, IsComeTo, challenge_comes, comes_on}
use Rattle.turn_desk_laws.proofs.RenewalWorlds.{keeps_so}
use Rattle.turn_desk_laws.proofs.renewals.late_challenges_are_taken.Goals as goal

module _ (c : goal.After-responses_reach_clients) (plan : Plan) (old w v : World) (may : MayBegin plan old) (address : SocketAddr) (secondly : Sent) (p : RenewalPosition) (request : Sent) (reply head : List ℕ) (s : IsChallengedAt plan old address p request reply head w) (left : p.queued ≡ false)
    (now : ℕ) (early : now ≤ client_end) (after : ClientState) (there : v.client ≡ Some after) (desk : v.desk ≡ w.desk) where
  abbrev t : Term
  t = term_of s.is.first p.from p.lifetime

  abbrev queue : List Queued
  queue = queue_by p.queued (refresh_queued plan.client s.choice s.number)

  number_same : number_at request.bytes ≡ s.number
  number_same = ap (λ (r : Sent). number_at r.bytes) s.request_is ∙ (c.refreshes_are_signed.ensures.request plan.client s.choice s.number may.room may.text s.is.signs.agreed.chosen s.is.fits).number_is

  few : length s.is.earlier < most_challenges
  few = let few = s.few in let count = s.is.count in omega (arith, few, count)

  module _ (r : IsRefreshedAgain plan.client s.choice s.reported address t s.is.earlier s.number now p.sent queue s.is.events after.core) where
    abbrev next : Choice
    next = rechosen s.choice s.reported r.algorithm

    agreed : IsAgreed plan old.desk next
    agreed = record {
      chosen = record { message = reply; visible = s.visible; answered = r.answered; fits = s.is.signs.agreed.chosen.fits; new = s.is.signs.agreed.chosen.new };
      answered = r.answered;
      of = s.of;
    }

    alone : IsRefreshingOn plan.client next address t (s.is.earlier ++ s.number ∷ []) r.number now 1 p.sent (refresh_queued plan.client next r.number ∷ []) s.is.events after.core
    alone = subst (λ (b : Bool). IsRefreshingOn plan.client next address t (s.is.earlier ++ s.number ∷ []) r.number now 1 p.sent (queue_by b (refresh_queued plan.client s.choice s.number) ++ refresh_queued plan.client next r.number ∷ []) s.is.events after.core) left r.refreshing

    turned : after.control ≡ control_at plan.client.transport [] → IsAtRenewal plan old address secondly (challenged_by request reply reply [] now p) v
    turned control = record {
      choice = next;
      number = r.number;
      is = record {
        signs = keeps_so plan old next w.desk v.desk desk (record { agreed = agreed; keeps = s.is.signs.keeps });
        first = s.is.first;
        lasts = s.is.lasts;
        fits = r.fits;
        earlier = s.is.earlier ++ s.number ∷ [];
        count = one_longer s.is.earlier s.number ∙ ap (λ (n : ℕ). n + 1) s.is.count;
        events = s.is.events;
        client = record { core = after.core; there = there ∙ ap Some (stays (control_at plan.client.transport []) after control); is = alone };
      };
      still_queued = refl;
      none_sent = refl;
      visible = s.visible;
      other = λ same. r.other (same ∙ number_same);
    }

  by_rest : (so_far rest : List ℕ) → IsComeTo (over (control_at plan.client.transport head) s.is.client.core) after plan.client.transport now reply so_far rest → IsAtRenewal plan old address secondly (challenged_by request reply so_far rest now p) v
  by_rest so_far [] is =
      let can = answers_other old.desk.auth (signer_of plan.client.config) s.choice.reported s.reported s.is.signs.agreed.of s.of s.choice.algorithm s.is.signs.agreed.answered in
      let r = c.refreshing_clients_are_challenged.ensures plan.client s.choice address t s.is.earlier s.number p.made (count_by p.queued p.many) p.sent queue s.is.events s.is.client.core after.core s.reported s.choice.algorithm reply now is.0
      may.room s.is.signs.agreed.chosen s.is.client.is few (record { number_is = s.number_is; visible = s.visible }) can is.1 in
      turned r.1 is.2
  by_rest so_far (byte ∷ rest) is = record {
    choice = s.choice;
    number = s.number;
    is = record {
      signs = keeps_so plan old s.choice w.desk v.desk desk s.is.signs;
      first = s.is.first;
      lasts = s.is.lasts;
      fits = s.is.fits;
      earlier = s.is.earlier;
      count = s.is.count;
      events = s.is.events;
      client = record {
        core = s.is.client.core;
        there = there ∙ ap Some (stays (control_at plan.client.transport so_far) after is.1 ∙ ap (over (control_at plan.client.transport so_far)) is.0);
        is = s.is.client.is;
      };
    };
    request_is = s.request_is;
    few = s.few;
    reported = s.reported;
    visible = s.visible;
    number_is = s.number_is;
    of = s.of;
    part = is.2;
  }

pub taken_so : (c : goal.After-responses_reach_clients) (plan : Plan) (old w v : World) → MayBegin plan old → (address : SocketAddr) (secondly : Sent) (p : RenewalPosition) (request : Sent) (reply head rest : List ℕ) (bytes : Vec ℕ Global) (now : ℕ) (ret : Answer)
    → IsChallengedAt plan old address p request reply head w → p.queued ≡ false → BringsOn plan.client.transport reply head bytes.items rest → now ≤ client_end → IsStep (ToClient bytes request.to request.from now) w ret v
    → IsAtRenewal plan old address secondly (challenged_by request reply (head ++ bytes.items) rest now p) v
taken_so c plan old w v may address secondly p request reply head rest bytes now ret s left on early step =
    let own = subst (λ (r : Sent). IsStep (ToClient bytes r.to r.from now) w ret v) s.request_is step in
    let reach : DoCome = record { datagram = c.responses_reach_clients.ensures.datagram; chunk = c.responses_reach_clients.ensures.chunk; whole = c.responses_reach_clients.ensures.whole } in
    let x = comes_on reach plan.client w v s.is.client.core reply head rest bytes now ret s.is.client.there s.is.client.is.settings (challenge_comes reply s.reported s.visible s.part.is_message) on early own in
    by_rest c plan old w v may address secondly p request reply head s left now early x.after x.there x.desk (head ++ bytes.items) rest x.come

pub returns : goal.returns
returns c = λ plan old w v address secondly p request reply head rest bytes now ret may s left on early step.
    taken_so c plan old w v may address secondly p request reply head rest bytes now ret s left on early step
