use Rattle.std.proofs.Common.{◌≡◌, ◌≤◌, ◌++◌, ℕ, Bool, false, List, [], ◌∷◌, Some, refl, ap, ◌∙◌, subst, inl}
use Rattle.std.specs.Prelude.{Vec}
use Rattle.std.specs.declared.alloc.Global.{Global}
use Rattle.std.specs.declared.net.socket_addr.SocketAddr.{SocketAddr}
use Rattle.turn_client_proto_messages.specs.TurnRuns.Indications.{is_indication}
use Rattle.turn_client_proto_api.specs.Sent.{Sent}
use Rattle.turn_client_proto_step_laws.specs.Recv.ClientState.{ClientState}
use Rattle.turn_client_proto_handshake_laws.specs.Driving.{client_end}
use Rattle.turn_client_proto_progress_laws.specs.Keeping.{Term}
use Rattle.turn_desk_event.specs.declared.answer.Answer.{Answer}
use Rattle.turn_desk_event.specs.declared.event.Event.TheVariants.{ToClient}
use Rattle.turn_desk_world_laws.specs.World.Model.{World}
use Rattle.turn_desk_world_laws.specs.World.Runs.{IsStep}
use Rattle.turn_desk_progress_laws.specs.Promises.{control_at, over}
use Rattle.turn_desk_progress_laws.specs.Scripts.{BringsOn, Plan}
use Rattle.turn_desk_progress_laws.specs.Watched.{term_of}
use Rattle.turn_desk_progress_laws.proofs.Clients.{stays}
use Rattle.turn_desk_laws.specs.RefreshStages.{refresh_queued}
use Rattle.turn_desk_laws.specs.RenewalLoops.{RenewalPosition, renewed_by}
use Rattle.turn_desk_laws.specs.RenewalStages.{IsAtRenewal, IsRenewedAt, count_by, queue_by}
use Rattle.turn_desk_laws.proofs.RefreshComing.{DoCome, IsComeTo, comes_on}
use Rattle.turn_desk_laws.proofs.RenewalWorlds.{keeps_so}
use Rattle.turn_desk_laws.proofs.renewals.late_successes_are_taken.Goals as goal

module _ (c : goal.After-responses_reach_clients) (plan : Plan) (old w v : World) (address : SocketAddr) (secondly : Sent) (p : RenewalPosition) (request : Sent) (more : ℕ) (reply head : List ℕ) (s : IsRenewedAt plan old address p request more reply head w) (left : p.queued ≡ false)
    (now : ℕ) (early : now ≤ client_end) (after : ClientState) (there : v.client ≡ Some after) (desk : v.desk ≡ w.desk) where
  abbrev t : Term
  t = term_of s.is.first p.from p.lifetime

  by_rest : (so_far rest : List ℕ) → IsComeTo (over (control_at plan.client.transport head) s.is.client.core) after plan.client.transport now reply so_far rest → IsAtRenewal plan old address secondly (renewed_by request more reply so_far rest now p) v
  by_rest so_far [] is =
      let r = c.challenged_refreshes_renew.ensures plan.client s.choice address t s.is.earlier s.number p.made (count_by p.queued p.many) p.sent (queue_by p.queued (refresh_queued plan.client s.choice s.number)) s.is.events s.is.client.core after.core more reply now is.0 s.is.client.is s.renewal s.enough is.1 in
      record {
        choice = s.choice;
        signs = keeps_so plan old s.choice w.desk v.desk desk s.is.signs;
        first = s.is.first;
        lasts = record { long = s.is.lasts.long; enough = s.enough; fits = s.lifetime_fits; early = early };
        unqueued = left;
        unchallenged = refl;
        queue = queue_by p.queued (refresh_queued plan.client s.choice s.number);
        left = inl (ap (λ (b : Bool). queue_by b (refresh_queued plan.client s.choice s.number)) left);
        events = s.is.events;
        client = record { core = after.core; there = there ∙ ap Some (stays (control_at plan.client.transport []) after is.2); is = r.1 };
      }
  by_rest so_far (byte ∷ rest) is = record {
    choice = s.choice;
    number = s.number;
    is = record {
      signs = keeps_so plan old s.choice w.desk v.desk desk s.is.signs;
      first = s.is.first;
      lasts = s.is.lasts;
      fits = s.is.fits;
      earlier = s.is.earlier;
      count = s.is.count;
      events = s.is.events;
      client = record {
        core = s.is.client.core;
        there = there ∙ ap Some (stays (control_at plan.client.transport so_far) after is.1 ∙ ap (over (control_at plan.client.transport so_far)) is.0);
        is = s.is.client.is;
      };
    };
    request_is = s.request_is;
    enough = s.enough;
    lifetime_fits = s.lifetime_fits;
    part = is.2;
    renewal = s.renewal;
  }

pub taken_so : (c : goal.After-responses_reach_clients) (plan : Plan) (old w v : World) (address : SocketAddr) (secondly : Sent) (p : RenewalPosition) (request : Sent) (more : ℕ) (reply head rest : List ℕ) (bytes : Vec ℕ Global) (now : ℕ) (ret : Answer)
    → IsRenewedAt plan old address p request more reply head w → p.queued ≡ false → BringsOn plan.client.transport reply head bytes.items rest → now ≤ client_end → IsStep (ToClient bytes request.to request.from now) w ret v
    → IsAtRenewal plan old address secondly (renewed_by request more reply (head ++ bytes.items) rest now p) v
taken_so c plan old w v address secondly p request more reply head rest bytes now ret s left on early step =
    let own = subst (λ (r : Sent). IsStep (ToClient bytes r.to r.from now) w ret v) s.request_is step in
    let reach : DoCome = record { datagram = c.responses_reach_clients.ensures.datagram; chunk = c.responses_reach_clients.ensures.chunk; whole = c.responses_reach_clients.ensures.whole } in
    let x = comes_on reach plan.client w v s.is.client.core reply head rest bytes now ret s.is.client.there s.is.client.is.settings (record { message = s.part.is_message; no_indication = ap is_indication s.renewal.success }) on early own in
    by_rest c plan old w v address secondly p request more reply head s left now early x.after x.there x.desk (head ++ bytes.items) rest x.come

pub returns : goal.returns
returns c = λ plan old w v address secondly p request more reply head rest bytes now ret s left on early step.
    taken_so c plan old w v address secondly p request more reply head rest bytes now ret s left on early step
