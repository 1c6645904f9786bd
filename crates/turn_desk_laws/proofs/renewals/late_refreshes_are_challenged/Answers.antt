use Rattle.std.proofs.Common.{◌≡◌, ◌<◌, ℕ, List, [], Some, None, ap, refl, ◌∙◌, subst}
use Rattle.std.specs.Prelude.{Vec}
use Rattle.std.specs.declared.alloc.Global.{Global}
use Rattle.std.specs.declared.net.socket_addr.SocketAddr.{SocketAddr}
use Rattle.turn_desk_core.specs.StunTypesWire.Grammar.{refusal}
use Rattle.turn_desk_core.specs.TurnTypesAttributes.TurnRegistry.{refresh_method}
use Rattle.turn_client_proto_messages.specs.StunProtoClient.Challenges.{ChallengeFields, challenge_visible}
use Rattle.turn_client_proto_api.specs.Sent.{Sent}
use Rattle.turn_client_proto_progress_laws.specs.Refreshed.{IsSignedRefresh, refresh_request}
use Rattle.turn_desk_core.specs.Requests.{IsServed}
use Rattle.turn_desk_core.specs.Steps.{IsAnswer}
use Rattle.turn_desk_core.specs.declared.decision.Decision.{Decision}
use Rattle.turn_desk_event.specs.declared.answer.Answer.TheVariants as answer
use Rattle.turn_desk_event.specs.declared.event.Event.TheVariants.{ToDesk}
use Rattle.turn_desk_world_laws.specs.World.Desks.{IsDeskAnswered, words_of}
use Rattle.turn_desk_world_laws.specs.World.Model.{World}
use Rattle.turn_desk_world_laws.specs.World.Runs.{IsStep}
use Rattle.turn_desk_progress_laws.specs.Loops.{MayBegin}
use Rattle.turn_desk_progress_laws.specs.Scripts.{Plan}
use Rattle.turn_desk_progress_laws.specs.Standing.{IsOfSettings}
use Rattle.turn_desk_progress_laws.proofs.Challenged.{hides_so, list_there, message_is, number_same, realm_is, takes_so}
use Rattle.turn_desk_progress_laws.proofs.Coming.{none_yet}
use Rattle.turn_desk_progress_laws.proofs.Successes.{IsMethod}
use Rattle.turn_desk_laws.specs.RefreshStages.{most_challenges}
use Rattle.turn_desk_laws.specs.RenewalLoops.{Challenged, RenewalPosition}
use Rattle.turn_desk_laws.specs.RenewalStages.{IsRequestedAt, IsStageAt, KeepsSettings}
use Rattle.turn_desk_laws.proofs.RenewalWorlds.{keeps_on}
use Rattle.turn_desk_laws.proofs.renewals.late_refreshes_are_challenged.Goals as goal

module _ (c : goal.After-refreshes_are_signed) (plan : Plan) (old w v : World) (may : MayBegin plan old) (address : SocketAddr) (secondly : Sent) (p : RenewalPosition) (request : Sent) (now : ℕ) (x : IsRequestedAt plan old address p request w) (few : p.challenges < most_challenges)
    (bytes reply : Vec ℕ Global) (reported : ChallengeFields) (decision : Decision) (seed : List ℕ) (same : bytes.items ≡ request.bytes) (step : IsStep (ToDesk bytes request.from now decision seed) w (answer.Reply reply) v) (shows : challenge_visible reply.items ≡ Some reported) where
  abbrev own : List ℕ
  own = refresh_request plan.client x.choice x.number

  signed : IsSignedRefresh plan.client x.choice x.number
  signed = c.refreshes_are_signed.ensures.request plan.client x.choice x.number may.room may.text x.is.signs.agreed.chosen x.is.fits

  at : IsDeskAnswered (answer.Reply reply) w.desk own plan.client.here now decision seed v.desk
  at = subst (λ (r : Sent). IsDeskAnswered (answer.Reply reply) w.desk r.bytes r.from now decision seed v.desk) x.request_is
      (subst (λ (b : List ℕ). IsDeskAnswered (answer.Reply reply) w.desk b request.from now decision seed v.desk) same step.0)

  answered : IsAnswer w.desk plan.client.here own now (words_of seed) decision reply.items v.desk
  answered = at.reply.answer

  served : IsServed own
  served = at.reply.served

  keeps : KeepsSettings plan old v.desk
  keeps = keeps_on plan old may (ToDesk bytes request.from now decision seed) w v (answer.Reply reply) step x.is.signs.keeps

  is_method : IsMethod refresh_method
  is_method = record { error = refl; success = refl; method = refl }

  settings : IsOfSettings old.desk.auth reported
  settings = record {
    realm = realm_is w.desk v.desk plan.client.here own reply.items now (words_of seed) decision refresh_method is_method refl signed.method served answered reported shows ∙ x.is.signs.keeps.realm;
    takes_own = takes_so w.desk v.desk plan.client.here own reply.items now (words_of seed) decision refresh_method is_method refl signed.method served answered reported shows
        old.desk.auth.algorithms old.desk.auth.anonymous_username x.is.signs.keeps.algorithms keeps.announces;
    hides = hides_so w.desk v.desk plan.client.here own reply.items now (words_of seed) decision refresh_method is_method refl signed.method served answered reported shows
        old.desk.auth.algorithms old.desk.auth.anonymous_username x.is.signs.keeps.algorithms keeps.announces;
    listed = list_there w.desk v.desk plan.client.here own reply.items now (words_of seed) decision refresh_method is_method refl signed.method served answered reported shows;
  }

  message : refusal reply.items ≡ None
  message = message_is w.desk v.desk plan.client.here own reply.items now (words_of seed) decision refresh_method is_method refl signed.method served answered reported shows

  pub challenged : IsStageAt plan old address secondly (Challenged request reply.items []) p v
  challenged = record {
    choice = x.choice;
    number = x.number;
    is = record {
      signs = record { agreed = x.is.signs.agreed; keeps = keeps };
      first = x.is.first;
      lasts = x.is.lasts;
      fits = x.is.fits;
      earlier = x.is.earlier;
      count = x.is.count;
      events = x.is.events;
      client = record { core = x.is.client.core; there = ap (λ (y : World). y.client) step.1 ∙ x.is.client.there; is = x.is.client.is };
    };
    request_is = x.request_is;
    few = few;
    reported = reported;
    visible = shows;
    number_is = number_same w.desk v.desk plan.client.here own reply.items now (words_of seed) decision refresh_method is_method refl signed.method served answered reported shows ∙ signed.number_is;
    of = settings;
    part = none_yet reply.items message;
  }

pub returns : goal.returns
returns c = λ plan old w v address secondly p request now bytes reply reported decision seed may x same few step shows.
    challenged c plan old w v may address secondly p request now x few bytes reply reported decision seed same step shows
