-- What an honest run comes to beside others, by what it comes to without them.
use Rattle.std.proofs.Common.{◌≡◌, ◌++◌, ◌≤◌, ℕ, Bool, true, false, List, [], ◌∷◌, Some, filter, refl, sym, ap, ◌∙◌, subst, ◌⊎◌, inl, inr}
use Rattle.std.specs.declared.net.socket_addr.SocketAddr.{SocketAddr}
use Rattle.turn_desk_core.specs.StunProtoServer.AuthRuns.{is_same_address}
use Rattle.turn_desk_core.specs.DeskCalls.{AreAlike, grants_to}
use Rattle.turn_desk_core.specs.State.{State}
use Rattle.turn_desk_core.specs.declared.grant.Grant.{Grant}
use Rattle.turn_desk_core.proofs.StunProtoServer.Isolated.{same_itself}
use Rattle.turn_client_proto_api.specs.declared.event.TurnEvent.{TurnEvent}
use Rattle.turn_client_proto_api.specs.Sent.{Sent}
use Rattle.turn_desk_event.specs.declared.answer.Answer.{Answer}
use Rattle.turn_desk_event.specs.declared.event.ClientCall.TheVariants as call
use Rattle.turn_desk_event.specs.declared.event.Event.{Event}
use Rattle.turn_desk_event.specs.declared.event.Event.TheVariants.{Call, Draw, ToClient, ToDesk}
use Rattle.turn_desk_world_laws.specs.World.Model.{World}
use Rattle.turn_desk_world_laws.specs.World.Runs.{IsStep}
use Rattle.turn_desk_progress_laws.specs.Promises.{CannotAgree, HasCome, IsAllocated, allocation_granted}
use Rattle.turn_desk_progress_laws.specs.Scripts.{Requested, Barred, Came, Challenged, Done, Granted, Progress, Plan, Signed, Silent, Start}
use Rattle.turn_desk_laws.specs.Beside.{IsOfOwn, seen_from}
use Rattle.turn_desk_laws.proofs.BesideRuns.{bool_is, filter_no, filter_yes}

-- An event at the client has the same result, whatever the server core is.
pub at_any_desk : (event : Event) (w v : World) (desk : State) (ret : Answer) → IsOfOwn [] event → IsStep event w ret v → IsStep event (record w { desk = desk }) ret (record v { desk = desk })
at_any_desk (Call call now) w v desk ret is step = (step.0, ap (λ (x : World). record x { desk = desk }) step.1)
at_any_desk (Draw now) w v desk ret is step = (step.0, ap (λ (x : World). record x { desk = desk }) step.1)
at_any_desk (ToClient bytes from to now) w v desk ret is step = (step.0, ap (λ (x : World). record x { desk = desk }) step.1)
at_any_desk (ToDesk bytes from now decision seed) w v desk ret is step = absurd is

-- It leaves the server core the same.
desk_stays : (event : Event) (w v : World) (ret : Answer) → IsOfOwn [] event → IsStep event w ret v → v.desk ≡ w.desk
desk_stays (Call call now) w v ret is step = ap (λ (x : World). x.desk) step.1
desk_stays (Draw now) w v ret is step = ap (λ (x : World). x.desk) step.1
desk_stays (ToClient bytes from to now) w v ret is step = ap (λ (x : World). x.desk) step.1
desk_stays (ToDesk bytes from now decision seed) w v ret is step = absurd is

pub seen_step : (address : SocketAddr) (w v : World) (event : Event) (ret : Answer) → IsOfOwn [] event → IsStep event w ret v → IsStep event (seen_from address w) ret (seen_from address v)
seen_step address w v event ret is step =
    subst (λ (d : State). IsStep event (seen_from address w) ret (record v { desk = record d { grants = grants_to address d.grants } })) (sym (desk_stays event w v ret is step))
    (at_any_desk event w v (seen_from address w).desk ret is step)

-- ---- grants

grants_then : (address : SocketAddr) (list : List Grant) (g : Grant) → is_same_address address g.from ≡ true → grants_to address (list ++ g ∷ []) ≡ grants_to address list ++ g ∷ []
grants_then address [] g at = filter_yes (λ (g : Grant). is_same_address address g.from) g [] at
grants_then address (one ∷ list) g at = elim (bool_is (is_same_address address one.from)) [
  | inl is ↦ filter_yes (λ (g : Grant). is_same_address address g.from) one (list ++ g ∷ []) is ∙ (ap (λ (l : List Grant). one ∷ l) (grants_then address list g at)
      ∙ sym (ap (λ (l : List Grant). l ++ g ∷ []) (filter_yes (λ (g : Grant). is_same_address address g.from) one list is)))
  | inr isnt ↦ filter_no (λ (g : Grant). is_same_address address g.from) one (list ++ g ∷ []) isnt ∙ (grants_then address list g at
      ∙ sym (ap (λ (l : List Grant). l ++ g ∷ []) (filter_no (λ (g : Grant). is_same_address address g.from) one list isnt)))
]

-- ---- what it comes to

module _ (plan : Plan) (old new : World) (left : State) (alike : AreAlike plan.client.here new.desk left) (reported : List TurnEvent) where
  abbrev here : SocketAddr
  here = plan.client.here

  allocated : (request : Sent) (address : SocketAddr) (lifetime : ℕ) (reply : List ℕ) → IsAllocated plan old reported request address lifetime reply (record new { desk = left })
      → IsAllocated plan (seen_from here old) reported request address lifetime reply (seen_from here new)
  allocated request address lifetime reply is = record {
    together = is.together;
    algorithm = is.algorithm;
    strongest = is.strongest;
    is_own = is.is_own;
    request_is_right = is.request_is_right;
    reply_is_right = is.reply_is_right;
    held = record { core = is.held.core; there = is.held.there; is = is.held.is };
    granted = sym alike.grants ∙ (ap (λ (l : List Grant). grants_to here l) is.granted
        ∙ grants_then here old.desk.grants (allocation_granted plan request.bytes address lifetime) (same_itself here));
  }

  apart : CannotAgree plan old reported (record new { desk = left }) → CannotAgree plan (seen_from here old) reported (seen_from here new)
  apart is = record {
    apart = is.apart;
    held = record { core = is.held.core; there = is.held.there; is = is.held.is };
    granted = sym alike.grants ∙ ap (λ (l : List Grant). grants_to here l) is.granted;
    quiet = λ now ret next early step. is.quiet now ret (record next { desk = left }) early (at_any_desk (Draw now) (seen_from here new) next left ret tt step);
    closed = λ now ret next early gone step. is.closed now ret (record next { desk = left }) early gone (at_any_desk (Call call.Poll now) (seen_from here new) next left ret tt step);
  }

  pub come : (progress : Progress) → HasCome plan old reported progress (record new { desk = left }) → HasCome plan (seen_from here old) reported progress (seen_from here new)
  come Start is = is
  come (Requested request) is = is
  come (Challenged request reply head) is = is
  come Came is = (λ far. apart (is.0 far), is.1)
  come (Signed request) is = is
  come (Granted request address lifetime reply head) is = is
  come (Done request address lifetime reply) is = allocated request address lifetime reply is
  come Barred is = apart is
  come Silent is = is
