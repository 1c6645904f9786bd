use Rattle.std.proofs.Common.{◌≡◌, ℕ, ◌≤◌, List, [], subst}
use Rattle.std.specs.declared.net.ip_addr.IpAddr.{IpAddr}
use Rattle.std.specs.declared.net.socket_addr.SocketAddr.{SocketAddr}
use Rattle.turn_client_proto_handshake_laws.specs.Driving.{client_end}
use Rattle.turn_client_proto_progress_laws.specs.Asking.{APermission, AChannel, Wanted}
use Rattle.turn_client_proto_progress_laws.proofs.Asking.Own.{AreRead}
use Rattle.turn_client_proto_step_laws.specs.Recv.ClientState.{Protocol}
use Rattle.turn_desk_world_laws.specs.World.Model.{World}
use Rattle.turn_desk_world_laws.specs.World.Runs.{IsRun}
use Rattle.turn_desk_progress_laws.specs.Promises.{HasClient, control_at}
use Rattle.turn_desk_progress_laws.specs.Scripts.{Plan}
use Rattle.turn_desk_progress_laws.proofs.Looping.{passes}
use Rattle.turn_desk_event.specs.declared.answer.Answer.{Answer}
use Rattle.turn_desk_event.specs.declared.event.ClientCall.{ClientCall}
use Rattle.turn_desk_event.specs.declared.event.ClientCall.TheVariants.{BindChannel, CreatePermission}
use Rattle.turn_desk_event.specs.declared.event.Event.{Event}
use Rattle.turn_desk_laws.specs.AwaitedRequests.{IsRequestAwaited, IsWithin}
use Rattle.turn_client_proto_progress_laws.specs.RequestChallenges.{Counted}
use Rattle.turn_desk_laws.specs.RequestLoops.{Got, HasLastSent, IsAskingLoop, RequestPosition, requested}
use Rattle.turn_desk_laws.proofs.RequestAwaited.{Held, Holds, channel_held, drawn_there, permission_held, queued_so, stage_so}
use Rattle.turn_desk_laws.proofs.RequestRuns.{same_core}
use Rattle.turn_desk_laws.proofs.challenged_loops.challenged_loops_hold_what_is_requested.Goals as goal

read : (c : goal.After-signed_requests_claim) → AreRead
read c = record {
  message = c.proof_requests_are_read.ensures.message;
  number = c.proof_requests_are_read.ensures.number;
  kind = λ client r number short lawful fits. (c.proof_requests_are_read.ensures.read client r number short lawful fits).kind;
}

module _ (c : goal.After-signed_requests_claim) (plan : Plan) (old three four : World) (address : SocketAddr) (what : ClientCall) (request grant : List ℕ) (third : List (Event × Answer)) (made sent until beyond challenges : ℕ) (position : RequestPosition)
    (a : IsRequestAwaited plan old address what request until beyond challenges three) (within : IsWithin beyond until) (on : IsRun three third four) (loop : IsAskingLoop plan request until (requested made sent) third position) (got : position.stage ≡ Got grant) where
  has_got : HasClient plan [] four (Held (read c) c.signed_requests_claim.ensures plan old a.may address request until beyond (Counted challenges) within.early within.in_range a.wanted)
  has_got = stage_so (read c) c.signed_requests_claim.ensures plan old a.may address request until beyond (Counted challenges) within.early within.in_range three a.wanted a.client a.keeps four third made sent position on loop (Got grant) got

  holds_it : HasClient plan [] four (Holds (read c) c.signed_requests_claim.ensures plan old a.may address request until beyond (Counted challenges) within.early within.in_range a.wanted)
  holds_it = record { core = has_got.core; there = has_got.there; is = has_got.is.0 }

  counts_none : HasClient plan [] four (λ p. p.resends ≡ 0)
  counts_none = record { core = has_got.core; there = has_got.there; is = has_got.is.1 }

pub returns-clause-permission : goal.returns-clause-permission
returns-clause-permission c = λ plan old three four address transport ip request grant third made sent until beyond challenges now position a within on loop got next.
    let what = CreatePermission transport ip in (
      permission_held plan now four (passes now until client_end next.early within.in_range) ip
          (subst (λ (x : Wanted). HasClient plan [] four (Holds (read c) c.signed_requests_claim.ensures plan old a.may address request until beyond (Counted challenges) within.early within.in_range x)) a.is_for
          (holds_it c plan old three four address what request grant third made sent until beyond challenges position a within on loop got)),
      counts_none c plan old three four address what request grant third made sent until beyond challenges position a within on loop got,
    )

pub returns-clause-channel : goal.returns-clause-channel
returns-clause-channel c = λ plan old three four address transport peer request grant third made sent until beyond challenges now position a within on loop got next.
    let what = BindChannel transport peer in (
      channel_held plan now four (passes now until client_end next.early within.in_range) a.is_for.0 peer
          (subst (λ (x : Wanted). HasClient plan [] four (Holds (read c) c.signed_requests_claim.ensures plan old a.may address request until beyond (Counted challenges) within.early within.in_range x)) a.is_for.1
          (holds_it c plan old three four address what request grant third made sent until beyond challenges position a within on loop got)),
      counts_none c plan old three four address what request grant third made sent until beyond challenges position a within on loop got,
    )

pub returns-clause-queued : goal.returns-clause-queued
returns-clause-queued c = λ plan old three w address what request third made sent until beyond challenges most position a within behind before on loop pending.
    queued_so (read c) c.signed_requests_claim.ensures plan old a.may address request until beyond (Counted challenges) within.early within.in_range three a.wanted a.client a.keeps w third made sent position on loop before pending most behind

pub returns-clause-sendings : goal.returns-clause-sendings
returns-clause-sendings c = λ plan old three w v address what request third made sent until beyond challenges ahead now position ret a within last before on loop pending behind next late step.
    drawn_there (read c) c.signed_requests_claim.ensures plan old a.may address request until beyond (Counted challenges) within.early within.in_range three a.wanted a.client a.keeps w third made sent position on loop before pending ahead now v ret
    (subst (λ (p : Protocol). HasLastSent sent p) (same_core (control_at plan.client.transport []) last.core a.client.core three.client last.there a.client.there) last.is) behind next late step
