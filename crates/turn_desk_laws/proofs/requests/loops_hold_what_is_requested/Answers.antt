use Rattle.std.proofs.Common.{◌≡◌, ℕ, ◌≤◌, arith, length, List, [], subst}
use Rattle.std.specs.declared.net.socket_addr.SocketAddr.{SocketAddr}
use Rattle.turn_desk_core.specs.StunTypesBase.Times.{time_after}
use Rattle.turn_client_proto_handshake_laws.specs.Driving.{client_end}
use Rattle.turn_client_proto_progress_laws.specs.Asking.{APermission, AChannel, AnyCount, HasMadeRequest, Wanted}
use Rattle.turn_client_proto_progress_laws.specs.Speaking.{Speaks}
use Rattle.turn_client_proto_progress_laws.proofs.Asking.Own.{AreRead}
use Rattle.turn_client_proto_step_laws.specs.Recv.ClientState.{Protocol}
use Rattle.turn_client_proto_messages.specs.Api.Options.{cadence}
use Rattle.turn_desk_world_laws.specs.World.Model.{World}
use Rattle.turn_desk_world_laws.specs.World.Runs.{IsRun, IsStep}
use Rattle.turn_desk_event.specs.declared.answer.Answer.{Answer}
use Rattle.turn_desk_event.specs.declared.event.ClientCall.{ClientCall}
use Rattle.turn_desk_event.specs.declared.event.ClientCall.TheVariants.{BindChannel, CreatePermission}
use Rattle.turn_desk_event.specs.declared.event.Event.{Event}
use Rattle.turn_desk_event.specs.declared.event.Event.TheVariants.{Draw}
use Rattle.turn_desk_progress_laws.specs.Promises.{HasClient}
use Rattle.turn_desk_progress_laws.specs.Scripts.{Plan}
use Rattle.turn_desk_progress_laws.proofs.Looping.{passes}
use Rattle.turn_desk_laws.specs.RenewalStages.{KeepsSettings}
use Rattle.turn_desk_laws.specs.RequestLoops.{Got, HasAllocated, HasLastSent, HasMade, IsAskingLoop, IsDrawOf, IsNext, IsQueued, IsQueuedAfter, IsRequestCall, Pending, RequestPosition, requested}
use Rattle.turn_desk_laws.proofs.RequestAwaited.{Holds, IsCalledFor, called_for, channel_called, channel_held, drawn_there, here, keeps_three, last_three, of_it, permission_called, permission_held, queued_so, stage_so}
use Rattle.turn_desk_laws.proofs.requests.loops_hold_what_is_requested.Goals as goal

read : (c : goal.After-signed_requests_claim) → AreRead
read c = record {
  message = c.proof_requests_are_read.ensures.message;
  number = c.proof_requests_are_read.ensures.number;
  kind = λ client r number short lawful fits. (c.proof_requests_are_read.ensures.read client r number short lawful fits).kind;
}

module _ (c : goal.After-signed_requests_claim) (plan : Plan) (old two three : World) (address : SocketAddr) (has : HasAllocated plan old address two) (what : ClientCall) (made until : ℕ) (request : List ℕ) (m : HasMade plan what made until request two three) where
  speaks : HasClient plan [] has.between (λ p. Speaks plan.client old.desk.auth.realm address p)
  speaks = c.loops_leave_speakers.ensures plan old has.between has.first has.position has.signed address has.lifetime has.reply has.may has.run has.loop has.done

  itself : until ≤ until
  itself = omega arith

  none_counted : HasClient plan [] two (λ p. AnyCount p.resends)
  none_counted = record { core = m.beyond.core; there = m.beyond.there; is = tt }

  abbrev Called : Wanted → Type 0
  Called wanted = IsCalledFor plan old two address has speaks three made request until AnyCount m.beyond none_counted m.is wanted

  module _ (wanted : Wanted) (a : Called wanted) (w : World) (third : List (Event × Answer)) (sent : ℕ) (position : RequestPosition) (on : IsRun three third w) (loop : IsAskingLoop plan request until (requested made sent) third position) where
    abbrev client : HasClient plan [] three (λ p. HasMadeRequest plan.client old.desk.auth.realm address wanted request until until AnyCount p)
    client = record { core = a.after; there = a.there; is = a.asks until m.early }

    abbrev keeps : KeepsSettings plan old three.desk
    keeps = keeps_three plan old two address has speaks three made request until AnyCount m.beyond none_counted m.is what m.step

    got_so : (grant : List ℕ) → position.stage ≡ Got grant → HasClient plan [] w (Holds (read c) c.signed_requests_claim.ensures plan old has.may address request until until AnyCount itself m.in_range wanted)
    got_so grant got =
        let s = stage_so (read c) c.signed_requests_claim.ensures plan old has.may address request until until AnyCount itself m.in_range three wanted client keeps w third made sent position on loop (Got grant) got in
        record { core = s.core; there = s.there; is = s.is.0 }

    module _ (before : sent ≤ made) (pending : position.stage ≡ Pending) where
      still_queued : (most : ℕ) → HasClient plan [] two (λ p. length p.queue ≡ most) → (ahead : ℕ) × (ahead ≤ most) × IsQueued plan request ahead w
      still_queued most many =
          let own : length (here plan old two address has speaks).queue ≡ most = of_it plan old two address has speaks (λ p. length p.queue ≡ most) many in
          queued_so (read c) c.signed_requests_claim.ensures plan old has.may address request until until AnyCount itself m.in_range three wanted client keeps w third made sent position on loop before pending most
          (record { core = a.after; there = a.there; is = subst (λ (n : ℕ). IsQueuedAfter request n a.after) own a.stands })

      is_drawn : (ahead now : ℕ) (v : World) (ret : Answer) → HasClient plan [] two (λ p. HasLastSent sent p) → IsQueued plan request ahead w → IsNext until position now → time_after position.sent cadence ≤ now → IsStep (Draw now) w ret v → IsDrawOf plan request ahead w ret v
      is_drawn ahead now v ret last behind next late step =
          drawn_there (read c) c.signed_requests_claim.ensures plan old has.may address request until until AnyCount itself m.in_range three wanted client keeps w third made sent position on loop before pending ahead now v ret
          (last_three plan old two address has speaks three made request until AnyCount m.beyond none_counted m.is wanted a sent last) behind next late step

pub returns-clause-permission : goal.returns-clause-permission
returns-clause-permission c = λ plan old two three four address third request grant made until sent now ip position has m on loop got next.
    let what = CreatePermission plan.client.config.transport ip in
    let a = permission_called plan old two address has (speaks c plan old two three address has what made until request m) three made request until AnyCount m.beyond (none_counted c plan old two three address has what made until request m) m.is plan.client.config.transport ip m.step in
    permission_held plan now four (passes now until client_end next.early m.in_range) ip (got_so c plan old two three address has what made until request m (APermission ip) a four third sent position on loop grant got)

pub returns-clause-channel : goal.returns-clause-channel
returns-clause-channel c = λ plan old two three four address third request grant made until sent now peer position has m on loop got next.
    let what = BindChannel plan.client.config.transport peer in
    let a = channel_called plan old two address has (speaks c plan old two three address has what made until request m) three made request until AnyCount m.beyond (none_counted c plan old two three address has what made until request m) m.is plan.client.config.transport peer m.step in
    channel_held plan now four (passes now until client_end next.early m.in_range) a.0 peer (got_so c plan old two three address has what made until request m (AChannel a.0 peer) a.1 four third sent position on loop grant got)

pub returns-clause-queued : goal.returns-clause-queued
returns-clause-queued c = λ plan old two three w address third request made until sent most what position has asks m many before on loop pending.
    let a = called_for plan old two address has (speaks c plan old two three address has what made until request m) three made request until AnyCount m.beyond (none_counted c plan old two three address has what made until request m) m.is what asks m.step in
    still_queued c plan old two three address has what made until request m a.0 a.2 w third sent position on loop before pending most many

pub returns-clause-sendings : goal.returns-clause-sendings
returns-clause-sendings c = λ plan old two three w v address third request made until sent ahead now what position ret has asks m last before on loop pending behind next late step.
    let a = called_for plan old two address has (speaks c plan old two three address has what made until request m) three made request until AnyCount m.beyond (none_counted c plan old two three address has what made until request m) m.is what asks m.step in
    is_drawn c plan old two three address has what made until request m a.0 a.2 w third sent position on loop before pending ahead now v ret last behind next late step
