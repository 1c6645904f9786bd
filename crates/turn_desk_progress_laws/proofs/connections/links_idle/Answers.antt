use Rattle.std.proofs.Common.{◌≡◌, ◌<◌, ℕ, [], ◌∷◌, Some, None, arith, inl, inr, refl, sym, subst}
use Rattle.std.specs.Net.Socket.{socket_ip}
use Rattle.std.specs.declared.net.socket_addr.SocketAddr.{SocketAddr}
use Rattle.turn_desk_core.specs.StunTypesBase.Times.{time_after}
use Rattle.turn_desk_event.specs.StunProtoTransaction.Schedule.{end_at}
use Rattle.turn_client_proto_messages.specs.Allocation.Permissions.{permission_renewal}
use Rattle.turn_client_proto_handshake_laws.specs.Requested.{Requested as Request, end_of}
use Rattle.turn_client_proto_progress_laws.specs.Holders.{Holder, IsListed}
use Rattle.turn_client_proto_progress_laws.specs.TcpBinding.{connect_request, permission_request}
use Rattle.turn_desk_world_laws.specs.TurnClientProtoPeers.Permission.Granted.{granted_for}
use Rattle.turn_client_proto_messages.specs.Api.Options.{cadence}
use Rattle.turn_client_proto_progress_laws.specs.Resting.{IsResting}
use Rattle.turn_desk_world_laws.specs.World.Model.{World}
use Rattle.turn_desk_world_laws.specs.World.Runs.{IsStep}
use Rattle.turn_desk_event.specs.declared.answer.Answer.{Answer}
use Rattle.turn_desk_event.specs.declared.event.ClientCall.TheVariants.{Poll}
use Rattle.turn_desk_event.specs.declared.event.Event.TheVariants.{Call, Draw}
use Rattle.turn_desk_progress_laws.specs.Promises.{control_at}
use Rattle.turn_desk_progress_laws.specs.Scripts.{Plan}
use Rattle.turn_desk_progress_laws.proofs.Clients.{Rests, draw_rests, poll_rests}
use Rattle.turn_desk_progress_laws.specs.Joining.{IsAtStep, holder_in, permitted_in}
use Rattle.turn_desk_progress_laws.specs.Links.{Requested, Called, IsAtRest, IsMadeAt, IsQuietTime, IsReadyAfter, IsTimelyLink, Link, Opened, Reached}
use Rattle.turn_desk_progress_laws.proofs.connections.links_idle.Goals as goal

module _ (c : goal.After-holders_rest) (plan : Plan) (old w v : World) (address : SocketAddr) (lifetime : ℕ) (link : Link) (now : ℕ) (ret : Answer) where
  rested : (progress : Reached) → IsAtStep plan old address lifetime link progress w → Rests ret w v → IsAtStep plan old address lifetime link progress v
  rested progress s r = subst (λ (x : World). IsAtStep plan old address lifetime link progress x) (sym r.same) s

  -- ---- nothing is to be renewed

  module _ (timely : IsTimelyLink plan lifetime link) (quiet : IsQuietTime plan lifetime link now) where
    bare : (h : Holder) → h.lifetime ≡ lifetime → h.since ≡ plan.second → IsResting h [] now
    bare h long from = record { before = (let b = quiet.before_refresh in rw (long, from) b); standing = tt }

    renewed_later : now < permission_renewal (granted_for (socket_ip link.peer) link.granted)
    renewed_later = let a = quiet.soon in let b = timely.following in let d = timely.called in let e = timely.in_range in omega (arith, a, b, d, e)

    permitted : (h : Holder) → h.lifetime ≡ lifetime → h.since ≡ plan.second → IsResting h (permitted_in link) now
    permitted h long from = record { before = (let b = quiet.before_refresh in rw (long, from) b); standing = (refl, renewed_later, tt) }

    none_listed : (h : Holder) (x : Request) → IsListed x [] → now < end_of h.started x
    none_listed h x listed = absurd listed

    draws_idly : (progress : Reached) → IsAtRest progress → IsAtStep plan old address lifetime link progress w → IsStep (Draw now) w ret v → IsAtStep plan old address lifetime link progress v
    draws_idly progress (inl at) s step =
        let k = subst (λ (x : Reached). IsAtStep plan old address lifetime link x w) at s in
        let h = holder_in plan address lifetime k.auth k.standing in
        rested progress s (draw_rests (control_at plan.client.transport []) w v k.client.core now ret k.client.there
        (λ sent q transmitted. c.holders_rest.ensures.still h None [] [] [] [] plan.second k.events k.client.core q now sent k.client.is (bare h refl refl) transmitted) step)
    draws_idly progress (inr at) s step =
        let k = subst (λ (x : Reached). IsAtStep plan old address lifetime link x w) at s in
        let h = holder_in plan address lifetime k.auth k.standing in
        rested progress s (draw_rests (control_at plan.client.transport []) w v k.client.core now ret k.client.there
        (λ sent q transmitted. c.holders_rest.ensures.still h None [] (permitted_in link) [] [] link.granted k.events k.client.core q now sent k.client.is.is (permitted h refl refl) transmitted) step)

    polls_idly : (progress : Reached) → IsAtRest progress → IsAtStep plan old address lifetime link progress w → IsStep (Call Poll now) w ret v → IsAtStep plan old address lifetime link progress v
    polls_idly progress (inl at) s step =
        let k = subst (λ (x : Reached). IsAtStep plan old address lifetime link x w) at s in
        let h = holder_in plan address lifetime k.auth k.standing in
        rested progress s (poll_rests (control_at plan.client.transport []) w v k.client.core now ret k.client.there
        (λ r q polled. (let p = c.holders_rest.ensures.polled h None [] [] [] [] [] plan.second k.events k.client.core q now r k.client.is refl (bare h refl refl) (none_listed h) polled in p.2)) step)
    polls_idly progress (inr at) s step =
        let k = subst (λ (x : Reached). IsAtStep plan old address lifetime link x w) at s in
        let h = holder_in plan address lifetime k.auth k.standing in
        rested progress s (poll_rests (control_at plan.client.transport []) w v k.client.core now ret k.client.there
        (λ r q polled. (let p = c.holders_rest.ensures.polled h None [] (permitted_in link) [] [] [] link.granted k.events k.client.core q now r k.client.is.is refl (permitted h refl refl) (none_listed h) polled in p.2)) step)

    -- ---- a request waits

    one_listed : (h : Holder) (one : Request) → now < end_of h.started one → (x : Request) → IsListed x (one ∷ []) → now < end_of h.started x
    one_listed h one before x (inl same) = subst (λ (y : Request). now < end_of h.started y) (sym same) before
    one_listed h one before x (inr listed) = absurd listed

    polls_early : (progress : Reached) (made : ℕ) → IsMadeAt link progress made → now < end_at made plan.client.config.waits → IsAtStep plan old address lifetime link progress w → IsStep (Call Poll now) w ret v → IsAtStep plan old address lifetime link progress v
    polls_early Requested made at before s step =
        let h = holder_in plan address lifetime s.auth s.standing in
        let one = permission_request h (socket_ip link.peer) s.client.is.number link.requested in
        rested Requested s (poll_rests (control_at plan.client.transport []) w v s.client.core now ret s.client.there
        (λ r q polled. (let p = c.holders_rest.ensures.polled h (Some one) [] [] _ [] _ plan.second s.events s.client.core q now r s.client.is.is.is refl (bare h refl refl)
        (one_listed h one (subst (λ (m : ℕ). now < end_at m plan.client.config.waits) at before)) polled in p.2)) step)
    polls_early Called made at before s step =
        let h = holder_in plan address lifetime s.auth s.standing in
        let one = connect_request h link.peer s.client.is.number link.made in
        rested Called s (poll_rests (control_at plan.client.transport []) w v s.client.core now ret s.client.there
        (λ r q polled. (let p = c.holders_rest.ensures.polled h (Some one) [] (permitted_in link) [] _ _ link.granted s.events s.client.core q now r s.client.is.is refl (permitted h refl refl)
        (one_listed h one (subst (λ (m : ℕ). now < end_at m plan.client.config.waits) at before)) polled in p.2)) step)
    polls_early _ made at before s step = absurd at

  -- ---- it is transmitted too early

  draws_early : (progress : Reached) (last : ℕ) → IsReadyAfter plan link progress last → now < time_after last cadence → IsAtStep plan old address lifetime link progress w → IsStep (Draw now) w ret v → IsAtStep plan old address lifetime link progress v
  draws_early Requested last at early s step =
      let h = holder_in plan address lifetime s.auth s.standing in
      rested Requested s (draw_rests (control_at plan.client.transport []) w v s.client.core now ret s.client.there
      (λ sent q transmitted. c.holders_rest.ensures.rests h _ [] _ _ plan.second s.events s.client.core q now sent s.client.is.is.is refl (subst (λ (m : ℕ). now < time_after m cadence) at early) transmitted) step)
  draws_early Called last at early s step =
      let h = holder_in plan address lifetime s.auth s.standing in
      rested Called s (draw_rests (control_at plan.client.transport []) w v s.client.core now ret s.client.there
      (λ sent q transmitted. c.holders_rest.ensures.rests h _ [] _ _ link.granted s.events s.client.core q now sent s.client.is.is refl (subst (λ (m : ℕ). now < time_after m cadence) at early) transmitted) step)
  draws_early (Opened sent_at) last at early s step =
      let h = holder_in plan address lifetime s.auth s.standing in
      rested (Opened sent_at) s (draw_rests (control_at plan.client.transport []) w v s.client.core now ret s.client.there
      (λ sent q transmitted. c.holders_rest.ensures.rests h _ s.client.is.is.older _ _ sent_at s.events s.client.core q now sent s.client.is.is.is refl (subst (λ (m : ℕ). now < time_after m cadence) at early) transmitted) step)
  draws_early _ last at early s step = absurd at

pub returns-clause-transmitted : goal.returns-clause-transmitted
returns-clause-transmitted c = λ plan old w v address lifetime link progress now ret timely quiet at s step. draws_idly c plan old w v address lifetime link now ret timely quiet progress at s step

pub returns-clause-polled : goal.returns-clause-polled
returns-clause-polled c = λ plan old w v address lifetime link progress now ret timely quiet at s step. polls_idly c plan old w v address lifetime link now ret timely quiet progress at s step

pub returns-clause-early : goal.returns-clause-early
returns-clause-early c = λ plan old w v address lifetime link progress last now ret at early s step. draws_early c plan old w v address lifetime link now ret progress last at early s step

pub returns-clause-waits : goal.returns-clause-waits
returns-clause-waits c = λ plan old w v address lifetime link progress made now ret timely quiet at before s step. polls_early c plan old w v address lifetime link now ret timely quiet progress made at before s step
