use Rattle.std.proofs.Common.{◌≡◌, ℕ, ◌≤◌, List, [], refl}
use Rattle.std.specs.Prelude.{Ok, Err}
use Rattle.std.specs.declared.net.ip_addr.IpAddr.{IpAddr}
use Rattle.std.specs.declared.net.socket_addr.SocketAddr.{SocketAddr}
use Rattle.turn_desk_core.specs.StunTypesBase.declared.transport.TransportType.{TransportType}
use Rattle.turn_client_proto_handshake_laws.specs.Driving.{client_end}
use Rattle.turn_client_proto_progress_laws.specs.Asking.{MayBind, MayPermit}
use Rattle.turn_client_proto_progress_laws.specs.Speaking.{Speaks}
use Rattle.turn_client_proto_step_laws.specs.Recv.ClientState.{Protocol}
use Rattle.turn_desk_world_laws.specs.World.Calls.{IsBindReported, IsPermissionReported}
use Rattle.turn_desk_world_laws.specs.World.Model.{World}
use Rattle.turn_desk_world_laws.specs.World.Runs.{IsStep}
use Rattle.turn_desk_event.specs.declared.answer.Answer.{Answer}
use Rattle.turn_desk_event.specs.declared.answer.Answer.TheVariants as answer
use Rattle.turn_desk_event.specs.declared.answer.Refusal.TheVariants.{BindChannel as BindRefused, CreatePermission as PermissionRefused}
use Rattle.turn_desk_event.specs.declared.event.ClientCall.TheVariants.{BindChannel, CreatePermission}
use Rattle.turn_desk_event.specs.declared.event.Event.TheVariants.{Call}
use Rattle.turn_desk_progress_laws.specs.Asking.{IsRequestOf}
use Rattle.turn_desk_progress_laws.specs.Promises.{HasClient}
use Rattle.turn_desk_progress_laws.specs.Scripts.{Plan}
use Rattle.turn_desk_laws.specs.RequestLoops.{HasAllocated}
use Rattle.turn_desk_laws.proofs.RequestMade as established
use Rattle.turn_desk_laws.proofs.requests.loops_make_requests.Goals as goal

module _ (c : goal.After-channels_are_requested_for) (plan : Plan) (old two three : World) (address : SocketAddr) (has : HasAllocated plan old address two) where
  speaks : HasClient plan [] has.between (λ p. Speaks plan.client old.desk.auth.realm address p)
  speaks = c.loops_leave_speakers.ensures plan old has.between has.first has.position has.signed address has.lifetime has.reply has.may has.run has.loop has.done

  abbrev realm : List ℕ
  realm = old.desk.auth.realm

  abbrev p : Protocol
  p = established.p plan old two address has speaks

  of_it : (Is : Protocol → Type 0) → HasClient plan [] two Is → Is p
  of_it = established.of_it plan old two address has speaks

  there : (Is : Protocol → Type 0) → Is p → HasClient plan [] two Is
  there Is is = record { core = p; there = (established.ready plan old two address has speaks).client.there; is = is }

  is_speaking : Speaks plan.client realm address p
  is_speaking = (established.ready plan old two address has speaks).client.is

  -- ---- a permission

  module _ (transport : TransportType) (ip : IpAddr) (made : ℕ) where
    abbrev May : Type 0
    May = HasClient plan [] two (λ x. MayPermit plan.client address transport ip made x)

    permission_answers : (ret : Answer) (after : Protocol) → IsPermissionReported ret transport ip p made after → (ret ≡ answer.Done → May) × (May → ret ≡ answer.Done)
    permission_answers answer.Done after reported =
        let both = c.permissions_are_requested_for.ensures.answered plan.client realm address p after transport ip made (Ok tt) is_speaking (λ e. Prim.cc e) reported in
        (λ is. there (λ x. MayPermit plan.client address transport ip made x) (both.0 refl), λ may. refl)
    permission_answers (answer.Refused (PermissionRefused error)) after reported =
        let both = c.permissions_are_requested_for.ensures.answered plan.client realm address p after transport ip made (Err error) is_speaking (λ e. reported.1 (Prim.cc e)) reported.0 in
        (λ is. absurd (Prim.cc is), λ may. absurd (Prim.cc (both.1 (of_it (λ x. MayPermit plan.client address transport ip made x) may))))
    permission_answers _ after reported = absurd reported

    permission_answered : (ret : Answer) → made ≤ client_end → IsStep (Call (CreatePermission transport ip) made) two ret three → (ret ≡ answer.Done → May) × (May → ret ≡ answer.Done)
    permission_answered ret early step =
        let a = established.requested_early plan old two address has speaks three (CreatePermission transport ip) made (λ r q. IsPermissionReported r transport ip p made q) (established.permission_so plan old two address has speaks transport ip made) ret early step in
        permission_answers ret a.after a.reported

    permission_made : IsStep (Call (CreatePermission transport ip) made) two answer.Done three → (request : List ℕ) × IsRequestOf two three request
    permission_made step =
        let so = established.permission_so plan old two address has speaks transport ip made in
        let a = established.requested_done plan old two address has speaks three (CreatePermission transport ip) made (λ r q. IsPermissionReported r transport ip p made q) so step in
        established.one_made plan old two address has speaks three (CreatePermission transport ip) made (λ r q. IsPermissionReported r transport ip p made q) so a
        (c.permissions_are_requested_for.ensures.one plan.client realm address p a.after transport ip made is_speaking a.reported)

  -- ---- a channel

  module _ (transport : TransportType) (peer : SocketAddr) (made : ℕ) where
    abbrev MayBindTo : Type 0
    MayBindTo = HasClient plan [] two (λ x. MayBind plan.client address transport peer made x)

    channel_answers : (ret : Answer) (after : Protocol) → IsBindReported ret transport peer p made after → (ret ≡ answer.Done → MayBindTo) × (MayBindTo → ret ≡ answer.Done)
    channel_answers answer.Done after reported =
        let both = c.channels_are_requested_for.ensures.answered plan.client realm address p after transport peer made (Ok tt) is_speaking (λ e. Prim.cc e) reported in
        (λ is. there (λ x. MayBind plan.client address transport peer made x) (both.0 refl), λ may. refl)
    channel_answers (answer.Refused (BindRefused error)) after reported =
        let both = c.channels_are_requested_for.ensures.answered plan.client realm address p after transport peer made (Err error) is_speaking (λ e. reported.1 (Prim.cc e)) reported.0 in
        (λ is. absurd (Prim.cc is), λ may. absurd (Prim.cc (both.1 (of_it (λ x. MayBind plan.client address transport peer made x) may))))
    channel_answers _ after reported = absurd reported

    channel_answered : (ret : Answer) → made ≤ client_end → IsStep (Call (BindChannel transport peer) made) two ret three → (ret ≡ answer.Done → MayBindTo) × (MayBindTo → ret ≡ answer.Done)
    channel_answered ret early step =
        let a = established.requested_early plan old two address has speaks three (BindChannel transport peer) made (λ r q. IsBindReported r transport peer p made q) (established.channel_so plan old two address has speaks transport peer made) ret early step in
        channel_answers ret a.after a.reported

    channel_made : IsStep (Call (BindChannel transport peer) made) two answer.Done three → (request : List ℕ) × IsRequestOf two three request
    channel_made step =
        let so = established.channel_so plan old two address has speaks transport peer made in
        let a = established.requested_done plan old two address has speaks three (BindChannel transport peer) made (λ r q. IsBindReported r transport peer p made q) so step in
        established.one_made plan old two address has speaks three (BindChannel transport peer) made (λ r q. IsBindReported r transport peer p made q) so a
        (c.channels_are_requested_for.ensures.one plan.client realm address p a.after transport peer made is_speaking a.reported)

pub returns-clause-permitted : goal.returns-clause-permitted
returns-clause-permitted c = λ plan old two three address made transport ip ret has early step. permission_answered c plan old two three address has transport ip made ret early step

pub returns-clause-bindable : goal.returns-clause-bindable
returns-clause-bindable c = λ plan old two three address made transport peer ret has early step. channel_answered c plan old two three address has transport peer made ret early step

pub returns-clause-permission_request : goal.returns-clause-permission_request
returns-clause-permission_request c = λ plan old two three address made transport ip has step. permission_made c plan old two three address has transport ip made step

pub returns-clause-channel_request : goal.returns-clause-channel_request
returns-clause-channel_request c = λ plan old two three address made transport peer has step. channel_made c plan old two three address has transport peer made step
