-- A client that a loop has left established, and what its application requests.
use Rattle.std.proofs.Common.{◌≡◌, ℕ, ◌≤◌, ◌^◌, arith, true, false, List, [], Some, refl, sym, ap, ◌∙◌, subst, inl, inr}
use Rattle.std.specs.declared.net.ip_addr.IpAddr.{IpAddr}
use Rattle.std.specs.declared.net.socket_addr.SocketAddr.{SocketAddr}
use Rattle.turn_desk_core.specs.StunTypesBase.declared.transport.TransportType.{TransportType}
use Rattle.turn_desk_core.specs.State.{State}
use Rattle.turn_client_proto_progress_laws.specs.Asking.{IsMade}
use Rattle.turn_client_proto_progress_laws.specs.Speaking.{Speaks}
use Rattle.turn_client_proto_step_laws.specs.Recv.ClientState.{ClientState, Protocol}
use Rattle.turn_client_proto_step_laws.specs.Recv.Control.{Control}
use Rattle.turn_desk_world_laws.specs.World.Calls.{IsBindReported, IsCallReported, IsCalled, IsPermissionReported}
use Rattle.turn_desk_world_laws.specs.World.Model.{World}
use Rattle.turn_desk_world_laws.specs.World.Runs.{IsStep}
use Rattle.turn_desk_event.specs.declared.answer.Answer.{Answer}
use Rattle.turn_desk_event.specs.declared.answer.Answer.TheVariants as answer
use Rattle.turn_desk_event.specs.declared.event.ClientCall.{ClientCall}
use Rattle.turn_desk_event.specs.declared.event.ClientCall.TheVariants.{BindChannel, CreatePermission}
use Rattle.turn_desk_event.specs.declared.event.Event.TheVariants.{Call}
use Rattle.turn_desk_progress_laws.specs.Asking.{Idle, IsRequestOf, replies_in}
use Rattle.turn_desk_progress_laws.specs.Promises.{HasClient, control_at, over}
use Rattle.turn_desk_progress_laws.specs.Scripts.{Plan}
use Rattle.turn_desk_progress_laws.proofs.Clients.{IsDone, done, done_so, same_desk, stays}
use Rattle.turn_desk_progress_laws.proofs.Desks.{IsDeskOf}
use Rattle.turn_desk_progress_laws.proofs.Following.{IsReady, SpeaksIn, clean, replies_on}
use Rattle.turn_desk_progress_laws.proofs.Parts.{desk_on}
use Rattle.turn_desk_laws.specs.RequestLoops.{HasAllocated}

-- ---- the calls

pub permission_reported : (transport : TransportType) (ip : IpAddr) (p : Protocol) (q : ClientState) (c : Control) (at : ℕ) (ret : Answer) → IsCallReported (CreatePermission transport ip) ret (over c p) at q → IsPermissionReported ret transport ip p at q.core × (q.control ≡ c)
unfolding IsCallReported IsCalled
permission_reported transport ip p q c at ret is = is

pub channel_reported : (transport : TransportType) (peer : SocketAddr) (p : Protocol) (q : ClientState) (c : Control) (at : ℕ) (ret : Answer) → IsCallReported (BindChannel transport peer) ret (over c p) at q → IsBindReported ret transport peer p at q.core × (q.control ≡ c)
unfolding IsCallReported IsCalled
channel_reported transport peer p q c at ret is = is

module _ (plan : Plan) (old two : World) (address : SocketAddr) (has : HasAllocated plan old address two) (speaks : HasClient plan [] has.between (λ p. Speaks plan.client old.desk.auth.realm address p)) where
  abbrev pub realm : List ℕ
  realm = old.desk.auth.realm

  begins : IsDeskOf plan.client realm old.desk
  begins = record { realm_is = refl; user = has.may.user; hashes = has.may.hashes }

  pub ready : SpeaksIn plan realm address [] two
  ready = (clean plan realm address has.second (replies_in has.first []) Idle Idle has.between two (replies_on plan realm has.first [] old has.between begins (λ r none. absurd none) has.run)
      (record { speaks = record { client = speaks; desk = desk_on plan.client realm has.first old has.between begins has.run }; way = tt }) has.again has.clean).speaks

  abbrev pub control : Control
  control = control_at plan.client.transport []

  abbrev pub p : Protocol
  p = ready.client.core

  -- What holds of the client holds of this one.
  core_is : (k : ClientState) → two.client ≡ Some k → k ≡ over control p
  core_is k there = Prim.cc (sym there ∙ ready.client.there)

  pub of_it : (Is : Protocol → Type 0) → HasClient plan [] two Is → Is p
  of_it Is h = subst (λ (k : ClientState). Is k.core) (core_is (over control h.core) h.there) h.is

  -- A call returned.
  module _ (three : World) (what : ClientCall) (made : ℕ) (Reported : Answer → Protocol → Type 0) (reported_so : (ret : Answer) (q : ClientState) → IsCallReported what ret (over control p) made q → Reported ret q.core × (q.control ≡ control)) where
    pub record IsRequested (ret : Answer) : Type 0 where
      pub after : Protocol
      pub there : three.client ≡ Some (over control after)
      pub reported : Reported ret after
      pub desk : three.desk ≡ two.desk

    by_done : (ret : Answer) → IsStep (Call what made) two ret three → (d : IsDone control made (λ x y. IsCallReported what ret x made y) p ret three.client) → IsCallReported what ret (over control p) made d.after → IsRequested ret
    by_done ret step d does =
        let reported = reported_so ret d.after does in
        record { after = d.after.core; there = d.there ∙ ap Some (stays control d.after reported.1); reported = reported.0; desk = same_desk two three step.1 }

    pub requested_early : (ret : Answer) → made ≤ 2 ^ 62 → IsStep (Call what made) two ret three → IsRequested ret
    requested_early ret early step =
        let d = done control made _ p two.client three.client ret ready.client.there step.0 in
        by_done ret step d (done_so control made _ p ret three.client early d)

    pub requested_done : IsStep (Call what made) two answer.Done three → IsRequested answer.Done
    requested_done step =
        let d = done control made _ p two.client three.client answer.Done ready.client.there step.0 in
        elim d.outcome [
          | inl does ↦ by_done answer.Done step d does.1
          | inr out ↦ absurd (Prim.cc out.0)
        ]

    -- The call's request.
    pub own_made : (request : List ℕ) (a : IsRequested answer.Done) → IsRequestOf two three request → IsMade p a.after request
    own_made request a r =
        let new_is : r.new ≡ over control a.after = Prim.cc (sym r.new_there ∙ a.there) in
        subst (λ (k : ClientState). IsMade p k.core request) new_is (subst (λ (k : ClientState). IsMade k.core r.new.core request) (core_is r.old r.old_there) r.made)

    pub one_made : (a : IsRequested answer.Done) → (request : List ℕ) × IsMade p a.after request → (request : List ℕ) × IsRequestOf two three request
    one_made a m = (m.0, record { old = over control p; old_there = ready.client.there; new = over control a.after; new_there = a.there; made = m.1 })

    -- The server core is unchanged.
    pub desk_three : IsRequested answer.Done → IsDeskOf plan.client realm three.desk
    desk_three a = subst (λ (d : State). IsDeskOf plan.client realm d) (sym a.desk) ready.desk

    -- The state of the simulation then.
    pub ready_three : (a : IsRequested answer.Done) (Is : Protocol → Type 0) → Is a.after → IsReady plan realm [] Is three
    ready_three a Is is = record {
      client = record { core = a.after; there = a.there; is = is };
      desk = subst (λ (d : State). IsDeskOf plan.client realm d) (sym a.desk) ready.desk;
    }

  pub permission_so : (transport : TransportType) (ip : IpAddr) (made : ℕ) (ret : Answer) (q : ClientState) → IsCallReported (CreatePermission transport ip) ret (over control p) made q → IsPermissionReported ret transport ip p made q.core × (q.control ≡ control)
  permission_so transport ip made ret q is = permission_reported transport ip p q control made ret is

  pub channel_so : (transport : TransportType) (peer : SocketAddr) (made : ℕ) (ret : Answer) (q : ClientState) → IsCallReported (BindChannel transport peer) ret (over control p) made q → IsBindReported ret transport peer p made q.core × (q.control ≡ control)
  channel_so transport peer made ret q is = channel_reported transport peer p q control made ret is
