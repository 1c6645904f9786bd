-- A client in the middle of handling a message on the socket of a connection.
use Rattle.std.proofs.Common.{◌≡◌, true, false, List, ℕ, Result, Ok, Err, refl, ◌∙◌}
use Rattle.std.specs.Prelude.{OnErr, if◌then◌else◌}
use Rattle.std.specs.declared.net.socket_addr.SocketAddr.{SocketAddr}
use Rattle.turn_client_proto_api.specs.StunProtoAgent.Handling.{after_message, answered as ended_one, ends_one}
use Rattle.turn_client_proto_api.specs.StunProtoAgent.State.{Agent}
use Rattle.turn_client_proto_core.specs.Ending.{IsUnderWay}
use Rattle.turn_client_proto_core.specs.Responding.{accepted, answered}
use Rattle.turn_client_proto_core.specs.declared.protocol.Protocol.{Protocol}

-- An agent in which a transaction ended keeps its transport and its address.
same_agent : (agent : Agent) (bytes : List ℕ) (from : SocketAddr) → ((after_message agent bytes from).transport ≡ agent.transport) × ((after_message agent bytes from).here ≡ agent.here)
same_agent agent bytes from =
    elim (ends_one agent bytes) as (λ b. ((if b then ended_one agent bytes from else agent).transport ≡ agent.transport) × ((if b then ended_one agent bytes from else agent).here ≡ agent.here)) [
      | true ↦ (refl, refl)
      | false ↦ (refl, refl)
    ]

module _ (p new : Protocol) (bytes : List ℕ) where
  pub from_accepted : IsUnderWay (accepted bytes p) new → IsUnderWay p new
  unfolding accepted
  from_accepted is =
      let same = same_agent p.agent bytes p.server in
      record { server = is.server; transport = is.transport ∙ same.0; here = is.here ∙ same.1; events = is.events; drew = is.drew }

  pub from_answered : IsUnderWay (answered bytes p) new → IsUnderWay p new
  unfolding answered
  from_answered is =
      let same = same_agent p.agent bytes p.server in
      record { server = is.server; transport = is.transport ∙ same.0; here = is.here ∙ same.1; events = is.events; drew = is.drew }

-- A consequence of what holds if a call failed.
pub where_err : {A B : Type 0} {R E : Type 0} (r : Result R E) → (A → B) → OnErr r A → OnErr r B
where_err (Ok x) f holds = tt
where_err (Err e) f holds = f holds
