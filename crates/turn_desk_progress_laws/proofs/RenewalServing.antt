-- No request changes a server core's realm and users.
use Rattle.std.proofs.Common.{◌≡◌, ℕ, Bool, true, false, if◌then◌else◌, List, Option, Some, None, refl, sym, ap, ◌∙◌, subst, inl, inr}
use Rattle.std.specs.Prelude.{IsSome}
use Rattle.std.specs.FinMap as map
use Rattle.std.specs.declared.net.socket_addr.SocketAddr.{SocketAddr}
use Rattle.rand_core.specs.Stream.{Stream}
use Rattle.turn_desk_core.specs.StunProtoVerify.Knowledge.{Outcome}
use Rattle.turn_desk_core.specs.StunTypesAuthAttributes.Userhashes.{userhash_of}
use Rattle.turn_desk_core.specs.StunProtoServer.Server.{Server, has_standing_nonce, refreshed, with_new_nonce, with_outcome}
use Rattle.turn_desk_event.specs.declared.answer.Answer.{Answer}
use Rattle.turn_desk_event.specs.declared.answer.Answer.TheVariants as answer
use Rattle.turn_desk_core.specs.declared.decision.Decision.{Decision}
use Rattle.turn_desk_event.specs.declared.event.Event.{Event}
use Rattle.turn_desk_event.specs.declared.event.Event.TheVariants.{Call, Draw, ToClient, ToDesk}
use Rattle.turn_desk_world_laws.specs.World.Desks.{IsReply, words_of}
use Rattle.turn_desk_world_laws.specs.World.Model.{World}
use Rattle.turn_desk_world_laws.specs.World.Runs.{IsOfClient, IsStep}
use Rattle.turn_desk_core.specs.State.{State}
use Rattle.turn_desk_core.specs.Steps.{IsAnswer}
use Rattle.turn_desk_progress_laws.specs.Scripts.{Plan}
use Rattle.turn_desk_progress_laws.proofs.Clients.{same_desk}
use Rattle.turn_desk_progress_laws.specs.Watched.{IsServing}

-- A new nonce changes neither.
pub refreshed_realm : (server : Server) (from : SocketAddr) (now : ℕ) (stream : Stream) → (refreshed server from now stream).realm ≡ server.realm
refreshed_realm server from now stream = elim (has_standing_nonce server from now) as (λ (x : Bool). (if x then server else with_new_nonce server from now stream).realm ≡ server.realm) [
  | true ↦ refl
  | false ↦ refl
]

pub refreshed_users : (server : Server) (from : SocketAddr) (now : ℕ) (stream : Stream) → (refreshed server from now stream).users ≡ server.users
refreshed_users server from now stream = elim (has_standing_nonce server from now) as (λ (x : Bool). (if x then server else with_new_nonce server from now stream).users ≡ server.users) [
  | true ↦ refl
  | false ↦ refl
]

module _ (plan : Plan) (old : State) where
  pub same_serving : (d e : State) → e ≡ d → IsServing plan old d → IsServing plan old e
  same_serving d e same is = subst (λ (x : State). IsServing plan old x) (sym same) is

  module _ (d e : State) (from : SocketAddr) (bytes reply : List ℕ) (now : ℕ) (seed : List ℕ) (decision : Decision) (is : IsServing plan old d) (answered : IsAnswer d from bytes now (words_of seed) decision reply e) where
    as_after : (outcome : Option Outcome) → e.auth ≡ with_outcome (refreshed d.auth from now (words_of seed)) from outcome → IsServing plan old e
    as_after outcome after =
        let realms : e.auth.realm ≡ d.auth.realm = ap (λ (s : Server). s.realm) after ∙ refreshed_realm d.auth from now (words_of seed) in
        let users : e.auth.users ≡ d.auth.users = ap (λ (s : Server). s.users) after ∙ refreshed_users d.auth from now (words_of seed) in
        record {
          realm = realms ∙ is.realm;
          user = ap (λ m. map.get m plan.client.config.credentials.username) users ∙ is.user;
          hashes = λ a b one other same. is.hashes a b
              (subst (λ m. IsSome (map.get m a)) users one)
              (subst (λ m. IsSome (map.get m b)) users other)
              (subst (λ (r : List ℕ). userhash_of a r ≡ userhash_of b r) realms same);
        }

    pub serves_on : IsServing plan old e
    serves_on = elim answered [
      | inl a ↦ as_after None a.judged.after
      | inr a ↦ as_after (Some (record { name = a.name; algorithm = a.algorithm })) a.judged.after
    ]

  by_reply : (ret : Answer) (d e : State) (bytes : List ℕ) (from : SocketAddr) (now : ℕ) (decision : Decision) (seed : List ℕ) → IsReply ret d bytes from now decision seed e → IsServing plan old d → IsServing plan old e
  by_reply (answer.Reply reply) d e bytes from now decision seed replied is = serves_on d e from bytes reply.items now seed decision is replied.answer
  by_reply answer.Nothing d e bytes from now decision seed replied is = same_serving d e replied.1 is
  by_reply _ d e bytes from now decision seed replied is = absurd replied

  of_client : (w v : World) → IsOfClient w v → IsServing plan old w.desk → IsServing plan old v.desk
  of_client w v same is = same_serving w.desk v.desk (same_desk w v same) is

  -- No event of a simulation changes them.
  pub serves : (event : Event) (w v : World) (ret : Answer) → IsStep event w ret v → IsServing plan old w.desk → IsServing plan old v.desk
  serves (Call call now) w v ret step is = of_client w v step.1 is
  serves (Draw now) w v ret step is = of_client w v step.1 is
  serves (ToClient bytes from to now) w v ret step is = of_client w v step.1 is
  serves (ToDesk bytes from now decision seed) w v ret step is = by_reply ret w.desk v.desk bytes.items from now decision seed step.0.reply is
