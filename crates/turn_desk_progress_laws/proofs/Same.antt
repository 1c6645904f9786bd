-- No event changes the server core's realm, users or settings.
use Rattle.std.proofs.Common.{◌≡◌, ◌≢◌, ℕ, Bool, true, false, List, [], ◌∷◌, Option, Some, None, refl, sym, ap, ◌∙◌, subst, inl, inr}
use Rattle.std.specs.Prelude.{if◌then◌else◌}
use Rattle.std.specs.FinMap as map
use Rattle.std.specs.declared.net.socket_addr.SocketAddr.{SocketAddr}
use Rattle.rand_core.specs.Stream.{Stream}
use Rattle.turn_desk_core.specs.StunProtoVerify.Knowledge.{Outcome}
use Rattle.turn_desk_core.specs.StunProtoServer.Server.{Server, has_standing_nonce, refreshed, with_new_nonce, with_outcome}
use Rattle.turn_desk_core.proofs.StunProtoServer.StoredBefore.{stored_before}
use Rattle.turn_client_proto_messages.specs.Allocation.Same.{is_same_address}
use Rattle.turn_client_proto_step_laws.proofs.SameSockets.{same_address, same_itself}
use Rattle.turn_desk_world_laws.specs.World.Desks.{IsReplied, IsReply, words_of}
use Rattle.turn_desk_world_laws.specs.World.Model.{World}
use Rattle.turn_desk_world_laws.specs.World.Runs.{IsRun, IsStep}
use Rattle.turn_desk_core.specs.State.{State}
use Rattle.turn_desk_core.specs.Steps.{IsAnswer}
use Rattle.turn_desk_event.specs.declared.answer.Answer.{Answer}
use Rattle.turn_desk_event.specs.declared.answer.Answer.TheVariants as answer
use Rattle.turn_desk_core.specs.declared.decision.Decision.{Decision}
use Rattle.turn_desk_event.specs.declared.event.Event.{Event}
use Rattle.turn_desk_event.specs.declared.event.Event.TheVariants.{Call, Draw, ToClient, ToDesk}
use Rattle.turn_desk_progress_laws.specs.Joining.{IsSameDesk, ReportsOwn}
use Rattle.turn_desk_progress_laws.specs.Links.{Link}
use Rattle.turn_desk_progress_laws.proofs.Nonces.{answered_reports}
use Rattle.turn_desk_progress_laws.proofs.Successes.{answered_realm, answered_users}

-- ---- a result

module _ (old new : State) (from : SocketAddr) (bytes reply : List ℕ) (now : ℕ) (stream : Stream) (decision : Decision) where
  -- The server core's state, by the outcome for the address.
  pub record IsAfter : Type 0 where
    pub outcome : Option Outcome
    pub after : new.auth ≡ with_outcome (refreshed old.auth from now stream) from outcome

  pub after_answer : IsAnswer old from bytes now stream decision reply new → IsAfter
  after_answer (inl a) = record { outcome = None; after = a.judged.after }
  after_answer (inr a) = record { outcome = Some (record { name = a.name; algorithm = a.algorithm }); after = a.judged.after }

  pub answered_algorithms : IsAfter → new.auth.algorithms ≡ old.auth.algorithms
  answered_algorithms a = ap (λ (s : Server). s.algorithms) a.after ∙ elim (has_standing_nonce old.auth from now) as (λ b. (if b then old.auth else with_new_nonce old.auth from now stream).algorithms ≡ old.auth.algorithms) [
    | true ↦ refl
    | false ↦ refl
  ]

  pub answered_anonymous : IsAfter → new.auth.anonymous_username ≡ old.auth.anonymous_username
  answered_anonymous a = ap (λ (s : Server). s.anonymous_username) a.after ∙ elim (has_standing_nonce old.auth from now) as (λ b. (if b then old.auth else with_new_nonce old.auth from now stream).anonymous_username ≡ old.auth.anonymous_username) [
    | true ↦ refl
    | false ↦ refl
  ]

module _ (link : Link) (old : World) where
  same_state : (w v : World) → v.desk ≡ w.desk → IsSameDesk link old w → IsSameDesk link old v
  same_state w v same is = record {
    realm = ap (λ (d : State). d.auth.realm) same ∙ is.realm;
    users = ap (λ (d : State). d.auth.users) same ∙ is.users;
    algorithms = ap (λ (d : State). d.auth.algorithms) same ∙ is.algorithms;
    anonymous = ap (λ (d : State). d.auth.anonymous_username) same ∙ is.anonymous;
    decodes = λ own stored there. is.decodes own stored (ap (λ (d : State). map.get d.auth.clients link.local) (sym same) ∙ there);
  }

  -- What is stored for the socket's address, by a request from it or from another one.
  module _ (w v : World) (reply bytes : List ℕ) (from : SocketAddr) (now : ℕ) (decision : Decision) (seed : List ℕ) (is : IsReplied w.desk bytes from now decision (words_of seed) reply v.desk) (same : IsSameDesk link old w) where
    a : IsAfter w.desk v.desk from bytes reply now (words_of seed) decision
    a = after_answer w.desk v.desk from bytes reply now (words_of seed) decision is.answer

    abbrev Reports : Server → Type 0
    Reports server = ReportsOwn old.desk.auth.algorithms old.desk.auth.anonymous_username link.local server

    own_reports : (from ≡ link.local) → Reports w.desk.auth → Reports v.desk.auth
    own_reports at decodes = subst Reports (sym a.after)
        (subst (λ (x : SocketAddr). Reports (with_outcome (refreshed w.desk.auth x now (words_of seed)) x a.outcome)) (sym at)
        (answered_reports old.desk.auth.algorithms old.desk.auth.anonymous_username w.desk.auth same.algorithms same.anonymous link.local now (words_of seed) a.outcome decodes))

    reports_still : Reports w.desk.auth → Reports v.desk.auth
    reports_still decodes = by (is_same_address from link.local) refl
      where
        by : (b : Bool) → is_same_address from link.local ≡ b → Reports v.desk.auth
        by true at = own_reports (same_address from link.local at) decodes
        by false apart = λ stored there.
            (let different : link.local ≢ from = (λ at. Prim.cc (sym (ap (λ (x : SocketAddr). is_same_address x link.local) (sym at) ∙ same_itself link.local) ∙ apart)) in
            decodes stored (stored_before w.desk.auth from link.local now (words_of seed) different stored a.outcome
            (ap (λ (s : Server). map.get s.clients link.local) (sym a.after) ∙ there)))

    pub replied_same : IsSameDesk link old v
    replied_same = record {
      realm = answered_realm w.desk v.desk from bytes reply now (words_of seed) decision is.answer ∙ same.realm;
      users = answered_users w.desk v.desk from bytes reply now (words_of seed) decision is.answer ∙ same.users;
      algorithms = answered_algorithms w.desk v.desk from bytes reply now (words_of seed) decision a ∙ same.algorithms;
      anonymous = answered_anonymous w.desk v.desk from bytes reply now (words_of seed) decision a ∙ same.anonymous;
      decodes = λ own. reports_still (same.decodes own);
    }

  replied : (w v : World) (ret : Answer) (bytes : List ℕ) (from : SocketAddr) (now : ℕ) (decision : Decision) (seed : List ℕ) → IsReply ret w.desk bytes from now decision seed v.desk → IsSameDesk link old w → IsSameDesk link old v
  replied w v (answer.Reply reply) bytes from now decision seed is same = replied_same w v reply.items bytes from now decision seed is same
  replied w v answer.Nothing bytes from now decision seed is same = same_state w v is.1 same
  replied w v _ bytes from now decision seed is same = absurd is

  pub step_same : (event : Event) (w v : World) (ret : Answer) → IsStep event w ret v → IsSameDesk link old w → IsSameDesk link old v
  step_same (Call what now) w v ret step same = same_state w v (ap (λ (x : World). x.desk) step.1) same
  step_same (Draw now) w v ret step same = same_state w v (ap (λ (x : World). x.desk) step.1) same
  step_same (ToClient bytes from to now) w v ret step same = same_state w v (ap (λ (x : World). x.desk) step.1) same
  step_same (ToDesk bytes from now decision seed) w v ret step same = replied w v ret bytes.items from now decision seed step.0.reply same

  pub run_same : (w new : World) (pairs : List (Event × Answer)) → IsRun w pairs new → IsSameDesk link old w → IsSameDesk link old new
  unfolding IsRun
  run_same w new [] run same = subst (λ (x : World). IsSameDesk link old x) (sym run) same
  run_same w new (pair ∷ pairs) run same = run_same run.0 new pairs run.2 (step_same pair.0 w run.0 pair.1 run.1 same)
