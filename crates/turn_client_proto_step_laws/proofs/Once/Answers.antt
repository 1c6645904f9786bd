-- The client after a message from the socket of a connection is determined.
use Rattle.std.proofs.Common.{◌≡◌, ◌≢◌, ℕ, Bool, true, false, List, Option, Some, None, Ok, Err, sym, ap, ◌∙◌, subst}
use Rattle.std.specs.Bool.{MatchBool}
use Rattle.std.specs.declared.net.socket_addr.SocketAddr.{SocketAddr}
use Rattle.turn_client_proto_timers.specs.StunTypesWire.Attributes.{kind_at}
use Rattle.turn_client_proto_timers.specs.StunTypesWire.Types.{class_of}
use Rattle.turn_client_proto_recv.specs.StunProtoClient.Client.{Client}
use Rattle.turn_client_proto_recv.specs.StunProtoClient.declared.error.LongTermClientAuthError.TheVariants.{Unauthorized, IntegrityFailed, UnsupportedFeature, NoMemory}
use Rattle.turn_client_proto_recv.specs.StunProtoClient.declared.validation.LongTermClientValidation.TheVariants.{ResendRequest, Validated}
use Rattle.turn_client_proto_timers.specs.StunProtoAgent.Handling.{is_awaited}
use Rattle.turn_client_proto_recv.specs.Processing.{IsAnswerProcessed, IsAnswerJudged, IsRequestedAnew, IsProcessedAt, IsOfBinding, IsSettled, requested_anew, awaited_at, bound_at, aborted, is_answer, is_of_binding, is_success_class}
use Rattle.turn_client_proto_recv.specs.declared.processing.Joining.{Joining}
use Rattle.turn_client_proto_timers.specs.Core.Responding.{accepted, answered, judged}
use Rattle.turn_client_proto_timers.specs.Core.declared.protocol.Protocol.{Protocol}
use Rattle.turn_client_proto_step_laws.proofs.Once.Judging.{Verdict, judged_same, no_memory}
use Rattle.turn_client_proto_step_laws.proofs.Once.Numbering.{next_same}

-- Two clients are equal if both are in the relation.
pub record IsSingle (leads : Protocol → Type 0) : Type 0 where
  pub same : (one other : Protocol) → leads one → leads other → one ≡ other

only : (after : Protocol) → IsSingle (λ (new : Protocol). new ≡ after)
only after = record { same = λ one other a b. a ∙ sym b }

never : IsSingle (λ new. ⊥)
never = record { same = λ one other a b. absurd a }

tested : {P Q : Protocol → Type 0} (b : Bool) → IsSingle P → IsSingle Q → IsSingle (λ (new : Protocol). MatchBool b (P new) (Q new))
tested true p q = record { same = p.same }
tested false p q = record { same = q.same }

module _ (here : SocketAddr) (bytes : List ℕ) (now : ℕ) where
  anew_single : (connection : ℕ) (p : Protocol) → IsSingle (IsRequestedAnew here connection now p)
  anew_single connection p = record {
    same = λ one other a b. a.after ∙ ap (λ (n : ℕ). requested_anew here connection n now p) (next_same p a.number b.number a.is_next b.is_next) ∙ sym b.after;
  }

  settled_single : (peer : SocketAddr) (p : Protocol) → IsSingle (IsSettled here peer p bytes)
  settled_single peer p = tested (is_awaited p.agent bytes)
      (tested (is_success_class (class_of (kind_at bytes))) (only (bound_at here peer (accepted bytes p))) (only (aborted here peer (accepted bytes p))))
      (only (aborted here peer p))

  judged_single : (verdict : Verdict) (j : Joining) (p : Protocol) → IsSingle (IsAnswerJudged verdict here j p bytes now)
  judged_single (Ok (ResendRequest choice)) j p = anew_single j.connection p
  judged_single (Ok (Validated algorithm)) j p = settled_single j.peer p
  judged_single (Err NoMemory) j p = never
  judged_single (Err Unauthorized) j p = only (aborted here j.peer (answered bytes p))
  judged_single (Err (IntegrityFailed algorithm)) j p = only (aborted here j.peer (answered bytes p))
  judged_single (Err UnsupportedFeature) j p = only (aborted here j.peer (answered bytes p))

  answer_single : (j : Joining) (old : Protocol) → IsSingle (IsAnswerProcessed here j old bytes now)
  answer_single j old = record {
    same = λ one other a b.
        let enough : a.verdict ≢ no_memory = λ is. subst (λ (v : Verdict). IsAnswerJudged v here j (judged a.auth old) bytes now one) is a.outcome in
        let plenty : b.verdict ≢ no_memory = λ is. subst (λ (v : Verdict). IsAnswerJudged v here j (judged b.auth old) bytes now other) is b.outcome in
        let same = judged_same old.auth bytes a.auth b.auth a.verdict b.verdict enough plenty a.is_judged b.is_judged in
        let by_auth = subst (λ (c : Client). IsAnswerJudged a.verdict here j (judged c old) bytes now one) same.1 a.outcome in
        let by_both = subst (λ (v : Verdict). IsAnswerJudged v here j (judged b.auth old) bytes now one) same.0 by_auth in
        (judged_single b.verdict j (judged b.auth old)).same one other by_both b.outcome;
  }

  binding_single : (o : Option Joining) (old : Protocol) → IsSingle (IsOfBinding o here old bytes now)
  binding_single None old = only old
  binding_single (Some j) old = tested (is_answer j.number bytes) (answer_single j old) (only (aborted here j.peer old))

  pub processed_single : (old : Protocol) → IsSingle (IsProcessedAt here old bytes now)
  processed_single old = tested (is_of_binding old bytes) (binding_single (awaited_at here old.allocations) old) (only old)
