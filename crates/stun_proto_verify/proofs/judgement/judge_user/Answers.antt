use Rattle.std.proofs.Common.{◌≡◌, Some, ap, sym, ◌∙◌}
use Rattle.stun_proto_auth.specs.Claims.{claimed}
use Rattle.stun_proto_auth.specs.Wire.declared.algorithm.IntegrityAlgorithm.{IntegrityAlgorithm}
use Rattle.stun_proto_verify.specs.Judgement.{ServerAccepts}
use Rattle.stun_proto_verify.proofs.Judging.{accepts, digest_refused, accepts_user, in_realm, not_memory}
use Rattle.stun_proto_verify.proofs.judgement.judge_user.Goals as goal

pub returns-clause-valid : goal.returns-clause-valid
returns-clause-valid c =
    let last : (claimed c.args.message.now).integrity ≡ Some c.in_ok-pending.pending.algorithm = c.requires.last ∙ ap (λ (a : IntegrityAlgorithm). Some a) (sym c.in_ok-pending.ensures.found.0) in
    accepts_user c.args.known.now c.args.message.now c.in_ok-pending.pending.algorithm c.in_ok-pending.pending.name.now _ c.new.result c.new.ensures c.in_ok-name.ensures.ok
    (accepts c.args.known.now c.args.message.now c.in_ok-pending.pending.algorithm c.in_ok-pending.pending.name.now c.in_ok-pending.pending.password.now c.requires.no_response
    c.requires.passed last c.in_ok-pending.ensures.found.1 (in_realm c.args.message.now c.realm.result.now c.args.known.now.realm c.in_ok-pending.pending.name.now c.in_ok-pending.pending.password.now c.in_ok-pending.pending.algorithm c.realm.ensures c.in_ok-validate_user.ensures.valid))

pub returns-in_err-validate_user-clause-refused : goal.returns-in_err-validate_user-clause-refused
returns-in_err-validate_user-clause-refused c =
    let last : (claimed c.args.message.now).integrity ≡ Some c.in_ok-pending.pending.algorithm = c.requires.last ∙ ap (λ (a : IntegrityAlgorithm). Some a) (sym c.in_ok-pending.ensures.found.0) in
    digest_refused c.args.known.now c.args.message.now c.in_ok-pending.pending.algorithm c.in_ok-pending.pending.name.now c.in_ok-pending.pending.password.now c.realm.result.now c.from_residual-in_err-validate_user.result c.in_err-validate_user.field-0.0
    c.requires.no_response c.requires.passed last c.in_ok-pending.ensures.found.1
    c.realm.ensures c.from_residual-in_err-validate_user.ensures.1 c.in_err-validate_user.ensures.refused

pub returns-in_err-validate_user-clause-memory : goal.returns-in_err-validate_user-clause-memory
returns-in_err-validate_user-clause-memory c =
    not_memory c.args.known.now c.args.message.now c.in_ok-pending.pending.algorithm c.from_residual-in_err-validate_user.result c.in_err-validate_user.field-0.0
    c.from_residual-in_err-validate_user.ensures.1 c.in_err-validate_user.ensures.refused.0

pub returns-in_err-name-clause-memory : goal.returns-in_err-name-clause-memory
returns-in_err-name-clause-memory c = λ _. record {
  algorithm = c.in_ok-pending.pending.algorithm;
  name = c.in_ok-pending.pending.name.now;
  accepts = accepts c.args.known.now c.args.message.now c.in_ok-pending.pending.algorithm c.in_ok-pending.pending.name.now c.in_ok-pending.pending.password.now c.requires.no_response
      c.requires.passed (c.requires.last ∙ ap (λ (a : IntegrityAlgorithm). Some a) (sym c.in_ok-pending.ensures.found.0)) c.in_ok-pending.ensures.found.1
      (in_realm c.args.message.now c.realm.result.now c.args.known.now.realm c.in_ok-pending.pending.name.now c.in_ok-pending.pending.password.now c.in_ok-pending.pending.algorithm c.realm.ensures c.in_ok-validate_user.ensures.valid);
}
