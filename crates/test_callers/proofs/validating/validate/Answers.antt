use Rattle.std.proofs.Common.{ℕ, List, sym, subst}
use Rattle.stun_types.specs.Integrity.{Validates}
use Rattle.stun_types.specs.Keys.{key_of}
use Rattle.test_callers.proofs.validating.validate.Goals as goal

pub returns-clause-accepted : goal.returns-clause-accepted
returns-clause-accepted c algorithm text valid =
    c.validate_integrity.ensures.accepted algorithm text (subst
    (λ (m : List ℕ). Validates m (key_of c.args.credentials.now algorithm).bytes algorithm text)
    (sym c.in_ok-message.ensures.0) valid)
