use Rattle.std.specs.Prelude.{ℕ, List}
use Rattle.std.proofs.Common.{ap, ◌∙◌}
use Rattle.bench_codec.proofs.Signed.{holds_signed, key_of}
use Rattle.bench_codec.proofs.validate.validates.Goals as goal

pub returns-in-Ok : goal.returns-in-Ok
returns-in-Ok c =
    let valid = c.validate_integrity_with_key.ensures in
    let is = c.short_term-key.ensures ∙ ap (λ (b : List ℕ). key_of b c.args.algorithm) c.in_ok-text.ensures in
    holds_signed c.args.bytes.now _ c.args.password.now c.args.algorithm _ c.validate_integrity_with_key.result c.is_ok.result is c.in-Ok.ensures.0 valid.valid valid.accepted c.is_ok.ensures.value
