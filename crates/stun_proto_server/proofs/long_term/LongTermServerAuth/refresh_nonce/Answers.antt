use Rattle.std.proofs.Common.{sym, ap, ◌∙◌, if◌then◌else◌}
use Rattle.stun_proto_verify.proofs.Base.WordLemmas.{stream_after-zero}
use Rattle.stun_proto_verify.specs.Base.GeneratorWords.{stream_after}
use Rattle.stun_proto_verify.specs.Auth.declared.nonce.TheConstants.{NONCE_WORDS}
use Rattle.stun_proto_server.proofs.long_term.LongTermServerAuth.refresh_nonce.Goals as goal

pub returns-then-has_standing_nonce-clause-stream : goal.returns-then-has_standing_nonce-clause-stream
returns-then-has_standing_nonce-clause-stream g c =
    let stream = g.R.Rng.stream c.args.rng.now in
    sym (ap (λ b. stream_after (if b then 0 else NONCE_WORDS) stream) (sym c.has_standing_nonce.ensures ∙ c.if-has_standing_nonce.true) ∙ stream_after-zero stream)
