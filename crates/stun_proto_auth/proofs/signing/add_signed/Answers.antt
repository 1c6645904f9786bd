use Rattle.std.proofs.Common.{refl, rules}
use Rattle.stun_proto_auth.proofs.Making.{is_cause, memory_left, signed, signer_accepts, signer_refused}
use Rattle.stun_proto_auth.proofs.signing.add_signed.Goals as goal

pub returns-in_err-signature_fits-clause-cause : goal.returns-in_err-signature_fits-clause-cause
returns-in_err-signature_fits-clause-cause g c =
    let refused = rw c.algorithm.ensures at c.in_err-signature_fits.ensures in
    let cause = is_cause _ _ (signer_refused _ c.args.key.now _ _ _ c.in_ok-size.ensures refused) in
    search rules

pub returns-in_err-add_parts-clause-cause : goal.returns-in_err-add_parts-clause-cause
returns-in_err-add_parts-clause-cause g c =
    let room = rw c.algorithm.ensures at c.in_ok-signature_fits.ensures in
    let accepted = signer_accepts _ c.args.key.now _ _ c.in_ok-size.ensures room in
    let cause = memory_left _ _ _ accepted refl c.in_err-add_parts.ensures.memory in
    search rules

pub returns-clause-ok : goal.returns-clause-ok
returns-clause-ok g c =
    let room = rw c.algorithm.ensures at c.in_ok-signature_fits.ensures in
    let accepted = signer_accepts _ c.args.key.now _ _ c.in_ok-size.ensures room in
    let sealed = rw c.algorithm-2.ensures at c.in_ok-add_message_integrity_with_key.ensures.ok in
    signed _ c.args.key.now _ _ _ accepted c.in_ok-add_parts.ensures.ok sealed
