use Rattle.std.proofs.Common.{arith, take, ◌≤◌, length}
use Rattle.std.specs.String.{string_bytes}
use Rattle.stun_proto_auth.specs.declared.nonce.TheConstants.{NONCE_WORDS}
use Rattle.std.proofs.lemmas.List.{length-take}
use Rattle.stun_proto_auth.proofs.NonceLemmas.{nonce_text-short}
use Rattle.stun_proto_auth.proofs.nonce.write_nonce.Goals as goal

pub invariant_of-result : goal.invariant_of-result
invariant_of-result c =
    let words = take c.loop-word.word-index c.args.words.now in
    let few : length words ≤ NONCE_WORDS = omega (arith, length-take c.loop-word.word-index c.args.words.now) in
    nonce_text-short c.args.features words (string_bytes c.loop-word.text) c.loop-word.invariant few
