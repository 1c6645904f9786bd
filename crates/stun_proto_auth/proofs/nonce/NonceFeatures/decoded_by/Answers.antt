use Rattle.std.proofs.Common.{sym, ap, ◌∙◌, take}
use Rattle.base64.specs.GeneralPurpose.{decode_of}
use Rattle.base64.specs.Engines.{standard}
use Rattle.stun_proto_auth.specs.Nonce.{features_decoded}
use Rattle.stun_proto_auth.proofs.NonceLemmas.{features_in-cookie}
use Rattle.stun_proto_auth.proofs.nonce.NonceFeatures.decoded_by.Goals as goal

pub returns : goal.returns
returns c =
    c.of_characters.ensures ∙ ap (λ n. features_decoded (decode_of standard (take n c.in-Some.after_cookie.now))) c.min.ensures
    ∙ sym (features_in-cookie c.args.nonce.now c.as_bytes.result.now c.as_bytes-cookie.result.now c.in-Some.after_cookie.now
    c.as_bytes.ensures.value c.as_bytes-cookie.ensures.value c.in-Some.ensures.cases.0 c.in-Some.ensures.cases.1)
