use Rattle.std.proofs.Common.{sym, subst, ◌∙◌}
use Rattle.stun_proto_verify.specs.UserKeys.{AreKeysOf}
use Rattle.stun_proto_verify.specs.Integrity.Credentials.{LongTermSecret}
use Rattle.stun_proto_server.specs.ServerSigning.{key_in}
use Rattle.stun_proto_server.proofs.long_term.LongTermServerAuth.party.Goals as goal

pub new-requires : goal.new-requires
new-requires c =
    let keyed = c.in_ok-keyed-in-Some.keyed.now in
    let secret : LongTermSecret = record { username = c.name.result.now; password = keyed.credentials.password; realm = c.args.self.now.realm } in
    let name = c.name.ensures ∙ sym c.name-in-Some.ensures in
    let algorithm = c.algorithm-in-Some.ensures ∙ sym c.algorithm.ensures in
    c.key.ensures secret (subst (AreKeysOf secret) (sym c.deref.ensures) c.in_ok-keyed-in-Some.ensures.keys)
    ∙ (λ i. key_in (sym c.realm.ensures.value i) (record { name = name i; password = sym c.password.ensures i; algorithm = algorithm i }))
