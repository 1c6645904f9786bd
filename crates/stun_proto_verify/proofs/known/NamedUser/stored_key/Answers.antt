use Rattle.std.proofs.Common.{Option, subst, ◌∙◌}
use Rattle.std.specs.Prelude.{IfSome}
use Rattle.std.specs.Cmp.Lexicographic.{same_text}
use Rattle.stun_proto_auth.specs.Integrity.Credentials.{long_term_key}
use Rattle.stun_proto_verify.specs.UserKeys.{AreKeysOf}
use Rattle.stun_proto_verify.specs.declared.known.StoredKeys.{StoredKeys}
use Rattle.stun_proto_verify.proofs.known.NamedUser.stored_key.Goals as goal

pub returns-in-Some : goal.returns-in-Some
returns-in-Some c =
    let name = c.self.inside.name.now in
    let password = c.self.inside.password.now in
    let own = subst (λ (o : Option StoredKeys). IfSome o (λ stored. AreKeysOf (record { username = name; password = password; realm = stored.realm.now }) stored.keys.now)) c.in-Some.is c.self.invariant in
    let same = same_text c.in-Some.stored.realm.now c.args.realm.now c.if-eq.ensures in
    c.key.ensures (record { username = name; password = password; realm = c.in-Some.stored.realm.now }) own
    ∙ (λ i. long_term_key (record { username = (c.self.view_is i).name; password = (c.self.view_is i).password; realm = same i }) c.args.algorithm)
