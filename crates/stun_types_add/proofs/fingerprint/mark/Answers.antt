use Rattle.std.proofs.Common.{ℕ, List, ◌-◌, ap, ◌∙◌}
use Rattle.stun_types_integrity.specs.Wire.Covered.{with_length}
use Rattle.stun_types_integrity.specs.Wire.Fingerprints.{fingerprint_value}
use Rattle.stun_types_integrity.specs.Wire.Registry.{fingerprint_kind}
use Rattle.stun_types_integrity.specs.Write.Adding.{attr_of}
use Rattle.stun_types_add.specs.FingerprintValues.{turned_bytes}
use Rattle.stun_types_add.proofs.Added.{marked, pushed_long}
use Rattle.stun_types_add.proofs.fingerprint.mark.Goals as goal

pub set_length-requires : goal.set_length-requires
set_length-requires g c =
    let draft = g.W.MessageWrite.draft in
    pushed_long (draft c.args.writer.now) (draft c.push_as.new.writer) (attr_of fingerprint_kind (turned_bytes c.of_message-fingerprint.result)) c.requires.started c.in_ok-push_as.ensures.ok

pub returns-clause-ok : goal.returns-clause-ok
returns-clause-ok g c =
    let draft = g.W.MessageWrite.draft in
    let digest = c.of_message-fingerprint.ensures ∙ ap (λ (l : List ℕ). fingerprint_value (with_length l (c.in_ok-end.end - 20))) c.data.ensures in
    marked (draft c.args.writer.now) (draft c.push_as.new.writer) (draft c.set_length.new.self) (turned_bytes c.of_message-fingerprint.result) c.in_ok-end.end c.requires.started c.in_ok-push_as.ensures.ok c.in_ok-end.ensures.grown c.in_ok-end.ensures.short digest c.set_length.ensures
