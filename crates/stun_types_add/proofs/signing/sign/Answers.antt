use Rattle.std.proofs.Common.{rules, ℕ, List, [], ◌≡◌, ◌+◌, ◌-◌, ◌++◌, length, refl, sym, ap, subst, ◌∙◌, arith}
use Rattle.std.proofs.lemmas.List.{append-nil}
use Rattle.stun_types_integrity.specs.Wire.Attributes.{attr_size}
use Rattle.stun_types_integrity.specs.Wire.Covered.{with_length}
use Rattle.stun_types_integrity.specs.Integrity.{integrity_hmac}
use Rattle.stun_types_integrity.specs.Signing.{hmac_length}
use Rattle.stun_types_integrity.specs.Write.Adding.{attr_of}
use Rattle.stun_types_integrity.specs.Write.Drafts.{Draft, HasRoom, pushed_attribute}
use Rattle.stun_types_add.proofs.Adds.{long_enough}
use Rattle.stun_types_add.proofs.Added.{signed, decoded_fits, decoded_first, decoded_room}
use Rattle.stun_types_add.proofs.signing.sign.Goals as goal

pub push_as-requires-clause-size : goal.push_as-requires-clause-size
push_as-requires-clause-size g c κs within =
    let old = g.W.MessageWrite.draft c.args.writer.now in
    let size = decoded_fits old (g.W.MessageWrite.draft c.set_length.new.self) (c.in_ok-end.end - 20) c.requires.started c.set_length.ensures in
    omega (arith, size, c.requires.started.size)

pub push_as-requires-clause-room : goal.push_as-requires-clause-room
push_as-requires-clause-room g c κs within =
    let same : c.args.key.now.algorithm ≡ c.args.algorithm = let a = c.if-ne.ensures in let d = c.algorithm.ensures in search rules in
    let size = ap length (c.new-attribute.ensures.value ∙ c.as_slice.ensures) ∙ c.hmac-hmac.ensures.size ∙ ap hmac_length same in
    let room = subst (λ k. HasRoom (g.W.MessageWrite.draft c.args.writer.now) (4 + k)) c.hmac_length.ensures c.in_ok-end.ensures.room in
    decoded_room (g.W.MessageWrite.draft c.args.writer.now) (g.W.MessageWrite.draft c.set_length.new.self) c.args.algorithm c.new-attribute.result.kind c.new-attribute.result.value (c.in_ok-end.end - 20) c.requires.started c.set_length.ensures size room

pub returns-in-Ok-clause-ok : goal.returns-in-Ok-clause-ok
returns-in-Ok-clause-ok g c =
    let same : c.args.key.now.algorithm ≡ c.args.algorithm = let a = c.if-ne.ensures in let d = c.algorithm.ensures in search rules in
    let old = g.W.MessageWrite.draft c.args.writer.now in
    let decoded = g.W.MessageWrite.draft c.set_length.new.self in
    let new = g.W.MessageWrite.draft c.push_as.new.writer in
    let n = c.in_ok-end.end - 20 in
    let held = c.new-attribute.ensures.value ∙ c.as_slice.ensures in
    let text = c.data-2.ensures ∙ ap (λ (d : Draft). d.bytes) c.set_length.ensures in
    let digest =
    held ∙ c.hmac-hmac.ensures.bytes
    ∙ ap (λ (l : List ℕ). integrity_hmac c.args.key.now.algorithm c.args.key.now.bytes (l ++ [] ++ [])) text
    ∙ ap (λ (l : List ℕ). integrity_hmac c.args.key.now.algorithm c.args.key.now.bytes l) (append-nil (with_length old.bytes n ++ []) ∙ append-nil (with_length old.bytes n))
    ∙ ap (λ a. integrity_hmac a c.args.key.now.bytes (with_length old.bytes n)) same in
    let a = attr_of c.new-attribute.result.kind c.new-attribute.result.value in
    signed old (pushed_attribute a old) new c.args.key.now.bytes c.args.algorithm c.new-attribute.result.kind c.new-attribute.result.value c.in_ok-end.end c.requires.started refl (c.new-attribute.ensures.kind ∙ c.attribute_type.ensures)
    (c.in_ok-end.ensures.grown ∙ ap (λ k. length old.bytes + (4 + k)) c.hmac_length.ensures) c.in_ok-end.ensures.short digest (ap length held ∙ c.hmac-hmac.ensures.size ∙ ap hmac_length same)
    (decoded_first old decoded new a n c.requires.started c.set_length.ensures c.in-Ok.ensures.ok)

pub set_length-requires-in-Err : goal.set_length-requires-in-Err
set_length-requires-in-Err g c =
    let old = g.W.MessageWrite.draft c.args.writer.now in
    let decoded = decoded_fits old (g.W.MessageWrite.draft c.set_length.new.self) (c.in_ok-end.end - 20) c.requires.started c.set_length.ensures in
    let long = long_enough old.bytes c.requires.started in
    let size = ap (λ (d : Draft). length d.bytes) c.in-Err.ensures.err in
    omega (arith, decoded, long, size)
