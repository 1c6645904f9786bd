use Rattle.std.proofs.Common.{lit<}
use Rattle.std.specs.Prelude.{Some, None}
use Rattle.std.proofs.lemmas.Str.Pattern.{strip_prefix_char}
use Rattle.turn_desk_trace.proofs.BytesLemmas.{part_answered, part_hex}
use Rattle.turn_desk_trace.proofs.bytes.push_part.Goals as goal

pub returns-in-Some-clause-ok : goal.returns-in-Some-clause-ok
returns-in-Some-clause-ok c =
    let begins = strip_prefix_char 64 c.args.part.now (Some c.in-Some.reference) c.in-Some.ensures.cases (lit< tt) in
    rw (part_answered c.args.answers.now c.args.part.now c.in-Some.reference.now begins) c.push_answered.ensures.ok

pub returns-in-Some-clause-bad : goal.returns-in-Some-clause-bad
returns-in-Some-clause-bad c =
    let begins = strip_prefix_char 64 c.args.part.now (Some c.in-Some.reference) c.in-Some.ensures.cases (lit< tt) in
    rw (part_answered c.args.answers.now c.args.part.now c.in-Some.reference.now begins) c.push_answered.ensures.bad

pub returns-in-None-clause-ok : goal.returns-in-None-clause-ok
returns-in-None-clause-ok c =
    let other = strip_prefix_char 64 c.args.part.now None c.in-None.ensures.cases (lit< tt) in
    rw (part_hex c.args.answers.now c.args.part.now other) c.push_hex.ensures.ok

pub returns-in-None-clause-bad : goal.returns-in-None-clause-bad
returns-in-None-clause-bad c =
    let other = strip_prefix_char 64 c.args.part.now None c.in-None.ensures.cases (lit< tt) in
    rw (part_hex c.args.answers.now c.args.part.now other) c.push_hex.ensures.bad
