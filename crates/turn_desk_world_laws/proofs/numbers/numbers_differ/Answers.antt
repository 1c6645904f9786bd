use Rattle.std.proofs.Common.{◌≡◌, ap, ◌∙◌, sym, arith}
use Rattle.rand_chacha.specs.ChaCha.{of_seed}
use Rattle.stun_types_wire.specs.Generated.{generated_id}
use Rattle.stun_types_base.proofs.WordLemmas.{stream_after-zero}
use Rattle.turn_client_proto_step_laws.specs.Sound.{stream_from}
use Rattle.turn_desk_world_laws.specs.Numbers.{number_of}
use Rattle.turn_desk_world_laws.proofs.Different.{has_none, inserted, new_differs, repeats, three_more}
use Rattle.turn_desk_world_laws.proofs.numbers.numbers_differ.Goals as goal

pub loop-init : goal.loop-init
loop-init c = record {
  words = ap stream_from c.from_seed-rng.ensures ∙ sym (stream_after-zero (stream_from (of_seed c.args.seed)));
  has = has_none (number_of c.args.seed) c.new-numbers.result c.new-numbers.ensures.empty;
  differ = λ i j below small. absurd (omega arith);
}

pub returns-then-not-branch : goal.returns-then-not-branch
returns-then-not-branch c =
    let next : c.from-transaction_id.result ≡ number_of c.args.seed c.loop.counter = c.from-transaction_id.ensures ∙ c.generate.ensures.number ∙ ap generated_id c.loop.invariant.words in
    repeats (number_of c.args.seed) c.loop.numbers c.loop.counter c.loop.invariant.has c.from-transaction_id.result next c.in_ok-insert.field-0 c.in_ok-insert.ensures.added c.if-not-branch.true c.args.count c.loop-test.true

pub loop-preserved : goal.loop-preserved
loop-preserved c =
    let next : c.from-transaction_id.result ≡ number_of c.args.seed c.loop.counter = c.from-transaction_id.ensures ∙ c.generate.ensures.number ∙ ap generated_id c.loop.invariant.words in
    record {
      words = three_more c.loop.counter (stream_from (of_seed c.args.seed)) (stream_from c.loop.rng) (stream_from c.generate.new.rng) c.loop.invariant.words c.generate.ensures.stream;
      has = inserted (number_of c.args.seed) c.loop.numbers c.loop.counter c.loop.invariant.has c.from-transaction_id.result next c.in_ok-insert.field-0 c.in_ok-insert.ensures.added c.insert.new.self c.in_ok-insert.ensures.updates;
      differ = new_differs (number_of c.args.seed) c.loop.numbers c.loop.counter c.loop.invariant.has c.from-transaction_id.result next c.in_ok-insert.field-0 c.in_ok-insert.ensures.added c.if-not-branch.false c.loop.invariant.differ;
    }

pub returns : goal.returns
returns c = λ i j below small. c.loop.invariant.differ i j below (omega arith)
