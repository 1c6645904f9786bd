-- The next request's transaction ID is at the next index of the client's stream, unless that ID is taken.
use Rattle.std.proofs.Common.{◌≡◌, ℕ, zero, suc, ◌+◌, ◌*◌, ◌^◌, ◌<◌, true, sym, ap, ◌∙◌, subst, arith, ◌⊎◌, inl, inr}
use Rattle.rand_chacha.specs.Block.{block_word}
use Rattle.rand_chacha.specs.ChaCha.{ChaCha, next_word}
use Rattle.rand_core.specs.Steps.{steps_u32}
use Rattle.rand_core.specs.Stream.{Stream, next_u32}
use Rattle.rand_core.proofs.StepsLemmas.{next_u32-stream_of}
use Rattle.turn_client_proto_timers.specs.StunTypesWire.Generated.{generated_id, number_words}
use Rattle.turn_client_proto_timers.specs.StunTypesBase.GeneratorWords.{stream_after}
use Rattle.turn_client_proto_timers.specs.TurnRuns.StunWire.{stun_wire}
use Rattle.turn_client_proto_timers.specs.Core.Numbering.{IsNextNumber, after_draw, following, generated, is_taken, word}
use Rattle.turn_client_proto_timers.specs.Core.declared.protocol.Protocol.{Protocol}
use Rattle.turn_client_proto_step_laws.specs.ClientWords.{IsTaken}
use Rattle.turn_client_proto_step_laws.specs.RunClient.{parts_of}
use Rattle.turn_client_proto_step_laws.specs.Sound.{stream_from}
use Rattle.turn_client_proto_step_laws.proofs.Taken.{taken_by}

-- ---- words

word_small : (rng : ChaCha) → (word rng).0 < 2 ^ 32
unfolding block_word
word_small rng = omega arith

small : (a b c : ℕ) → a < 2 ^ 32 → b < 2 ^ 32 → c < 2 ^ 32 → a * 2 ^ 64 + b * 2 ^ 32 + c < 2 ^ 96
small a b c x y z = omega arith

transmitted_small : (rng : ChaCha) → generated rng < 2 ^ 96
unfolding generated
transmitted_small rng = small (word rng).0 (word (word rng).1).0 (word (word (word rng).1).1).0 (word_small rng) (word_small (word rng).1) (word_small (word (word rng).1).1)

one_word : (rng : ChaCha) (s : Stream) → stream_from rng ≡ s → stream_from (word rng).1 ≡ (next_u32 s).1
one_word rng s is = sym (ap (λ (p : ℕ × Stream). p.1) (next_u32-stream_of (steps_u32 (next_word 10)) rng)) ∙ ap (λ (u : Stream). (next_u32 u).1) is

first_word : (rng : ChaCha) (s : Stream) → stream_from rng ≡ s → (word rng).0 ≡ (next_u32 s).0
first_word rng s is = sym (ap (λ (p : ℕ × Stream). p.0) (next_u32-stream_of (steps_u32 (next_word 10)) rng)) ∙ ap (λ (u : Stream). (next_u32 u).0) is

sum_same : (a b c x y z : ℕ) → a ≡ x → b ≡ y → c ≡ z → a * 2 ^ 64 + b * 2 ^ 32 + c ≡ x * 2 ^ 64 + y * 2 ^ 32 + z
sum_same a b c x y z p q r = omega (arith, p, q, r)

transmitted_is : (rng : ChaCha) (s : Stream) → stream_from rng ≡ s → generated rng ≡ generated_id s
unfolding generated generated_id stream_after
transmitted_is rng s is =
    let second = one_word rng s is in
    let third = one_word (word rng).1 (next_u32 s).1 second in
    sum_same (word rng).0 (word (word rng).1).0 (word (word (word rng).1).1).0 (next_u32 s).0 (next_u32 (next_u32 s).1).0 (next_u32 (next_u32 (next_u32 s).1).1).0
    (first_word rng s is) (first_word (word rng).1 (next_u32 s).1 second) (first_word (word (word rng).1).1 (next_u32 (next_u32 s).1).1 third)

three_more : (rng : ChaCha) (count : ℕ) (seed : Stream) → stream_from rng ≡ stream_after count seed → stream_from (after_draw rng) ≡ stream_after (suc (suc (suc count))) seed
unfolding after_draw stream_after
three_more rng count seed is =
    let second = one_word rng (stream_after count seed) is in
    let third = one_word (word rng).1 (next_u32 (stream_after count seed)).1 second in
    one_word (word (word rng).1).1 (next_u32 (next_u32 (stream_after count seed)).1).1 third

-- The words that are left after one more transaction ID.
pub words_after : (rng : ChaCha) (count : ℕ) (seed : Stream) → stream_from rng ≡ stream_after (number_words * count) seed → stream_from (after_draw rng) ≡ stream_after (number_words * (count + 1)) seed
words_after rng count seed is =
    let indexes : suc (suc (suc (3 * count))) ≡ 3 * (count + 1) = omega arith in
    three_more rng (3 * count) seed is ∙ ap (λ (n : ℕ). stream_after n seed) indexes

-- ---- the number

after_none : (n : ℕ) → n < 2 ^ 96 → following n 0 ≡ n
after_none n h = omega (arith, h)

after_small : (n steps : ℕ) → following n steps < 2 ^ 96
after_small n steps = omega arith

pub number_small : (p : Protocol) (number : ℕ) → IsNextNumber p number → number < 2 ^ 96
number_small p number is = subst (λ (n : ℕ). n < 2 ^ 96) (sym is.is) (after_small (generated p.rng) is.steps)

-- This is the transaction ID at an index of a stream, or that one is taken.
abbrev pub IsAtIndex : Protocol → Stream → ℕ → ℕ → Type 0
IsAtIndex p seed index number = (number ≡ stun_wire.number seed index) ⊎ IsTaken (parts_of p) (stun_wire.number seed index)

at_index : (p : Protocol) (seed : Stream) (index number steps : ℕ) → generated p.rng ≡ stun_wire.number seed index → number ≡ following (generated p.rng) steps
    → ((k : ℕ) → k < steps → is_taken p (following (generated p.rng) k) ≡ true) → IsAtIndex p seed index number
at_index p seed index number zero here is passed = inl (is ∙ after_none (generated p.rng) (transmitted_small p.rng) ∙ here)
at_index p seed index number (suc steps) here is passed =
    inr (subst (λ (n : ℕ). IsTaken (parts_of p) n) (after_none (generated p.rng) (transmitted_small p.rng) ∙ here)
    (taken_by p (following (generated p.rng) 0) (passed 0 (omega arith))))

pub number_at_index : (p : Protocol) (seed : Stream) (index number : ℕ) → stream_from p.rng ≡ stream_after (number_words * index) seed → IsNextNumber p number → IsAtIndex p seed index number
number_at_index p seed index number words is =
    at_index p seed index number is.steps (transmitted_is p.rng (stream_after (number_words * index) seed) words) is.is is.passed
