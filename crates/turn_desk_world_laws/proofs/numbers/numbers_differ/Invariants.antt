use Rattle.std.proofs.Common.{◌≡◌, ◌*◌}
use Rattle.rand_chacha.specs.ChaCha.{of_seed}
use Rattle.stun_types_base.specs.GeneratorWords.{stream_after}
use Rattle.stun_types_wire.specs.Generated.{number_words}
use Rattle.turn_client_proto_step_laws.specs.Sound.{stream_from}
use Rattle.turn_desk_world_laws.specs.Numbers.{NumbersDiffer, number_of}
use Rattle.turn_desk_world_laws.proofs.Different.{HasFirst}
use Rattle.turn_desk_world_laws.proofs.numbers.numbers_differ.Given as goal

-- The numbers generated so far differ, and are in the set.
abbrev pub invariant-loop : goal.invariant-loop
invariant-loop l = record {
  words : stream_from l.rng ≡ stream_after (number_words * l.counter) (stream_from (of_seed l.fn.seed));
  has : HasFirst (number_of l.fn.seed) l.numbers l.counter;
  differ : NumbersDiffer l.fn.seed l.counter;
}
