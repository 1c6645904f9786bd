-- A client at the beginning of a run.
use Rattle.std.specs.Prelude.{ℕ, List, []}
use Rattle.rand_chacha.specs.ChaCha.{of_seed}
use Rattle.turn_client_proto_timers.specs.StunTypesIntegrity.Credentials.{NameAndPassword}
use Rattle.turn_client_proto_timers.specs.Core.declared.protocol.Protocol.{Protocol}
use Rattle.turn_client_proto_step_laws.specs.RunClient.{Client}
use Rattle.turn_client_proto_step_laws.specs.Sound.{stream_from}

-- A client on which nothing was called yet: its transaction IDs come from the generator of a seed, none was
-- generated, and no frame is buffered.
abbrev pub first_client : NameAndPassword → (seed : List ℕ) → Protocol → Client
first_client credentials seed core = record {
  credentials = credentials;
  offers = core.attempt_indications;
  seed = stream_from (of_seed seed);
  transmitted = 0;
  core = core;
  waiting = [];
}
