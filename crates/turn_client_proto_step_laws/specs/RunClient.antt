-- What a run sees of a client, over either transport.
use Rattle.std.specs.Prelude.{ℕ, ◌+◌, ◌-◌, ◌/◌, ◌%◌, ◌^◌, Bool, List}
use Rattle.rand_chacha.specs.ChaCha.{ChaCha}
use Rattle.rand_core.specs.Stream.{Stream}
use Rattle.turn_client_proto_timers.specs.StunTypesIntegrity.Credentials.{NameAndPassword}
use Rattle.turn_client_proto_timers.specs.StunTypesWire.Generated.{number_words}
use Rattle.turn_client_proto_timers.specs.StunTypesBase.declared.transport.TransportType.{TransportType}
use Rattle.turn_client_proto_timers.specs.StunProtoAgent.State.{Agent}
use Rattle.turn_client_proto_timers.specs.Allocation.declared.allocation.Allocation.{Allocation}
use Rattle.turn_client_proto_timers.specs.Messages.Waiting.{Queued}
use Rattle.turn_client_proto_timers.specs.Core.declared.protocol.Phase.{Phase}
use Rattle.turn_client_proto_timers.specs.Core.declared.protocol.Protocol.{Protocol}

-- A client in a run: its user's credentials; whether it accepts indications; the random stream from which its transaction IDs come, and the
-- count of those generated so far; the state of its protocol core; and the complete frames received over TCP
-- that are buffered, the oldest first.
pub record Client : Type 0 where
  pub credentials : NameAndPassword
  pub offers : Bool
  pub seed : Stream
  pub transmitted : ℕ
  pub core : Protocol
  pub waiting : List (List ℕ)

-- The client after a call, with this count of generated transaction IDs and this core.
abbrev pub moved : Client → ℕ → Protocol → Client
moved c generated core = record c { transmitted = generated; core = core }

-- The count of words that a generator gave between two positions. After the last position, 2 ^ 68 - 1, comes
-- the first.
abbrev pub words_between : (before after : ChaCha) → ℕ
words_between before after = (after.word_pos + (2 ^ 68 - before.word_pos % 2 ^ 68)) % 2 ^ 68

-- The count of transaction IDs that those words make.
abbrev pub numbers_between : (before after : ChaCha) → ℕ
numbers_between before after = words_between before after / number_words

-- The parts of a core that a run looks at.
pub record Parts : Type 0 where
  pub agent : Agent
  pub phase : Phase
  pub allocates : TransportType
  pub allocations : List Allocation
  pub queue : List Queued

abbrev pub parts_of : Protocol → Parts
parts_of p = record {
  agent = p.agent;
  phase = p.phase;
  allocates = p.allocates;
  allocations = p.allocations;
  queue = p.queue;
}
