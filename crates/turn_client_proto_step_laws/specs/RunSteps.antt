-- A call of a client as a step of a run.
use Rattle.std.specs.Prelude.{◌≡◌, ℕ, List, [], ◌∷◌, Option, None}
use Rattle.turn_client_proto_timers.specs.TurnRuns.Messages.{Notice, Payload}
use Rattle.turn_client_proto_timers.specs.TurnRuns.Steps.{Call, ClientStep}
use Rattle.turn_client_proto_timers.specs.Core.declared.protocol.Protocol.{Protocol}
use Rattle.turn_client_proto_step_laws.specs.ClientWords.{client_words}
use Rattle.turn_client_proto_step_laws.specs.RunClient.{Client}
use Rattle.turn_client_proto_step_laws.specs.Sound.{IsSound}

-- A call in which messages were received and handled at once, bytes were transmitted, or items were reported
-- as created.
abbrev pub call_of : Client → (came : List (List ℕ)) → (generated : Option (List ℕ)) → List Notice → Client → Call Client
call_of before came generated answered after = record {
  before = before;
  came = came;
  handled = came;
  transmitted = generated;
  answered = answered;
  payloads = [];
  visible = [];
  after = after;
}

-- The call leaves the client with this core and with the same buffered frames. It is a step of a run, so
-- every transaction ID that the generator gave is counted; and the client's invariant holds afterwards.
pub record IsRunStep (before : Client) (came : List (List ℕ)) (generated : Option (List ℕ)) (answered : List Notice)
    (core : Protocol) : Type 0 where
  pub after : Client
  pub core_is : after.core ≡ core
  pub waits : after.waiting ≡ before.waiting
  pub step : ClientStep client_words (call_of before came generated answered after)
  pub sound : IsSound after

-- A message or a channel frame was received, and these payloads were delivered from it. Nothing was
-- transmitted or reported.
pub record IsGiving (before : Client) (bytes : List ℕ) (payloads : List Payload) (core : Protocol) : Type 0 where
  pub after : Client
  pub core_is : after.core ≡ core
  pub waits : after.waiting ≡ before.waiting
  pub step : ClientStep client_words (record (call_of before (bytes ∷ []) None [] after) { payloads = payloads })
  pub sound : IsSound after

-- No message or frame was received, and these payloads were delivered: bytes of the peers of bound
-- connections, which had come over their sockets. Nothing was transmitted or reported.
pub record IsPassingOn (before : Client) (payloads : List Payload) (core : Protocol) : Type 0 where
  pub after : Client
  pub core_is : after.core ≡ core
  pub waits : after.waiting ≡ before.waiting
  pub step : ClientStep client_words (record (call_of before [] None [] after) { payloads = payloads })
  pub sound : IsSound after

-- A message was received and handled. Nothing was transmitted or reported.
abbrev pub IsReceiving : Client → List ℕ → Protocol → Type 0
IsReceiving before bytes core = IsRunStep before (bytes ∷ []) None [] core

-- Nothing was received, transmitted or reported.
abbrev pub IsSilent : Client → Protocol → Type 0
IsSilent before core = IsRunStep before [] None [] core

-- ---- over TCP

-- Complete frames were received, and none was handled. Afterwards the frames `waiting` are buffered.
pub record IsComing (before : Client) (came waiting : List (List ℕ)) : Type 0 where
  pub after : Client
  pub core_is : after.core ≡ before.core
  pub waits : after.waiting ≡ waiting
  pub step : ClientStep client_words (record (call_of before came None [] after) { handled = [] })
  pub sound : IsSound after

-- The oldest buffered frame was handled, and these payloads were delivered from it.
pub record IsTakingUp (before : Client) (frame : List ℕ) (payloads : List Payload) (core : Protocol) : Type 0 where
  pub after : Client
  pub core_is : after.core ≡ core
  pub waits : before.waiting ≡ frame ∷ after.waiting
  pub step : ClientStep client_words (record (call_of before [] None [] after) { handled = frame ∷ []; payloads = payloads })
  pub sound : IsSound after
