-- The effect of C's calls on the client of a handle.
use Rattle.std.specs.Prelude.{◌≡◌, ℤ, Bool, true, false, Option, Some, None}
use Rattle.turn_client_proto.specs.Clients.{stored_of}
use Rattle.turn_client_proto.specs.Recv.ClientState.{ClientState, Leaves, Protocol}
use Rattle.turn_client_c_calls.specs.Codes.{no_client}
use Rattle.turn_client_c_calls.specs.Held.{Held}
use Rattle.turn_client_c_calls.specs.declared.whole.HandleState.{HandleState}

-- A call on a handle. Without a client it returns `no_client`, and the handle has none afterwards. With a
-- client the handle has one afterwards, and `Does` holds of both.
abbrev pub OnClient : (old new : Held) → ℤ → (HandleState → HandleState → Type 0) → Type 0
OnClient None new status Does = (status ≡ no_client) × (new ≡ None)
OnClient (Some old) None status Does = ⊥
OnClient (Some old) (Some new) status Does = Does old new

-- An argument is checked before the handle. If it is invalid, the call returns `refusal`, and nothing
-- changes.
abbrev pub Named : {A : Type 0} → Option A → ℤ → (old new : Held) → ℤ → (A → Type 0) → Type 0
Named None refusal old new status Holds = (status ≡ refusal) × (new ≡ old)
Named (Some named) refusal old new status Holds = Holds named

-- If the condition is true, the call returns `refusal`, and nothing changes.
abbrev pub Unless : Bool → ℤ → (old new : Held) → ℤ → Type 0 → Type 0
Unless true refusal old new status Holds = (status ≡ refusal) × (new ≡ old)
Unless false refusal old new status Holds = Holds

-- The effect that the trait states on a client's state. The joined bytes stay as they are.
abbrev pub OnStored : (ClientState → ClientState → Type 0) → HandleState → HandleState → Type 0
OnStored Does old new = Does (stored_of old.client) (stored_of new.client) × (new.joined ≡ old.joined)

abbrev pub OnCore : (Protocol → Protocol → Type 0) → HandleState → HandleState → Type 0
OnCore Does = OnStored (Leaves Does)

-- A result of the trait, by the status that reports it. No other status is returned.
abbrev pub Reports : {A : Type 0} → Option A → (A → Type 0) → Type 0
Reports None Holds = ⊥
Reports (Some answer) Holds = Holds answer
