-- The transaction IDs of a client's messages (RFC 8489, section 5).
use Rattle.std.specs.Prelude.{◌≡◌, ◌⊎◌, ℕ, ◌+◌, ◌*◌, ◌%◌, ◌^◌, ◌<◌, Bool, ◌||◌, true, false, None, is_some}
use Rattle.std.specs.FinMap as map
use Rattle.rand_chacha.specs.ChaCha.{ChaCha, next_word}
use Rattle.turn_client_proto_allocation.specs.Awaited.{has_number}
use Rattle.turn_client_proto_allocation.specs.Listed.{is_any_awaited}
use Rattle.stun_proto_agent.specs.State.{Agent}
use Rattle.turn_client_proto_core.specs.declared.protocol.Phase.{Phase}
use Rattle.turn_client_proto_core.specs.declared.protocol.Phase.TheVariants.{Initial, InitialSent, Authenticating, Authenticated, Ended}
use Rattle.turn_client_proto_core.specs.declared.protocol.Protocol.{Protocol}

-- The next 32-bit word, and the generator after it.
abbrev pub word : ChaCha → ℕ × ChaCha
word rng = next_word 10 rng

-- The generator after a transaction ID was generated: three words later.
unfoldable pub after_draw : ChaCha → ChaCha
after_draw rng = (word (word (word rng).1).1).1

-- The transaction ID that the next three words make, most significant word first.
unfoldable pub generated : ChaCha → ℕ
generated rng = (word rng).0 * 2 ^ 64 + (word (word rng).1).0 * 2 ^ 32 + (word (word (word rng).1).1).0

-- An ALLOCATE with this transaction ID was sent, and the client is still allocating.
unfoldable pub awaits : ℕ → Phase → Bool
awaits transaction_id Initial = false
awaits transaction_id (InitialSent numbers) = has_number transaction_id numbers
awaits transaction_id (Authenticating numbers) = has_number transaction_id numbers
awaits transaction_id Authenticated = false
awaits transaction_id Ended = false

-- The transaction ID is in use: a request with it is outstanding, or its response is awaited.
unfoldable pub is_taken : Protocol → ℕ → Bool
is_taken p transaction_id = is_some (map.get p.agent.outstanding transaction_id)
    || (awaits transaction_id p.phase || is_any_awaited transaction_id p.allocations)

-- The transaction ID `steps` after `transaction_id`. 0 follows the greatest one.
abbrev pub following : ℕ → ℕ → ℕ
following transaction_id steps = (transaction_id + steps) % 2 ^ 96

-- `transaction_id` is the first transaction ID from `from` on that isn't in use.
pub record IsFirstFree (p : Protocol) (from transaction_id : ℕ) : Type 0 where
  pub steps : ℕ
  pub is : transaction_id ≡ following from steps
  pub passed : (k : ℕ) → k < steps → is_taken p (following from k) ≡ true
  pub free : is_taken p transaction_id ≡ false

-- A request may be sent with this transaction ID: it isn't outstanding.
pub record IsUnused (agent : Agent) (transaction_id : ℕ) : Type 0 where
  pub fits : transaction_id < 2 ^ 96
  pub none : map.get agent.outstanding transaction_id ≡ None

-- Every transaction ID is in use.
abbrev pub AreAllTaken : Protocol → Type 0
AreAllTaken p = (transaction_id : ℕ) → transaction_id < 2 ^ 96 → is_taken p transaction_id ≡ true

-- `transaction_id` is the transaction ID of the next message.
abbrev pub IsNextNumber : Protocol → ℕ → Type 0
IsNextNumber p transaction_id = IsFirstFree p (generated p.rng) transaction_id

-- At most one transaction ID was generated between the two states of the generator.
abbrev pub HasTransmitted : ChaCha → ChaCha → Type 0
HasTransmitted before after = (after ≡ before) ⊎ (after ≡ after_draw before)

-- The client after it generated a transaction ID.
abbrev pub after_number : Protocol → Protocol
after_number p = record p { rng = after_draw p.rng }
