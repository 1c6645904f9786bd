-- Deletion of the allocations (RFC 8656, section 8.1).
use Rattle.std.specs.Prelude.{◌≡◌, ℕ, Bool, true, false, if◌then◌else◌, map, Option, Some, None, Result, Err, MatchResult, IfSome, IfNone}
use Rattle.turn_client_proto_allocation.specs.Refreshing.{deleted}
use Rattle.turn_client_proto_api.specs.declared.error.DeleteError.{DeleteError}
use Rattle.turn_client_proto_api.specs.declared.error.DeleteError.TheVariants.{NoAllocation, NoMemory}
use Rattle.turn_client_proto_messages.specs.declared.request.TurnRequest.TheVariants.{Refresh}
use Rattle.turn_client_proto_core.specs.Asking.{requested}
use Rattle.turn_client_proto_core.specs.Numbering.{IsNextNumber, after_number}
use Rattle.turn_client_proto_core.specs.declared.protocol.Phase.{Phase}
use Rattle.turn_client_proto_core.specs.declared.protocol.Phase.TheVariants.{Initial, InitialSent, Authenticating, Authenticated, Ended}
use Rattle.turn_client_proto_core.specs.declared.protocol.Protocol.{Protocol}

-- The server has allocated, and the client has not ended.
abbrev pub is_authenticated : Phase → Bool
is_authenticated Initial = false
is_authenticated (InitialSent numbers) = false
is_authenticated (Authenticating numbers) = false
is_authenticated Authenticated = true
is_authenticated Ended = false

-- Why a deletion is refused: the server has allocated nothing, or the client has ended.
abbrev pub delete_refusal : Protocol → Option DeleteError
delete_refusal p = if is_authenticated p.phase then None else Some NoAllocation

-- The client after it requested the deletion of its allocations by a REFRESH with `transaction_id`.
unfoldable pub after_delete : ℕ → ℕ → Protocol → Protocol
after_delete transaction_id now p = record (requested (after_number p) (Refresh 0) transaction_id now) {
  allocations = map (deleted transaction_id now) p.allocations;
}

-- The deletion was requested by a REFRESH with the next transaction ID.
pub record IsDeleted (old : Protocol) (now : ℕ) (new : Protocol) : Type 0 where
  pub number : ℕ
  pub is_next : IsNextNumber old number
  pub after : new ≡ after_delete number now old

-- The result of `delete`: refused, and nothing has changed; or requested; or `NoMemory`, and nothing has
-- changed except that random words were generated.
pub record IsDeleteAnswered (old : Protocol) (now : ℕ) (answer : Result (Unit {0}) DeleteError) (new : Protocol)
    : Type 0 where
  pub refused : IfSome (delete_refusal old) (λ error. (answer ≡ Err error) × (new ≡ old))
  pub requested : IfNone (delete_refusal old) (MatchResult answer (λ _. IsDeleted old now new)
      (λ error. (error ≡ NoMemory) × (new ≡ after_number old)))
