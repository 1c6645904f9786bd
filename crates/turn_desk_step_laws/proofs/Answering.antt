-- Answering a request changes no user.
use Rattle.std.proofs.Common.{◌≡◌, ℕ, true, false, List, Option, Some, None, sym, subst, inl, inr}
use Rattle.std.specs.Prelude.{if◌then◌else◌}
use Rattle.std.specs.declared.net.socket_addr.SocketAddr.{SocketAddr}
use Rattle.rand_core.specs.Stream.{Stream}
use Rattle.turn_desk_core.specs.StunProtoVerify.Knowledge.{Outcome}
use Rattle.turn_desk_core.specs.StunProtoServer.Server.{Server, has_standing_nonce, refreshed, with_new_nonce, with_outcome}
use Rattle.turn_desk_core.specs.StunProtoServer.Users.{HashesDiffer}
use Rattle.turn_desk_core.specs.declared.decision.Decision.{Decision}
use Rattle.turn_desk_core.specs.State.{State}
use Rattle.turn_desk_core.specs.Steps.{IsAnswer}
-- The reply is determined.
pub use Rattle.turn_desk_core.proofs.Definite.{answer_same}

-- Validating a message changes no user.
differ_still : (old : Server) (from : SocketAddr) (now : ℕ) (stream : Stream) (outcome : Option Outcome) → HashesDiffer old → HashesDiffer (with_outcome (refreshed old from now stream) from outcome)
differ_still old from now stream outcome differ =
    elim (has_standing_nonce old from now) as (λ b. HashesDiffer (with_outcome (if b then old else with_new_nonce old from now stream) from outcome)) [
      | true ↦ differ
      | false ↦ differ
    ]

pub hashes_differ_still : (old new : State) (from : SocketAddr) (bytes reply : List ℕ) (now : ℕ) (stream : Stream) (decision : Decision) → HashesDiffer old.auth → IsAnswer old from bytes now stream decision reply new → HashesDiffer new.auth
hashes_differ_still old new from bytes reply now stream decision differ (inl a) = subst (λ (s : Server). HashesDiffer s) (sym a.judged.after) (differ_still old.auth from now stream None differ)
hashes_differ_still old new from bytes reply now stream decision differ (inr a) =
    subst (λ (s : Server). HashesDiffer s) (sym a.judged.after) (differ_still old.auth from now stream (Some (record { name = a.name; algorithm = a.algorithm })) differ)
