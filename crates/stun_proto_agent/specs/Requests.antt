-- What a handle reports of an outstanding request, and what a caller changes of it.
use Rattle.std.specs.Prelude.{◌≡◌, ℕ, Option, Some, MatchOption}
use Rattle.std.specs.FinMap as map
use Rattle.std.specs.declared.net.socket_addr.SocketAddr.{SocketAddr}
use Rattle.stun_proto_transaction.specs.Wire.declared.algorithm.IntegrityAlgorithm.{IntegrityAlgorithm}
use Rattle.stun_proto_transaction.specs.Agents.{Transaction, changed, integrity_of}
use Rattle.stun_proto_agent.specs.Sending.{stored_under}
use Rattle.stun_proto_agent.specs.State.{Agent}
use Rattle.stun_proto_agent.specs.declared.request.StunRequestMut.{StunRequestMut}
use Rattle.stun_proto_transaction.specs.declared.transaction.Change.{Change}

-- The request with this transaction ID is outstanding, `peer` is its target, and `integrity` is the algorithm
-- of its last visible integrity attribute, if it has one.
pub record IsReported (agent : Agent) (transaction_id : ℕ) (peer : SocketAddr) (integrity : Option IntegrityAlgorithm)
    : Type 0 where
  pub transaction : Transaction
  pub there : map.get agent.outstanding transaction_id ≡ Some transaction
  pub goes_to : peer ≡ transaction.to
  pub signed_by : integrity ≡ integrity_of transaction

-- The request is changed if it is outstanding. Otherwise the agent is unchanged.
abbrev pub IsChanged : Agent → ℕ → Change → Agent → Type 0
IsChanged old transaction_id change new =
    MatchOption (map.get old.outstanding transaction_id) (new ≡ old) (λ t. new ≡ stored_under old transaction_id (changed change t))

-- A request handle after a change. Its agent has the change and is still the one that was borrowed. The
-- handle's transaction ID, address and algorithm are unchanged.
pub record IsChangedRequest (old : StunRequestMut) (change : Change) (new : StunRequestMut) : Type 0 where
  pub changes : IsChanged old.agent.now old.number change new.agent.now
  pub same_agent : new.agent.ghost_name ≡ old.agent.ghost_name
  pub same_number : new.number ≡ old.number
  pub same_peer : new.peer ≡ old.peer
  pub same_integrity : new.integrity ≡ old.integrity
