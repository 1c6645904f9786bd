-- The encoding of the table of requests, with which proofs distinguish values.
use Rattle.std.specs.Prelude.{Bool, refl}
use Rattle.std.specs.Coded.{Coded, code_by, coded×, coded_bool, coded_ℕ}
use Rattle.std.specs.FinMap as map
use Rattle.std.specs.Ordering.{nat_cmp}
use Rattle.stun_proto_transaction.specs.Agents.{Transaction}
use Rattle.stun_proto_transaction.specs.TransactionCodes.{transaction_code}
use Rattle.stun_proto_transaction.specs.StoredRequests.{Requests}

abbrev pub requests_code : Coded Requests
requests_code =
    code_by (Bool × map.FinMap nat_cmp Transaction)
    (coded× coded_bool (map.code coded_ℕ transaction_code))
    (λ r. (r.is_tcp, r.by_number))
    (λ p. record { is_tcp = p.0; by_number = p.1 })
    (λ _. refl)
