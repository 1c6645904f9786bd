-- The encodings of waits and transactions, with which proofs distinguish values.
use Rattle.std.specs.Prelude.{ℕ, List, Option, refl}
use Rattle.std.specs.Coded.{Coded, code_by, coded×, coded_ℕ, coded_list, coded_option}
use Rattle.std.specs.contracts.net.socket_addr.SocketAddr as addr
use Rattle.std.specs.declared.net.socket_addr.SocketAddr.{SocketAddr}
use Rattle.stun_proto_transaction.specs.Schedule.{Waits}
use Rattle.stun_proto_transaction.specs.Agents.{Transaction}
use Rattle.stun_proto_transaction.specs.contracts.transaction.Cancelled as cancelled
use Rattle.stun_proto_transaction.specs.declared.transaction.Cancelled.{Cancelled}

-- The encoding of waits.
abbrev pub waits_code : Coded Waits
waits_code =
    code_by (ℕ × (Option ℕ × (ℕ × ℕ))) (coded× coded_ℕ (coded× (coded_option coded_ℕ) (coded× coded_ℕ coded_ℕ)))
    (λ w. (w.initial, (w.most, (w.retransmits, w.final))))
    (λ p. record { initial = p.0; most = p.1.0; retransmits = p.1.1.0; final = p.1.1.1 }) (λ _. refl)

-- The encoding of a transaction.
abbrev pub transaction_code : Coded Transaction
transaction_code =
    code_by (List ℕ × (SocketAddr × (ℕ × (ℕ × (Waits × Cancelled)))))
    (coded× (coded_list coded_ℕ) (coded× addr.the_row.coded (coded× coded_ℕ (coded× coded_ℕ
    (coded× waits_code cancelled.the_row.coded)))))
    (λ t. (t.bytes, (t.to, (t.sent, (t.used, (t.waits, t.cancelled))))))
    (λ p. record {
      bytes = p.0;
      to = p.1.0;
      sent = p.1.1.0;
      used = p.1.1.1.0;
      waits = p.1.1.1.1.0;
      cancelled = p.1.1.1.1.1;
    })
    (λ _. refl)
