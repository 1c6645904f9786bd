-- A request that was sent is outstanding.
use Rattle.std.proofs.Common.{◌≡◌, ℕ, ◌+◌, List, Bool, true, false, Option, Some, None, cond, refl, sym, ap, ◌∙◌, subst}
use Rattle.std.specs.Prelude.{⊤, MatchOption, if◌then◌else◌}
use Rattle.std.specs.Borrow.{Bor}
use Rattle.std.specs.Cmp.{eq_by_cmp_equiv, nat_cmp_total}
use Rattle.std.specs.FinMap as map
use Rattle.std.specs.Ordering.{is_eq, nat_cmp}
use Rattle.std.specs.declared.net.socket_addr.SocketAddr.{SocketAddr}
use Rattle.stun_proto_transaction.specs.Wire.Grammar.{number_at}
use Rattle.stun_proto_transaction.specs.Base.declared.transmit.Transmit.{Transmit}
use Rattle.stun_proto_transaction.specs.Agents.{Transaction, has_left, transmitted}
use Rattle.stun_proto_transaction.specs.Least.{IsLeast}
use Rattle.stun_proto_agent.specs.Sending.{IsDueSent, IsSent, NoneDue, started, is_due_of, stored_under, with_request}
use Rattle.stun_proto_agent.specs.State.{Agent, is_tcp}

-- An inserted entry is found under its transaction ID.
pub own_number : (m : map.FinMap nat_cmp Transaction) (number : ℕ) (t : Transaction) → map.get (map.insert m number t) number ≡ Some t
own_number m number t =
    let same : is_eq (nat_cmp number number) ≡ true = (eq_by_cmp_equiv nat_cmp_total).refl number in
    map.get-insert nat_cmp_total m number t number ∙ ap (λ b. cond b (Some t) (map.get m number)) same

-- The agent after a request, with the transaction ID as decoded from the bytes.
pub after_request : (old new : Agent) (bytes : List ℕ) (number : ℕ) (to : SocketAddr) (now : ℕ) → new ≡ stored_under old number (started old bytes to now) → number ≡ number_at bytes → new ≡ with_request old bytes to now
after_request old new bytes number to now is own = is ∙ ap (λ n. stored_under old n (started old bytes to now)) own

-- The first transmission is that of the request.
pub first_sent : (old new : Agent) (bytes : List ℕ) (number : ℕ) (to : SocketAddr) (now : ℕ) (sent : Transmit (Bor (List ℕ))) → new ≡ stored_under old number (started old bytes to now)
    → MatchOption (map.get new.outstanding number) ⊤ (λ t. IsSent new t.bytes to sent) → IsSent old bytes to sent
first_sent old new bytes number to now sent is reported =
    let there : map.get new.outstanding number ≡ Some (started old bytes to now) = ap (λ (a : Agent). map.get a.outstanding number) is ∙ own_number old.outstanding number (started old bytes to now) in
    let here : IsSent new bytes to sent = subst (λ (o : Option Transaction). MatchOption o ⊤ (λ t. IsSent new t.bytes to sent)) there reported in
    record {
      same_bytes = here.same_bytes;
      transport = here.transport ∙ ap (λ (a : Agent). a.transport) is;
      source = here.source ∙ ap (λ (a : Agent). a.here) is;
      target = here.target;
    }

-- ---- again

-- The transmission is counted for the entry that was found.
pub counted : (old new : Agent) (now number : ℕ) (t : Transaction) → IsLeast (is_due_of old now) old.outstanding number t
    → MatchOption (map.get old.outstanding number) (new ≡ old) (λ x. new ≡ stored_under old number (transmitted (is_tcp old.transport) x)) → new ≡ stored_under old number (transmitted (is_tcp old.transport) t)
counted old new now number t least reported =
    subst (λ (o : Option Transaction). MatchOption o (new ≡ old) (λ x. new ≡ stored_under old number (transmitted (is_tcp old.transport) x))) least.present reported

-- Counting a transmission changes neither the bytes nor the target.
same_bytes : (tcp : Bool) (t : Transaction) → (transmitted tcp t).bytes ≡ t.bytes
same_bytes tcp t = elim (has_left tcp t) as (λ b. (if b then record t { used = t.used + 1 } else t).bytes ≡ t.bytes) [ true ↦ refl | false ↦ refl ]

same_target : (tcp : Bool) (t : Transaction) → (transmitted tcp t).to ≡ t.to
same_target tcp t = elim (has_left tcp t) as (λ b. (if b then record t { used = t.used + 1 } else t).to ≡ t.to) [ true ↦ refl | false ↦ refl ]

inside : {A : Type 0} {a b : A} → Some a ≡ Some b → a ≡ b
inside p = Prim.cc p

-- The transmission that is returned is the one that was due.
pub due_sent : (old new : Agent) (now number : ℕ) (t : Transaction) (result : Option (Transmit (Bor (List ℕ)))) → IsLeast (is_due_of old now) old.outstanding number t
    → new ≡ stored_under old number (transmitted (is_tcp old.transport) t)
    → MatchOption result (map.get new.outstanding number ≡ None) (λ sent. (x : Transaction) × (map.get new.outstanding number ≡ Some x) × IsSent new x.bytes x.to sent)
    → MatchOption result (NoneDue old now) (IsDueSent old now)
due_sent old new now number t None least is none =
    let there = ap (λ (a : Agent). map.get a.outstanding number) is ∙ own_number old.outstanding number (transmitted (is_tcp old.transport) t) in
    absurd (Prim.cc (sym none ∙ there))
due_sent old new now number t (Some sent) least is reported =
    let there = ap (λ (a : Agent). map.get a.outstanding number) is ∙ own_number old.outstanding number (transmitted (is_tcp old.transport) t) in
    let own : reported.0 ≡ transmitted (is_tcp old.transport) t = inside (sym reported.1 ∙ there) in
    record {
      number = number;
      transaction = t;
      least = least;
      is_sent = record {
        same_bytes = reported.2.same_bytes ∙ ap (λ (x : Transaction). x.bytes) own ∙ same_bytes (is_tcp old.transport) t;
        transport = reported.2.transport ∙ ap (λ (a : Agent). a.transport) is;
        source = reported.2.source ∙ ap (λ (a : Agent). a.here) is;
        target = reported.2.target ∙ ap (λ (x : Transaction). x.to) own ∙ same_target (is_tcp old.transport) t;
      };
    }
