-- How transaction IDs become outstanding and stop being so.
use Rattle.std.proofs.Common.{◌≡◌, ℕ, ◌+◌, ◌≤◌, arith, List, Bool, true, false, Option, Some, None, cond, refl, sym, ap, ◌∙◌, subst, inl, inr}
use Rattle.std.specs.Prelude.{◌⊎◌, ◌≢◌, MatchOption, if◌then◌else◌}
use Rattle.std.specs.Cmp.{eq_by_cmp_equiv, nat_cmp_total}
use Rattle.std.specs.FinMap as map
use Rattle.std.specs.Ordering.{is_eq, nat_cmp}
use Rattle.std.specs.declared.net.socket_addr.SocketAddr.{SocketAddr}
use Rattle.stun_proto_transaction.specs.Wire.Grammar.{number_at}
use Rattle.stun_proto_transaction.specs.Agents.{Transaction, changed, has_left, transmitted}
use Rattle.stun_proto_agent.specs.Handling.{after_message, answered, ends_one}
use Rattle.stun_proto_agent.specs.Numbers.{IsWithout, NothingNew, ShowsNumbers, WasOutstanding}
use Rattle.stun_proto_agent.specs.Requests.{IsChanged}
use Rattle.stun_proto_agent.specs.Sending.{IsAfterTransmit, started, stored_under, with_request}
use Rattle.stun_proto_agent.specs.State.{Agent, IsEnd, IsPolled, is_tcp}
use Rattle.stun_proto_agent.specs.declared.agent.StunAgentPollRet.{StunAgentPollRet}
use Rattle.stun_proto_agent.specs.declared.agent.StunAgentPollRet.TheVariants.{TransactionTimedOut, TransactionCancelled, WaitUntil}
use Rattle.stun_proto_transaction.specs.declared.transaction.Change.{Change}
use Rattle.stun_proto_transaction.specs.declared.transaction.Change.TheVariants.{Cancel, CancelRetransmissions, ConfigureTimeout}
use Rattle.stun_proto_transaction.proofs.Leasts.{same_number}

abbrev Outstanding : Type 0
Outstanding = map.FinMap nat_cmp Transaction

inside : {A : Type 0} {a b : A} → Some a ≡ Some b → a ≡ b
inside p = Prim.cc p

-- After an insertion, each entry was present before or is the inserted one.
put : (m : Outstanding) (k : ℕ) (v : Transaction) (q : ℕ) (t : Transaction) → map.get (map.insert m k v) q ≡ Some t → (map.get m q ≡ Some t) ⊎ ((q ≡ k) × (t ≡ v))
put m k v q t there =
    elim (is_eq (nat_cmp q k)) as (λ b. is_eq (nat_cmp q k) ≡ b → cond b (Some v) (map.get m q) ≡ Some t → (map.get m q ≡ Some t) ⊎ ((q ≡ k) × (t ≡ v))) [
      | true ↦ λ same own. inr (same_number q k same, sym (inside own))
      | false ↦ λ other before. inl before
    ] refl (sym (map.get-insert nat_cmp_total m k v q) ∙ there)

-- After a removal, each entry was present before.
left : (m : Outstanding) (k q : ℕ) (t : Transaction) → map.get (map.remove m k) q ≡ Some t → map.get m q ≡ Some t
left m k q t there =
    elim (is_eq (nat_cmp q k)) as (λ b. cond b None (map.get m q) ≡ Some t → map.get m q ≡ Some t) [
      | true ↦ λ none. absurd (Prim.cc none)
      | false ↦ λ before. before
    ] (sym (map.get-remove nat_cmp_total m k q) ∙ there)

-- After a removal, the removed ID has no entry.
not_there : (m : Outstanding) (k : ℕ) → map.get (map.remove m k) k ≡ None
not_there m k =
    elim (is_eq (nat_cmp k k)) as (λ b. map.get (map.remove m k) k ≡ cond b None (map.get m k) → is_eq (nat_cmp k k) ≡ b → map.get (map.remove m k) k ≡ None) [
      | true ↦ λ is same. is
      | false ↦ λ is other. absurd (Prim.cc (sym ((eq_by_cmp_equiv nat_cmp_total).refl k) ∙ other))
    ] (map.get-remove nat_cmp_total m k k) refl

-- After a removal, every other entry is unchanged.
untouched : (m : Outstanding) (k q : ℕ) → q ≢ k → map.get (map.remove m k) q ≡ map.get m q
untouched m k q apart =
    elim (is_eq (nat_cmp q k)) as (λ b. map.get (map.remove m k) q ≡ cond b None (map.get m q) → is_eq (nat_cmp q k) ≡ b → map.get (map.remove m k) q ≡ map.get m q) [
      | true ↦ λ is same. absurd (apart (same_number q k same))
      | false ↦ λ is other. is
    ] (map.get-remove nat_cmp_total m k q) refl

abbrev at_number : ℕ → Agent → Option Transaction
at_number number agent = map.get agent.outstanding number

-- ---- what is gone

pub without : (old new : Agent) (number : ℕ) → new.outstanding ≡ map.remove old.outstanding number → IsWithout old number new
without old new number is = record {
  gone = ap (λ (m : Outstanding). map.get m number) is ∙ not_there old.outstanding number;
  others = λ other apart. ap (λ (m : Outstanding). map.get m other) is ∙ untouched old.outstanding number other apart;
}

pub answered_without : (agent : Agent) (bytes : List ℕ) (from : SocketAddr) → ends_one agent bytes ≡ true → IsWithout agent (number_at bytes) (after_message agent bytes from)
answered_without agent bytes from ends =
    without agent (after_message agent bytes from) (number_at bytes)
    (ap (λ (b : Bool). (if b then answered agent bytes from else agent).outstanding) ends)

pub ended_without : (old new : Agent) (now number : ℕ) (over : Bool) → IsEnd old now number over new → IsWithout old number new
ended_without old new now number over end = without old new number (ap (λ (a : Agent). a.outstanding) end.gone)

-- ---- what is new

pub sent : (agent : Agent) (bytes : List ℕ) (to : SocketAddr) (now number : ℕ) (t : Transaction) → map.get (with_request agent bytes to now).outstanding number ≡ Some t
    → (map.get agent.outstanding number ≡ Some t) ⊎ ((number ≡ number_at bytes) × (t ≡ started agent bytes to now))
sent agent bytes to now number t there = put agent.outstanding (number_at bytes) (started agent bytes to now) number t there

-- ---- what stays

itself : (old : Agent) (number : ℕ) (t : Transaction) → map.get old.outstanding number ≡ Some t → WasOutstanding old number t
itself old number t there = record {
  before = t;
  there = there;
  same_bytes = refl;
  same_target = refl;
  same_time = refl;
  counted = omega arith;
}

same_new : (old new : Agent) → new ≡ old → NothingNew old new
same_new old new is number t there = itself old number t (sym (ap (at_number number) is) ∙ there)

less_new : (old new : Agent) (k : ℕ) → new.outstanding ≡ map.remove old.outstanding k → NothingNew old new
less_new old new k is number t there = itself old number t (left old.outstanding k number t (sym (ap (λ (m : Outstanding). map.get m number) is) ∙ there))

-- A transaction with the same bytes, target and first transmission as an earlier one, and at least as many
-- transmissions.
pub record Follows (x y : Transaction) : Type 0 where
  pub bytes : y.bytes ≡ x.bytes
  pub target : y.to ≡ x.to
  pub time : y.sent ≡ x.sent
  pub counted : x.used ≤ y.used

put_new : (old new : Agent) (k : ℕ) (x y : Transaction) → map.get old.outstanding k ≡ Some x → Follows x y → new ≡ stored_under old k y → NothingNew old new
put_new old new k x y has follows is number t there =
    elim (put old.outstanding k y number t (sym (ap (at_number number) is) ∙ there)) [
      | inl before ↦ itself old number t before
      | inr own ↦ record {
        before = x;
        there = ap (λ n. map.get old.outstanding n) own.0 ∙ has;
        same_bytes = ap (λ (z : Transaction). z.bytes) own.1 ∙ follows.bytes;
        same_target = ap (λ (z : Transaction). z.to) own.1 ∙ follows.target;
        same_time = ap (λ (z : Transaction). z.sent) own.1 ∙ follows.time;
        counted = subst (λ (z : Transaction). x.used ≤ z.used) (sym own.1) follows.counted;
      }
    ]

pub handled_new : (agent : Agent) (bytes : List ℕ) (from : SocketAddr) → NothingNew agent (after_message agent bytes from)
handled_new agent bytes from =
    elim (ends_one agent bytes) as (λ b. NothingNew agent (if b then answered agent bytes from else agent)) [
      | true ↦ less_new agent (answered agent bytes from) (number_at bytes) refl
      | false ↦ same_new agent agent refl
    ]

pub polled_new : (old new : Agent) (now : ℕ) (answer : StunAgentPollRet) → IsPolled old now answer new → NothingNew old new
polled_new old new now (TransactionTimedOut number) polled = less_new old new number (ap (λ (a : Agent). a.outstanding) polled.gone)
polled_new old new now (TransactionCancelled number) polled = less_new old new number (ap (λ (a : Agent). a.outstanding) polled.gone)
polled_new old new now (WaitUntil until) polled = same_new old new polled.2

follows_transmitted : (tcp : Bool) (t : Transaction) → Follows t (transmitted tcp t)
follows_transmitted tcp t =
    elim (has_left tcp t) as (λ b. Follows t (if b then record t { used = t.used + 1 } else t)) [
      | true ↦ record { bytes = refl; target = refl; time = refl; counted = omega arith }
      | false ↦ record { bytes = refl; target = refl; time = refl; counted = omega arith }
    ]

pub transmitted_new : (old new : Agent) (now : ℕ) → IsAfterTransmit old now new → NothingNew old new
transmitted_new old new now (inl none) = same_new old new none.1
transmitted_new old new now (inr counted) =
    put_new old new counted.number counted.transaction (transmitted (is_tcp old.transport) counted.transaction) counted.least.present
    (follows_transmitted (is_tcp old.transport) counted.transaction) counted.after

follows_changed : (change : Change) (t : Transaction) → Follows t (changed change t)
follows_changed (ConfigureTimeout waits) t = record { bytes = refl; target = refl; time = refl; counted = omega arith }
follows_changed CancelRetransmissions t = record { bytes = refl; target = refl; time = refl; counted = omega arith }
follows_changed Cancel t = record { bytes = refl; target = refl; time = refl; counted = omega arith }

changed_by : (old new : Agent) (number : ℕ) (change : Change) (found : Option Transaction) → map.get old.outstanding number ≡ found
    → MatchOption found (new ≡ old) (λ t. new ≡ stored_under old number (changed change t)) → NothingNew old new
changed_by old new number change None has is = same_new old new is
changed_by old new number change (Some t) has is = put_new old new number t (changed change t) has (follows_changed change t) is

pub changed_new : (old new : Agent) (number : ℕ) (change : Change) → IsChanged old number change new → NothingNew old new
changed_new old new number change is = changed_by old new number change (map.get old.outstanding number) refl is

-- ---- each under the transaction ID that it shows

pub fresh_shows : (agent : Agent) → agent.outstanding ≡ map.empty → ShowsNumbers agent
fresh_shows agent is number t there = absurd (Prim.cc (sym (map.get-empty nat_cmp number) ∙ sym (ap (λ (m : Outstanding). map.get m number) is) ∙ there))

pub sent_shows : (agent : Agent) (bytes : List ℕ) (to : SocketAddr) (now : ℕ) → ShowsNumbers agent → ShowsNumbers (with_request agent bytes to now)
sent_shows agent bytes to now shows number t there =
    elim (sent agent bytes to now number t there) [
      | inl before ↦ shows number t before
      | inr own ↦ ap (λ (z : Transaction). number_at z.bytes) own.1 ∙ sym own.0
    ]

-- If no request becomes outstanding, each is still stored under the transaction ID in its bytes.
pub still_shows : (old new : Agent) → NothingNew old new → ShowsNumbers old → ShowsNumbers new
still_shows old new none shows number t there =
    let was = none number t there in
    ap number_at was.same_bytes ∙ shows number was.before was.there
