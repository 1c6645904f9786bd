-- What the proofs of this crate share: choices, lifetimes, and maps of transactions.
use Rattle.std.proofs.Common.{◌≡◌, ◌≤◌, ℕ, Bool, true, false, cond, if◌then◌else◌, Option, Some, None, refl, sym, ap, ◌∙◌, ◌⊎◌, inl, inr, arith}
use Rattle.std.proofs.lemmas.Bool.{le-leb}
use Rattle.std.specs.Bool.{MatchBool}
use Rattle.std.specs.Cmp.{eq_by_cmp_equiv, nat_cmp_total}
use Rattle.std.specs.FinMap as map
use Rattle.std.specs.Ordering.{is_eq, nat_cmp}
use Rattle.turn_client_proto_messages.proofs.StunProtoTransaction.Leasts.{same_number}
use Rattle.turn_client_proto_messages.specs.StunProtoTransaction.Agents.{Transaction}
use Rattle.turn_client_proto_messages.specs.Allocation.Refreshing.{least_lifetime, least_of, margin_of}
use Rattle.turn_client_proto_messages.specs.Api.declared.answer.TurnPollRet.{TurnPollRet}
use Rattle.turn_client_proto_messages.specs.Api.declared.answer.TurnPollRet.TheVariants as answer
use Rattle.turn_client_proto_step_laws.specs.Timers.Drawing.{Sends}
use Rattle.turn_client_proto_messages.specs.Api.Sent.{Sent}
use Rattle.turn_client_proto_step_laws.specs.Timers.Polling.{IsPolled, IsPolledBy, IsRefused}
use Rattle.turn_client_proto_handshake_laws.specs.Core.declared.protocol.Protocol.{Protocol}

pub where_true : (A B : Type 0) (b : Bool) → b ≡ true → MatchBool b A B → A
where_true A B true so is = is
where_true A B false so is = absurd (Prim.cc so)

pub where_false : (A B : Type 0) (b : Bool) → b ≡ false → MatchBool b A B → B
where_false A B true not_so is = absurd (Prim.cc not_so)
where_false A B false not_so is = is

pub either : (A : Type 0) (b : Bool) → MatchBool b A A → A
either A true is = is
either A false is = is

pub clash : {A : Type 0} (b : Bool) → b ≡ true → b ≡ false → A
clash b t f = absurd (Prim.cc (sym t ∙ f))

-- What is transmitted, if something is.
pub sends_one : (answer : Option Sent) (Is : Sent → Type 0) → Sends answer Is → (sent : Sent) × (answer ≡ Some sent) × Is sent
sends_one None Is is = absurd is
sends_one (Some sent) Is is = (sent, refl, is)

-- Memory ran out, or it did not.
pub refused_or : (p : Protocol) (now : ℕ) (ret : TurnPollRet) (q : Protocol) → IsPolled p now ret q → IsPolledBy p.events p now ret q ⊎ ((ret ≡ answer.NoMemory) × IsRefused p now q)
refused_or p now (answer.WaitUntil time) q is = inl is
refused_or p now (answer.AllocateTcpSocket connection socket peer) q is = inl is
refused_or p now (answer.TcpClose near far) q is = inl is
refused_or p now answer.Closed q is = inl is
refused_or p now answer.NoMemory q is = inr (refl, is)

-- ---- lifetimes

-- A lifetime of ten minutes or more is believed, whether shorter ones are or not.
pub least_enough : (short_lifetimes : Bool) (lifetime : ℕ) → least_lifetime ≤ lifetime → least_of short_lifetimes ≤ lifetime
least_enough true lifetime enough = omega arith
least_enough false lifetime enough = enough

-- It doesn't change how long before its expiry the allocation is refreshed.
pub margin_stays : (before lifetime : ℕ) → least_lifetime ≤ lifetime → margin_of before lifetime ≡ before
margin_stays before lifetime enough = ap (λ (x : Bool). if x then before else lifetime) (le-leb least_lifetime lifetime enough)

-- ---- maps of transactions

abbrev pub Table : Type 0
Table = map.FinMap nat_cmp Transaction

pub put_there : (m : Table) (key : ℕ) (x : Transaction) → map.get (map.insert m key x) key ≡ Some x
put_there m key x =
    let same : is_eq (nat_cmp key key) ≡ true = (eq_by_cmp_equiv nat_cmp_total).refl key in
    map.get-insert nat_cmp_total m key x key ∙ ap (λ (y : Bool). cond y (Some x) (map.get m key)) same

-- What is found after an insertion is the inserted one, or was there before.
pub put_or : (m : Table) (key : ℕ) (x : Transaction) (other : ℕ) (y : Transaction) → map.get (map.insert m key x) other ≡ Some y → (other ≡ key) ⊎ (map.get m other ≡ Some y)
put_or m key x other y there =
    elim (is_eq (nat_cmp other key)) as (λ (z : Bool). is_eq (nat_cmp other key) ≡ z → cond z (Some x) (map.get m other) ≡ Some y → (other ≡ key) ⊎ (map.get m other ≡ Some y)) [
      | true ↦ λ same found. inl (same_number other key same)
      | false ↦ λ apart found. inr found
    ] refl (sym (map.get-insert nat_cmp_total m key x other) ∙ there)

-- What is found after a removal was there before, under another key.
taken_out : (m : Table) (key other : ℕ) (y : Transaction) → map.get (map.remove m key) other ≡ Some y
    → (is_eq (nat_cmp other key) ≡ false) × (map.get m other ≡ Some y)
taken_out m key other y there =
    elim (is_eq (nat_cmp other key)) as (λ (z : Bool). is_eq (nat_cmp other key) ≡ z → cond z None (map.get m other) ≡ Some y → (is_eq (nat_cmp other key) ≡ false) × (map.get m other ≡ Some y)) [
      | true ↦ λ same found. absurd (Prim.cc found)
      | false ↦ λ apart found. (apart, found)
    ] refl (sym (map.get-remove nat_cmp_total m key other) ∙ there)

none_found : (m : Table) (number : ℕ) → ((t : Transaction) → map.get m number ≡ Some t → ⊥) → map.get m number ≡ None
none_found m number never = elim (map.get m number) as (λ (o : Option Transaction). map.get m number ≡ o → o ≡ None) [
  | None ↦ λ is. refl
  | Some t ↦ λ is. absurd (never t is)
] refl

-- Once the only element was removed, there is none.
pub none_left : (m : Table) (key : ℕ) → ((other : ℕ) (t : Transaction) → map.get m other ≡ Some t → other ≡ key) → (number : ℕ) → map.get (map.remove m key) number ≡ None
none_left m key only number = none_found (map.remove m key) number (λ x there.
    let old = taken_out m key number x there in
    clash (is_eq (nat_cmp number key))
    (ap (λ (n : ℕ). is_eq (nat_cmp n key)) (only number x old.1) ∙ (eq_by_cmp_equiv nat_cmp_total).refl key) old.0)
