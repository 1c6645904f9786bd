-- Cases of a test, and maps of transactions.
use Rattle.std.proofs.Common.{◌≡◌, ℕ, Bool, true, false, cond, List, Some, None, refl, sym, ap, ◌∙◌, ◌⊎◌, inl, inr}
use Rattle.std.specs.Prelude.{◌&&◌, if◌then◌else◌}
use Rattle.std.specs.Bool.{MatchBool}
use Rattle.std.specs.Cmp.{eq_by_cmp_equiv, nat_cmp_total}
use Rattle.std.specs.FinMap as map
use Rattle.std.specs.Ordering.{is_eq, nat_cmp}
use Rattle.turn_client_proto_messages.specs.StunTypesWire.Attributes.{kind_at}
use Rattle.turn_client_proto_messages.specs.StunTypesWire.declared.class.MessageClass.{MessageClass}
use Rattle.turn_client_proto_messages.specs.StunTypesWire.declared.class.MessageClass.TheVariants.{Success}
use Rattle.turn_client_proto_messages.specs.StunTypesWire.Types.{class_of, is_response_class}
use Rattle.turn_client_proto_messages.specs.StunProtoClient.Challenges.{challenge_visible, is_challenge_code, is_error, reported_of}
use Rattle.turn_client_proto_messages.specs.StunProtoAuth.Claims.{claimed, code_visible}
use Rattle.turn_client_proto_messages.specs.StunProtoTransaction.Agents.{Transaction}
use Rattle.turn_client_proto_messages.specs.StunProtoAgent.Handling.{is_response}
use Rattle.turn_client_proto_messages.proofs.StunProtoTransaction.Leasts.{same_number}
use Rattle.turn_client_proto_messages.specs.Api.declared.answer.TurnPollRet.{TurnPollRet}
use Rattle.turn_client_proto_messages.specs.Api.declared.answer.TurnPollRet.TheVariants as answer
use Rattle.turn_client_proto_handshake_laws.specs.Core.declared.protocol.Protocol.{Protocol}
use Rattle.turn_client_proto_step_laws.specs.Timers.Polling.{IsPolled, IsPolledBy, IsRefused}

-- ---- by a test

pub where_true : (A B : Type 0) (b : Bool) → b ≡ true → MatchBool b A B → A
where_true A B true so is = is
where_true A B false so is = absurd (Prim.cc so)

pub where_false : (A B : Type 0) (b : Bool) → b ≡ false → MatchBool b A B → B
where_false A B true not_so is = absurd (Prim.cc not_so)
where_false A B false not_so is = is

-- ---- maps of transactions

abbrev pub Table : Type 0
Table = map.FinMap nat_cmp Transaction

pub put_there : (m : Table) (key : ℕ) (x : Transaction) → map.get (map.insert m key x) key ≡ Some x
put_there m key x =
    let same : is_eq (nat_cmp key key) ≡ true = (eq_by_cmp_equiv nat_cmp_total).refl key in
    map.get-insert nat_cmp_total m key x key ∙ ap (λ (y : Bool). cond y (Some x) (map.get m key)) same

-- What is found after an insertion is the inserted one, or was there before under another key.
pub put_or : (m : Table) (key : ℕ) (x : Transaction) (other : ℕ) (y : Transaction) → map.get (map.insert m key x) other ≡ Some y
    → ((other ≡ key) × (y ≡ x)) ⊎ ((is_eq (nat_cmp other key) ≡ false) × (map.get m other ≡ Some y))
put_or m key x other y there =
    elim (is_eq (nat_cmp other key)) as (λ (z : Bool). is_eq (nat_cmp other key) ≡ z → cond z (Some x) (map.get m other) ≡ Some y → ((other ≡ key) × (y ≡ x)) ⊎ ((is_eq (nat_cmp other key) ≡ false) × (map.get m other ≡ Some y))) [
      | true ↦ λ same found. inl (same_number other key same, Prim.cc (sym found))
      | false ↦ λ apart found. inr (apart, found)
    ] refl (sym (map.get-insert nat_cmp_total m key x other) ∙ there)

pub stays_there : (m : Table) (key other : ℕ) → is_eq (nat_cmp other key) ≡ false → map.get (map.remove m key) other ≡ map.get m other
stays_there m key other apart = map.get-remove nat_cmp_total m key other ∙ ap (λ (z : Bool). cond z None (map.get m other)) apart

-- ---- a poll

-- Memory ran out, or it did not.
pub refused_or : (p : Protocol) (now : ℕ) (ret : TurnPollRet) (q : Protocol) → IsPolled p now ret q → IsPolledBy p.events p now ret q ⊎ ((ret ≡ answer.NoMemory) × IsRefused p now q)
refused_or p now (answer.WaitUntil time) q is = inl is
refused_or p now (answer.AllocateTcpSocket connection socket peer) q is = inl is
refused_or p now (answer.TcpClose near far) q is = inl is
refused_or p now answer.Closed q is = inl is
refused_or p now answer.NoMemory q is = inr (refl, is)

-- ---- a success

-- A success is a response, and no challenge.
pub successes_respond : (bytes : List ℕ) → class_of (kind_at bytes) ≡ Success → is_response bytes ≡ true
successes_respond bytes is = ap is_response_class is

pub no_challenge : (bytes : List ℕ) → class_of (kind_at bytes) ≡ Success → challenge_visible bytes ≡ None
no_challenge bytes is = ap (λ (c : MessageClass). if is_error c && is_challenge_code (code_visible bytes) then reported_of (claimed bytes) else None) is
