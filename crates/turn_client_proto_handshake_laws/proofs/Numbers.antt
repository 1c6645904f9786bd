-- The slots in numbers: that over TCP, and those of a client with the default waits.
use Rattle.std.proofs.Common.{◌≡◌, ◌≤◌, ◌+◌, ◌^◌, ℕ, arith, true, false, List, [], ◌∷◌, map, refl, ap, ◌∙◌}
use Rattle.std.specs.List.{AllByRecursion}
use Rattle.stun_types_base.specs.declared.transport.TransportType.{TransportType}
use Rattle.stun_types_base.specs.Times.{time_after}
use Rattle.turn_client_proto_api.specs.StunProtoTransaction.Schedule.{Waits, end_at, slots}
use Rattle.turn_client_proto_api.specs.StunProtoAgent.State.{default_waits, is_tcp}
use Rattle.turn_client_proto_handshake_laws.specs.Driving.{client_end}
use Rattle.turn_client_proto_handshake_laws.specs.Promises.{AreSlots, usual_end, usual_slots}
use Rattle.turn_client_proto_handshake_laws.specs.Sent.{Beginning}

module _ (made : ℕ) (early : made ≤ client_end) where
  -- No time of the schedule is after the latest one.
  soon : (nanos : ℕ) → nanos ≤ 2 ^ 62 → time_after made nanos ≡ made + nanos
  soon nanos few = omega (arith, few, early)

  both : (x y : ℕ) (xs ys : List ℕ) → x ≡ y → xs ≡ ys → x ∷ xs ≡ y ∷ ys
  both x y xs ys first rest = ap (λ (n : ℕ). n ∷ xs) first ∙ ap (λ (l : List ℕ). y ∷ l) rest

  each : (all : List ℕ) → AllByRecursion (λ n. n ≤ 2 ^ 62) all → map (time_after made) all ≡ map (λ nanos. made + nanos) all
  each [] few = refl
  each (n ∷ all) few = both (time_after made n) (made + n) (map (time_after made) all) (map (λ nanos. made + nanos) all) (soon n few.0) (each all few.1)

  few_nanos : AllByRecursion (λ n. n ≤ 2 ^ 62) usual_slots
  few_nanos = (omega arith, (omega arith, (omega arith, (omega arith, (omega arith, (omega arith, (omega arith, tt)))))))

  udp : slots false made default_waits ≡ map (λ nanos. made + nanos) usual_slots
  udp = each usual_slots few_nanos

  tcp : (w : Waits) → slots true made w ≡ made ∷ []
  tcp w =
      let none : made + 0 ≡ made = omega arith in
      ap (λ (n : ℕ). n ∷ []) (soon 0 (omega arith) ∙ none)

  given_up : end_at made default_waits ≡ made + usual_end
  given_up = soon usual_end (omega arith)

pub are_slots : (b : Beginning) → b.made ≤ client_end → AreSlots b
are_slots b early = record {
  tcp = λ over. ap (λ (t : TransportType). slots (is_tcp t) b.made b.config.waits) over ∙ tcp b.made early b.config.waits;
  udp = λ over same. ap (λ (t : TransportType). slots (is_tcp t) b.made b.config.waits) over ∙ (ap (λ (w : Waits). slots false b.made w) same ∙ udp b.made early);
  end = λ same. ap (λ (w : Waits). end_at b.made w) same ∙ given_up b.made early;
}
