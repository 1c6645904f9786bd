-- The small loop, and its times.
use Rattle.std.proofs.Common.{◌≡◌, ◌<◌, ◌≤◌, ◌+◌, ◌^◌, ℕ, arith, List, [], ◌∷◌, ◌++◌, length, refl, sym, ap, ◌∙◌, subst, inl, inr}
use Rattle.turn_desk_core.specs.StunTypesBase.Times.{time_after}
use Rattle.turn_desk_core.specs.StunTypesBase.Family.{family_of_socket}
use Rattle.turn_desk_core.specs.StunTypesBase.declared.family.AddressFamily.{AddressFamily}
use Rattle.turn_client_proto_api.specs.Sent.{sent_of}
use Rattle.turn_desk_core.specs.StunProtoServer.Server.{Server}
use Rattle.turn_desk_core.specs.declared.decision.Decision.TheVariants as by
use Rattle.turn_desk_event.specs.StunProtoTransaction.Schedule.{end_at, slot_at}
use Rattle.turn_desk_event.specs.declared.answer.Answer.{Answer}
use Rattle.turn_desk_event.specs.declared.event.ClientCall.TheVariants as call
use Rattle.turn_desk_event.specs.declared.event.Event.{Event}
use Rattle.turn_client_proto_handshake_laws.specs.Requested.{count_of}
use Rattle.turn_desk_progress_laws.specs.Loops.{AsksFirst, AsksSecond, DrawsFirst, DrawsOn, GivesFirst, GivesSecond, IsLoop, IsNext, IsNoneDue, IsTransmissionDue, Leads, Looks, Polls, Position, Receives, Timing, start}
use Rattle.turn_desk_progress_laws.specs.Scripts.{Came, Challenged, Done, Granted, Plan, Progress, Requested, Signed}
use Rattle.turn_desk_progress_laws.specs.Small.{Exchange, MayHappen, request_made_once, challenged_early, signed_once, small_end, small_loop, small_plan}

module _ (e : Exchange) where
  abbrev plan : Plan
  plan = small_plan e

  -- ---- its schedule

  seven : count_of plan.client ≡ 7
  seven = refl

  pub several : 1 < count_of plan.client
  several = subst (λ (n : ℕ). 1 < n) (sym seven) (omega arith)

  half : time_after 0 500_000_000 ≡ 500_000_000
  half = omega arith

  pub first_slot : slot_at 0 plan.client.config.waits 1 ≡ 500_000_000
  first_slot = half

  half_later : time_after 20_000_000 500_000_000 ≡ 520_000_000
  half_later = omega arith

  pub second_slot : slot_at 20_000_000 plan.client.config.waits 1 ≡ 520_000_000
  second_slot = half_later

  given_up : time_after 0 39_500_000_000 ≡ 39_500_000_000
  given_up = omega arith

  first_end : end_at 0 plan.client.config.waits ≡ 39_500_000_000
  first_end = given_up

  given_up_later : time_after 20_000_000 39_500_000_000 ≡ 39_520_000_000
  given_up_later = omega arith

  second_end : end_at 20_000_000 plan.client.config.waits ≡ 39_520_000_000
  second_end = given_up_later

  before_first_end : 0 < end_at 0 plan.client.config.waits
  before_first_end = subst (λ (n : ℕ). 0 < n) (sym first_end) (omega arith)

  before_second_end : 20_000_000 < end_at 20_000_000 plan.client.config.waits
  before_second_end = subst (λ (n : ℕ). 20_000_000 < n) (sym second_end) (omega arith)

  pub first_due : IsTransmissionDue plan 0 1 500_000_000
  first_due = (several, subst (λ (n : ℕ). n ≤ 500_000_000) (sym first_slot) (omega arith))

  pub first_none : IsNoneDue plan 0 1 499_999_999
  first_none = λ few. subst (λ (n : ℕ). 499_999_999 < n) (sym first_slot) (omega arith)

  pub second_none : IsNoneDue plan 20_000_000 1 49_999_999
  second_none = λ few. subst (λ (n : ℕ). 49_999_999 < n) (sym second_slot) (omega arith)

  pub second_due : IsTransmissionDue plan 20_000_000 1 520_000_000
  second_due = (several, subst (λ (n : ℕ). n ≤ 520_000_000) (sym second_slot) (omega arith))

  -- ---- its positions

  abbrev at : Progress → (last : ℕ) → Timing → Position
  at progress last timing = record { progress = progress; last = last; timing = timing }

  abbrev challenged : Timing
  challenged = record request_made_once { challenged = 7_200_010_000_000 }

  abbrev signed_twice : Timing
  signed_twice = record signed_once { many = 2; sent = 520_000_000 }

  module _ (server : Server) (may : MayHappen e server) where
    onward : (p next : Position) (event : Event) (ret : Answer) (pairs : List (Event × Answer)) → Leads plan server p event ret next → IsLoop plan server next pairs (small_end e) → IsLoop plan server p ((event, ret) ∷ pairs) (small_end e)
    unfolding IsLoop
    onward p next event ret pairs leads rest = (next, leads, rest)

    ended : IsLoop plan server (small_end e) [] (small_end e)
    unfolding IsLoop
    ended = refl

    in_time : 7_200_535_000_000 < time_after 7_200_010_000_000 server.nonce_expiry
    in_time = let valid = may.valid in omega (arith, valid)

    pub is_loop : IsLoop plan server start (small_loop e) (small_end e)
    is_loop =
        onward _ (at (Requested (sent_of e.first)) 0 request_made_once) _ _ _ (DrawsFirst refl (record { later = omega arith; in_range = omega arith }) refl refl)
        (onward _ (at (Requested (sent_of e.first)) 0 request_made_once) _ _ _ (Polls 0 before_first_end (record { later = omega arith; in_range = omega arith }) refl refl)
        (onward _ (at (Challenged (sent_of e.first) e.challenge.items []) 0 challenged) _ _ _ (AsksFirst (sent_of e.first) e.first_come 7_200_010_000_000 by.Grant e.words refl may.first_unaltered refl refl)
        (onward _ (at Came 20_000_000 challenged_early) _ _ _ (GivesFirst (sent_of e.first) e.challenge.items [] [] e.challenge 20_000_000 refl (refl, refl) (record { later = omega arith; in_range = omega arith }) refl refl)
        (onward _ (at Came 20_000_000 challenged_early) _ _ _ (DrawsOn 20_000_000 tt (record { later = omega arith; in_range = omega arith }) refl refl)
        (onward _ (at Came 20_000_000 challenged_early) _ _ _ (Polls 20_000_000 (inl before_second_end) (record { later = omega arith; in_range = omega arith }) refl refl)
        (onward _ (at (Signed (sent_of e.second)) 50_000_000 signed_once) _ _ _ (DrawsOn 50_000_000 tt (record { later = omega arith; in_range = omega arith }) refl refl)
        (onward _ (at (Signed (sent_of e.second)) 50_000_000 signed_once) _ _ _ (Looks call.PollEvent 50_000_000 tt (record { later = omega arith; in_range = omega arith }) refl refl)
        (onward _ (at (Signed (sent_of e.second)) 520_000_000 signed_twice) _ _ _ (DrawsOn 520_000_000 tt (record { later = omega arith; in_range = omega arith }) refl refl)
        (onward _ (at (Granted (sent_of e.second) e.address e.lifetime e.success.items []) 520_000_000 signed_twice) _ _ _
        (AsksSecond (sent_of e.second) e.second_come 7_200_535_000_000 e.address e.lifetime e.words refl may.second_unaltered in_time (sym (ap (λ (f : AddressFamily). f ∷ []) may.family)) may.whole refl refl)
        (onward _ (at (Granted (sent_of e.second) e.address e.lifetime e.success.items []) 550_000_000 signed_twice) _ _ _ (Receives 550_000_000 (record { later = omega arith; in_range = omega arith }) refl refl)
        (onward _ (small_end e) _ _ _ (GivesSecond (sent_of e.second) e.address e.lifetime e.success.items [] [] e.success 551_000_000 refl (refl, refl) (record { later = omega arith; in_range = omega arith }) refl refl) ended)))))))))))
