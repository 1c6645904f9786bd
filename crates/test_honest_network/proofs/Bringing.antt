-- The deliveries after a call of the client.
use Rattle.std.proofs.Common.{◌≡◌, ℕ, List, subst, Vec, Global}
use Rattle.std.specs.Prelude.{IfOk, Result, Ok, Err}
use Rattle.std.specs.declared.net.socket_addr.SocketAddr.{SocketAddr}
use Rattle.stun_types_base.specs.Data.{data_bytes}
use Rattle.stun_types_base.specs.declared.data.Data.{Data}
use Rattle.stun_types_base.specs.declared.transmit.Transmit.{Transmit}
use Rattle.turn_desk_event.specs.declared.answer.Answer.TheVariants as answer
use Rattle.turn_desk_core.specs.declared.decision.Decision.TheVariants as by
use Rattle.turn_desk_event.specs.declared.event.ClientCall.{ClientCall}
use Rattle.turn_desk_event.specs.declared.event.Event.TheVariants.{Call, Draw, ToDesk}
use Rattle.turn_desk_world.specs.Model.{World}
use Rattle.test_driver.specs.Driving.{Happened}
use Rattle.test_honest_network.specs.Wishes.{IsBrought, IsGiven, IsSimulated, IsSent}
use Rattle.test_honest_network.specs.declared.asking.TheConstants.{CALLED, TRANSMITTED}
use Rattle.test_honest_network.specs.declared.asking.Wish.{Wish}
use Rattle.test_honest_network.specs.declared.asking.Wish.TheVariants.{Unheld, Held}

module _ {E : Type 0} (here server : SocketAddr) (old new : World) (result : Result Wish E) where
  pub brought : (sent : Transmit Data) (bytes reply : Vec ℕ Global) (seed : List ℕ) (now : ℕ) (replied : World) → now ≡ TRANSMITTED → bytes.items ≡ data_bytes sent.bytes → Happened (ToDesk bytes here now by.Grant seed) old (answer.Reply reply) replied
      → IfOk result (λ wish. IsGiven reply here server replied wish new) → IfOk result (λ wish. IsBrought sent here server old wish new)
  brought sent bytes reply seed now replied at same step taken = by_wish result taken
    where
      by_wish : (result : Result Wish E) → IfOk result (λ wish. IsGiven reply here server replied wish new) → IfOk result (λ wish. IsBrought sent here server old wish new)
      by_wish (Ok Unheld) is = tt
      by_wish (Ok Held) is = record {
        bytes = bytes;
        same = same;
        seed = seed;
        reply = reply;
        replied = replied;
        requested = subst (λ (n : ℕ). Happened (ToDesk bytes here n by.Grant seed) old (answer.Reply reply) replied) at step;
        taken = is;
      }
      by_wish (Err error) is = tt

  pub sent_on : (sent : Transmit Data) (now : ℕ) (transmitted : World) → now ≡ TRANSMITTED → Happened (Draw now) old (answer.Transmit sent) transmitted → IfOk result (λ wish. IsBrought sent here server transmitted wish new) → IfOk result (λ wish. IsSent here server old wish new)
  sent_on sent now transmitted at step brought_is = by_wish result brought_is
    where
      by_wish : (result : Result Wish E) → IfOk result (λ wish. IsBrought sent here server transmitted wish new) → IfOk result (λ wish. IsSent here server old wish new)
      by_wish (Ok Unheld) is = tt
      by_wish (Ok Held) is = record { sent = sent; transmitted = transmitted; step = subst (λ (n : ℕ). Happened (Draw n) old (answer.Transmit sent) transmitted) at step; brought = is }
      by_wish (Err error) is = tt

  pub requested_on : (what : ClientCall) (now : ℕ) (resting requested : World) → now ≡ CALLED → Happened (Draw now) old answer.Nothing resting → Happened (Call what now) resting answer.Done requested → IfOk result (λ wish. IsSent here server requested wish new)
      → IfOk result (λ wish. IsSimulated what here server old wish new)
  requested_on what now resting requested at rests call sent_is = by_wish result sent_is
    where
      by_wish : (result : Result Wish E) → IfOk result (λ wish. IsSent here server requested wish new) → IfOk result (λ wish. IsSimulated what here server old wish new)
      by_wish (Ok Unheld) is = tt
      by_wish (Ok Held) is = record {
        resting = resting;
        rests = subst (λ (n : ℕ). Happened (Draw n) old answer.Nothing resting) at rests;
        requested = requested;
        call = subst (λ (n : ℕ). Happened (Call what n) resting answer.Done requested) at call;
        sent = is;
      }
      by_wish (Err error) is = tt
