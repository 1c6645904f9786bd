-- Data from a peer reached a client that has a permission for the peer's address.
use Rattle.std.proofs.Common.{◌≡◌, ℕ, List, refl, sym, subst, Vec, Global}
use Rattle.std.specs.Prelude.{IfOk, Result, Ok, Err}
use Rattle.std.specs.Net.Socket.{socket_ip}
use Rattle.std.specs.declared.net.socket_addr.SocketAddr.{SocketAddr}
use Rattle.stun_types_base.specs.declared.transport.TransportType.TheVariants.{Udp}
use Rattle.turn_desk_progress_laws.specs.TurnClientProtoProgressLaws.Holding.{IsDataOf}
use Rattle.turn_desk_progress_laws.specs.Promises.{IsFresh}
use Rattle.turn_desk_progress_laws.specs.Scripts.{Plan}
use Rattle.turn_desk_event.specs.declared.answer.Answer.{Answer}
use Rattle.turn_desk_event.specs.declared.event.Event.TheVariants.{ToClient}
use Rattle.turn_desk_world.specs.Model.{World}
use Rattle.test_driver.specs.Driving.{Happened}
use Rattle.test_honest_network.specs.Payloads.{HasCome, HasProcessed, IsProcessed, IsReceived, indication, payload, peer}
use Rattle.test_honest_network.specs.Wishes.{HasPermitted}
use Rattle.test_honest_network.specs.declared.asking.TheConstants.{TRANSMITTED}
use Rattle.test_honest_network.specs.declared.asking.Wish.{Wish}
use Rattle.test_honest_network.specs.declared.asking.Wish.TheVariants.{Unheld, Held}
use Rattle.test_honest_network.proofs.Indicating.{is_data}
use Rattle.test_honest_network.proofs.Wished.{step_of}

pub came : (here server : SocketAddr) (old new : World) (bytes : Vec ℕ Global) (now : ℕ) (ret : Answer) → bytes.items ≡ indication → now ≡ TRANSMITTED → Happened (ToClient bytes server here now) old ret new → HasCome here server old new
came here server old new bytes now ret same at step = record { bytes = bytes; same = same; ret = ret; given = subst (λ (n : ℕ). Happened (ToClient bytes server here n) old ret new) at step }

module _ (plan : Plan) (udp : plan.client.transport ≡ Udp) (address : SocketAddr) (old middle new : World) (permitted : HasPermitted plan address (socket_ip peer) old middle) where
  processed : HasCome plan.client.here plan.client.server middle new → HasProcessed plan middle new
  processed c =
      let data_of = subst (λ (l : List ℕ). IsDataOf peer payload l) (sym c.same) is_data in
      let comes = step_of middle new (ToClient c.bytes plan.client.server plan.client.here TRANSMITTED) c.ret c.given in
      record { bytes = c.bytes; data_of = data_of; ret = c.ret; comes = comes; is = permitted.held.used peer payload c.bytes c.ret new udp refl data_of comes }

  pub received : {E : Type 0} (result : Result Wish E) → IfOk result (λ wish. IsProcessed plan.client.here plan.client.server middle wish new) → IfOk result (λ wish. IsReceived plan address old wish new)
  received (Ok Unheld) is = tt
  received (Ok Held) is = (middle, permitted, processed is)
  received (Err error) is = tt

-- The simulation is ready for an honest run, and the data was received in it.
pub known : {E : Type 0} (plan : Plan) (address : SocketAddr) (old new : World) → IsFresh plan old → (result : Result Wish E) → IfOk result (λ wish. IsReceived plan address old wish new)
    → IfOk result (λ wish. (x : World) × (y : World) × IsFresh plan x × IsReceived plan address x wish y)
known plan address old new fresh (Ok wish) is = (old, new, fresh, is)
known plan address old new fresh (Err error) is = tt
