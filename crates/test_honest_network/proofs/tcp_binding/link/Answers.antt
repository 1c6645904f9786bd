use Rattle.std.proofs.Common.{[], ◌∷◌, refl, sym, ap}
use Rattle.stun_types_base.specs.declared.family.AddressFamily.{AddressFamily}
use Rattle.test_honest_network.specs.Connections.{link_of, stream_plan_of}
use Rattle.test_honest_network.proofs.Streams.{keeps, known}
use Rattle.test_honest_network.proofs.tcp_binding.link.Goals as goal

pub returns : goal.returns
returns c = known c.args.setting.now c.args.address (link_of c.args.peer c.args.local) c.in_ok-world.world c.link_in-is_bound.new.world c.link_in-is_bound.result
    (c.link_in-is_bound.ensures (stream_plan_of c.args.setting.now) c.in_ok-world.ensures.0 (record { over = refl; relays = refl }) (keeps c.args.setting.now (link_of c.args.peer c.args.local) c.in_ok-world.world.desk.auth c.in_ok-world.ensures.1)
    c.requires.own refl refl (ap (λ (f : AddressFamily). f ∷ []) (sym c.requires.family)) c.requires.whole)
