use Rattle.std.proofs.Common.{ap, ◌∙◌}
use Rattle.stun_types_base.specs.declared.transport.TransportType.TheVariants.{Tcp}
use Rattle.turn_client_proto_api.specs.Config.{Config}
use Rattle.turn_desk_world.specs.Model.{World}
use Rattle.test_honest_network.proofs.Streams.{begins}
use Rattle.test_honest_network.proofs.tcp_binding.world_of.Goals as goal

pub returns-in-Ok : goal.returns-in-Ok
returns-in-Ok c =
    let auth = ap (λ (w : World). w.desk.auth) c.new-in-Ok.ensures ∙ (c.new.ensures.auth ∙ c.in-Ok.ensures) in (
      begins c.args.setting.now _ c.new-in-Ok.result _ c.worlds_begin_fresh.ensures (c.set_allocation_transport.ensures ∙ ap (λ (x : Config). record x { transport = Tcp }) c.in_ok-config.ensures) auth
          (ap (λ (w : World). w.client) c.new-in-Ok.ensures) c.in_ok-client.ensures.client.0 c.in_ok-client.ensures.client.1 c.requires.name,
      auth,
    )
