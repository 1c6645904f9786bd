use Rattle.std.proofs.Common.{[], ◌∷◌, sym, ap}
use Rattle.stun_proto_server.specs.Server.{Server}
use Rattle.stun_types_base.specs.declared.family.AddressFamily.{AddressFamily}
use Rattle.test_honest_network.specs.Simulations.{plan_of}
use Rattle.test_honest_network.proofs.Looped.{known, looped}
use Rattle.test_honest_network.proofs.latency.shake_over.Goals as goal

pub returns : goal.returns
returns c = λ timely.
    let s = c.args.setting.now in
    let w = c.in_ok-world.world in
    known s c.args.address w c.args.network.now c.shake_and_wait-outcome.result
    (λ after new is. looped c.honest_loops_allocate.ensures.promised s c.args.address w (c.honest_loops_allocate.ensures.premises (plan_of s) w c.in_ok-world.ensures.fresh) (ap (λ (a : Server). a.nonce_expiry) c.in_ok-world.ensures.auth)
    (ap (λ (f : AddressFamily). f ∷ []) (sym c.requires.family)) c.requires.whole c.args.network.now after new timely is)
    (c.shake_and_wait-outcome.ensures timely.forges)
