use Rattle.test_rows_proto.proofs.Three.{own_nonce, three}
use Rattle.test_rows_proto.proofs.apart.draw_apart.Goals as goal

pub returns-clause-run : goal.returns-clause-run
returns-clause-run g c =
    three c.args.server.now c.refresh.new.server c.refresh-2.new.server c.remove_client.new.server _ _ _ c.in_ok-refresh.ensures c.in_ok-refresh-2.ensures c.remove_client.ensures

pub returns-clause-nonce : goal.returns-clause-nonce
returns-clause-nonce g c = λ different none.
    own_nonce c.args.one c.args.other c.args.now (g.R.Rng.stream c.args.rng.now) (g.R.Rng.stream c.refresh.new.rng) (g.R.Rng.stream c.args.again.now) (g.R.Rng.stream c.refresh-2.new.rng)
    c.addresses_are_isolated.ensures.alone c.addresses_are_isolated.ensures.unlimited c.args.server.now c.remove_client.new.server different none
    (three c.args.server.now c.refresh.new.server c.refresh-2.new.server c.remove_client.new.server _ _ _ c.in_ok-refresh.ensures c.in_ok-refresh-2.ensures c.remove_client.ensures)
