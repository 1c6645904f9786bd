use Rattle.std.proofs.Common.{◌≡◌, ◌<◌, ℕ, Option, Some, None, IfSome, length, take, sym, ◌∙◌, arith}
use Rattle.std.proofs.lemmas.List.{length-take}
use Rattle.turn_client_proto_peers.specs.Channel.Expiring.{last_index}
use Rattle.turn_client_proto_allocation.specs.Channels.{has_expired}
use Rattle.turn_client_proto_peers.proofs.Indexes.{last_within, last_of_more}
use Rattle.turn_client_proto_peers.proofs.channel.expire.index_expiring.Goals.{then-has_expired, else-has_expired}
use Rattle.turn_client_proto_peers.proofs.channel.expire.index_expiring.Goals as goal

pub loop-index-preserved : goal.loop-index-preserved
loop-index-preserved c =
    let more = last_of_more (has_expired c.args.now) c.args.channels.now c.loop-index.index c.index-channels-index.result c.loop-index.last c.loop-index-test.true c.index-channels-index.is c.loop-index.invariant in
    elim c.if-has_expired.branch [
      | then-has_expired w ↦ w.last-is ∙ (let is = sym c.has_expired.ensures ∙ w.if-has_expired.true in rw is at more)
      | else-has_expired w ↦ w.last-is ∙ (let is = sym c.has_expired.ensures ∙ w.if-has_expired.false in rw is at more)
    ]

pub returns-clause-there : goal.returns-clause-there
returns-clause-there c = by_index c.loop-index.last c.loop-index.invariant
  where
    by_index : (o : Option ℕ) → o ≡ last_index (has_expired c.args.now) (take c.loop-index.index c.args.channels.now) → IfSome o (λ index. index < length c.args.channels.now)
    by_index None is = tt
    by_index (Some index) is =
        let within = last_within (has_expired c.args.now) (take c.loop-index.index c.args.channels.now) index (sym is) in
        omega (arith, within, length-take c.loop-index.index c.args.channels.now)
