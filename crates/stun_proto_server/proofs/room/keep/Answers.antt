use Rattle.std.proofs.lemmas.Map.Made.{filter_same_pairs}
use Rattle.std.proofs.Common.{rules}
use Rattle.stun_proto_server.specs.View.{stays}
use Rattle.stun_proto_server.proofs.WithRoom.{kept}
use Rattle.stun_proto_server.proofs.room.keep.Goals as goal

pub returns : goal.returns
returns c =
    kept c.args.clients.now c.retain.new.self c.args.others c.args.own c.retain.ensures.was_ordered
    (filter_same_pairs _ (λ e. stays c.args.others c.args.own e.0 e.1) _ (λ k v b w f' t. search rules) c.args.clients.now.entries c.retain.new.self.entries c.retain.ensures.filtered)
