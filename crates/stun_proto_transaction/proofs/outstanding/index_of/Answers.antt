use Rattle.std.proofs.Common.{rules}
use Rattle.std.proofs.lemmas.List.Sorted.{answers_always}
use Rattle.stun_proto_transaction.proofs.Finds.{searched}
use Rattle.stun_proto_transaction.proofs.outstanding.index_of.Goals as goal

pub returns-clause-found : goal.returns-clause-found
returns-clause-found c =
    let facts = c.binary_search_by_key.ensures in
    let by_key = facts.position (λ e. e.0) (answers_always _ _ _ (λ f a r g called. search rules)) in
    (searched _ c.requires c.args.transaction_id _ facts.bound by_key).found

pub returns-clause-absent : goal.returns-clause-absent
returns-clause-absent c =
    let facts = c.binary_search_by_key.ensures in
    let by_key = facts.position (λ e. e.0) (answers_always _ _ _ (λ f a r g called. search rules)) in
    (searched _ c.requires c.args.transaction_id _ facts.bound by_key).absent
