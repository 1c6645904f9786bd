use Rattle.std.proofs.Common.{ap, arith, false, ◌-◌, ◌∙◌}
use Rattle.std.proofs.lemmas.List.{get_or-replicate, take_all}
use Rattle.turn_types_attributes.specs.TurnRegistry.{least_channel}
use Rattle.turn_client_proto_peers.specs.Channel.Numbers.{is_marked, is_taken}
use Rattle.turn_client_proto_peers.proofs.Marks.{least_alike}
use Rattle.turn_client_proto_peers.proofs.channel.free.free_number.Goals as goal

pub loop-allocation-init : goal.loop-allocation-init
loop-allocation-init c = λ n least most. get_or-replicate 16384 (n - least_channel) false false (omega (arith, least, most))

pub returns : goal.returns
returns c =
    let all = take_all c.loop-allocation.allocation-index c.args.allocations.now c.loop-allocation-test.false in
    least_alike (is_marked c.loop-allocation.marks) (λ n. is_taken n c.args.now c.args.allocations.now) c.least_unmarked.result
    (λ n least most. c.loop-allocation.invariant n least most ∙ ap (λ l. is_taken n c.args.now l) all) c.least_unmarked.ensures
