use Rattle.std.proofs.Common.{subst}
use Rattle.std.specs.List.{list_any}
use Rattle.turn_client_proto_peers.specs.Channel.Numbers.{AreMarked, is_requested_as, is_numbered, is_taken_in, protects}
use Rattle.turn_client_proto_peers.proofs.Marks.{mark_three}
use Rattle.turn_client_proto_peers.proofs.channel.free.mark_taken.Goals as goal

pub returns : goal.returns
unfolding is_taken_in
returns c =
    let a = c.args.a.now in
    let now = c.args.now in
    let none = c.args.marks.now in
    let one = c.mark_standing.new.marks in
    let two = c.mark_requested.new.marks in
    let three = c.mark_protected.new.marks in
    let standing = subst (λ l. AreMarked (λ n. list_any (is_numbered n) l) none one) c.as_slice.ensures c.mark_standing.ensures in
    let requested = subst (λ l. AreMarked (λ n. list_any (is_requested_as n) l) one two) c.as_slice-2.ensures c.mark_requested.ensures in
    let protected = subst (λ l. AreMarked (λ n. list_any (protects n now) l) two three) c.as_slice-3.ensures c.mark_protected.ensures in
    mark_three (λ n. list_any (is_numbered n) a.channels) (λ n. list_any (is_requested_as n) a.pending_channels) (λ n. list_any (protects n now) a.expired_channels) none one two three standing requested protected
