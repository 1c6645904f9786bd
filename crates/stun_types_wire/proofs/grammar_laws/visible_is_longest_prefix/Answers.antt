use Rattle.std.proofs.Common.{drop}
use Rattle.stun_types_wire.specs.Attributes.{attributes}
use Rattle.stun_types_wire.specs.Grammar.{visible}
use Rattle.stun_types_wire.specs.Shape.{visible_after}
use Rattle.stun_types_wire.proofs.Longest.{head_is_longest}
use Rattle.stun_types_wire.proofs.grammar_laws.visible_is_longest_prefix.Goals as goal

pub returns : goal.returns
unfolding visible visible_after
returns c bytes = head_is_longest (attributes (drop 20 bytes))
