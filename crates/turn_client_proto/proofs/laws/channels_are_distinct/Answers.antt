use Rattle.std.proofs.Common.{subst, sym}
use Rattle.turn_client_proto_peers.specs.Channel.Numbers.{AreDistinct}
use Rattle.turn_client_proto.proofs.Distinct.{none_distinct, listed_once}
use Rattle.turn_client_proto.proofs.laws.channels_are_distinct.Goals as goal

pub returns-clause-new : goal.returns-clause-new
returns-clause-new c = λ transport here server config seed client is. subst AreDistinct (sym is.allocations) none_distinct

pub returns-clause-visible : goal.returns-clause-visible
returns-clause-visible c = λ client number distinct. listed_once number client.allocations distinct
