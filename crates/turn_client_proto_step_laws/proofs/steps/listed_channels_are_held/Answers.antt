use Rattle.turn_client_proto_step_laws.proofs.ListedChannels.{channel_held}
use Rattle.turn_client_proto_step_laws.proofs.steps.listed_channels_are_held.Goals as goal

pub returns : goal.returns
returns c = λ client number peer visible. channel_held client.core.allocations number peer visible
