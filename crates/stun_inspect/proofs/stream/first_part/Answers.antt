use Rattle.std.proofs.Common.{sym, ◌∙◌, arith}
use Rattle.stun_inspect.proofs.StreamLemmas.{channel_fits, message_fits}
use Rattle.stun_inspect.proofs.stream.first_part.Goals as goal

pub split_at-requires : goal.split_at-requires
split_at-requires c = (message_fits c.args.bytes.now c.in-Message.size (sym c.peek_frame.ensures ∙ c.in-Message.is)).1

pub returns-in-Message-clause-shorter : goal.returns-in-Message-clause-shorter
returns-in-Message-clause-shorter c =
    let fits = message_fits c.args.bytes.now c.in-Message.size (sym c.peek_frame.ensures ∙ c.in-Message.is) in
    omega (arith, fits.0, c.split_at.ensures.back_len)

pub split_at-requires-in-Channel : goal.split_at-requires-in-Channel
split_at-requires-in-Channel c =
    let fits = channel_fits c.args.bytes.now c.in-Channel.len (sym c.peek_frame.ensures ∙ c.in-Channel.is) in
    omega (arith, fits, c.pad_attribute_len-size.ensures.value)
