use Rattle.std.proofs.Common.{arith, length, ◌++◌, ◌+◌, ◌≡◌}
use Rattle.std.proofs.lemmas.Grind.{common_steps}
use Rattle.std.proofs.lemmas.List.{length-append}
use Rattle.stun_types_wire.specs.Attributes.{padding_len}
use Rattle.stun_types_wire.specs.Text.{attribute_text, padded_text}
use Rattle.stun_types_write.proofs.Padding.{padding_is}
use Rattle.stun_types_write.proofs.text.write_attribute_in_two.Goals as goal

pub returns : goal.returns
unfolding attribute_text padded_text
returns c =
    let f = c.args.head.now in
    let b = c.args.back.now in
    let n = length (f ++ b) in
    let both : n ≡ length f + length b = length-append f b in
    let pad = c.pad_attribute_len-before_last.ensures.value in
    let before = c.split_at_mut-last.ensures.front_len in
    let size : length c.split_at_mut-last.result.0.now ≡ length f + length b + padding_len n = omega (arith, both, pad, before) in
    let zeros = padding_is c.split_at_mut-last.result.0.now c.copy_from_slice.new.self _ c.split_at_mut-after_header.result.1.now c.split_at_mut-first.result.1.now c.split_at_mut-second.result.1.now _ _ (length f) (length b) (padding_len n) (omega (arith, size)) size c.copy_from_slice.ensures.after c.write_attribute_header.ensures c.split_at_mut-after_header.ensures.back c.split_at_mut-first.ensures.back c.split_at_mut-second.ensures.back in
    grind (arith, common_steps, zeros)
