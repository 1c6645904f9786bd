use Rattle.std.proofs.Common.{append_assoc, string_bytes, refl}
use Rattle.turn_desk_event.proofs.PrintLemmas.{text_is}
use Rattle.turn_desk_event.proofs.print.print_rejection.Goals as goal

pub returns : goal.returns
returns c = text_is string_bytes c.format.result _ _ _ c.format.ensures.ok refl (simp (append_assoc, c.in_ok-digits.ensures, c.as_bytes.ensures.value, c.name_of_signed.ensures))
