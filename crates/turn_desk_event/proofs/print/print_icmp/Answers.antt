use Rattle.std.proofs.Common.{◌++◌, ap, codes, decimal, refl, string_bytes}
use Rattle.std.specs.Net.Text.{socket_text}
use Rattle.turn_desk_event.specs.Printed.{transport_word}
use Rattle.turn_desk_event.proofs.PrintLemmas.{five_words, text_is}
use Rattle.turn_desk_event.proofs.print.print_icmp.Goals as goal

pub returns : goal.returns
returns c = text_is string_bytes c.format.result _ _ _ c.format.ensures.ok refl
    (rw c.name_of_transport-name.ensures (ap (λ words. codes "icmp " ++ words)
    (five_words (transport_word c.args.transport) (socket_text c.args.peer) (decimal c.args.icmp_type)
    (decimal c.args.icmp_code) (decimal c.args.icmp_data))))
