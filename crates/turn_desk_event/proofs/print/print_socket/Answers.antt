use Rattle.std.proofs.Common.{◌++◌, ap, codes, decimal, refl, string_bytes}
use Rattle.std.specs.Net.Text.{socket_text}
use Rattle.turn_desk_event.proofs.PrintLemmas.{four_words, text_is}
use Rattle.turn_desk_event.proofs.print.print_socket.Goals as goal

pub returns : goal.returns
returns c = text_is string_bytes c.format.result _ _ _ c.format.ensures.ok refl
    (ap (λ words. codes "socket " ++ words) (four_words (decimal c.args.id) (socket_text c.args.socket.from)
    (socket_text c.args.socket.to) (socket_text c.args.peer)))
