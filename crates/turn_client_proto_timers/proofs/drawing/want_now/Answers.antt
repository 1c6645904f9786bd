use Rattle.std.proofs.Common.{subst, sym}
use Rattle.std.specs.Prelude.{IfSome, nat_le, nat_lt}
use Rattle.std.proofs.lemmas.Bool.{leb-true, ltb-true}
use Rattle.turn_client_proto_timers.specs.Quiet.{IsQuiet}
use Rattle.turn_client_proto_timers.proofs.Lasting.{both}
use Rattle.turn_client_proto_timers.proofs.Spans.{none_wanted}
use Rattle.turn_client_proto_timers.proofs.drawing.want_now.Goals as goal

pub returns-in-Some : goal.returns-in-Some
returns-in-Some c =
    let p = c.args.protocol.now in
    let now = c.args.now in
    let q = c.in-Some.span in
    let known : IsQuiet p q = subst (λ o. IfSome o (IsQuiet p)) c.in-Some.is c.requires.known in
    let covers = both (nat_le q.since now) (nat_lt now q.until) (sym c.if-covers.ensures) in
    sym (none_wanted p q now now known (leb-true q.since now covers.0) (ltb-true now q.until covers.1) c.requires.free)
