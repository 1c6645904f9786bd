use Rattle.std.proofs.Common.{sym, subst}
use Rattle.std.specs.Prelude.{IfOk}
use Rattle.turn_desk_event.specs.declared.event.Event.{Event}
use Rattle.turn_desk_world.specs.Model.{World}
use Rattle.turn_desk_world.specs.Runs.{IsStep}
use Rattle.turn_desk_world.proofs.Joined.{called, drew, fed}
use Rattle.turn_desk_world.proofs.world.World.happen.Goals as goal

pub returns-in-Call : goal.returns-in-Call
returns-in-Call c =
    let old : World = record { desk = c.self.inside.desk; client = c.self.inside.driven; is_failed = c.self.inside.is_failed } in
    let new : World = record { desk = c.self.inside.desk; client = c.call.new.self; is_failed = c.self.inside.is_failed } in
    let reported = called c.self.inside.desk c.self.inside.driven c.call.new.self c.self.inside.is_failed c.call.result c.in-Call.what c.in-Call.now c.call.ensures in
    subst (λ (w : World). IfOk c.call.result (λ a. IsStep c.args.event.now w a new)) c.self.view_is
    (subst (λ (e : Event). IfOk c.call.result (λ a. IsStep e old a new)) (sym c.in-Call.is) reported)

pub returns-in-Draw : goal.returns-in-Draw
returns-in-Draw c =
    let old : World = record { desk = c.self.inside.desk; client = c.self.inside.driven; is_failed = c.self.inside.is_failed } in
    let new : World = record { desk = c.self.inside.desk; client = c.draw.new.self; is_failed = c.self.inside.is_failed } in
    let reported = drew c.self.inside.desk c.self.inside.driven c.draw.new.self c.self.inside.is_failed c.draw.result c.in-Draw.now c.draw.ensures in
    subst (λ (w : World). IfOk c.draw.result (λ a. IsStep c.args.event.now w a new)) c.self.view_is
    (subst (λ (e : Event). IfOk c.draw.result (λ a. IsStep e old a new)) (sym c.in-Draw.is) reported)

pub returns-in-ToClient : goal.returns-in-ToClient
returns-in-ToClient c =
    let old : World = record { desk = c.self.inside.desk; client = c.self.inside.driven; is_failed = c.self.inside.is_failed } in
    let new : World = record { desk = c.self.inside.desk; client = c.feed.new.self; is_failed = c.self.inside.is_failed } in
    let reported = fed c.self.inside.desk c.self.inside.driven c.feed.new.self c.self.inside.is_failed c.feed.result c.in-ToClient.bytes c.in-ToClient.from c.in-ToClient.to c.in-ToClient.now (rw c.as_slice-in-ToClient.ensures.value at c.feed.ensures) in
    subst (λ (w : World). IfOk c.feed.result (λ a. IsStep c.args.event.now w a new)) c.self.view_is
    (subst (λ (e : Event). IfOk c.feed.result (λ a. IsStep e old a new)) (sym c.in-ToClient.is) reported)
