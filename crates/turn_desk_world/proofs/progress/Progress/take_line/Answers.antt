use Rattle.std.proofs.Common.{ℕ, ◌≡◌, List, Err, refl, sym, ap, ◌∙◌, subst}
use Rattle.line_io.specs.declared.refusal.LineError.TheVariants as error
use Rattle.turn_desk_trace.specs.TraceLines.{IsLine}
use Rattle.turn_desk_trace.specs.declared.line.Line.{Line}
use Rattle.turn_desk_world.specs.Keeping.{Answered, Looked, SetUp}
use Rattle.turn_desk_world.proofs.OneLine.{looked_in_vain, spelled_in_vain}
use Rattle.turn_desk_world.proofs.Standing.{unspelled}
use Rattle.turn_desk_world.proofs.progress.Progress.take_line.Goals as goal

pub returns-in-Ok-clause-done : goal.returns-in-Ok-clause-done
returns-in-Ok-clause-done c =
    let read = subst (λ (answers : List (List ℕ)). IsLine answers c.args.line.now c.in-Ok-Setup.field-0) c.as_slice.ensures.value c.in-Ok-Setup.ensures.ok in
    let spelled = subst (λ (line : Line). IsLine c.args.self.now.named.items c.args.line.now line) c.in-Ok-Setup.field-0-is read in
    SetUp c.in-Ok-Setup.setup spelled c.in-Ok.ensures.ok.0 c.in-Ok.ensures.ok.1 refl

pub returns-in-Ok-report_look-clause-done : goal.returns-in-Ok-report_look-clause-done
returns-in-Ok-report_look-clause-done c =
    let read = subst (λ (answers : List (List ℕ)). IsLine answers c.args.line.now c.in-Ok-Look.field-0) c.as_slice.ensures.value c.in-Ok-Look.ensures.ok in
    let spelled = subst (λ (line : Line). IsLine c.args.self.now.named.items c.args.line.now line) c.in-Ok-Look.field-0-is read in
    Looked c.in-Ok-Look.look spelled c.in-Ok-report_look.ensures.ok refl

pub returns-in-Ok-report-clause-done : goal.returns-in-Ok-report-clause-done
returns-in-Ok-report-clause-done c =
    let read = subst (λ (answers : List (List ℕ)). IsLine answers c.args.line.now c.in-Ok-Event.field-0) c.as_slice.ensures.value c.in-Ok-Event.ensures.ok in
    let spelled = subst (λ (line : Line). IsLine c.args.self.now.named.items c.args.line.now line) c.in-Ok-Event.field-0-is read in
    Answered c.in-Ok-Event.event spelled c.in-Ok-report.ensures.ok

pub returns-in-Err-clause-bad : goal.returns-in-Err-clause-bad
returns-in-Err-clause-bad c = λ e.
    let bad : c.in-Err.error ≡ error.Bad = cc in
    unspelled _ c.args.line.now (sym c.is_skipped.ensures ∙ c.if-is_skipped.false) (λ line spelled.
    c.in-Err.ensures.bad (ap Err bad) line
    (subst (λ (answers : List (List ℕ)). IsLine answers c.args.line.now line) (sym c.as_slice.ensures.value) spelled))

pub returns-in-Err-report-clause-bad : goal.returns-in-Err-report-clause-bad
returns-in-Err-report-clause-bad c = λ e.
    let bad : c.in-Err-report.error ≡ error.Bad = cc in
    let read = subst (λ (answers : List (List ℕ)). IsLine answers c.args.line.now c.in-Ok-Event.field-0) c.as_slice.ensures.value c.in-Ok-Event.ensures.ok in
    let spelled = subst (λ (line : Line). IsLine c.args.self.now.named.items c.args.line.now line) c.in-Ok-Event.field-0-is read in
    spelled_in_vain _ c.args.line.now c.in-Ok-Event.event (sym c.is_skipped.ensures ∙ c.if-is_skipped.false) spelled
    (c.in-Err-report.ensures.bad (ap Err bad))

pub returns-in-Err-report_look-clause-bad : goal.returns-in-Err-report_look-clause-bad
returns-in-Err-report_look-clause-bad c = λ e.
    let bad : c.in-Err-report_look.error ≡ error.Bad = cc in
    let read = subst (λ (answers : List (List ℕ)). IsLine answers c.args.line.now c.in-Ok-Look.field-0) c.as_slice.ensures.value c.in-Ok-Look.ensures.ok in
    let spelled = subst (λ (line : Line). IsLine c.args.self.now.named.items c.args.line.now line) c.in-Ok-Look.field-0-is read in
    looked_in_vain _ c.args.line.now c.in-Ok-Look.look (sym c.is_skipped.ensures ∙ c.if-is_skipped.false) spelled
    (c.in-Err-report_look.ensures.bad (ap Err bad))
