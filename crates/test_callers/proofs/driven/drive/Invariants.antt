use Rattle.std.proofs.Common.{◌≡◌, ◌≤◌, ◌^◌, ◌⊎◌, []}
use Rattle.turn_client_proto.specs.Api.declared.answer.TurnPollRet.TheVariants.{NoMemory}
use Rattle.test_callers.proofs.Driving.{HasDrawn, HasTaken}
use Rattle.test_callers.proofs.driven.drive.Given as goal

-- Messages were drawn.
abbrev pub invariant-loop : goal.invariant-loop
invariant-loop g l =
    let stored = g.C.TurnClientApi.stored in
    l.fn.now ≤ 2 ^ 62 → HasDrawn l.fn.now l.counter (stored l.fn.client) (stored l.client)

-- Events were taken, and answered. If `poll` ran out of memory, there was none.
abbrev pub invariant-loop-2 : goal.invariant-loop-2
invariant-loop-2 g l =
    let stored = g.C.TurnClientApi.stored in
    l.fn.now ≤ 2 ^ 62 → ((l.answer ≡ NoMemory) × ((stored l.client).core.events ≡ []) × (l.counter ≡ 0))
    ⊎ HasTaken l.fn.now l.counter (stored l.fn.client) (stored l.client)
