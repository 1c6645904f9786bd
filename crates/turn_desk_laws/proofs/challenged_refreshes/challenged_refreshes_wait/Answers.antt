use Rattle.std.proofs.Common.{[], ◌∷◌, refl}
use Rattle.turn_desk_laws.proofs.RefreshWaiting.{again, continues, refreshing_begins, rests, sends_it, stills, waits}
use Rattle.turn_desk_laws.proofs.challenged_refreshes.challenged_refreshes_wait.Goals as goal

pub returns-clause-begins : goal.returns-clause-begins
returns-clause-begins c = λ b choice address t number made many last events p w. refreshing_begins b choice address t number made many last events p w

pub returns-clause-again : goal.returns-clause-again
returns-clause-again c = λ b choice address t earlier number made many last queue events old new now sent w due transmitted. again b choice address t earlier number made many last queue events old w now sent new due transmitted

pub returns-clause-rests : goal.returns-clause-rests
returns-clause-rests c = λ b choice address t earlier number made many last queue events old new now sent w quiet unanswered soon transmitted.
    rests b choice address t earlier number made many last queue events old w now sent new quiet unanswered soon transmitted

pub returns-clause-sends : goal.returns-clause-sends
returns-clause-sends c = λ b choice address t earlier number made many last one queue events old new now sent w quiet late transmitted.
    sends_it b choice address t earlier number made many last (one ∷ queue) events old w now one queue sent new
    (continues b choice address t earlier number made many last (one ∷ queue) events old w now sent new quiet late transmitted)

pub returns-clause-still : goal.returns-clause-still
returns-clause-still c = λ b choice address t earlier number made many last events old new now sent w quiet transmitted. stills b choice address t earlier number made many last [] events old w now sent new refl quiet transmitted

pub returns-clause-polled : goal.returns-clause-polled
returns-clause-polled c = λ b choice address t earlier number made many last queue events old new now ret w unanswered is open_still lasts polled.
    waits b choice address t earlier number made many last queue events old w now unanswered is open_still lasts ret new polled
