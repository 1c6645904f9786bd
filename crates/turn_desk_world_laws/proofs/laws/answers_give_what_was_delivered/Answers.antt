use Rattle.turn_desk_event.specs.declared.answer.Answer.TheVariants as answer
use Rattle.turn_desk_event.specs.declared.event.ClientCall.TheVariants as call
use Rattle.turn_desk_event.specs.declared.event.Event.TheVariants.{Call, ToClient}
use Rattle.turn_desk_world_laws.proofs.Answered.{IsBroughtTo, came_last, data_brought, data_hands, data_stored, datagram_last, report_given, report_hands, waited_last}
use Rattle.turn_desk_world_laws.proofs.laws.answers_give_what_was_delivered.Goals as goal

pub returns-clause-came : goal.returns-clause-came
returns-clause-came c = λ first last run now bytes from to given is.
    data_brought (ToClient bytes from to now) first last run to bytes.items given is (came_last (answer.Peer given) (data_hands given) first last run now bytes from to is)

pub returns-clause-waited : goal.returns-clause-waited
returns-clause-waited c = λ first last run now given is.
    data_stored (Call call.PollRecv now) first last run given is (waited_last (answer.Peer given) (data_hands given) first last run now is)

pub returns-clause-reports : goal.returns-clause-reports
returns-clause-reports c = λ first last run now bytes from to transport peer kind code details is.
    report_given (IsBroughtTo to bytes.items) (ToClient bytes from to now) first last run transport peer kind code details is
    (came_last (answer.Icmp transport peer kind code details) (report_hands transport peer kind code details) first last run now bytes from to is)

pub returns-clause-datagrams : goal.returns-clause-datagrams
returns-clause-datagrams c = λ first last run now bytes from to ret is k left udp. datagram_last bytes from to now ret first last run is k left udp
