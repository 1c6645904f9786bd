use Rattle.std.proofs.Common.{◌≡◌, inl, inr}
use Rattle.turn_desk_laws.proofs.excluded.renewals_exclude_these_clients.Goals as goal

pub returns-clause-unanswered : goal.returns-clause-unanswered
returns-clause-unanswered c = λ plan old secondly request reply p now late is. is.goes late

pub returns-clause-silent : goal.returns-clause-silent
returns-clause-silent c = λ plan old secondly p now is_due late is. is.refreshes is_due late

pub returns-clause-late : goal.returns-clause-late
returns-clause-late c = λ plan old secondly request p now none_queued is_due is. is.in_time none_queued is_due

pub returns-clause-early : goal.returns-clause-early
returns-clause-early c = λ plan old secondly request p now sent none_queued none_due is. Prim.cc (is.none none_queued none_due)

pub returns-clause-altered : goal.returns-clause-altered
returns-clause-altered c = λ plan old secondly request p now sent other is. elim is.either [
  | inl nothing ↦ Prim.cc nothing
  | inr same ↦ other same
]

pub returns-clause-answers : goal.returns-clause-answers
returns-clause-answers c = λ plan old secondly request reply p now reported sent late shows is. (let next = is.goes late in (next.other, next.nonce reported shows))
