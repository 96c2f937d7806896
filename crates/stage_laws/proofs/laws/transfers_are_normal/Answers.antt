use Rattle.stage_laws.proofs.NormalFacts.{all_finished, finished_normal, normal_ordered}
use Rattle.stage_laws.proofs.OrderedFacts.{answer_ordered, call_ordered, entered_ordered, exception_ordered, left_ordered, operation_ordered, raise_ordered}
use Rattle.stage_laws.proofs.laws.transfers_are_normal.Goals as goal

pub returns-clause-next : goal.returns-clause-next
returns-clause-next c = λ w l n f normal. all_finished w _ (operation_ordered w l n n.op f (normal_ordered w.stage f normal))

pub returns-clause-raise : goal.returns-clause-raise
returns-clause-raise c = λ w l n handler f normal. all_finished w _ (raise_ordered w l n handler f)

pub returns-clause-event : goal.returns-clause-event
returns-clause-event c = λ w l n call f normal. all_finished w _ (call_ordered w l n call f (normal_ordered w.stage f normal))

pub returns-clause-answer : goal.returns-clause-answer
returns-clause-answer c = λ w l n call kept result f normal. all_finished w _ (answer_ordered w l n call kept result f)

pub returns-clause-exception : goal.returns-clause-exception
returns-clause-exception c = λ w l n kept handler f normal. all_finished w _ (exception_ordered w l n kept handler f)

pub returns-clause-enter : goal.returns-clause-enter
returns-clause-enter c = λ w by f normal. finished_normal w _ (entered_ordered by f)

pub returns-clause-leave : goal.returns-clause-leave
returns-clause-leave c = λ w l n by target caller exit normal. finished_normal w _ (left_ordered w l n by target caller exit)
