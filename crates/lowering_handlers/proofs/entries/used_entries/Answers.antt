use Rattle.std.proofs.Common.{◌≡◌, ◌+◌, ◌++◌, [], ◌∷◌, Bool, List, ℕ, take, sym, ap, ◌∙◌, subst}
use Rattle.flow_graph.specs.declared.steps.GraphStep.{GraphStep}
use Rattle.lowering_handlers.specs.Entries.{MarksEach, AreUsedMarks}
use Rattle.lowering_handlers.proofs.MarkedEntries.{front_more, used_more, written_back}
use Rattle.lowering_handlers.proofs.entries.used_entries.Goals as goal

pub loop-step-preserved : goal.loop-step-preserved
loop-step-preserved c =
    let steps = c.args.steps.now in
    let i = c.loop-step.step-index in
    let step = c.step-item.result in
    let old = c.loop-step.used.items in
    let new = c.mark_each.new.used in
    let of_step : MarksEach c.deref_mut.result.now step.handlers new = subst (λ (ks : List ℕ). MarksEach c.deref_mut.result.now ks new) c.as_slice.ensures c.mark_each.ensures in
    let marks : MarksEach old step.handlers new = subst (λ (bs : List Bool). MarksEach bs step.handlers new) c.deref_mut.ensures.value of_step in
    let more = used_more c.args.count (take i steps) step old new c.loop-step.invariant.marks marks in
    let front : take (i + 1) steps ≡ take i steps ++ step ∷ [] = front_more steps i step c.loop-step-test.true ∙ ap (λ (s : GraphStep). take i steps ++ s ∷ []) (sym c.step-item.is) in
    let back = written_back c.loop-step.used.len new old c.loop-step.used.ok.0 marks.long in
    let all : AreUsedMarks c.args.count (take (i + 1) steps) new = subst (λ (ss : List GraphStep). AreUsedMarks c.args.count ss new) (sym front) more in
    record { marks = subst (λ (bs : List Bool). AreUsedMarks c.args.count (take (i + 1) steps) bs) (sym back) all }
