use Rattle.std.proofs.Common.{◌∙◌, ap, arith}
use Rattle.std.proofs.lemmas.List.{take_all}
use Rattle.program_index.specs.ClassSets.{Classes, with_classes}
use Rattle.program_index.proofs.ClassLists.{front_added}
use Rattle.program_index.proofs.SpelledKeys.{on_err}
use Rattle.program_index.proofs.class_set.ClassSet.add_all.Goals as goal

pub loop-class-preserved : goal.loop-class-preserved
loop-class-preserved c =
    front_added c.args.self.now c.loop-class.self c.add.new.self c.args.classes.now c.loop-class.class-index c.loop-class.invariant c.in_ok-add.ensures.ok c.loop-class-test.true

pub returns-in_err-add-clause-err : goal.returns-in_err-add-clause-err
returns-in_err-add-clause-err c =
    on_err c.from_residual.result _ (record { count = c.loop-class.class-index; is = c.in_err-add.ensures.err ∙ c.loop-class.invariant })

pub returns-clause-ok : goal.returns-clause-ok
returns-clause-ok c =
    let all = take_all c.loop-class.class-index c.args.classes.now (omega (arith, c.loop-class-test.false)) in
    c.loop-class.invariant ∙ ap (λ xs. let s : Classes = record { size = c.args.self.now.size; items = with_classes c.args.self.now.items xs } in s) all
