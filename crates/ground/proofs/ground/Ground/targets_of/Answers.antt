use Rattle.std.proofs.Common.{List, sym, subst}
use Rattle.jvm_model.specs.declared.number.MethodNo.{MethodNo}
use Rattle.ground.specs.Ordered.{DoAscend, method_number}
use Rattle.ground.proofs.AscendingNumbers.{nothing_ascends}
use Rattle.ground.proofs.Views.{no_targets, targets_there}
use Rattle.ground.proofs.ground.Ground.targets_of.Goals as goal

pub returns-in-Some-clause-targets : goal.returns-in-Some-clause-targets
returns-in-Some-clause-targets c = λ m.
    targets_there c.self.inside.program.now c.self.inside.lists c.args.self.now c.self.view_is c.args.call m c.in-Some.number c.at.result.now c.in-Some.ensures.found c.in-Some.ensures.only c.at.ensures

pub returns-in-None-clause-targets : goal.returns-in-None-clause-targets
returns-in-None-clause-targets c = λ m. no_targets c.self.inside.program.now c.self.inside.lists c.args.self.now c.self.view_is c.args.call m c.in-None.ensures.only

pub returns-in-Some-clause-ascend : goal.returns-in-Some-clause-ascend
returns-in-Some-clause-ascend c = subst (λ (targets : List MethodNo). DoAscend method_number targets) (sym c.at.ensures) (c.self.invariant.ordered.targets c.in-Some.number)

pub returns-in-None-clause-ascend : goal.returns-in-None-clause-ascend
returns-in-None-clause-ascend c = nothing_ascends method_number
