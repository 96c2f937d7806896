use Rattle.std.proofs.Common.{List, sym, subst}
use Rattle.std.specs.List.{Contains}
use Rattle.jvm_model.specs.declared.number.MethodNo.{MethodNo}
use Rattle.points_to_rules.specs.Facts.{may_run}
use Rattle.ground.proofs.Views.{so}
use Rattle.ground.proofs.ground.Ground.running.Goals as goal

pub returns : goal.returns
returns c = λ m.
    let says = so c.self.inside.program.now c.self.inside.lists c.args.self.now c.self.view_is (may_run m) in (
      λ among. says.1 (subst (λ (ms : List MethodNo). Contains ms m) c.as_slice.ensures.keys among),
      λ there. subst (λ (ms : List MethodNo). Contains ms m) (sym c.as_slice.ensures.keys) (says.0 there),
    )
