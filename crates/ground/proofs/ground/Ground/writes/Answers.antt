use Rattle.std.proofs.Common.{List, sym, subst}
use Rattle.std.specs.List.{Contains}
use Rattle.points_to_rules.specs.Facts.{may_write}
use Rattle.ground.specs.declared.lists.FieldWrite.{FieldWrite}
use Rattle.ground.proofs.Views.{so}
use Rattle.ground.proofs.ground.Ground.writes.Goals as goal

pub returns : goal.returns
returns c = λ w.
    let says = so c.self.inside.program.now c.self.inside.lists c.args.self.now c.self.view_is (may_write w.method w.field) in (
      λ among. says.1 (subst (λ (ws : List FieldWrite). Contains ws w) c.as_slice.ensures.keys among),
      λ there. subst (λ (ws : List FieldWrite). Contains ws w) (sym c.as_slice.ensures.keys) (says.0 there),
    )
