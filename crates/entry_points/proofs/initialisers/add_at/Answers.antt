use Rattle.std.proofs.lemmas.List.Elements.{All-contains}
use Rattle.std.proofs.lemmas.Result.{on_ok_weaker}
use Rattle.program_model.specs.Numbers.{name_at, IsClassNumber}
use Rattle.entry_points.specs.Declaring.{DeclaresCoded, IsDeclaredAt, OneDeclares}
use Rattle.entry_points.proofs.AddedMethods.{both_added}
use Rattle.entry_points.proofs.UpwardInitialisers.{declared_here}
use Rattle.entry_points.proofs.initialisers.add_at.Goals as goal

pub returns : goal.returns
returns c = λ class stands.
    let p = c.args.program.now in
    let n = c.args.class.0 in
    let through = c.through_interfaces.result.now in
    let told = c.through_interfaces.ensures in
    let either = declared_here p n c.requires class stands through (told.exact class stands) (λ k there. All-contains (IsClassNumber p) through k told.below there) in
    on_ok_weaker c.add_each.result
    (both_added (DeclaresCoded p (name_at p n)) (OneDeclares p through) (IsDeclaredAt p class) c.args.found.now.items c.add_declared.new.found.items c.add_each.new.found.items either
    c.in_ok-add_declared.ensures) c.add_each.ensures
