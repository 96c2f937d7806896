use Rattle.std.proofs.Common.{List, sym, subst}
use Rattle.jvm_model.specs.declared.number.MethodNo.{MethodNo}
use Rattle.program_model.specs.Numbers.{name_at}
use Rattle.entry_points.specs.Declaring.{AddsMethods, DeclaresCoded}
use Rattle.entry_points.proofs.AddedMethods.{none_added, one_added}
use Rattle.entry_points.proofs.UpwardInitialisers.{one_declared}
use Rattle.entry_points.proofs.initialisers.add_declared.Goals as goal

pub returns-in_ok-push : goal.returns-in_ok-push
returns-in_ok-push c =
    let p = c.args.program.now in
    let name = name_at p c.args.class.0 in
    let i = c.in-Some.initialiser in
    let old = c.args.found.now.items in
    let is = c.in-Some.ensures.found in
    subst (λ (xs : List MethodNo). AddsMethods (DeclaresCoded p name) old xs) (sym c.in_ok-push.ensures.items)
    (one_added (DeclaresCoded p name) old i is (λ j d. one_declared p c.well_formed-2.ensures.program name i.0 j is d))

pub returns-in_default : goal.returns-in_default
returns-in_default c =
    let p = c.args.program.now in
    none_added (DeclaresCoded p (name_at p c.args.class.0)) c.args.found.now.items c.in_default.ensures.none
