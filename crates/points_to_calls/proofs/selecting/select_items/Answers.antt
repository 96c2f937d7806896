use Rattle.std.proofs.Common.{Option, Result, Ok, Err, subst, sym, ◌∙◌}
use Rattle.std.proofs.lemmas.Bool.{false≢true}
use Rattle.jvm_model.specs.declared.number.MethodNo.{MethodNo}
use Rattle.jvm_model.specs.declared.reason.Reason.{Reason}
use Rattle.points_to_rules.specs.Calls.{SelectsFor}
use Rattle.points_to_constraints.specs.CallItems.{SelectItem}
use Rattle.call_selection.specs.OnlyAnswers.{IsOnlyAnswer}
use Rattle.points_to_calls.specs.Selecting.{TargetItem}
use Rattle.points_to_numbers.proofs.Making.{makes_none, makes_same}
use Rattle.points_to_calls.proofs.ChosenTargets.{by_target, lacks_stub, lacks_none, none_lacks, none_selected, reason_selected}
use Rattle.call_selection.proofs.SelectedTargets.{only_matched, selected_within}
use Rattle.points_to_calls.proofs.selecting.select_items.Goals as goal

pub chosen_items-requires-clause-target : goal.chosen_items-requires-clause-target
chosen_items-requires-clause-target c =
    let (site, at) = c.requires.call in let (s, there) = c.requires.site in let p = c.args.program.now in
    let (selects, only) = only_matched (SelectsFor site.kind p site.resolved s) c.in_ok-answer.answer c.in-Some.chosen (Ok c.in-Ok.target)
    c.in-Some.is c.in-Ok.is (c.in_ok-answer.ensures.selected site s at there) in
    selected_within site.kind p site.resolved s c.in-Ok.target.0 selects

pub returns-then-is_undescribed-clause-adds : goal.returns-then-is_undescribed-clause-adds
returns-then-is_undescribed-clause-adds c = λ site s at there.
    let p = c.args.program.now in let target = c.in-Ok.target in
    let (selects, only) = only_matched (SelectsFor site.kind p site.resolved s) c.in_ok-answer.answer c.in-Some.chosen (Ok c.in-Ok.target)
    c.in-Some.is c.in-Ok.is (c.in_ok-answer.ensures.selected site s at there) in
    makes_same c.args.work.now.tables c.chosen_items.new.work.tables (TargetItem p site s target) (SelectItem p site s) c.args.work.now.steps.items c.chosen_items.new.work.steps.items
    (by_target p site s target selects only) (c.in_ok-chosen_items-in-Ok.ensures site s at there)

pub returns-then-is_undescribed-clause-lacks : goal.returns-then-is_undescribed-clause-lacks
returns-then-is_undescribed-clause-lacks c = λ site s at there.
    let p = c.args.program.now in let target = c.in-Ok.target in
    let (selects, only) = only_matched (SelectsFor site.kind p site.resolved s) c.in_ok-answer.answer c.in-Some.chosen (Ok c.in-Ok.target)
    c.in-Some.is c.in-Ok.is (c.in_ok-answer.ensures.selected site s at there) in
    lacks_stub p site s target selects only (c.is_undescribed.ensures.0 c.if-is_undescribed.true)

pub returns-else-is_undescribed-clause-adds : goal.returns-else-is_undescribed-clause-adds
returns-else-is_undescribed-clause-adds c = λ site s at there.
    let p = c.args.program.now in let target = c.in-Ok.target in
    let (selects, only) = only_matched (SelectsFor site.kind p site.resolved s) c.in_ok-answer.answer c.in-Some.chosen (Ok c.in-Ok.target)
    c.in-Some.is c.in-Ok.is (c.in_ok-answer.ensures.selected site s at there) in
    makes_same c.args.work.now.tables c.chosen_items.new.work.tables (TargetItem p site s target) (SelectItem p site s) c.args.work.now.steps.items c.chosen_items.new.work.steps.items
    (by_target p site s target selects only) (c.in_ok-chosen_items-in-Ok.ensures site s at there)

pub returns-else-is_undescribed-clause-lacks : goal.returns-else-is_undescribed-clause-lacks
returns-else-is_undescribed-clause-lacks c = λ site s at there.
    let p = c.args.program.now in let target = c.in-Ok.target in
    let (selects, only) = only_matched (SelectsFor site.kind p site.resolved s) c.in_ok-answer.answer c.in-Some.chosen (Ok c.in-Ok.target)
    c.in-Some.is c.in-Ok.is (c.in_ok-answer.ensures.selected site s at there) in
    lacks_none p site s target selects only (λ native. false≢true (sym c.if-is_undescribed.false ∙ c.is_undescribed.ensures.1 native))

pub returns-in-Err-clause-adds : goal.returns-in-Err-clause-adds
returns-in-Err-clause-adds c = λ site s at there.
    let p = c.args.program.now in
    let (selects, only) = only_matched (SelectsFor site.kind p site.resolved s) c.in_ok-answer.answer c.in-Some.chosen (Err c.in-Err.reason)
    c.in-Some.is c.in-Err.is (c.in_ok-answer.ensures.selected site s at there) in
    makes_none c.args.work.now.tables (SelectItem p site s) c.args.work.now.steps.items (reason_selected p site s c.in-Err.reason only)

pub is_undescribed-requires : goal.is_undescribed-requires
is_undescribed-requires c =
    let (site, at) = c.requires.call in let (s, there) = c.requires.site in let p = c.args.program.now in
    let (selects, only) = only_matched (SelectsFor site.kind p site.resolved s) c.in_ok-answer.answer c.in-Some.chosen (Ok c.in-Ok.target)
    c.in-Some.is c.in-Ok.is (c.in_ok-answer.ensures.selected site s at there) in
    selected_within site.kind p site.resolved s c.in-Ok.target.0 selects

pub returns-in_default-clause-adds : goal.returns-in_default-clause-adds
returns-in_default-clause-adds c = λ site s at there.
    let p = c.args.program.now in
    let none = subst (λ (o : Option (Result MethodNo Reason)). IsOnlyAnswer (SelectsFor site.kind p site.resolved s) o) c.in_default.is
    (c.in_ok-answer.ensures.selected site s at there) in
    makes_none c.args.work.now.tables (SelectItem p site s) c.args.work.now.steps.items (none_selected p site s none)

pub returns-in_default-clause-lacks : goal.returns-in_default-clause-lacks
returns-in_default-clause-lacks c = λ site s at there.
    let p = c.args.program.now in
    let none = subst (λ (o : Option (Result MethodNo Reason)). IsOnlyAnswer (SelectsFor site.kind p site.resolved s) o) c.in_default.is
    (c.in_ok-answer.ensures.selected site s at there) in
    none_lacks p site s none
