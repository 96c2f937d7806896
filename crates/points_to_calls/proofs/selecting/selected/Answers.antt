use Rattle.std.proofs.Common.{◌<◌, length, false, true, sym, subst, ◌∙◌}
use Rattle.std.proofs.lemmas.Result.{IfOk-weaker}
use Rattle.jvm_model.specs.declared.number.MethodNo.{MethodNo}
use Rattle.op_model.specs.declared.op.CallKind.{CallKind}
use Rattle.points_to_rules.specs.Calls.{SelectsAs, SelectsFor}
use Rattle.call_selection.specs.OnlyAnswers.{IsOnlyAnswer}
use Rattle.points_to_calls.proofs.selecting.selected.Goals as goal

pub selected_kept-requires-clause-resolved : goal.selected_kept-requires-clause-resolved
selected_kept-requires-clause-resolved c =
    let (site, at) = c.requires.call in
    subst (λ (m : MethodNo). m.0 < length c.args.program.now.methods) (c.call_of-entry.ensures site at).resolved (c.requires.resolved site at)

pub selected_kept-requires-in-Interface-clause-resolved : goal.selected_kept-requires-in-Interface-clause-resolved
selected_kept-requires-in-Interface-clause-resolved c =
    let (site, at) = c.requires.call in
    subst (λ (m : MethodNo). m.0 < length c.args.program.now.methods) (c.call_of-entry.ensures site at).resolved (c.requires.resolved site at)

pub selected_kept-requires-clause-class : goal.selected_kept-requires-clause-class
selected_kept-requires-clause-class c = let (s, there) = c.requires.site in (s.class, (c.site_of.ensures s there).class)

pub selected_kept-requires-in-Interface-clause-class : goal.selected_kept-requires-in-Interface-clause-class
selected_kept-requires-in-Interface-clause-class c = let (s, there) = c.requires.site in (s.class, (c.site_of.ensures s there).class)

pub returns-in-Virtual-clause-selected : goal.returns-in-Virtual-clause-selected
returns-in-Virtual-clause-selected c =
    IfOk-weaker c.selected_kept.result _ _
    (λ answer only site s at there.
    let p = c.args.program.now in let is = c.call_of-entry.ensures site at in
    subst (λ (k : CallKind). IsOnlyAnswer (SelectsFor k p site.resolved s) answer) (sym (is.kind ∙ c.in-Virtual.is))
    (subst (λ (m : MethodNo). IsOnlyAnswer (SelectsAs false p m s) answer) (sym is.resolved) (only s (c.site_of.ensures s there).class)))
    c.selected_kept.ensures.selected

pub returns-in-Special-clause-selected : goal.returns-in-Special-clause-selected
returns-in-Special-clause-selected c = λ site s at there outcome selects.
    subst (λ (k : CallKind). SelectsFor k c.args.program.now site.resolved s outcome) ((c.call_of-entry.ensures site at).kind ∙ c.in-Special.is) selects

pub returns-in-Static-clause-selected : goal.returns-in-Static-clause-selected
returns-in-Static-clause-selected c = λ site s at there outcome selects.
    subst (λ (k : CallKind). SelectsFor k c.args.program.now site.resolved s outcome) ((c.call_of-entry.ensures site at).kind ∙ c.in-Static.is) selects

pub returns-in-Interface-clause-selected : goal.returns-in-Interface-clause-selected
returns-in-Interface-clause-selected c =
    IfOk-weaker c.selected_kept-in-Interface.result _ _
    (λ answer only site s at there.
    let p = c.args.program.now in let is = c.call_of-entry.ensures site at in
    subst (λ (k : CallKind). IsOnlyAnswer (SelectsFor k p site.resolved s) answer) (sym (is.kind ∙ c.in-Interface.is))
    (subst (λ (m : MethodNo). IsOnlyAnswer (SelectsAs true p m s) answer) (sym is.resolved) (only s (c.site_of.ensures s there).class)))
    c.selected_kept-in-Interface.ensures.selected
