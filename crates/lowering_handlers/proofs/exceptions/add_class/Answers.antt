use Rattle.std.proofs.Common.{◌++◌, List, sym, ap, ◌∙◌, subst}
use Rattle.std.proofs.lemmas.List.{append-nil}
use Rattle.jvm_model.specs.declared.number.ClassNo.{ClassNo}
use Rattle.lowering_handlers.specs.Exceptions.{AddsClass}
use Rattle.lowering_handlers.proofs.AddedClasses.{added, none_added}
use Rattle.lowering_handlers.proofs.OrderedClasses.{one_named, none_named}
use Rattle.lowering_handlers.proofs.exceptions.add_class.Goals as goal

pub returns-in_ok-push-clause-added : goal.returns-in_ok-push-clause-added
returns-in_ok-push-clause-added c =
    let p = c.args.program.now in
    let name = c.args.name.now in
    let found = c.in-Some.ensures.found in
    subst (λ (xs : List ClassNo). AddsClass p name c.args.classes.now.items xs) (sym c.in_ok-push.ensures.items)
    (added p c.well_formed-2.ensures.program name c.args.classes.now.items c.in-Some.class found.0 found.1)

pub returns-in_default-clause-added : goal.returns-in_default-clause-added
returns-in_default-clause-added c = none_added c.args.program.now c.well_formed-2.ensures.program c.args.name.now c.args.classes.now.items c.in_default.ensures.none

pub returns-in_ok-push-clause-order : goal.returns-in_ok-push-clause-order
returns-in_ok-push-clause-order c =
    let p = c.args.program.now in
    let found = c.in-Some.ensures.found in
    let old = c.args.classes.now.items in
    c.in_ok-push.ensures.items ∙ ap (λ (cs : List ClassNo). old ++ cs) (sym (one_named p c.well_formed-2.ensures.program c.args.name.now c.in-Some.class found.0 found.1))

pub returns-in_default-clause-order : goal.returns-in_default-clause-order
returns-in_default-clause-order c =
    let p = c.args.program.now in
    let old = c.args.classes.now.items in
    sym (append-nil old) ∙ ap (λ (cs : List ClassNo). old ++ cs) (sym (none_named p c.well_formed-2.ensures.program c.args.name.now c.in_default.ensures.none))
