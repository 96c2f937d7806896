use Rattle.std.proofs.Common.{ℕ, List, sym, ap, ◌∙◌, subst}
use Rattle.std.proofs.lemmas.Bool.{false≢true}
use Rattle.jvm_model.specs.Selection.{Selection}
use Rattle.jvm_model.specs.Subtypes.{Fits}
use Rattle.machine_bytecode.specs.Machine.{selecting_class}
use Rattle.hierarchy.proofs.ClassPlaces.{class_of_method, class_there, contained, method_there, somewhere}
use Rattle.program_model.specs.Numbers.{method_number}
use Rattle.program_laws.proofs.Calls.{one_call_outcome}
use Rattle.call_selection.proofs.SelectedTargets.{selecting_there}
use Rattle.call_selection.proofs.selection.selected_from.Goals as goal

pub class_name-requires : goal.class_name-requires
class_name-requires c = let m = method_there c.args.program.now c.args.resolved.0 c.requires.resolved in (c.method.ensures m.0 m.1).below

pub returns-then-not-fits : goal.returns-then-not-fits
returns-then-not-fits c = λ s e outcome (receiver, selection).
    let p = c.args.program.now in
    let name = c.class_name.ensures ∙ sym (c.method.ensures receiver.method receiver.stands).class in
    let fit : Fits p c.class_name.result.now c.args.class.now =
    subst (λ (k : List ℕ). Fits p k c.args.class.now) (sym name) (subst (λ (k : List ℕ). Fits p receiver.method.class k) (sym e) receiver.fits) in
    false≢true (sym c.if-not-fits.true ∙ c.fits.ensures.1 fit)

pub returns-in_default : goal.returns-in_default
returns-in_default c = λ s e outcome (receiver, selection).
    let p = c.args.program.now in
    let program = c.well_formed-2.ensures.program in
    let of = class_of_method p program c.args.resolved.0 receiver.method receiver.stands in
    let declaring = class_there p of.0 of.1 in
    let object = c.well_formed-2.ensures.root declaring.0 (contained p.classes of.0 declaring.0 declaring.1) in
    let (class, named) = selecting_there p receiver.method.class s.class receiver.fits object in
    somewhere p (selecting_class s.class) class named
    (λ n within is. c.in_default.ensures.none n within (is ∙ sym (c.selecting_class.ensures ∙ ap selecting_class e)))

pub returns : goal.returns
returns c = λ s e.
    let p = c.args.program.now in
    let m = method_there p c.args.resolved.0 c.requires.resolved in
    let name = c.class_name.ensures ∙ sym (c.method.ensures m.0 m.1).class in
    let fit : Fits p m.0.class s.class =
    subst (λ (k : List ℕ). Fits p k s.class) name (subst (λ (k : List ℕ). Fits p c.class_name.result.now k) e (c.fits.ensures.0 c.if-not-fits.false)) in
    let from = c.in-Some.ensures.found.1 ∙ c.selecting_class.ensures ∙ ap selecting_class e in
    let selection = subst (λ (k : List ℕ). Selection p c.args.interface k c.args.resolved.0 (method_number c.select.result)) from c.select.ensures.selection in (
      (record { method = m.0; stands = m.1; fits = fit }, selection),
      λ outcome (receiver, answer). one_call_outcome p c.args.interface (selecting_class s.class) c.args.resolved.0 outcome (method_number c.select.result) c.well_formed-2.ensures.program answer selection,
    )
