use Rattle.std.proofs.Common.{◌∙◌, sym, Some, None}
use Rattle.jvm_model.specs.Lookups.{lent_reference}
use Rattle.program_model.specs.Numbers.{method_number}
use Rattle.lowering_reasons.specs.Judgements.{judged}
use Rattle.lowering_reasons.specs.Looked.{IsOnly}
use Rattle.lowering_reasons.specs.Reasons.{Calls, IsByInterface}
use Rattle.lowering_reasons.proofs.Only.{none_such}
use Rattle.lowering_reasons.proofs.Resolutions.{method_nowhere, method_looked, method_unnamed, only_kind}
use Rattle.lowering_reasons.proofs.Supertypes.{class_by}
use Rattle.lowering_reasons.proofs.members.method_outcome.Goals as goal

pub returns-in_default-find_class-clause-outcome : goal.returns-in_default-find_class-clause-outcome
returns-in_default-find_class-clause-outcome c = method_nowhere (judged c.args.instruction) (lent_reference c.in-Some.method) c.in-Some.ensures c.in_default-find_class.ensures.none

pub returns-clause-outcome : goal.returns-clause-outcome
returns-clause-outcome c =
    let j = judged c.args.instruction in
    let program = c.well_formed-2.ensures.program in
    let method = lent_reference c.in-Some.method in
    let interface = c.in-Some-takes_interface.interface in
    let number = c.in-Some-find_class.class.0 in
    let found = c.in-Some-find_class.ensures.found in
    let class = class_by j.program program method.class number found.0 found.1 in
    let is = c.resolve_method.ensures.resolution class.0 class.1 in
    let kind : IsOnly (IsByInterface j.pool j.operand) (Some interface) =
    only_kind j.pool j.operand (Some interface) (sym c.in-Some-takes_interface.is ∙ c.takes_interface.ensures) in
    method_looked j method class.0 interface (method_number c.resolve_method.result) program c.in-Some.ensures class.2 kind is

pub returns-in_default-clause-none : goal.returns-in_default-clause-none
returns-in_default-clause-none c = λ m b class calls kind named. none_such (Calls (judged c.args.instruction)) c.in_default.ensures m calls

pub returns-in_default-takes_interface-clause-none : goal.returns-in_default-takes_interface-clause-none
returns-in_default-takes_interface-clause-none c = λ m b class calls kind named.
    let j = judged c.args.instruction in
    let none : IsOnly (IsByInterface j.pool j.operand) None = only_kind j.pool j.operand None (sym c.in_default-takes_interface.is ∙ c.takes_interface.ensures) in
    none_such (IsByInterface j.pool j.operand) none b kind

pub returns-in_default-find_class-clause-none : goal.returns-in_default-find_class-clause-none
returns-in_default-find_class-clause-none c = method_unnamed (judged c.args.instruction) (lent_reference c.in-Some.method) c.in-Some.ensures c.in_default-find_class.ensures.none
