use Rattle.std.proofs.Common.{sym, ap, ◌∙◌, subst}
use Rattle.std.proofs.lemmas.Option.{none-some, get_or_from_slice_get}
use Rattle.jvm_model.specs.declared.code.PlacedInstruction.{PlacedInstruction}
use Rattle.flow_graph.specs.Flows.{number_of}
use Rattle.flow_graph.specs.Reading.{AreInOrder}
use Rattle.flow_graph.proofs.ReadPlaces.{numbered}
use Rattle.lowering.proofs.CodeFacts.{in_order, has_number}
use Rattle.lowering.proofs.judging.instruction_of.Goals as goal

pub number_of-requires : goal.number_of-requires
number_of-requires c = subst AreInOrder (sym c.as_slice-instructions.ensures) (in_order c.args.body c.requires.body)

pub unreachable-requires : goal.unreachable-requires
unreachable-requires c =
    let n = has_number c.args.body c.args.step.now c.requires.step in
    none-some n.number (sym c.in_default.is ∙ c.number_of.ensures ∙ ap (λ (ps : _). number_of ps c.args.step.now.offset) c.as_slice-instructions.ensures ∙ n.is)

pub returns-clause-offset : goal.returns-clause-offset
returns-clause-offset c =
    let n = numbered c.as_slice-instructions.result.now c.args.step.now.offset c.in-Some.number (sym c.number_of.ensures ∙ c.in-Some.is) in
    ap (λ (p : PlacedInstruction). p.offset) (c.index-instructions-number.is ∙ get_or_from_slice_get c.as_slice-instructions.result.now c.in-Some.number n.placed c.index-instructions-number.result n.stands) ∙ n.offset_is
