use Rattle.std.proofs.Common.{List, Option, refl, sym, subst}
use Rattle.std.specs.List.{AllZip}
use Rattle.std.specs.Option.{IfNone, IfSome}
use Rattle.std.proofs.lemmas.Option.{slice_get_within}
use Rattle.std.proofs.lemmas.Result.{err_from_is_err_and}
use Rattle.flow_graph.specs.declared.steps.GraphStep.{GraphStep}
use Rattle.lowering_spec.specs.LoweredMethods.{IsNodeOf}
use Rattle.op_model.specs.declared.node.Node.{Node}
use Rattle.lowering_handlers.specs.Entries.{AreKnown, IsFirstUnknown}
use Rattle.lowering.specs.Orders.{IsInOrder}
use Rattle.lowering.proofs.Answered.{first_of_entries, free_of, method_number, nodes_of, ordered_of, own_code, refused_is, steps_answer}
use Rattle.lowering.proofs.lower.lower_body.Goals as goal

pub returns-in_err-judged-clause-answer : goal.returns-in_err-judged-clause-answer
returns-in_err-judged-clause-answer c =
    let p = err_from_is_err_and c.from_residual.result c.from_residual.ensures.1 in
    rw (p.1, p.2) (steps_answer c.args.body c.args.number c.args.graph.now c.requires c.as_slice-steps.result.now c.in_err-judged.field-0.0 c.as_slice-steps.ensures c.in_err-judged.ensures.refused)

pub entry_offset-offset-requires-clause-there : goal.entry_offset-offset-requires-clause-there
entry_offset-offset-requires-clause-there c =
    let b = c.args.body in
    let first = subst (λ (o : Option _). IfSome o (IsFirstUnknown b.program.now b.class.now.pool b.code.now.handlers c.as_slice-steps.result.now)) c.in-Some.is c.in_ok-place.ensures.found in
    slice_get_within b.code.now.handlers c.in-Some.place first.unknown.handler first.unknown.stands

pub returns-in-Some-clause-answer : goal.returns-in-Some-clause-answer
returns-in-Some-clause-answer c =
    let b = c.args.body in
    let g = c.args.graph.now in
    let first = subst (λ (o : Option _). IfSome o (IsFirstUnknown b.program.now b.class.now.pool b.code.now.handlers c.as_slice-steps.result.now)) c.in-Some.is c.in_ok-place.ensures.found in
    refused_is b c.args.number g c.requires c.entry_offset-offset.result _ c.refused.result c.refused.ensures
    (first_of_entries b c.args.number g c.requires c.as_slice-steps.result.now c.in_ok-judged.judged.items c.in-Some.place c.entry_offset-offset.result c.as_slice-steps.ensures c.in_ok-judged.ensures.judged first c.entry_offset-offset.ensures)

pub parameter_units-requires : goal.parameter_units-requires
parameter_units-requires c = method_number c.args.body c.args.number c.args.graph.now c.requires

pub returns-clause-answer : goal.returns-clause-answer
returns-clause-answer c =
    let b = c.args.body in
    let g = c.args.graph.now in
    let own = c.requires in
    let steps = c.as_slice-steps.result.now in
    let known = subst (λ (o : Option _). IfNone o (AreKnown b.program.now b.class.now.pool b.code.now.handlers steps)) c.in_default.is c.in_ok-place.ensures.none in
    let R = IsNodeOf b.program.now b.method.0 own.known.method b.class.now.pool b.code.now in
    record {
      own = own_code b c.args.number g own;
      free = free_of b c.args.number g own steps c.in_ok-judged.judged.items c.as_slice-steps.ensures c.in_ok-judged.ensures.judged;
      known = subst (λ (ss : List GraphStep). AreKnown b.program.now b.class.now.pool b.code.now.handlers ss) c.as_slice-steps.ensures known;
      lowered = record {
        method = own.known.method;
        stands = own.known.stands;
        number_is = refl;
        slots = c.from.ensures;
        stack = c.from-2.ensures;
        params = c.in_ok-parameter_units.ensures own.known.method own.known.stands;
        nodes = subst (λ (ns : List Node). AllZip R g.steps ns) (sym c.from_vec.ensures)
            (subst (λ (ss : List GraphStep). AllZip R ss c.in_ok-nodes.field-0.items) c.as_slice-steps.ensures (nodes_of b c.args.number g own steps c.in_ok-nodes.field-0.items c.in_ok-nodes.ensures));
      };
    }

pub returns-clause-order : goal.returns-clause-order
returns-clause-order c =
    let b = c.args.body in
    let g = c.args.graph.now in
    let own = c.requires in
    let steps = c.as_slice-steps.result.now in
    let R = IsInOrder b.program.now b.method.0 own.known.method b.class.now.pool b.code.now in
    record {
      own = own_code b c.args.number g own;
      nodes = subst (λ (ns : List Node). AllZip R g.steps ns) (sym c.from_vec.ensures)
          (subst (λ (ss : List GraphStep). AllZip R ss c.in_ok-nodes.field-0.items) c.as_slice-steps.ensures (ordered_of b c.args.number g own steps c.in_ok-nodes.field-0.items c.in_ok-nodes.ensures));
    }
