use Rattle.std.proofs.Common.{◌≡◌, ℕ, length, subst, arith}
use Rattle.prune_stage.specs.Marks.{AreMarked, MethodMarks, OfOneBelow}
use Rattle.prune_stage.proofs.Marking.{marked_below_more, marked_below_start}
use Rattle.prune_stage.proofs.marks.mark_methods.Goals as goal

pub loop-method-init : goal.loop-method-init
loop-method-init g c = record {
  marked = marked_below_start (MethodMarks c.args.automaton.now c.args.ground.now (g.M.Marking.stands c.args.marking.now)) c.args.sets.now;
}

pub mark_method-requires-clause-method : goal.mark_method-requires-clause-method
mark_method-requires-clause-method g c = omega (arith, c.loop-method-test.true, c.method_count-method-end.ensures)

pub loop-method-preserved : goal.loop-method-preserved
loop-method-preserved g c = record {
  marked = marked_below_more (MethodMarks c.args.automaton.now c.args.ground.now (g.M.Marking.stands c.args.marking.now)) c.loop-method.method
      c.args.sets.now c.loop-method.sets c.mark_method.new.sets c.loop-method.invariant.marked c.mark_method.ensures;
}

pub returns : goal.returns
returns g c =
    let f = c.args.ground.now in
    let all : c.loop-method.method ≡ length f.methods = omega (arith, c.loop-method-test.false, c.method_count-method-end.ensures) in
    subst (λ (n : ℕ). AreMarked (OfOneBelow (MethodMarks c.args.automaton.now f (g.M.Marking.stands c.args.marking.now)) n) c.args.sets.now c.loop-method.sets)
    all c.loop-method.invariant.marked
