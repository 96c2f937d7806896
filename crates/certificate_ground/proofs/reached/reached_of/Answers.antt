use Rattle.std.proofs.Common.{[], length, refl, subst}
use Rattle.std.specs.List.{Contains}
use Rattle.std.proofs.lemmas.Option.{slice_get_read}
use Rattle.list_laws.proofs.Places.{contains_at}
use Rattle.certificate_lines.specs.declared.line.Line.{Line}
use Rattle.op_model.specs.Supplies.{GivenAs}
use Rattle.ground.specs.Added.{OfOne}
use Rattle.ground.proofs.Adding.{added_all, added_alone, added_more}
use Rattle.certificate_ground.specs.Reached.{IsReachedBy}
use Rattle.certificate_ground.proofs.GivenMethods.{given_same, same_on, supply_same, same_back}
use Rattle.certificate_ground.proofs.reached.reached_of.Goals as goal

pub add_line-requires-clause-supply : goal.add_line-requires-clause-supply
add_line-requires-clause-supply g c =
    supply_same c.args.program.now (g.S.Supply.gives c.args.supply.now) (g.S.Supply.gives c.loop-line.supply) c.loop-line.invariant.same c.requires.supply

pub add_line-requires-clause-within : goal.add_line-requires-clause-within
add_line-requires-clause-within g c = λ m is.
    let lines = c.args.lines.now in
    let k = c.loop-line.line-index in
    let at = slice_get_read lines (length lines) k c.line-item.result refl c.loop-line-test.true c.line-item.is in
    c.requires.within m (subst (λ (x : Line). Contains lines x) is (contains_at lines k c.line-item.result at))

pub add_line-requires-clause-given : goal.add_line-requires-clause-given
add_line-requires-clause-given g c =
    given_same (g.S.Supply.gives c.args.supply.now) (g.S.Supply.gives c.loop-line.supply) c.loop-line.invariant.same c.loop-line.reached.running.keys c.loop-line.reached.methods.items
    c.loop-line.invariant.given

pub loop-line-preserved : goal.loop-line-preserved
loop-line-preserved g c =
    let lines = c.args.lines.now in
    let k = c.loop-line.line-index in
    let at = slice_get_read lines (length lines) k c.line-item.result refl c.loop-line-test.true c.line-item.is in
    let first : GivenAs = g.S.Supply.gives c.args.supply.now in
    let old : GivenAs = g.S.Supply.gives c.loop-line.supply in
    let new : GivenAs = g.S.Supply.gives c.add_line.new.supply in
    let reached = c.add_line.new.reached in
    record {
      running = added_more IsReachedBy lines k c.line-item.result at [] c.loop-line.reached.running.keys reached.running.keys c.loop-line.invariant.running c.in_ok-add_line.ensures.running;
      given = given_same old first (same_back first old c.loop-line.invariant.same) reached.running.keys reached.methods.items c.in_ok-add_line.ensures.given;
      same = same_on first old new c.loop-line.invariant.same c.in_ok-add_line.ensures.same;
    }

pub returns-clause-running : goal.returns-clause-running
returns-clause-running g c = λ m.
    let lines = c.args.lines.now in
    let keys = c.loop-line.reached.running.keys in
    added_alone (OfOne IsReachedBy lines) keys (added_all IsReachedBy lines c.loop-line.line-index c.loop-line-test.false [] keys c.loop-line.invariant.running) m
