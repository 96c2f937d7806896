use Rattle.std.proofs.Common.{◌≡◌, List, length, map, refl, subst}
use Rattle.std.proofs.lemmas.Option.{slice_get_read}
use Rattle.jvm_model.specs.declared.stub.StubResult.{StubResult}
use Rattle.stage_edges.specs.Rules.{given_by}
use Rattle.node_ways.specs.Ways.{result_of}
use Rattle.node_ways.proofs.Describing.{given_all, given_more}
use Rattle.node_ways.proofs.described.given_results.Goals as goal

pub loop-outcome-preserved : goal.loop-outcome-preserved
loop-outcome-preserved c = record {
  given = λ m n parameters of.
      let outcomes = c.as_slice-outcome-items.result.now in
      let k = c.loop-outcome.outcome-index in
      let outcome = c.outcome-item.result in
      let at = slice_get_read outcomes (length outcomes) k outcome refl c.loop-outcome-test.true c.outcome-item.is in
      given_more (result_of m n) (given_by m n c.args.call.now c.args.stub.now parameters) outcomes k outcome at c.loop-outcome.results.items c.push.new.self.items c.given_result.result c.in_ok-push.ensures.items
      (c.loop-outcome.invariant.given m n parameters of) (c.given_result.ensures m n parameters of);
}

pub returns : goal.returns
returns c = λ m n parameters of.
    let f = result_of m n in
    let g = given_by m n c.args.call.now c.args.stub.now parameters in
    let results = c.loop-outcome.results.items in
    subst (λ (outcomes : List StubResult). map f results ≡ map g outcomes) c.as_slice-outcome-items.ensures
    (given_all f g c.as_slice-outcome-items.result.now c.loop-outcome.outcome-index c.loop-outcome-test.false results (c.loop-outcome.invariant.given m n parameters of))
