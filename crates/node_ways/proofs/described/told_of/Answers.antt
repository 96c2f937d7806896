use Rattle.std.proofs.Common.{ℕ, List, subst}
use Rattle.std.specs.List.{Contains}
use Rattle.node_ways.specs.Parts.{AreLandingsIn}
use Rattle.node_ways.proofs.described.told_of.Goals as goal

pub returns : goal.returns
returns c =
    let p = c.args.program.now in
    let n = c.args.node.now in
    record {
      kept = λ parameters of. c.in_ok-kept_slots.ensures parameters of;
      results = λ m parameters of. c.in_ok-given_results.ensures m n parameters of;
      landings = subst (λ (classes : List (List ℕ)). AreLandingsIn p n (Contains classes) c.in_ok-class_landings.field-0.items) c.as_slice.ensures c.in_ok-class_landings.ensures;
    }
