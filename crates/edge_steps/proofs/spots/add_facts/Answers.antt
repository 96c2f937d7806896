use Rattle.std.proofs.lemmas.Result.{on_ok_weaker}
use Rattle.edge_steps.specs.Parts.{IsAt}
use Rattle.edge_steps.proofs.Adding.{one_of, two_of}
use Rattle.edge_steps.proofs.spots.add_facts.Goals as goal

pub returns-in-One : goal.returns-in-One
returns-in-One c =
    on_ok_weaker c.add_fact.result
    (λ added. one_of (IsAt c.args.spot) c.args.facts.now c.in-One.fact c.in-One.is c.args.within.now.items c.add_fact.new.within.items added)
    c.add_fact.ensures

pub returns-in_ok-add_fact-in-Two : goal.returns-in_ok-add_fact-in-Two
returns-in_ok-add_fact-in-Two c =
    on_ok_weaker c.add_fact-in-Two-2.result
    (λ added. two_of (IsAt c.args.spot) c.args.facts.now c.in-Two.first c.in-Two.second c.in-Two.is c.args.within.now.items c.add_fact-in-Two.new.within.items
    c.add_fact-in-Two-2.new.within.items c.in_ok-add_fact-in-Two.ensures added)
    c.add_fact-in-Two-2.ensures
