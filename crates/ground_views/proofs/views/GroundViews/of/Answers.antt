use Rattle.std.proofs.Common.{◌∙◌, sym}
use Rattle.ground_views.proofs.Seen.{start_names}
use Rattle.ground_views.proofs.views.GroundViews.of.Goals as goal

pub ways_of_start_nodes-requires : goal.ways_of_start_nodes-requires
ways_of_start_nodes-requires c =
    start_names c.args.ground.now c.args.entry c.in_ok-start.start (record {
      nodes = λ x program entry. c.in_ok-start.ensures.nodes x (program ∙ sym c.program.ensures) entry;
      slots = c.in_ok-start.ensures.slots;
      stack = c.in_ok-start.ensures.stack;
      params = c.in_ok-start.ensures.params;
    })

pub returns-clause-are : goal.returns-clause-are
returns-clause-are c = record {
  start = record {
    nodes = λ x program entry. c.in_ok-start.ensures.nodes x (program ∙ sym c.program.ensures) entry;
    slots = c.in_ok-start.ensures.slots;
    stack = c.in_ok-start.ensures.stack;
    params = c.in_ok-start.ensures.params;
  };
  start_ways = c.in_ok-start_ways.ensures;
  methods = c.in_ok-ways.ensures.are;
}
