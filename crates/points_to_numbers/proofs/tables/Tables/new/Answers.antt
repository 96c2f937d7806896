use Rattle.points_to_numbers.specs.Kept.{numbered}
use Rattle.points_to_numbers.proofs.tables.Tables.new.Goals as goal

pub returns : goal.returns
unfolding numbered
returns c = (λ i. numbered (record {
  classes = c.new.ensures i;
  sites = c.new-2.ensures.empty i;
  places = c.new-3.ensures.empty i;
  catch_chains = c.new-5.ensures.items i;
  calls = c.new-6.ensures.items i;
  constraints = c.new-4.ensures.empty i;
}))
